-- The index grows by one entry after another, and stays one of a beginning of them.
use Rattle.std.proofs.Common.{◌≡◌, ◌+◌, ◌++◌, ◌∷◌, [], ℕ, List, take, get_or, ap, ◌∙◌, subst, sym, arith}
use Rattle.std.proofs.lemmas.List.{take_more}
use Rattle.mk_plan.specs.declared.Entry.{Entry}
use Rattle.mk_resume_walk.specs.Index.{Indexed, IsIndexOf, IsIndexOfPart}
use Rattle.mk_resume_walk.proofs.Indexing.{part_of}
use Rattle.mk_resume_walk.proofs.index.Index.grow.Goals as goal

pub loop-self-preserved : goal.loop-self-preserved
loop-self-preserved c = record {
  sims = c.note-in-loop-self.ensures.sims ∙ c.loop-self.invariant.sims;
  grown = λ J begins are.
      let K = c.args.entries.now in
      let n = c.self.inside.count in
      let e = c.index-entries-self.result in
      let t = c.loop-self.invariant.grown J begins are in
      let same : c.loop-self.self.count ≡ n = ap (λ (index : Indexed). index.count) (sym c.self.view_is) in
      let more : c.note-in-loop-self.new.self.count ≡ n + 1 = c.in_ok-note.ensures.count ∙ ap (λ (k : ℕ). k + 1) same in
      let are_now : IsIndexOf (take n K) c.loop-self.self = subst (λ (k : ℕ). IsIndexOf (take k K) c.loop-self.self) same t.2 in
      let there : e ≡ get_or K n e = c.index-entries-self.is ∙ ap (λ (index : Indexed). get_or K index.count e) (c.note.view_is ∙ sym c.self.view_is) in
      let longer = ap (λ (x : Entry). take n K ++ x ∷ []) there ∙ sym (take_more K n e c.loop-self-test.true) ∙ ap (λ (k : ℕ). take k K) (sym more) in
      (omega (arith, t.0, more, same), omega (arith, c.loop-self-test.true, more), subst (λ (l : List Entry). IsIndexOf l c.note-in-loop-self.new.self) longer (c.in_ok-note.ensures.noted (take n K) are_now));
}

pub returns-in_err-note-clause-part : goal.returns-in_err-note-clause-part
returns-in_err-note-clause-part c = λ J begins are.
    let t = c.loop-self.invariant.grown J begins are in
    subst (λ (index : Indexed). IsIndexOfPart J c.args.entries.now index) (sym c.in_err-note.ensures.unnoted) (part_of J c.args.entries.now c.loop-self.self c.loop-self.self.count begins t.0 t.2)
