-- The index after one entry more, and where there was no memory for it.
use Rattle.std.proofs.Common.{◌+◌, ◌++◌, ◌∷◌, [], List, ℕ, OnErr, Result, Ok, Err, arith, sym, ap, ◌∙◌, subst}
use Rattle.mk_resume_walk.specs.Index.{IsIndexOf}
use Rattle.mk_resume_walk.specs.declared.index.Index.TheInside.{Inside}
use Rattle.mk_resume_walk.specs.contracts.index.Index.{the_view}
use Rattle.mk_resume_walk.proofs.Indexing.{map_same, seen_noted, seen_past}
use Rattle.mk_resume_walk.proofs.index.Index.note.Goals as goal
use Rattle.mk_resume_walk.proofs.index.Index.note.Goals.{then-sim-len+in_ok-push, else-sim-len}

pub returns-clause-noted : goal.returns-clause-noted
returns-clause-noted c = λ J are.
    let I = c.self.inside in
    let now : IsIndexOf J (the_view I) = subst (IsIndexOf J) (sym c.self.view_is) are in
    let after = λ (x : Inside). IsIndexOf (J ++ c.args.entry.now ∷ []) (the_view (record { own = x.own; count = x.count + 1 })) in
    elim c.if-sim-len.branch [
      | then-sim-len+in_ok-push w ↦ subst after (sym w.self-inside-is)
          (seen_noted (λ v. v.items) J c.args.entry.now I.own.items c.sim_of-sim.result I.count w.index_mut.result.now w.push.new.self c.sim_of-sim.ensures (omega (arith, w.if-sim-len.true, c.len.ensures)) w.index_mut.ensures.value w.in_ok-push.ensures.items now)
      | else-sim-len w ↦ subst after (sym w.self-inside-is) (seen_past (λ v. v.items) J c.args.entry.now I.own.items c.sim_of-sim.result I.count c.sim_of-sim.ensures (omega (arith, w.if-sim-len.false, c.len.ensures)) now)
    ]

on_err : {U E X : Type 0} (r : Result U E) → X → OnErr r X
on_err (Ok u) x = tt
on_err (Err e) x = x

pub returns-in_err-push-clause-unnoted : goal.returns-in_err-push-clause-unnoted
returns-in_err-push-clause-unnoted c =
    let I = c.self.inside in
    on_err c.from_residual.result (ap (λ (own : List (List ℕ)). record { own = own; count = I.count })
    (map_same (λ v. v.items) I.own.items c.sim_of-sim.result c.index_mut.result.now c.push.new.self (omega (arith, c.if-sim-len.true, c.len.ensures)) c.index_mut.ensures.value c.in_err-push.ensures.items) ∙ c.self.view_is)
