-- Answers to the goals of `index::Index::next` that the prover leaves.
use Rattle.std.proofs.Common.{◌∙◌, ap, subst, sym, length, slice_get, ◌<◌}
use Rattle.mk_resume_walk.specs.Index.{IsIndexOf, Indexed}
use Rattle.mk_resume_walk.specs.contracts.index.Index.{the_view}
use Rattle.mk_resume_walk.proofs.Indexing.{among, looked_up, map_get, next_own}
use Rattle.mk_resume_walk.proofs.index.Index.next.Goals as goal

pub returns : goal.returns
returns c = λ J from are counted.
    let I = c.self.inside in
    next_own J (the_view I) c.args.sim.0 from c.args.gone c.index.result.now.items c.copied.result (subst (IsIndexOf J) (sym c.self.view_is) are)
    (map_get (λ v. v.items) I.own.items c.args.sim.0 c.index.result.now (among (λ v. v.items) I.own.items c.args.sim.0 (subst (λ (g : Indexed). c.args.sim.0 < length g.own) (sym c.self.view_is) c.requires)) c.index.ensures)
    counted
    (c.copied.ensures ∙ looked_up c.deref.result.now c.args.gone _ c.get.result c.get.ensures.lookup.3 c.get.ensures.lookup.1 ∙ ap (λ l. slice_get l c.args.gone) c.deref.ensures.value)
