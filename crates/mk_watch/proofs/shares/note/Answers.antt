-- Answers to the goals of `shares::note` that the prover leaves.
use Rattle.std.proofs.Common.{◌++◌, ◌∷◌, [], map, subst, sym}
use Rattle.mk_plan.specs.declared.Entry.{Entry}
use Rattle.mk_watch.specs.inner.Shares.{AreShares}
use Rattle.mk_watch.proofs.Shared.{got_no_more}
use Rattle.mk_watch.proofs.shares.note.Goals as goal

pub returns-in-Got : goal.returns-in-Got
returns-in-Got c count J are = subst (λ (e : Entry). AreShares count (J ++ e ∷ []) (map (λ s. map (λ x. x.now) s.items) c.args.shares.now.items)) (sym c.in-Got.is)
    (got_no_more count J c.in-Got.field-0 c.in-Got.field-1 (map (λ s. map (λ x. x.now) s.items) c.args.shares.now.items) are)
