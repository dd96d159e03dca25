-- Answers to the goals of `laws::within_runs_end` that the prover leaves.
use Rattle.std.proofs.Common.{◌<◌, ℕ, inl, inr, sym, subst}
use Rattle.mk_run_crew.proofs.Unlinked.{within_low}
use Rattle.mk_run_laws.specs.Handshake.{is_within}
use Rattle.mk_run_local.specs.Made.{kind_reply_of}
use Rattle.mk_run.specs.Laws.{IsLimit}
use Rattle.mk_run.specs.declared.outcome.Outcome.TheVariants as outcome
use Rattle.mk_run.proofs.WithinRuns.{only_limits}
use Rattle.mk_run.proofs.laws.within_runs_end.Goals as goal

pub returns : goal.returns
returns c A P J faults new_faults f prepared all h = elim h.run.shown [
  | inl last ↦ only_limits P h.run.valid (kind_reply_of A.rows A.scenario) (is_within A.scenario) (c.kinds_fit.ensures A P J faults new_faults (outcome.Core f) prepared h)
      (λ i low. within_low A.scenario all i (subst (λ (n : ℕ). i < n) h.run.journal.sims low)) J h.run.journal.orderly h.run.journal.kinds f last
  | inr full ↦ subst IsLimit (sym full.named) tt
]
