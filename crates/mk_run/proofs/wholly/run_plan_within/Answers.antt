-- Answers to the goals of `wholly::run_plan_within` that the prover leaves.
use Rattle.std.proofs.Common.{[], ◌++◌, refl, sym, subst}
use Rattle.mk_sched.specs.Cores.{CoreState}
use Rattle.mk_run.specs.inner.Turns.{GoesOn}
use Rattle.mk_run_crew.proofs.Unlinked.{restless, silently}
use Rattle.mk_run.proofs.Linkless.{linkless, linkless_end, run_within, within_outcome}
use Rattle.mk_run.proofs.WholeRuns.{new_core, run_in_parts}
use Rattle.mk_run.proofs.wholly.run_plan_within.Goals as goal

pub returns-in-Ok-clause-ran : goal.returns-in-Ok-clause-ran
returns-in-Ok-clause-ran g c faults =
    let t = c.requires.underway in
    let e = c.drive_within-outcome.ensures.ended in
    let none = linkless_end t.0 t.2 c.drive_within-outcome.new.core [] c.drive_within-outcome.new.crew c.drive_within-outcome.result (e t.0 [] (subst (λ (k : CoreState). GoesOn t.0 k [] c.args.crew) (sym c.in-Ok.ensures) t.1)) in
    λ T log before low u. run_in_parts T c.drive_within-outcome.new.core.plan c.into_parts-plan.result.0 c.drive_within-outcome.new.core.entries c.into_parts-plan.result.1.entries (log ++ []) before faults c.drive_within-outcome.result
    c.into_parts-plan.ensures.plan c.into_parts-plan.ensures.journal c.args.plan
    (run_within c.args.plan c.in-Ok.core c.drive_within-outcome.new.core c.args.crew c.drive_within-outcome.new.crew faults c.drive_within-outcome.result c.in-Ok.ensures e none T log before low u)

pub returns-in-Ok-clause-within : goal.returns-in-Ok-clause-within
returns-in-Ok-clause-within g c =
    let t = c.requires.underway in
    within_outcome t.0 t.2 c.drive_within-outcome.new.core [] c.drive_within-outcome.new.crew c.drive_within-outcome.result
    (c.drive_within-outcome.ensures.ended t.0 [] (subst (λ (k : CoreState). GoesOn t.0 k [] c.args.crew) (sym c.in-Ok.ensures) t.1)) c.drive_within-outcome.ensures.long

pub returns-clause-ran : goal.returns-clause-ran
returns-clause-ran g c faults =
    let t = c.requires.underway in
    (refl, silently _ c.args.crew (linkless t.0 t.2 (new_core c.args.plan) [] c.args.crew t.1), restless, tt)
