-- Answers to the goals of `wholly::run_local` that the prover leaves.
use Rattle.std.proofs.Common.{[], sym, subst, arith}
use Rattle.mk_local.specs.Registries.{rows_in}
use Rattle.mk_run.specs.Outcomes.{IsWithinOutcome}
use Rattle.mk_run.proofs.Beginning.{run_begins, runs_so, setting_of}
use Rattle.mk_run.proofs.Linkless.{within_halts}
use Rattle.mk_run.proofs.wholly.run_local.Goals as goal

pub run_plan_within-requires-clause-underway : goal.run_plan_within-requires-clause-underway
run_plan_within-requires-clause-underway g c =
    let b = c.in-Ok.ensures.begun 0 in (
      setting_of 0 c.args.scenario c.args.ranks (rows_in c.args.kinds.now) [] c.in-Ok.crew c.in-Ok.plan b,
      run_begins 0 c.args.scenario c.args.ranks (rows_in c.args.kinds.now) [] c.in-Ok.crew c.in-Ok.plan b c.requires.prepared,
      c.requires.wholly,
    )

pub returns-in-Ok-clause-ran : goal.returns-in-Ok-clause-ran
returns-in-Ok-clause-ran g c started faults =
    runs_so started c.args.scenario c.args.ranks (rows_in c.args.kinds.now) [] c.in-Ok.crew c.in-Ok.plan (c.in-Ok.ensures.begun started) c.requires.prepared [] faults faults faults (omega arith) c.run_plan_within.result.plan c.run_plan_within.result.journal
    c.run_plan_within.result.outcome (c.run_plan_within.ensures.ran faults)

pub returns-in-Err-clause-ran : goal.returns-in-Err-clause-ran
returns-in-Err-clause-ran g c started faults = record { halt = c.in-Err.halt; is = c.from.ensures; halted = c.in-Err.ensures.halted started faults faults }

pub returns-in-Err-clause-within : goal.returns-in-Err-clause-within
returns-in-Err-clause-within g c = subst IsWithinOutcome (sym c.from.ensures) (within_halts c.in-Err.halt c.in-Err.ensures.cause)

pub run_plan_within-requires-clause-valid : goal.run_plan_within-requires-clause-valid
run_plan_within-requires-clause-valid g c = (c.in-Ok.ensures.begun 0).valid

pub run_plan_within-requires-clause-known : goal.run_plan_within-requires-clause-known
run_plan_within-requires-clause-known g c = (c.in-Ok.ensures.begun 0).known
