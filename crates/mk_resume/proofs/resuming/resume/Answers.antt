-- Answers to the goals of `resuming::resume` that the prover leaves.
use Rattle.std.proofs.Common.{[], sym, ◌∙◌}
use Rattle.mk_outside.proofs.OnLogs.{adds_none}
use Rattle.mk_run_crew.proofs.Started.{none_started}
use Rattle.mk_resume.proofs.resuming.resume.Goals as goal

-- where all simulators are within the program
pub returns-then-is_wholly_within-clause-ran : goal.returns-then-is_wholly_within-clause-ran
returns-then-is_wholly_within-clause-ran g c = (
  [],
  adds_none _,
  c.resume_within.ensures.ran (g.F.Fleet.started c.args.fleet.now) (g.F.Fleet.faults c.args.fleet.now),
  none_started c.args.scenario _ _ (sym c.is_wholly_within.ensures ∙ c.if-is_wholly_within.true),
)
