-- The invariants and measures of the loops of `summary::last_step`.
use Rattle.std.proofs.Common.{◌≡◌, option_map, take}
use Rattle.mk_plan.specs.Journals.{sent}
use Rattle.mk_plan.specs.Report.{steps_in}
use Rattle.mk_base.specs.Lists.{last_of}
use Rattle.mk_record_report.proofs.summary.last_step.Given as goal

abbrev pub invariant-loop-entry : goal.invariant-loop-entry
invariant-loop-entry l = option_map (λ item. item.now) l.last ≡ last_of (steps_in (sent (take l.entry-index l.entries) l.sim))
