-- The invariants and measures of the loops of `lines::entries`.
use Rattle.std.proofs.Common.{◌≡◌, true}
use Rattle.std.specs.List.{list_all}
use Rattle.mk_record_write.specs.Writable.{is_writable}
use Rattle.mk_progress_trials.proofs.lines.entries.Given as goal

abbrev pub invariant-loop-time : goal.invariant-loop-time
invariant-loop-time l = list_all is_writable l.entries ≡ true
