-- The invariants and measures of the loops of `lines::are_below`.
use Rattle.std.proofs.Common.{◌≡◌, take, true}
use Rattle.std.specs.List.{list_all}
use Rattle.mk_record_read.specs.Fields.{is_below}
use Rattle.mk_record_read.proofs.lines.are_below.Given as goal

abbrev pub invariant-loop-place : goal.invariant-loop-place
invariant-loop-place l = list_all (is_below l.count) (take l.place-index l.places) ≡ true
