-- Answers to the goals of `lines::numbers_of` that the prover leaves.
use Rattle.std.proofs.Common.{pos}
use Rattle.mk_record_read.specs.Fields.{is_below}
use Rattle.mk_record_read.proofs.Ranges.{all_get}
use Rattle.mk_record_read.proofs.lines.numbers_of.Goals as goal

pub related_number-requires : goal.related_number-requires
related_number-requires c = all_get (is_below 10000) c.args.places.now c.loop-place.place-index (pos 0) c.requires c.loop-place-test.true
