-- proofs/record/put_end/Answers.antt
use Rattle.std.proofs.Common.{◌<◌, arith}
use Rattle.mk_record_write.proofs.record.put_end.Goals as goal

pub returns-clause-few : goal.returns-clause-few
returns-clause-few c = let h : c.args.count < 18446744073709551616 = c.ranges.count.fits in omega (arith, h)
