-- proofs/fields/put_numbers/Answers.antt
use Rattle.std.proofs.Common.{◌++◌, codes, refl}
use Rattle.std.specs.Fmt.{decimal}
use Rattle.mk_record_write.proofs.Joining.{one_joined, all_joined}
use Rattle.std.proofs.lemmas.Result.{on_ok_weaker}
use Rattle.mk_record_write.proofs.fields.put_numbers.Goals as goal

pub loop-place-preserved : goal.loop-place-preserved
loop-place-preserved c = one_joined decimal (c.args.out.now.items ++ codes "[") c.args.numbers.now c.loop-place.place 0 c.loop-place.out.items c.put_comma.new.out.items c.put_unsigned.new.out.items
    c.loop-place-test.true c.loop-place.invariant c.in_ok-put_comma.ensures c.in_ok-put_unsigned.ensures

pub returns : goal.returns
returns c = on_ok_weaker c.put-2.result (λ e. all_joined decimal (c.args.out.now.items ++ codes "[") c.args.numbers.now c.loop-place.place c.args.out.now.items c.loop-place.out.items c.put-2.new.out.items
    refl c.loop-place-test.false c.loop-place.invariant e) c.put-2.ensures
