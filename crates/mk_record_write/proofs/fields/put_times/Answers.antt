-- proofs/fields/put_times/Answers.antt
use Rattle.std.proofs.Common.{◌≡◌, ◌++◌, codes, get_or, refl, pos, rules}
use Rattle.std.specs.Fmt.{signed_decimal}
use Rattle.mk_record_write.proofs.Joining.{one_joined, all_joined}
use Rattle.std.proofs.lemmas.Result.{on_ok_weaker}
use Rattle.mk_record_write.proofs.fields.put_times.Goals as goal

pub loop-place-preserved : goal.loop-place-preserved
loop-place-preserved c =
    let written : c.put_signed.new.out.items ≡ c.put_comma.new.out.items ++ signed_decimal (get_or c.args.times.now c.loop-place.place (pos 0)) = search rules in
    one_joined signed_decimal (c.args.out.now.items ++ codes "[") c.args.times.now c.loop-place.place (pos 0) c.loop-place.out.items c.put_comma.new.out.items c.put_signed.new.out.items
    c.loop-place-test.true c.loop-place.invariant c.in_ok-put_comma.ensures written

pub returns : goal.returns
returns c = on_ok_weaker c.put-2.result (λ e. all_joined signed_decimal (c.args.out.now.items ++ codes "[") c.args.times.now c.loop-place.place c.args.out.now.items c.loop-place.out.items c.put-2.new.out.items
    refl c.loop-place-test.false c.loop-place.invariant e) c.put-2.ensures
