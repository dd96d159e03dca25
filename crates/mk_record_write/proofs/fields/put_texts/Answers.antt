-- proofs/fields/put_texts/Answers.antt
use Rattle.std.proofs.Common.{◌++◌, codes, refl, ap, ◌∙◌}
use Rattle.std.specs.Str.{is_utf8}
use Rattle.mk_base.specs.Texts.{quoted}
use Rattle.mk_record_write.proofs.Joining.{one_joined, all_joined, all_more, all_passed}
use Rattle.std.proofs.lemmas.Result.{on_ok_weaker}
use Rattle.mk_record_write.proofs.fields.put_texts.Goals as goal

pub loop-place-preserved : goal.loop-place-preserved
loop-place-preserved c = record {
  written = one_joined quoted (c.args.out.now.items ++ codes "[") c.args.texts.now c.loop-place.place c.index-texts-place.result c.loop-place.out.items c.put_comma.new.out.items c.put_quoted.new.out.items
      c.loop-place-test.true c.loop-place.invariant.written c.in_ok-put_comma.ensures (c.in_ok-put_quoted.ensures.written ∙ ap (λ t. c.put_comma.new.out.items ++ quoted t) c.index-texts-place.is);
  utf8 = all_more is_utf8 c.args.texts.now c.loop-place.place c.index-texts-place.result c.loop-place-test.true c.index-texts-place.is c.loop-place.invariant.utf8 c.in_ok-put_quoted.ensures.utf8;
}

pub returns-clause-written : goal.returns-clause-written
returns-clause-written c = on_ok_weaker c.put-2.result (λ e. all_joined quoted (c.args.out.now.items ++ codes "[") c.args.texts.now c.loop-place.place c.args.out.now.items c.loop-place.out.items c.put-2.new.out.items
    refl c.loop-place-test.false c.loop-place.invariant.written e) c.put-2.ensures

pub returns-clause-utf8 : goal.returns-clause-utf8
returns-clause-utf8 c = on_ok_weaker c.put-2.result (λ e. all_passed is_utf8 c.args.texts.now c.loop-place.place c.loop-place-test.false c.loop-place.invariant.utf8) c.put-2.ensures
