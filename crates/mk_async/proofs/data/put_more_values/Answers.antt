-- Answers to the goals of `data::put_more_values` that the prover leaves.
use Rattle.mk_async.specs.inner.Content.{IsNamed, member_text}
use Rattle.mk_async.proofs.Writing.{commas_more, each_more}
use Rattle.mk_async.proofs.data.put_more_values.Goals as goal

pub loop-value-preserved : goal.loop-value-preserved
loop-value-preserved c = (
  commas_more c.args.values.now c.loop-value.value-index c.value-item.result c.loop-value-test.true c.value-item.is (λ m. member_text m.0 m.1)
      c.args.text.now.items c.loop-value.text.items c.put.new.out.items c.put_member.new.text.items c.loop-value.invariant.0 c.in_ok-put.ensures c.in_ok-put_member.ensures.written,
  each_more c.args.values.now c.loop-value.value-index c.value-item.result c.loop-value-test.true c.value-item.is (λ m. IsNamed m.0 m.1) c.loop-value.invariant.1 c.in_ok-put_member.ensures.named,
)
