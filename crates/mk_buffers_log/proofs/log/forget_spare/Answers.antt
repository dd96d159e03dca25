-- Answers to the goals of `log::forget_spare` that the prover leaves.
use Rattle.std.proofs.Common.{arith, sym, subst, List}
use Rattle.mk_plan.specs.Deliveries.{Timed}
use Rattle.mk_buffers_log.specs.Logs.{IsAmong}
use Rattle.mk_buffers_log.proofs.Keeping.{among_remove, among_trans}
use Rattle.mk_buffers_log.proofs.Sparing.{few_sifted, sifted_drop, sifted_more, spare_drop}
use Rattle.mk_buffers_log.proofs.log.forget_spare.Goals as goal

pub loop-place-preserved-then-is_spare : goal.loop-place-preserved-then-is_spare
loop-place-preserved-then-is_spare c = record {
  inside = omega (arith, c.drop_at.ensures.count, c.loop-place-test.true, c.len.ensures);
  answers = spare_drop c.args.vias.now c.args.until.now c.args.mark c.loop-place.entries.items c.args.entries.now.items c.drop_at.new.entries.items c.loop-place.place (omega (arith, c.loop-place-test.true, c.len.ensures)) (c.is_spare.ensures.spare c.if-is_spare.true) c.drop_at.ensures.items c.loop-place.invariant.answers;
  among = among_trans c.drop_at.new.entries.items c.loop-place.entries.items c.args.entries.now.items (subst (λ (l : List Timed). IsAmong l c.loop-place.entries.items) (sym c.drop_at.ensures.items) (among_remove c.loop-place.entries.items c.loop-place.place)) c.loop-place.invariant.among;
  sifted = sifted_drop c.args.vias.now c.args.until.now c.args.mark c.loop-place.entries.items c.drop_at.new.entries.items c.loop-place.place c.drop_at.ensures.items c.drop_at.ensures.count c.loop-place.invariant.sifted;
}

pub loop-place-preserved : goal.loop-place-preserved
loop-place-preserved c = record {
  inside = omega (arith, c.loop-place-test.true, c.len.ensures);
  answers = c.loop-place.invariant.answers;
  among = c.loop-place.invariant.among;
  sifted = sifted_more c.args.vias.now c.args.until.now c.args.mark c.loop-place.entries.items c.loop-place.place (c.is_spare.ensures.needed c.if-is_spare.false) c.loop-place.invariant.sifted;
}

pub returns-clause-few : goal.returns-clause-few
returns-clause-few c = few_sifted c.args.vias.now c.args.until.now c.args.mark c.loop-place.entries.items c.loop-place.place (omega (arith, c.loop-place-test.false, c.len.ensures)) c.loop-place.invariant.sifted
