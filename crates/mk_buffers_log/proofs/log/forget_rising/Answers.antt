-- Answers to the goals of `log::forget_rising` that the prover leaves.
use Rattle.std.proofs.Common.{arith, sym, subst, ◌∙◌, ◌+◌, List, get_or}
use Rattle.mk_plan.specs.Deliveries.{Timed}
use Rattle.mk_buffers_log.specs.Logs.{IsAmong}
use Rattle.mk_buffers_log.proofs.Ascending.{answers_self, anything, forget_step, get_or_any}
use Rattle.mk_buffers_log.proofs.Keeping.{among_remove, among_self, among_trans, walked_none, walked_drop, walked_jump, walked_next, walked_rest}
use Rattle.mk_buffers_log.proofs.log.forget_rising.Goals as goal

pub loop-mark-init : goal.loop-mark-init
loop-mark-init c = record {
  inside = omega arith;
  ascends = c.requires;
  answers = answers_self c.args.vias.now c.args.until.now c.args.mark c.args.entries.now.items;
  among = among_self c.args.entries.now.items;
  walked = walked_none c.args.vias.now c.args.until.now c.args.mark c.args.entries.now.items;
}

pub loop-mark-preserved-then-is_overtaken_at : goal.loop-mark-preserved-then-is_overtaken_at
loop-mark-preserved-then-is_overtaken_at c =
    let there = c.goes_on.ensures.next c.loop-mark-test.true in
    let d : Timed = get_or c.loop-mark.entries.items c.loop-mark.place anything in
    let e : Timed = get_or c.loop-mark.entries.items (c.loop-mark.place + 1) anything in
    let made = forget_step c.args.vias.now c.args.until.now c.args.mark c.loop-mark.entries.items c.args.entries.now.items c.drop_at.new.entries.items c.loop-mark.place d e
    c.loop-mark.invariant.ascends c.loop-mark.invariant.answers there (get_or_any c.loop-mark.entries.items c.loop-mark.place anything d (omega (arith, there))) (get_or_any c.loop-mark.entries.items (c.loop-mark.place + 1) anything e there) (sym (c.is_overtaken_at.ensures anything) ∙ c.if-is_overtaken_at.true) c.drop_at.ensures.items in
    record {
      inside = omega (arith, c.drop_at.ensures.count, there);
      ascends = made.0;
      answers = made.1;
      among = among_trans c.drop_at.new.entries.items c.loop-mark.entries.items c.args.entries.now.items (subst (λ (l : List Timed). IsAmong l c.loop-mark.entries.items) (sym c.drop_at.ensures.items) (among_remove c.loop-mark.entries.items c.loop-mark.place)) c.loop-mark.invariant.among;
      walked = walked_drop c.args.vias.now c.args.until.now c.args.mark c.loop-mark.entries.items c.drop_at.new.entries.items c.loop-mark.place c.loop-mark.invariant.ascends there c.drop_at.ensures.items c.drop_at.ensures.count c.loop-mark.invariant.walked;
    }

pub loop-mark-preserved : goal.loop-mark-preserved
loop-mark-preserved c =
    let there = c.goes_on.ensures.next c.loop-mark-test.true in
    let d : Timed = get_or c.loop-mark.entries.items c.loop-mark.place anything in
    let e : Timed = get_or c.loop-mark.entries.items (c.loop-mark.place + 1) anything in
    record {
      inside = omega (arith, c.behind-place.ensures.within);
      ascends = c.loop-mark.invariant.ascends;
      answers = c.loop-mark.invariant.answers;
      among = c.loop-mark.invariant.among;
      walked = walked_jump c.args.vias.now c.args.until.now c.args.mark c.loop-mark.entries.items c.loop-mark.place c.behind-place.result c.loop-mark.invariant.ascends there c.behind-place.ensures
          (walked_next c.args.vias.now c.args.until.now c.args.mark c.loop-mark.entries.items c.loop-mark.place d e c.loop-mark.invariant.ascends there (get_or_any c.loop-mark.entries.items c.loop-mark.place anything d (omega (arith, there))) (get_or_any c.loop-mark.entries.items (c.loop-mark.place + 1) anything e there) (sym (c.is_overtaken_at.ensures anything) ∙ c.if-is_overtaken_at.false) c.loop-mark.invariant.walked);
    }

pub returns-clause-few : goal.returns-clause-few
returns-clause-few c = walked_rest c.args.vias.now c.args.until.now c.args.mark c.loop-mark.entries.items c.loop-mark.place c.loop-mark.invariant.ascends c.loop-mark.invariant.walked (c.goes_on.ensures.rest c.loop-mark-test.false)
