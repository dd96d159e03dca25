-- Answers to the goals of `feeds::no_triggers` that the prover leaves.
use Rattle.std.proofs.Common.{◌∙◌, map-id, refl, sym}
use Rattle.std.proofs.lemmas.Iterator.Adapters.{YieldsList-from_vec}
use Rattle.std.proofs.lemmas.Iterator.Consumers.{YieldsList-end}
use Rattle.mk_sched_supply.proofs.Feeding.{feeds_new, no_trigger_more, wants_more}
use Rattle.mk_sched_supply.proofs.feeds.no_triggers.Goals as goal

pub loop-wants-preserved : goal.loop-wants-preserved
loop-wants-preserved c = record {
  wants = wants_more c.args.plan.now c.loop-wants.feeds.items c.push.new.self.items _ c.in-Some.wants c.loop-wants.yielded c.loop-wants.invariant.wants c.in_ok-push.ensures.items refl;
  triggers = no_trigger_more c.args.plan.now c.loop-wants.feeds.items c.push.new.self.items _ c.loop-wants.invariant.triggers c.in_ok-push.ensures.items c.new.ensures.items;
}

pub returns : goal.returns
returns c =
    let gives = c.into_iter-wants-iterator.ensures.into_iter_gives in
    let seen = YieldsList-end (YieldsList-from_vec {s = c.into_iter-wants-iterator.result} c.in_ok-wants-items.wants-items.items gives.0 (gives.1 ∙ c.in_ok-wants-items.wants-items.ok.0)) c.loop-wants.yielded c.loop-wants.wants-iterator c.loop-wants.yielded_by c.next.result c.next.new.self c.in-None.is c.next.ensures.steps in
    feeds_new c.args.plan.now c.loop-wants.feeds.items c.in_ok-wants-items.wants-items.items (c.loop-wants.invariant.wants ∙ sym (map-id c.loop-wants.yielded) ∙ seen.0) c.loop-wants.invariant.triggers c.in_ok-wants-items.ensures.count c.in_ok-wants-items.ensures.each
