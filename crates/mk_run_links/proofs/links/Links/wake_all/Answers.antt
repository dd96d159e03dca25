-- Answers to the goals of `links::Links::wake_all` that the prover leaves.
use Rattle.std.proofs.Common.{refl, ◌∙◌, arith, ap, length}
use Rattle.mk_run_links.proofs.Looking.{all_are_woken, none_woken, one_more_woken}
use Rattle.mk_run_links.specs.Seen.{Seen}
use Rattle.mk_run_links.proofs.links.Links.wake_all.Goals as goal

pub loop-i-init : goal.loop-i-init
loop-i-init c = (refl, none_woken c.args.self.now.channels)

pub loop-i-preserved : goal.loop-i-preserved
loop-i-preserved c = (c.wake_sim.ensures.same_halt ∙ c.loop-i.invariant.0, one_more_woken c.loop-i.i c.args.self.now.channels c.loop-i.self.channels c.wake_sim.new.self.channels c.loop-i.invariant.1 c.wake_sim.ensures.woken)

pub returns-clause-woken : goal.returns-clause-woken
returns-clause-woken c = all_are_woken c.loop-i.i c.len-i-end.result c.args.self.now.channels c.loop-i.self.channels c.loop-i.invariant.1 (c.len-i-end.ensures.count ∙ ap (λ (x : Seen). length x.channels) c.self.view_is) (omega (arith, c.loop-i-test.false))
