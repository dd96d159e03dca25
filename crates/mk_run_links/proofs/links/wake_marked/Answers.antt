-- The channels of marked links are woken one after another.
use Rattle.std.proofs.Common.{refl, ◌∙◌, arith, true, false}
use Rattle.mk_run_links.proofs.Marking.{all_looked_at, mark_at, marked_so_far, none_so_far, unmarked_so_far}
use Rattle.mk_run_links.proofs.links.wake_marked.Goals.{then-marks-k, else-marks-k}
use Rattle.mk_run_links.proofs.links.wake_marked.Goals as goal

pub loop-k-init : goal.loop-k-init
loop-k-init c = record { stands = c.requires.stands; same_links = refl; woken = none_so_far c.args.marks.now c.args.channels.now }

pub returns-clause-woken : goal.returns-clause-woken
returns-clause-woken c = all_looked_at c.loop-k.k c.args.marks.now c.args.channels.now c.loop-k.channels (omega (arith, c.loop-k-test.false)) c.loop-k.invariant.woken

pub loop-k-preserved : goal.loop-k-preserved
loop-k-preserved c =
    let so_far = c.loop-k.invariant in
    elim c.if-marks-k.branch [
      | then-marks-k w ↦ rw w.channels-is (rw w.turns-is (record {
        stands = w.wake.ensures.stands;
        same_links = w.wake.ensures.same_links ∙ so_far.same_links;
        woken = marked_so_far c.loop-k.k w.sim_at-sim.result.0 c.args.marks.now c.args.channels.now c.loop-k.channels w.wake.new.channels c.requires.stands.apart so_far.same_links
            (mark_at c.args.marks.now c.loop-k.k _ true (omega (arith, c.loop-k-test.true)) w.if-marks-k.true) w.sim_at-sim.ensures so_far.woken w.wake.ensures.woken;
      }))
      | else-marks-k w ↦ rw w.channels-is (rw w.turns-is (record {
        stands = so_far.stands;
        same_links = so_far.same_links;
        woken = unmarked_so_far c.loop-k.k c.args.marks.now c.args.channels.now c.loop-k.channels (mark_at c.args.marks.now c.loop-k.k _ false (omega (arith, c.loop-k-test.true)) w.if-marks-k.false) so_far.woken;
      }))
    ]
