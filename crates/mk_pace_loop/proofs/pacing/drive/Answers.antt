-- Answers to the goals of `pacing::drive` that the prover leaves.
use Rattle.std.proofs.Common.{◌∙◌, refl, sym, subst, arith, true, [], ◌++◌}
use Rattle.mk_local.specs.Registries.{rows_in}
use Rattle.mk_outside.proofs.OnLogs.{adds_none}
use Rattle.mk_run.specs.inner.Turns.{AreLinksOpen}
use Rattle.mk_onlooker.proofs.OnShowings.{shown_first}
use Rattle.mk_pace_loop.proofs.Gaining.{still_shown}
use Rattle.mk_pace_loop.proofs.Risen.{rises_none, rises_on}
use Rattle.mk_pace_loop.proofs.Turning.{begun, begun_end, gone_on, gone_to_end, on_tempo, still_on, still_same}
use Rattle.mk_pace_loop.proofs.pacing.drive.Goals as goal
use Rattle.mk_session.proofs.Polling.{risen_after}

pub loop-init : goal.loop-init
loop-init g c = record {
  going = c.in_default.ensures.asked.0;
  unhalted = c.requires.unhalted;
  waits = c.in_default.ensures.asked.1;
  plan = c.in_default.ensures.items.plan;
  shown = shown_first g.O.Onlooker.looks c.begin.new.core.plan true c.args.core.now.entries c.begin.new.core.entries c.args.onlooker.now c.begin.new.onlooker c.in_default.ensures.items.items c.in_default.ensures.shown;
  known = c.requires.known;
  counted = omega arith;
  same_count = refl;
  same_links = refl;
  still = still_same c.args.crew.now;
  tempo = c.in_default.ensures.on_tempo;
  rising = rises_none (g.F.Fleet.log c.args.fleet.now);
  gone = begun c.args.core.now c.begin.new.core c.args.crew.now c.args.waiting.now c.begin.new.waiting (g.F.Fleet.log c.args.fleet.now) c.in_default.ensures.asked;
}

pub turn-requires-clause-underway : goal.turn-requires-clause-underway
turn-requires-clause-underway g c =
    let t = c.requires.underway in
    let so_far = c.loop.invariant in
    (t.0, t.1 ++ so_far.gone.entries, so_far.gone.goes t.0 t.1 t.2, subst (AreLinksOpen t.0) (sym so_far.same_links) t.3)

pub loop-preserved : goal.loop-preserved
loop-preserved g c =
    let so_far = c.loop.invariant in
    let now = c.in-Ok.ensures in
    record {
      going = now.turned.2.0;
      unhalted = now.unhalted;
      waits = now.waits;
      plan = now.batch.plan ∙ so_far.plan;
      shown = still_shown g.O.Onlooker.looks c.args.core.now c.loop.core c.turn.new.core c.args.onlooker.now c.loop.onlooker c.turn.new.onlooker so_far.shown now.batch now.shown;
      known = now.still.kinds (rows_in c.args.kinds.now) so_far.known;
      counted = omega (arith, so_far.counted, now.count);
      same_count = now.same_count ∙ so_far.same_count;
      same_links = now.same_links ∙ so_far.same_links;
      still = still_on c.args.crew.now c.loop.crew c.turn.new.crew so_far.still now.still;
      tempo = on_tempo c.args.waiting.now c.loop.waiting c.turn.new.waiting so_far.tempo now.on_tempo;
      rising = rises_on _ _ _ so_far.rising now.rising;
      gone = gone_on c.args.core.now c.loop.core c.turn.new.core c.args.crew.now c.loop.crew c.turn.new.crew c.args.waiting.now c.loop.waiting c.turn.new.waiting _ _ _ now.turned.0 so_far.gone now.turned.1 now.turned.2.1;
    }

pub returns-in-Err-turn-clause-ended : goal.returns-in-Err-turn-clause-ended
returns-in-Err-turn-clause-ended g c =
    let so_far = c.loop.invariant in
    let now = c.in-Err-turn.ensures in
    gone_to_end _ _ c.args.core.now c.loop.core c.turn.new.core c.args.crew.now c.loop.crew c.turn.new.crew c.args.waiting.now c.loop.waiting c.turn.new.waiting _ _ _ now.turned.0 c.in-Err-turn.end
    (λ r. risen_after (g.F.Fleet.faults c.args.fleet.now) (g.F.Fleet.faults c.loop.fleet) (g.F.Fleet.faults c.turn.new.fleet) so_far.counted r) so_far.gone now.turned.1 now.turned.2

pub returns-in-Err-turn-clause-rising : goal.returns-in-Err-turn-clause-rising
returns-in-Err-turn-clause-rising g c = rises_on _ _ _ c.loop.invariant.rising c.in-Err-turn.ensures.rising

pub returns-in-Err-turn-clause-still : goal.returns-in-Err-turn-clause-still
returns-in-Err-turn-clause-still g c = still_on c.args.crew.now c.loop.crew c.turn.new.crew c.loop.invariant.still c.in-Err-turn.ensures.still

pub returns-in-Err-turn-clause-on_tempo : goal.returns-in-Err-turn-clause-on_tempo
returns-in-Err-turn-clause-on_tempo g c = on_tempo c.args.waiting.now c.loop.waiting c.turn.new.waiting c.loop.invariant.tempo c.in-Err-turn.ensures.on_tempo

pub returns-in-Err-turn-clause-shown : goal.returns-in-Err-turn-clause-shown
returns-in-Err-turn-clause-shown g c =
    let now = c.in-Err-turn.ensures in
    still_shown g.O.Onlooker.looks c.args.core.now c.loop.core c.turn.new.core c.args.onlooker.now c.loop.onlooker c.turn.new.onlooker c.loop.invariant.shown now.batch now.shown

pub returns-in-Err-clause-ended : goal.returns-in-Err-clause-ended
returns-in-Err-clause-ended g c = ([], adds_none _, begun_end _ c.args.core.now c.begin.new.core c.args.crew.now c.args.waiting.now c.begin.new.waiting c.in-Err.end c.in-Err.ensures.asked)

pub returns-in-Err-clause-shown : goal.returns-in-Err-clause-shown
returns-in-Err-clause-shown g c = shown_first g.O.Onlooker.looks c.begin.new.core.plan true c.args.core.now.entries c.begin.new.core.entries c.args.onlooker.now c.begin.new.onlooker c.in-Err.ensures.items.items c.in-Err.ensures.shown

pub returns-in-Err-clause-rising : goal.returns-in-Err-clause-rising
returns-in-Err-clause-rising g c = rises_none (g.F.Fleet.log c.args.fleet.now)
