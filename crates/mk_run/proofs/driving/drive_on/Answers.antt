-- Answers to the goals of `driving::drive_on` that the prover leaves.
use Rattle.std.proofs.Common.{◌∙◌, refl, sym, subst, arith, ◌++◌, true, drop, length}
use Rattle.mk_local.specs.Registries.{rows_in}
use Rattle.mk_plan.specs.declared.Plan.{Plan}
use Rattle.mk_onlooker.proofs.OnShowings.{none_shown, shows_on}
use Rattle.mk_run.specs.inner.Turns.{AreLinksOpen}
use Rattle.mk_run.proofs.Turning.{none_gone, gone_on, gone_to_end}
use Rattle.mk_run.proofs.driving.drive_on.Goals as goal
use Rattle.mk_session.proofs.Polling.{risen_after}

pub returns-in-Err-clause-same_plan : goal.returns-in-Err-clause-same_plan
returns-in-Err-clause-same_plan g c = c.in-Err.ensures.batch.plan ∙ c.loop.invariant.plan

pub returns-in-Err-clause-shown : goal.returns-in-Err-clause-shown
returns-in-Err-clause-shown g c =
    let so_far = c.loop.invariant in
    let now = c.in-Err.ensures in
    shows_on g.O.Onlooker.looks c.args.core.now.plan true c.args.core.now.entries c.loop.core.entries c.turn.new.core.entries c.args.onlooker.now c.loop.onlooker c.turn.new.onlooker so_far.shown now.batch.adds
    (subst (λ (P : Plan). g.O.Onlooker.looks c.loop.onlooker P (drop (length c.loop.core.entries) c.turn.new.core.entries) true c.turn.new.onlooker) (now.batch.plan ∙ so_far.plan) now.shown)

pub loop-init : goal.loop-init
loop-init g c = record {
  going = c.requires.going;
  unhalted = c.requires.unhalted;
  known = c.requires.known;
  counted = omega arith;
  same_count = refl;
  same_links = refl;
  still = record { places = refl; kinds = λ rows known. known };
  waits = c.requires.waits;
  plan = refl;
  shown = none_shown g.O.Onlooker.looks c.args.core.now.plan true c.args.core.now.entries c.args.onlooker.now;
  gone = none_gone c.args.core.now c.args.crew.now _;
}

pub turn-requires-clause-underway : goal.turn-requires-clause-underway
turn-requires-clause-underway g c =
    let t = c.requires.underway in
    let so_far = c.loop.invariant in
    (t.0, t.1 ++ so_far.gone.entries, so_far.gone.goes t.0 t.1 t.2, subst (AreLinksOpen t.0) (sym so_far.same_links) t.3)

pub loop-preserved : goal.loop-preserved
loop-preserved g c =
    let so_far = c.loop.invariant in
    let now = c.in-Ok.ensures in
    record {
      going = now.turned.2.0;
      unhalted = now.unhalted;
      known = now.still.kinds (rows_in c.args.kinds.now) so_far.known;
      counted = omega (arith, so_far.counted, now.count);
      same_count = now.same_count ∙ so_far.same_count;
      same_links = now.same_links ∙ so_far.same_links;
      still = record { places = now.still.places ∙ so_far.still.places; kinds = λ rows known. now.still.kinds rows (so_far.still.kinds rows known) };
      waits = now.waits;
      plan = now.batch.plan ∙ so_far.plan;
      shown = shows_on g.O.Onlooker.looks c.args.core.now.plan true c.args.core.now.entries c.loop.core.entries c.turn.new.core.entries c.args.onlooker.now c.loop.onlooker c.turn.new.onlooker so_far.shown now.batch.adds
          (subst (λ (P : Plan). g.O.Onlooker.looks c.loop.onlooker P (drop (length c.loop.core.entries) c.turn.new.core.entries) true c.turn.new.onlooker) (now.batch.plan ∙ so_far.plan) now.shown);
      gone = gone_on c.args.core.now c.loop.core c.turn.new.core c.args.crew.now c.loop.crew c.turn.new.crew _ _ _ now.turned.0 so_far.gone now.turned.1 now.turned.2.1;
    }

pub returns-in-Err-clause-ended : goal.returns-in-Err-clause-ended
returns-in-Err-clause-ended g c =
    let so_far = c.loop.invariant in
    let now = c.in-Err.ensures in
    gone_to_end _ _ c.args.core.now c.loop.core c.turn.new.core c.args.crew.now c.loop.crew c.turn.new.crew _ _ _ now.turned.0 c.in-Err.outcome
    (λ r. risen_after (g.F.Fleet.faults c.args.fleet.now) (g.F.Fleet.faults c.loop.fleet) (g.F.Fleet.faults c.turn.new.fleet) so_far.counted r) so_far.gone now.turned.1 now.turned.2
