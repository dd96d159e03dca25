-- Answers to the goals of `catching::drive` that the prover leaves.
use Rattle.std.proofs.Common.{[], ◌∙◌, refl, sym, subst, arith, ◌++◌, length, true}
use Rattle.std.specs.Prelude.{drop}
use Rattle.mk_local.specs.Registries.{rows_in}
use Rattle.mk_plan.specs.declared.Plan.{Plan}
use Rattle.mk_outside.proofs.OnLogs.{adds_none}
use Rattle.mk_run.specs.inner.Turns.{AreLinksOpen}
use Rattle.mk_onlooker.specs.Showings.{IsShown}
use Rattle.mk_onlooker.proofs.OnShowings.{shown_on}
use Rattle.mk_resume_loop.proofs.Turned.{asked_to_end, first_gone, gone_on, gone_to_end}
use Rattle.mk_resume_loop.proofs.catching.drive.Goals as goal
use Rattle.mk_session.proofs.Polling.{risen_after}

pub ask_first-requires-clause-underway : goal.ask_first-requires-clause-underway
ask_first-requires-clause-underway g c = let t = c.requires.underway in (t.0, t.1, t.2, t.3, t.4)

pub returns-in-Err-clause-ended : goal.returns-in-Err-clause-ended
returns-in-Err-clause-ended g c = ([], adds_none _, asked_to_end _ c.args.core.now c.ask_first.new.core c.args.crew.now c.ask_first.new.crew c.args.behind.now c.args.behind.now c.in-Err.end c.in-Err.ensures.asked)

pub loop-init : goal.loop-init
loop-init g c =
    let now = c.in-Ok.ensures in
    record {
      going = now.asked.0;
      unhalted = now.same_halt ∙ c.requires.unhalted;
      known = now.still.kinds (rows_in c.args.kinds.now) c.requires.known;
      counted = omega arith;
      same_count = refl;
      same_links = refl;
      still = now.still;
      gone = first_gone c.args.core.now c.ask_first.new.core c.args.crew.now c.ask_first.new.crew c.args.behind.now _ now.asked.1;
      waits = now.waits;
      same_plan = now.same_plan;
      shown = subst (λ (P : Plan). IsShown g.O.Onlooker.looks P true c.args.core.now.entries c.ask_first.new.core.entries c.args.onlooker.now c.ask_first.new.onlooker) now.same_plan now.shown;
    }

pub turn-requires-clause-waits : goal.turn-requires-clause-waits
turn-requires-clause-waits g c = c.loop.invariant.waits

pub turn-requires-clause-underway : goal.turn-requires-clause-underway
turn-requires-clause-underway g c =
    let t = c.requires.underway in
    let so_far = c.loop.invariant in
    let w = so_far.gone.goes t.0 t.1 t.2 t.3 t.4 in
    (t.0, t.1, w.0, t.3 ++ so_far.gone.entries, w.1, subst (AreLinksOpen t.0) (sym so_far.same_links) t.5)

pub loop-preserved : goal.loop-preserved
loop-preserved g c =
    let so_far = c.loop.invariant in
    let now = c.in-Ok-turn.ensures in
    record {
      going = now.turned.2.0;
      unhalted = now.unhalted;
      known = now.still.kinds (rows_in c.args.kinds.now) so_far.known;
      counted = omega (arith, so_far.counted, now.count);
      same_count = now.same_count ∙ so_far.same_count;
      same_links = now.same_links ∙ so_far.same_links;
      still = record { places = now.still.places ∙ so_far.still.places; kinds = λ rows known. now.still.kinds rows (so_far.still.kinds rows known) };
      gone = gone_on c.args.core.now c.loop.core c.turn.new.core c.args.crew.now c.loop.crew c.turn.new.crew c.args.behind.now c.loop.behind c.turn.new.behind _ _ _ now.turned.0 so_far.gone now.turned.1 now.turned.2.1;
      waits = now.waits;
      same_plan = now.same_plan ∙ so_far.same_plan;
      shown = shown_on g.O.Onlooker.looks c.args.core.now.plan true c.args.core.now.entries c.loop.core.entries c.turn.new.core.entries c.args.onlooker.now c.loop.onlooker c.turn.new.onlooker so_far.shown now.batch
          (subst (λ (P : Plan). g.O.Onlooker.looks c.loop.onlooker P (drop (length c.loop.core.entries) c.turn.new.core.entries) true c.turn.new.onlooker) (now.same_plan ∙ so_far.same_plan) now.shown);
    }

pub returns-in-Err-turn-clause-ended : goal.returns-in-Err-turn-clause-ended
returns-in-Err-turn-clause-ended g c =
    let so_far = c.loop.invariant in
    let now = c.in-Err-turn.ensures in
    gone_to_end _ _ c.args.core.now c.loop.core c.turn.new.core c.args.crew.now c.loop.crew c.turn.new.crew c.args.behind.now c.loop.behind c.turn.new.behind _ _ _ now.turned.0 c.in-Err-turn.end
    (λ r. risen_after (g.F.Fleet.faults c.args.fleet.now) (g.F.Fleet.faults c.loop.fleet) (g.F.Fleet.faults c.turn.new.fleet) so_far.counted r) so_far.gone now.turned.1 now.turned.2

pub returns-in-Err-turn-clause-shown : goal.returns-in-Err-turn-clause-shown
returns-in-Err-turn-clause-shown g c =
    let so_far = c.loop.invariant in
    let now = c.in-Err-turn.ensures in
    shown_on g.O.Onlooker.looks c.turn.new.core.plan true c.args.core.now.entries c.loop.core.entries c.turn.new.core.entries c.args.onlooker.now c.loop.onlooker c.turn.new.onlooker
    (subst (λ (P : Plan). IsShown g.O.Onlooker.looks P true c.args.core.now.entries c.loop.core.entries c.args.onlooker.now c.loop.onlooker) (sym (now.same_plan ∙ so_far.same_plan)) so_far.shown) now.batch now.shown

pub returns-in-Err-turn-clause-same_plan : goal.returns-in-Err-turn-clause-same_plan
returns-in-Err-turn-clause-same_plan g c = c.in-Err-turn.ensures.same_plan ∙ c.loop.invariant.same_plan
