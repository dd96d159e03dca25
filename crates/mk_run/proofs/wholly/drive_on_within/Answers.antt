-- Answers to the goals of `wholly::drive_on_within` that the prover leaves.
use Rattle.mk_local.specs.Registries.{rows_in}
use Rattle.std.proofs.Common.{◌∙◌, [], refl, subst, false, drop, length}
use Rattle.mk_plan.specs.declared.Plan.{Plan}
use Rattle.mk_onlooker.proofs.OnShowings.{none_shown, shows_on}
use Rattle.mk_run.proofs.Growing.{less_room}
use Rattle.mk_run.proofs.Linkless.{ends_after, goes_after}
use Rattle.mk_run.proofs.wholly.drive_on_within.Goals as goal

pub turns-init : goal.turns-init
turns-init g c = record { going = c.requires.going; known = c.requires.known; waits = c.requires.waits; plan = refl; shown = none_shown g.O.Onlooker.looks c.args.core.now.plan false c.args.core.now.entries c.args.onlooker.now; goes = λ T log u. u }

pub turn_within-requires-clause-underway : goal.turn_within-requires-clause-underway
turn_within-requires-clause-underway g c = let t = c.requires.underway in (t.0, c.turns.invariant.goes t.0 [] t.1, t.2)

pub turns-preserved : goal.turns-preserved
turns-preserved g c =
    let so_far = c.turns.invariant in
    let now = c.in-Ok.ensures in
    record {
      going = now.turned.0;
      known = now.still.kinds (rows_in c.args.kinds.now) so_far.known;
      waits = now.waits;
      plan = now.batch.plan ∙ so_far.plan;
      shown = shows_on g.O.Onlooker.looks c.args.core.now.plan false c.args.core.now.entries c.turns.core.entries c.turn_within.new.core.entries c.args.onlooker.now c.turns.onlooker c.turn_within.new.onlooker so_far.shown now.batch.adds
          (subst (λ (P : Plan). g.O.Onlooker.looks c.turns.onlooker P (drop (length c.turns.core.entries) c.turn_within.new.core.entries) false c.turn_within.new.onlooker) (now.batch.plan ∙ so_far.plan) now.shown);
      goes = goes_after c.args.core.now c.turns.core c.turn_within.new.core c.args.crew.now c.turns.crew c.turn_within.new.crew so_far.goes now.turned.1;
    }

pub returns-in-Err-clause-same_plan : goal.returns-in-Err-clause-same_plan
returns-in-Err-clause-same_plan g c = c.in-Err.ensures.batch.plan ∙ c.turns.invariant.plan

pub returns-in-Err-clause-shown : goal.returns-in-Err-clause-shown
returns-in-Err-clause-shown g c =
    let so_far = c.turns.invariant in
    let now = c.in-Err.ensures in
    shows_on g.O.Onlooker.looks c.args.core.now.plan false c.args.core.now.entries c.turns.core.entries c.turn_within.new.core.entries c.args.onlooker.now c.turns.onlooker c.turn_within.new.onlooker so_far.shown now.batch.adds
    (subst (λ (P : Plan). g.O.Onlooker.looks c.turns.onlooker P (drop (length c.turns.core.entries) c.turn_within.new.core.entries) false c.turn_within.new.onlooker) (now.batch.plan ∙ so_far.plan) now.shown)

pub turns-smaller : goal.turns-smaller
turns-smaller g c =
    let t = c.requires.underway in
    let now = c.in-Ok.ensures in
    less_room t.0 c.turns.core c.turn_within.new.core [] c.turn_within.new.crew now.grown (now.turned.1 t.0 [] (c.turns.invariant.goes t.0 [] t.1))

pub returns-in-Err-clause-ended : goal.returns-in-Err-clause-ended
returns-in-Err-clause-ended g c = ends_after c.args.core.now c.turns.core c.turn_within.new.core c.args.crew.now c.turns.crew c.turn_within.new.crew c.in-Err.outcome c.turns.invariant.goes c.in-Err.ensures.turned
