-- Answers to the goals of `steps::take_turns` that the prover leaves.
use Rattle.std.proofs.Common.{arith, ◌≡◌, ◌<◌, ◌≤◌, ◌++◌, ◌∷◌, [], Some, length, ap, sym, ◌∙◌}
use Rattle.mk_local.specs.declared.entity.Entity.{Entity}
use Rattle.mk_local.specs.declared.inputs.Taken.{Taken}
use Rattle.mk_local.specs.inner.Inputs.{taken_at}
use Rattle.mk_local.specs.Rows.{row}
use Rattle.mk_local.specs.Simulators.{Simulator}
use Rattle.mk_local.proofs.Stepping.{goes_on, all_done}
use Rattle.mk_local.proofs.steps.take_turns.Goals as goal

pub loop-k-preserved : goal.loop-k-preserved
loop-k-preserved g c =
    let L : Simulator = record { kind = c.args.kind.now.turn; step = c.args.pace.now.step; entities = c.args.entities.now } in
    let below : c.loop-k.k < length c.in_ok-taken.taken = omega (arith, c.in_ok-taken.ensures.count, c.len-k-end.ensures) in
    let there : Some c.at.result.now ≡ Some (taken_at c.args.kind.now.turn c.args.inputs.now c.loop-k.k) = sym c.at.ensures ∙ c.in_ok-taken.ensures.taken c.loop-k.k below in
    let same : c.at.result.now ≡ taken_at c.args.kind.now.turn c.args.inputs.now c.loop-k.k = cc in
    let turn = c.entity_turn-turn.ensures ∙ ap (λ (t : Taken). row c.args.kind.now.turn (record { step = c.args.pace.now.step; setting = c.at-entity.result.now.setting; state = c.at-entity.result.now.state; time = c.args.pace.now.time; seen = t.seen; sum = t.sum })) same in
    goes_on L c.args.pace.now.time c.args.inputs.now c.loop-k.k c.loop-k.found.entities _ c.loop-k.found.least _ c.at-entity.result.now c.entity_turn-turn.result c.loop-k.invariant c.at-entity.ensures turn
    (c.in_ok-push.ensures.ok ∙ ap (λ (e : Entity). c.loop-k.found.entities ++ e ∷ []) c.after_turn.ensures) c.earlier_next-found.ensures

pub returns : goal.returns
returns g c =
    let L : Simulator = record { kind = c.args.kind.now.turn; step = c.args.pace.now.step; entities = c.args.entities.now } in
    let end : length c.args.entities.now ≤ c.loop-k.k = omega (arith, c.len-k-end.ensures) in
    let t = all_done L c.args.pace.now.time c.args.inputs.now c.loop-k.k c.loop-k.found.entities c.loop-k.found.least end c.loop-k.invariant in
    record { entities = t.0; least = t.1 }
