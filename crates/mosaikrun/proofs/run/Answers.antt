-- Each kind has a name of its own.
use Rattle.std.proofs.Common.{◌≡◌, true, List, drop, subst, sym}
use Rattle.std.specs.Prelude.{◌+◌}
use Rattle.mk_local.specs.declared.turn.Turn.{Turn}
use Rattle.mk_local.specs.declared.turn.Turn.TheVariants.{Constant}
use Rattle.mk_local.specs.Registries.{rows_in}
use Rattle.mk_local.specs.inner.Registries.{are_new}
use Rattle.mk_local.proofs.Registered.{next_new}
use Rattle.mosaikrun.proofs.run.Goals as goal

pub loop-turn-init : goal.loop-turn-init
loop-turn-init g c = subst (λ (l : List Turn). are_new l c.args.turns.now ≡ true) (sym c.new-kinds.ensures) c.requires

pub add-requires : goal.add-requires
add-requires g c = (next_new (rows_in c.loop-turn.kinds) c.args.turns.now c.loop-turn.turn-index Constant c.new-in-loop-turn.result.turn c.loop-turn-test.true c.new-in-loop-turn.ensures c.loop-turn.invariant).0

pub loop-turn-preserved : goal.loop-turn-preserved
loop-turn-preserved g c =
    let next = next_new (rows_in c.loop-turn.kinds) c.args.turns.now c.loop-turn.turn-index Constant c.new-in-loop-turn.result.turn c.loop-turn-test.true c.new-in-loop-turn.ensures c.loop-turn.invariant in
    subst (λ (l : List Turn). are_new l (drop (c.loop-turn.turn-index + 1) c.args.turns.now) ≡ true) (sym c.in_ok-add.ensures.ok) next.1
