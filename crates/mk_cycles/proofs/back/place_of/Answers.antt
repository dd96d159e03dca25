-- Answers to the goals of `back::place_of` that the prover leaves.
use Rattle.std.proofs.Common.{arith}
use Rattle.std.proofs.lemmas.Option.{slice_get_within}
use Rattle.mk_base.proofs.Lists.{in_at}
use Rattle.mk_cycles.proofs.back.place_of.Goals as goal

pub unreachable-requires : goal.unreachable-requires
unreachable-requires c =
    let at = in_at c.args.number c.args.numbers.now c.requires in
    let under = slice_get_within c.args.numbers.now at.0 c.args.number at.1 in
    c.loop-i.invariant at.0 (omega (arith, under)) at.1
