-- Answers to the goals of `delays::has_come_or_never` that the prover leaves.
use Rattle.std.proofs.Common.{◌≡◌, ℤ, true, false, arith, subst, ◌||◌, int_le}
use Rattle.std.proofs.lemmas.Int.{ints}
use Rattle.std.specs.List.{list_all}
use mir.Syntax.{w64}
use mir.Val.{to_z, of_z}
use Rattle.mk_base.specs.Tiers.{delayed, up_to}
use Rattle.mk_buffers_log.proofs.Walking.{all_more, all_not, all_end}
use Rattle.mk_buffers_log.proofs.delays.has_come_or_never.Goals as goal

pub loop-via-preserved : goal.loop-via-preserved
loop-via-preserved c = all_more (λ v. up_to (delayed c.args.made v) c.args.mark || int_le (to_z w64 (of_z w64 c.args.until)) (delayed c.args.made v).time) c.args.vias.now c.loop-via.via-index c.via-item.result c.comes_by_or_never.result c.loop-via-test.true c.via-item.is c.comes_by_or_never.ensures c.if-not-comes_by_or_never.false c.loop-via.invariant

pub returns-then-not-comes_by_or_never : goal.returns-then-not-comes_by_or_never
returns-then-not-comes_by_or_never c = let end : to_z w64 (of_z w64 c.args.until) ≡ c.args.until = omega (arith, ints) in
    subst (λ (u : ℤ). false ≡ list_all (λ v. up_to (delayed c.args.made v) c.args.mark || int_le u (delayed c.args.made v).time) c.args.vias.now) end (all_not (λ v. up_to (delayed c.args.made v) c.args.mark || int_le (to_z w64 (of_z w64 c.args.until)) (delayed c.args.made v).time) c.args.vias.now c.loop-via.via-index c.via-item.result c.comes_by_or_never.result c.loop-via-test.true c.via-item.is c.comes_by_or_never.ensures c.if-not-comes_by_or_never.true)

pub returns : goal.returns
returns c = let end : to_z w64 (of_z w64 c.args.until) ≡ c.args.until = omega (arith, ints) in
    subst (λ (u : ℤ). true ≡ list_all (λ v. up_to (delayed c.args.made v) c.args.mark || int_le u (delayed c.args.made v).time) c.args.vias.now) end (all_end (λ v. up_to (delayed c.args.made v) c.args.mark || int_le (to_z w64 (of_z w64 c.args.until)) (delayed c.args.made v).time) c.args.vias.now c.loop-via.via-index c.loop-via-test.false c.loop-via.invariant)
