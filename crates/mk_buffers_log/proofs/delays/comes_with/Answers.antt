-- Answers to the goals of `delays::comes_with` that the prover leaves.
use Rattle.std.proofs.Common.{◌≡◌, ℤ, true, false, arith, subst, ◌||◌, int_le, int_lt}
use Rattle.std.proofs.lemmas.Int.{ints}
use Rattle.std.specs.List.{list_all}
use mir.Syntax.{w64}
use mir.Val.{to_z, of_z}
use Rattle.mk_base.specs.Tiers.{delayed}
use Rattle.mk_buffers_log.proofs.Walking.{all_more, all_not, all_end}
use Rattle.mk_buffers_log.proofs.delays.comes_with.Goals as goal

pub loop-via-preserved : goal.loop-via-preserved
loop-via-preserved c = all_more (λ v. int_le (to_z w64 (of_z w64 c.args.until)) (delayed c.args.first v).time || int_lt (delayed c.args.second v).time (to_z w64 (of_z w64 c.args.until))) c.args.vias.now c.loop-via.via-index c.via-item.result c.comes_with_by.result c.loop-via-test.true c.via-item.is c.comes_with_by.ensures c.if-not-comes_with_by.false c.loop-via.invariant

pub returns-then-not-comes_with_by : goal.returns-then-not-comes_with_by
returns-then-not-comes_with_by c = let end : to_z w64 (of_z w64 c.args.until) ≡ c.args.until = omega (arith, ints) in
    subst (λ (u : ℤ). false ≡ list_all (λ v. int_le u (delayed c.args.first v).time || int_lt (delayed c.args.second v).time u) c.args.vias.now) end (all_not (λ v. int_le (to_z w64 (of_z w64 c.args.until)) (delayed c.args.first v).time || int_lt (delayed c.args.second v).time (to_z w64 (of_z w64 c.args.until))) c.args.vias.now c.loop-via.via-index c.via-item.result c.comes_with_by.result c.loop-via-test.true c.via-item.is c.comes_with_by.ensures c.if-not-comes_with_by.true)

pub returns : goal.returns
returns c = let end : to_z w64 (of_z w64 c.args.until) ≡ c.args.until = omega (arith, ints) in
    subst (λ (u : ℤ). true ≡ list_all (λ v. int_le u (delayed c.args.first v).time || int_lt (delayed c.args.second v).time u) c.args.vias.now) end (all_end (λ v. int_le (to_z w64 (of_z w64 c.args.until)) (delayed c.args.first v).time || int_lt (delayed c.args.second v).time (to_z w64 (of_z w64 c.args.until))) c.args.vias.now c.loop-via.via-index c.loop-via-test.false c.loop-via.invariant)
