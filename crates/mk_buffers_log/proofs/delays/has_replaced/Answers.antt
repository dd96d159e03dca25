-- Answers to the goals of `delays::has_replaced` that the prover leaves.
use Rattle.std.proofs.Common.{◌≡◌, ℤ, true, false, arith, subst, ◌||◌, int_le, Some}
use Rattle.std.proofs.lemmas.Int.{ints}
use Rattle.std.specs.List.{list_all}
use mir.Syntax.{w64}
use mir.Val.{to_z, of_z}
use Rattle.mk_base.specs.Tiers.{delayed}
use Rattle.mk_buffers_log.specs.inner.Logs.{does_come}
use Rattle.mk_buffers_log.proofs.Walking.{all_more, all_not, all_end}
use Rattle.mk_buffers_log.proofs.delays.has_replaced.Goals as goal

pub loop-via-preserved : goal.loop-via-preserved
loop-via-preserved c = all_more (λ v. does_come v (Some (to_z w64 (of_z w64 c.args.until))) c.args.mark c.args.second || int_le (to_z w64 (of_z w64 c.args.until)) (delayed c.args.first v).time) c.args.vias.now c.loop-via.via-index c.via-item.result c.replaces_by.result c.loop-via-test.true c.via-item.is c.replaces_by.ensures c.if-not-replaces_by.false c.loop-via.invariant

pub returns-then-not-replaces_by : goal.returns-then-not-replaces_by
returns-then-not-replaces_by c = let end : to_z w64 (of_z w64 c.args.until) ≡ c.args.until = omega (arith, ints) in
    subst (λ (u : ℤ). false ≡ list_all (λ v. does_come v (Some u) c.args.mark c.args.second || int_le u (delayed c.args.first v).time) c.args.vias.now) end (all_not (λ v. does_come v (Some (to_z w64 (of_z w64 c.args.until))) c.args.mark c.args.second || int_le (to_z w64 (of_z w64 c.args.until)) (delayed c.args.first v).time) c.args.vias.now c.loop-via.via-index c.via-item.result c.replaces_by.result c.loop-via-test.true c.via-item.is c.replaces_by.ensures c.if-not-replaces_by.true)

pub returns : goal.returns
returns c = let end : to_z w64 (of_z w64 c.args.until) ≡ c.args.until = omega (arith, ints) in
    subst (λ (u : ℤ). true ≡ list_all (λ v. does_come v (Some u) c.args.mark c.args.second || int_le u (delayed c.args.first v).time) c.args.vias.now) end (all_end (λ v. does_come v (Some (to_z w64 (of_z w64 c.args.until))) c.args.mark c.args.second || int_le (to_z w64 (of_z w64 c.args.until)) (delayed c.args.first v).time) c.args.vias.now c.loop-via.via-index c.loop-via-test.false c.loop-via.invariant)
