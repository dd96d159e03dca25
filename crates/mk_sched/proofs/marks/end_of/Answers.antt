-- Answers to the goals of `marks::end_of` that the prover leaves.
use Rattle.std.proofs.Common.{◌≡◌, ap, arith, of_z, to_z, w64}
use Rattle.std.proofs.lemmas.Int.{ints}
use Rattle.mk_base.specs.Tiers.{moment}
use Rattle.mk_sched.proofs.marks.end_of.Goals as goal

pub returns : goal.returns
returns c =
    let limits = c.requires.well_formed.limits.until in
    let fits : to_z w64 (of_z w64 c.args.plan.now.until) ≡ c.args.plan.now.until = omega (arith, ints, limits.0, limits.1) in
    ap moment fits
