-- Answers to the goals of `members::rises` that the prover leaves.
use Rattle.std.proofs.Common.{◌≡◌, ℕ, suc, ◌-◌, true, drop, get_or, sym, ◌∙◌, subst, arith}
use Rattle.std.specs.Ordering.{nat_cmp, is_lt}
use Rattle.std.specs.Cmp.Lexicographic.{slice_cmp}
use Rattle.mk_json.proofs.Gathering.{Rises, last_rises, rises_from}
use Rattle.mk_json.proofs.members.rises.Goals as goal
use Rattle.mk_base.proofs.Bools.{less_is}

pub loop-i-init : goal.loop-i-init
loop-i-init c = (omega arith, last_rises c.args.all.now)

pub loop-i-preserved : goal.loop-i-preserved
loop-i-preserved c =
    let xs = c.args.all.now in
    let one = c.index-all-i.result in
    let other = c.index-all-i-in-loop-i.result in
    let below : is_lt (slice_cmp nat_cmp one.0 other.0) ≡ true = sym c.is_below.ensures ∙ c.if-not-is_below.false in
    let next : c.loop-i.i - 1 ≡ suc (c.loop-i.i - 1 - 1) = omega arith in
    (omega arith, rises_from (c.loop-i.i - 1 - 1) xs one other (omega arith) c.index-all-i.is (subst (λ (k : ℕ). other ≡ get_or xs k other) next c.index-all-i-in-loop-i.is) (less_is _ below) (subst (λ (k : ℕ). Rises (drop k xs)) next c.loop-i.invariant.1))

pub returns : goal.returns
returns c = λ _. let none : c.loop-i.i - 1 ≡ 0 = omega arith in subst (λ (k : ℕ). Rises (drop k c.args.all.now)) none c.loop-i.invariant.1
