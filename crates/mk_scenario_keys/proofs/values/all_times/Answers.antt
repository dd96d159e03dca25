-- Answers to the goals of `values::all_times` that the prover leaves.
use Rattle.std.proofs.Common.{◌≡◌, ◌∙◌, ℕ, ℤ, pos, ◌+◌, ◌<◌, ◌++◌, ◌∷◌, [], List, length, get_or, arith, Ok, ap, sym, subst}
use Rattle.std.proofs.lemmas.Int.{ints}
use Rattle.std.proofs.lemmas.List.{get_or_default}
use Rattle.mk_scenario_keys.specs.Keys as keys
use Rattle.mk_scenario_keys.specs.Tests.{item_in}
use Rattle.mk_scenario_keys.proofs.Gathering.{Gathers, gathers_more}
use Rattle.mk_scenario_keys.proofs.values.all_times.Goals as goal
use Rattle.mk_base.specs.Limits.{latest_end}

pub loop-i-preserved : goal.loop-i-preserved
loop-i-preserved c =
    let numbers = c.args.numbers.now in
    let i = c.loop-i.i in
    let n = get_or numbers i (pos 0) in
    let time = c.in_ok-time_at.field-0 in
    let below : i < length numbers = subst (λ (ns : List ℤ). i < length ns) c.as_slice-n-items.ensures c.loop-i-test.true in
    let well : keys.within (pos 0) latest_end (item_in c.args.path.now i) n ≡ Ok time = ap (λ (ns : List ℤ). keys.within (pos 0) latest_end (item_in c.args.path.now i) (get_or ns i (pos 0))) (sym c.as_slice-n-items.ensures) ∙ c.in_ok-time_at.ensures.ok in
    let kept : c.push.new.self ≡ c.loop-i.found ++ time ∷ [] = c.in_ok-push.ensures.ok ∙ ap (λ (t : ℤ). c.loop-i.found ++ t ∷ []) (omega (arith, ints)) in
    subst (Gathers (λ (k : ℕ) (m : ℤ). keys.within (pos 0) latest_end (item_in c.args.path.now k) m) numbers (i + 1)) (sym kept)
    (gathers_more (λ (k : ℕ) (m : ℤ). keys.within (pos 0) latest_end (item_in c.args.path.now k) m) numbers i c.loop-i.found n below (get_or_default numbers i (pos 0) n below) c.loop-i.invariant time well)
