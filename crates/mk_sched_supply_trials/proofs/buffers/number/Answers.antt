-- Answers to the goals of `buffers::number` that the prover leaves.
use Rattle.std.proofs.Common.{◌≡◌, ℕ, ◌<◌, pos, true, refl, arith, int_le}
use Rattle.std.specs.Fmt.{decimal}
use Rattle.std.proofs.lemmas.Int.{ints}
use Rattle.mk_base.specs.declared.json.Json.TheVariants.{Whole}
use Rattle.mk_base.specs.Data.{IsDatumText}
use Rattle.mk_base.proofs.OnTrees.{trees_compute}
use Rattle.mk_sched_supply_trials.proofs.buffers.number.Goals as goal

small : (n : ℕ) → n < 256 → int_le (pos n) (pos 18446744073709551615) ≡ true
small n h = grind (arith, ints)

of_number : (n : ℕ) → n < 256 → IsDatumText (decimal n)
unfolding trees_compute
of_number n h = record { tree = Whole (pos n); proper = refl; whole = refl; in_range = small n h; deep = omega arith; is = refl }

pub of-requires : goal.of-requires
of-requires c = let text : c.into_bytes.result.items ≡ decimal c.args.number = rw c.into_bytes.ensures.value c.in_ok-text.ensures.ok in rw text (of_number c.args.number (omega arith))
