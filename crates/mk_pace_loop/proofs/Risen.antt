-- While a log grows, the clock doesn't go back.
use Rattle.std.proofs.Common.{◌≡◌, inl, inr, ℕ, ◌≤◌, List, [], ◌∷◌, ◌++◌, Option, Some, None, IsSome, refl, sym, ap, ◌∙◌, subst, arith, append_assoc, true≢false}
use Rattle.std.specs.Prelude.{IfSome}
use Rattle.mk_base.proofs.Lists.{append_nil, some_same}
use Rattle.mk_outside.specs.declared.fleet.LogEntry.{LogEntry}
use Rattle.mk_outside.specs.declared.fleet.LogEntry.TheVariants.{Nap, Told}
use Rattle.mk_outside.specs.declared.paced.Now.TheVariants as now
use Rattle.mk_outside.specs.Fleets.{IsTold}
use Rattle.mk_outside.specs.Logs.{Adds, greatest_told, told_by}
use Rattle.mk_run_laws.proofs.Stepping.{first_or_second}
use Rattle.mk_run_links.specs.Entries.{IsClockless, IsNotOfClock}
use Rattle.mk_pace_laws.specs.Clocks.{IsRising}
use Rattle.mk_pace_loop.specs.inner.Turns.{RisesOn}
use Rattle.mk_base.proofs.Items.{not_empty, same_heads}

-- one log, and then another
pub rises_none : (log : Option (List LogEntry)) → RisesOn log log
rises_none None = tt
rises_none (Some before) = (before, [], refl, sym (append_nil before), λ less after n is. absurd (not_empty less after (Told n) is))

pub rises_on : (old mid new : Option (List LogEntry)) → RisesOn old mid → RisesOn mid new → RisesOn old new
rises_on old mid None one two = tt
rises_on old None (Some after) one two = absurd (apart two.2)
  where
    apart : {x : List LogEntry} → None ≡ Some x → ⊥
    apart e = cc
rises_on old (Some between) (Some after) (b, first, was, grew, rising) (c, second, is, grown, rising2) =
    let same : c ≡ b ++ first = sym (some_same is) ∙ grew in (
      b,
      first ++ second,
      was,
      grown ∙ ap (λ (l : List LogEntry). l ++ second) same ∙ append_assoc b first second,
      (λ less later n parts. elim (first_or_second first second less later (Told n) parts) [
        | inl t ↦ rising less t.0 n t.1
        | inr t ↦ subst (λ (l : List LogEntry). greatest_told l ≤ n) (ap (λ (l : List LogEntry). l ++ t.0) same ∙ append_assoc b first t.0 ∙ ap (λ (l : List LogEntry). b ++ l) (sym t.1)) (rising2 t.0 later n t.2)
      ]),
    )

-- entries by which no clock was looked at
pub no_told : (entries less after : List LogEntry) (n : ℕ) → IsClockless entries → entries ≡ less ++ Told n ∷ after → ⊥
no_told [] less after n all is = not_empty less after (Told n) is
no_told (e ∷ entries) [] after n all is = subst IsNotOfClock (same_heads is).0 all.0
no_told (e ∷ entries) (x ∷ less) after n all is = no_told entries less after n all.1 (same_heads is).1

rises_by : (entries : List LogEntry) (old new : Option (List LogEntry)) → Adds entries old new → ((less after : List LogEntry) (n : ℕ) → entries ≡ less ++ Told n ∷ after → ⊥) → RisesOn old new
rises_by entries old None adds none = tt
rises_by entries old (Some after) (before, was, grown) none = (before, entries, was, grown, λ less later n is. absurd (none less later n is))

pub clockless_rises : (entries : List LogEntry) (old new : Option (List LogEntry)) → IsClockless entries → Adds entries old new → RisesOn old new
clockless_rises entries old new all adds = rises_by entries old new adds (λ less after n is. no_told entries less after n all is)

-- a nap
pub nap_rises : (old new : Option (List LogEntry)) → Adds (Nap ∷ []) old new → RisesOn old new
nap_rises old new adds = rises_by (Nap ∷ []) old new adds none
  where
    apart : (n : ℕ) → Nap ≡ Told n → ⊥
    apart n e = cc

    none : (less after : List LogEntry) (n : ℕ) → Nap ∷ [] ≡ less ++ Told n ∷ after → ⊥
    none [] after n is = apart n (same_heads is).0
    none (x ∷ less) after n is = not_empty less after (Told n) (same_heads is).1

-- a look at a clock that doesn't go back
pub told_rises : (told : ℕ) (old new : Option (List LogEntry)) → IfSome old (λ before. IsTold (now.At told) (greatest_told before)) → Adds (Told told ∷ []) old new → RisesOn old new
told_rises told old None least adds = tt
told_rises told None (Some after) least (before, was, grown) = absurd (apart was)
  where
    apart : {x : List LogEntry} → None ≡ Some x → ⊥
    apart e = cc
told_rises told (Some all) (Some after) least (before, was, grown) = (
  before,
  Told told ∷ [],
  was,
  grown,
  (λ less later n is. one less later n is),
)
  where
    one : (less later : List LogEntry) (n : ℕ) → Told told ∷ [] ≡ less ++ Told n ∷ later → greatest_told (before ++ less) ≤ n
    one [] later n is = subst (λ (k : ℕ). greatest_told (before ++ []) ≤ k) (ap told_by (same_heads is).0) (subst (λ (l : List LogEntry). greatest_told l ≤ told) (some_same was ∙ sym (append_nil before)) least.0)
    one (x ∷ less) later n is = absurd (not_empty less later (Told n) (same_heads is).1)

-- what was told before counts for no less behind other entries
pub greatest_behind : (before less : List LogEntry) → greatest_told less ≤ greatest_told (before ++ less)
greatest_behind [] less = omega arith
greatest_behind (e ∷ before) less = let b = greatest_behind before less in omega (arith, b)
