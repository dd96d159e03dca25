-- That a Step is sent by no earlier look at the clock than one before it.
use Rattle.std.proofs.Common.{◌≡◌, ◌⊎◌, inl, inr, ℕ, ◌≤◌, List, [], ◌∷◌, ◌++◌, refl, sym, ap, ◌∙◌, subst, arith}
use Rattle.mk_base.specs.Lists.{Each, IsIn}
use Rattle.mk_outside.specs.declared.fleet.LogEntry.{LogEntry}
use Rattle.mk_outside.specs.declared.fleet.LogEntry.TheVariants.{Told}
use Rattle.mk_outside.specs.Logs.{greatest_told}
use Rattle.mk_pace_laws.specs.declared.end.Moment.{Moment}
use Rattle.mk_pace_laws.specs.Clocks.{IsRising, last_told}
use Rattle.mk_pace_laws.proofs.Napping.{told_below}
use Rattle.mk_pace_laws.proofs.Rising.{last_is_greatest, rising_front}
use Rattle.mk_base.proofs.Items.{not_empty}

-- what the field `in_order` of `AreMoments` says
abbrev pub AreInOrder : List LogEntry → List Moment → Type 0
AreInOrder log moments = IsRising log → (first later : List Moment) (m : Moment) → moments ≡ first ++ m ∷ later → Each (λ (k : Moment). k.told ≤ m.told) first

-- while the log grows
pub in_order_later : (log entries : List LogEntry) (moments : List Moment) → AreInOrder log moments → AreInOrder (log ++ entries) moments
in_order_later log entries moments so rising = so (rising_front log entries rising)

last_or_before : (moments : List Moment) (new : Moment) (first : List Moment) (m : Moment) (later : List Moment) → moments ++ new ∷ [] ≡ first ++ m ∷ later → ((moments ≡ first) × (new ≡ m)) ⊎ ((less : List Moment) × (moments ≡ first ++ m ∷ less))
last_or_before [] new [] m later q = inl (refl, cc)
last_or_before [] new (f ∷ first) m later q = absurd (not_empty first later m cc)
last_or_before (j ∷ moments) new [] m later q = inr (moments, (let same : j ≡ m = cc in ap (λ (x : Moment). x ∷ moments) same))
last_or_before (j ∷ moments) new (f ∷ first) m later q =
    let same : j ≡ f = cc in
    let rest : moments ++ new ∷ [] ≡ first ++ m ∷ later = cc in
    elim (last_or_before moments new first m later rest) [
      | inl t ↦ inl ((λ i. same i ∷ t.0 i), t.1)
      | inr t ↦ inr (t.0, (λ i. same i ∷ t.1 i))
    ]

all_below : (log : List LogEntry) (n : ℕ) → greatest_told log ≡ n → (moments : List Moment) → Each (λ (k : Moment). IsIn (Told k.told) log) moments → Each (λ (k : Moment). k.told ≤ n) moments
all_below log n greatest [] all = tt
all_below log n greatest (k ∷ moments) all = ((let low = told_below k.told log all.0 in omega (arith, greatest, low)), all_below log n greatest moments all.1)

-- where one more is sent by the last look
pub in_order_pushed : (log : List LogEntry) (moments : List Moment) (new : Moment) → Each (λ (k : Moment). IsIn (Told k.told) log) moments → new.told ≡ last_told log → AreInOrder log moments → AreInOrder log (moments ++ new ∷ [])
in_order_pushed log moments new told last so rising first later m is = elim (last_or_before moments new first m later is) [
  | inl t ↦ subst (λ (l : List Moment). Each (λ (k : Moment). k.told ≤ m.told) l) t.0 (all_below log m.told (last_is_greatest log rising ∙ sym last ∙ ap (λ (x : Moment). x.told) t.1) moments told)
  | inr t ↦ so rising first t.0 m t.1
]
