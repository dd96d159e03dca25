-- Logs of a fleet whose clock never goes back, call by call.
use Rattle.std.proofs.Common.{◌≡◌, inl, inr, ℕ, ◌≤◌, List, [], ◌∷◌, ◌++◌, Option, Some, None, IsSome, IfSome, is_some, refl, sym, ap, ◌∙◌, subst, arith, append_assoc, true≢false}
use Rattle.mk_base.proofs.Lists.{append_nil, none_some, some_same}
use Rattle.mk_outside.specs.declared.fleet.LogEntry.{LogEntry}
use Rattle.mk_outside.specs.declared.fleet.LogEntry.TheVariants.{Told}
use Rattle.mk_outside.specs.declared.paced.Now.{Now}
use Rattle.mk_outside.specs.declared.paced.Now.TheVariants as now
use Rattle.mk_outside.specs.Fleets.{IsTold, now_entries}
use Rattle.mk_outside.specs.Logs.{Adds, greatest_told}
use Rattle.mk_outside.proofs.OnLogs.{adds_more, adds_none}
use Rattle.mk_run_laws.proofs.Stepping.{first_or_second}
use Rattle.mk_run_links.specs.Entries.{IsClockless}
use Rattle.mk_pace_laws.specs.Clocks.{IsRising}
use Rattle.mk_pace_loop.specs.inner.Turns.{RisesOn}
use Rattle.mk_pace.specs.inner.Going.{AddsRising}
use Rattle.mk_base.proofs.Items.{not_empty}
use Rattle.mk_pace_loop.proofs.Risen.{greatest_behind, no_told}

pub rising_clockless : (entries : List LogEntry) (old new : Option (List LogEntry)) → Adds entries old new → IsClockless entries → AddsRising entries old new
rising_clockless entries old new adds clockless = record { adds = adds; rising = λ some base is before after n parts. absurd (no_told entries before after n clockless parts) }

pub rising_none : (log : Option (List LogEntry)) → AddsRising [] log log
rising_none log = rising_clockless [] log log (adds_none log) tt

-- ---- what one call tells

only_told : (n m : ℕ) (before after : List LogEntry) → Told n ∷ [] ≡ before ++ Told m ∷ after → (before ≡ []) × (n ≡ m)
only_told n m [] after is = (refl, cc)
only_told n m (x ∷ before) after is = let rest : [] ≡ before ++ Told m ∷ after = cc in absurd (not_empty before after (Told m) rest)

told_so : (r : Now) (old : Option (List LogEntry)) (base : List LogEntry) → old ≡ Some base → IfSome old (λ (b : List LogEntry). IsTold r (greatest_told b)) → IsTold r (greatest_told base)
told_so r None base is told = absurd (none_some is)
told_so r (Some b) base is told = subst (λ (l : List LogEntry). IsTold r (greatest_told l)) (some_same is) told

pub rising_now : (r : Now) (old new : Option (List LogEntry)) → Adds (now_entries r) old new → IfSome old (λ (b : List LogEntry). IsTold r (greatest_told b)) → AddsRising (now_entries r) old new
rising_now (now.At n) old new adds told = record {
  adds = adds;
  rising = λ some base is before after m parts.
      let t = only_told n m before after parts in
      let low = (told_so (now.At n) old base is told).0 in
      let same : greatest_told (base ++ before) ≡ greatest_told base = ap (λ (l : List LogEntry). greatest_told (base ++ l)) t.0 ∙ ap greatest_told (append_nil base) in
      omega (arith, low, same, t.1);
}
rising_now now.Failed old new adds told = rising_clockless [] old new adds tt

-- ---- one call behind another

was_some : (entries : List LogEntry) (old new : Option (List LogEntry)) → Adds entries old new → IsSome new → (before : List LogEntry) × (old ≡ Some before)
was_some entries old None adds some = absurd (true≢false (sym some))
was_some entries old (Some after) adds some = (adds.0, adds.1)

grown : (entries : List LogEntry) (old new : Option (List LogEntry)) (base mid : List LogEntry) → Adds entries old new → old ≡ Some base → new ≡ Some mid → mid ≡ base ++ entries
grown entries old None base mid adds is there = absurd (none_some there)
grown entries old (Some after) base mid adds is there =
    let same : adds.0 ≡ base = some_same (sym adds.1 ∙ is) in
    sym (some_same there) ∙ adds.2 ∙ ap (λ (l : List LogEntry). l ++ entries) same

-- the one and the other
same_rest : (base one other : List LogEntry) → base ++ one ≡ base ++ other → one ≡ other
same_rest [] one other e = e
same_rest (x ∷ base) one other e = let rest : base ++ one ≡ base ++ other = cc in same_rest base one other rest

pub rising_by : (entries : List LogEntry) (old new : Option (List LogEntry)) → Adds entries old new → RisesOn old new → AddsRising entries old new
rising_by entries old None adds so = record { adds = adds; rising = λ some base is before after n parts. absurd (true≢false (sym some)) }
rising_by entries old (Some end) adds so = record {
  adds = adds;
  rising = λ some base is before after n parts.
      let one : end ≡ base ++ entries = grown entries old (Some end) base end adds is refl in
      let same : so.0 ≡ base = some_same (sym so.2 ∙ is) in
      let other : end ≡ base ++ so.1 = so.3 ∙ ap (λ (l : List LogEntry). l ++ so.1) same in
      let entries_are : so.1 ≡ entries = same_rest base so.1 entries (sym other ∙ one) in
      subst (λ (l : List LogEntry). greatest_told (l ++ before) ≤ n) same (so.4 before after n (entries_are ∙ parts));
}

pub rising_more : (first second : List LogEntry) (old mid new : Option (List LogEntry)) → AddsRising first old mid → AddsRising second mid new → AddsRising (first ++ second) old new
rising_more first second old mid new one two = record {
  adds = adds_more first second old mid new one.adds two.adds;
  rising = λ some base is before after n parts.
      let m = was_some second mid new two.adds some in
      let some_mid : IsSome mid = ap is_some m.1 in
      elim (first_or_second first second before after (Told n) parts) [
        | inl t ↦ one.rising some_mid base is before t.0 n t.1
        | inr t ↦
            let there = two.rising some m.0 m.1 t.0 after n t.2 in
            let mid_is : m.0 ≡ base ++ first = grown first old mid base m.0 one.adds is m.1 in
            let same : m.0 ++ t.0 ≡ base ++ before = ap (λ (l : List LogEntry). l ++ t.0) mid_is ∙ append_assoc base first t.0 ∙ ap (λ (l : List LogEntry). base ++ l) (sym t.1) in
            subst (λ (l : List LogEntry). greatest_told l ≤ n) same there
      ];
}

-- what was added rises by itself
pub rises : (entries : List LogEntry) (old new : Option (List LogEntry)) → AddsRising entries old new → IsSome new → IsRising entries
rises entries old new a some before after n parts =
    let o = was_some entries old new a.adds some in
    let high = a.rising some o.0 o.1 before after n parts in
    let more = greatest_behind o.0 before in
    omega (arith, high, more)
