-- That no Step is said before its moment, entry by entry and item by item.
use Rattle.std.proofs.Common.{◌≡◌, ◌⊎◌, inl, inr, ℕ, List, [], ◌∷◌, ◌++◌, refl, sym, ap, ◌∙◌, subst, append_assoc}
use Rattle.mk_base.specs.Lists.{BeginsWith}
use Rattle.mk_base.specs.declared.LinkNo.{LinkNo}
use Rattle.mk_base.proofs.Lists.{in_front}
use Rattle.mk_plan.specs.declared.Item.{Item}
use Rattle.mk_plan.specs.declared.Item.TheVariants.{Step}
use Rattle.mk_scenario.specs.declared.parts.Scenario.{Scenario}
use Rattle.mk_outside.specs.declared.fleet.LogEntry.{LogEntry}
use Rattle.mk_outside.specs.declared.fleet.LogEntry.TheVariants.{Told}
use Rattle.mk_outside.specs.Logs.{said_on}
use Rattle.mk_sched.proofs.Pushed.{last_or_before}
use Rattle.mk_run_laws.specs.Rests.{all_frames}
use Rattle.mk_pace_laws.specs.Clocks.{HasTold}
use Rattle.mk_pace_laws.specs.Moments.{Tempo, moment_at}
use Rattle.mk_pace_laws.specs.Naps.{AreTold, IsTimely}
use Rattle.mk_base.proofs.Items.{same_heads}
use Rattle.mk_outside.proofs.OnLogs.{said-append}

-- a beginning of two logs is one of the first, or the first and a beginning of the second
front_of : (a b before after : List LogEntry) → a ++ b ≡ before ++ after → ((less : List LogEntry) × (a ≡ before ++ less)) ⊎ ((less : List LogEntry) × (before ≡ a ++ less))
front_of [] b before after is = inr (before, refl)
front_of (e ∷ a) b [] after is = inl (e ∷ a, refl)
front_of (e ∷ a) b (f ∷ before) after is = elim (front_of a b before after (same_heads is).1) [
  | inl t ↦ inl (t.0, (λ i. (same_heads is).0 i ∷ t.1 i))
  | inr t ↦ inr (t.0, (let same : f ≡ e = sym (same_heads is).0 in λ i. same i ∷ t.1 i))
]

-- what was told before counts
pub told_on : (moment : ℕ) (a b : List LogEntry) → HasTold moment a → HasTold moment (a ++ b)
told_on moment a b t = (t.0, in_front (Told t.0) a b t.1, t.2)

-- more is told or said, while the moment of each Step that was queued has been told
pub timely_more : (T : Tempo) (S : Scenario) (i : ℕ) (l : LinkNo) (items : List Item) (log entries : List LogEntry) → AreTold T log items → IsTimely T S i l items log → IsTimely T S i l items (log ++ entries)
timely_more T S i l items log entries told timely before after is first later x inputs advance parts early = elim (front_of log entries before after is) [
  | inl t ↦ timely before t.0 t.1 first later x inputs advance parts early
  | inr t ↦ absurd (early (subst (HasTold (moment_at T x.time)) (sym t.1) (told_on (moment_at T x.time) log t.0 (told first later x inputs advance parts))))
]

-- one more item is queued, while what was said is a beginning of what was queued before
pub timely_queued : (T : Tempo) (S : Scenario) (i : ℕ) (l : LinkNo) (items : List Item) (item : Item) (log : List LogEntry) → BeginsWith (all_frames S i items) (said_on l log) → IsTimely T S i l items log → IsTimely T S i l (items ++ item ∷ []) log
timely_queued T S i l items item log said timely before after is first later x inputs advance parts early = elim (last_or_before items item first (Step x inputs advance) later parts) [
  | inl t ↦ subst (λ (f : List Item). BeginsWith (all_frames S i f) (said_on l before)) t.0 (
    said_on l after ++ said.0,
    said.1 ∙ ap (λ (b : List ℕ). b ++ said.0) (ap (said_on l) is ∙ said-append l before after) ∙ append_assoc (said_on l before) (said_on l after) said.0,
  )
  | inr t ↦ timely before after is first t.0 x inputs advance t.1 early
]

-- a Step whose moment was told joins those of which it is so
pub told_queued : (T : Tempo) (log : List LogEntry) (items : List Item) (item : Item) → AreTold T log items → AreTold T log (item ∷ []) → AreTold T log (items ++ item ∷ [])
told_queued T log items item told one first later x inputs advance parts = elim (last_or_before items item first (Step x inputs advance) later parts) [
  | inl t ↦ one [] [] x inputs advance (ap (λ (d : Item). d ∷ []) t.1)
  | inr t ↦ told first t.0 x inputs advance t.1
]

pub told_later : (T : Tempo) (log entries : List LogEntry) (items : List Item) → AreTold T log items → AreTold T (log ++ entries) items
told_later T log entries items told first later x inputs advance parts = told_on (moment_at T x.time) log entries (told first later x inputs advance parts)
