-- For proofs alone. Beside `Logs`, which has what a reader needs.
use Rattle.std.specs.Prelude.{◌≡◌, ℕ, ◌+◌, ◌<◌, ℤ, Bool, true, not, ◌&&◌, ◌||◌, List, [], ◌∷◌, ◌++◌, length, get_or, ◌≤◌, ◌<ℤ◌, ◌⊎◌, nat_lt, false, filter, Option, Some, None, int_lt, int_le, ⊤, if◌then◌else◌}
use Rattle.std.specs.List.{list_all}
use Rattle.std.specs.List.Sorted.{IsPartitionPoint}
use Rattle.mk_base.specs.declared.tier.Tier.{Tier}
use Rattle.mk_base.specs.declared.tier.Via.{Via}
use Rattle.mk_base.specs.declared.tier.Via.TheVariants.{Plain}
use Rattle.mk_base.specs.Lists.{IsIn}
use Rattle.mk_base.specs.Tiers.{delayed, up_to, IsUpTo}
use Rattle.mk_plan.specs.Deliveries.{Timed}
use Rattle.mk_plan.specs.Inputs.{later, latest}
use Rattle.mk_buffers_log.specs.Logs.{is_in_time, arrival, is_settled, arrivals}

-- what is made at this time is delivered by x, and before the run's end
abbrev pub does_come : Via → Option ℤ → Tier → Tier → Bool
does_come v until x t = up_to (delayed t v) x && is_in_time until (delayed t v)

-- the best so far and one more output
abbrev pub weighed : Via → Option ℤ → Tier → Option Timed → Timed → Option Timed
weighed v until x best t = if does_come v until x t.at then later best (arrival v t) else best

-- each is at x or after it
abbrev pub AllFrom : Tier → List Timed → Type 0
AllFrom x [] = ⊤
AllFrom x (t ∷ ts) = IsUpTo x t.at × AllFrom x ts

-- none is earlier than the one before it
abbrev pub IsAscending : List Timed → Type 0
IsAscending [] = ⊤
IsAscending (t ∷ ts) = AllFrom t.at ts × IsAscending ts

-- the second has come by the mark, and by each of these delays the second has come too, or the
-- first never comes before the run's end
abbrev pub is_overtaken : List Via → ℤ → Tier → Tier → Tier → Bool
is_overtaken vias until mark x y = up_to y mark
    && list_all (λ v. does_come v (Some until) mark y || int_le until (delayed x v).time) vias

-- by each of these delays by which the first comes before the run's end, the second does too
abbrev pub comes_with : List Via → ℤ → Tier → Tier → Bool
comes_with vias until x y = list_all (λ v. int_le until (delayed x v).time
    || int_lt (delayed y v).time until) vias

-- at this place the next one isn't made by the mark, or it is the last
abbrev pub IsRest : Tier → List Timed → ℕ → Type 0
IsRest mark ts p = (d : Timed) → p + 1 < length ts → up_to (get_or ts (p + 1) d).at mark ≡ false

-- the second place is behind the first; the outputs from the first on to it are settled no sooner
-- than the one at the first, which stands alone there if it is settled
pub record IsBehind (vias : List Via) (until : ℤ) (mark : Tier) (ts : List Timed)
    (p q : ℕ) : Type 0 where
  pub more : p < q
  pub within : q ≤ length ts
  pub later : (m : Tier) (k : ℕ) (d : Timed) → p ≤ k → k < q
      → is_settled vias until m (get_or ts k d).at ≡ true
      → is_settled vias until m (get_or ts p d).at ≡ true
  pub alone : (d : Timed) → is_settled vias until mark (get_or ts p d).at ≡ true → q ≡ p + 1

-- of two outputs that are made at these times and stand at these places, the second is delivered up
-- to the mark and counts rather than the first
abbrev pub is_outdone : Via → Option ℤ → Tier → Tier → Tier → ℕ → ℕ → Bool
is_outdone v until mark x y p q = does_come v until mark y
    && (if nat_lt q p then not (up_to (delayed y v) (delayed x v)) else nat_lt p q
    && up_to (delayed x v) (delayed y v))

-- the output at the place is delivered up to the mark, and no other counts rather than it
pub record IsNewestAt (v : Via) (until : Option ℤ) (mark : Tier) (ts : List Timed)
    (p : ℕ) : Type 0 where
  pub comes : (d : Timed) → does_come v until mark (get_or ts p d).at ≡ true
  pub best : (q : ℕ) (d : Timed) → q < length ts
      → is_outdone v until mark (get_or ts p d).at (get_or ts q d).at p q ≡ false

-- where the output at the place is delivered up to the mark, another counts rather than it
abbrev pub IsOutdoneAt : Via → Option ℤ → Tier → List Timed → ℕ → Type 0
IsOutdoneAt v until mark ts p = (d : Timed) → does_come v until mark (get_or ts p d).at ≡ true
    → (q : ℕ) × (q < length ts)
    × (is_outdone v until mark (get_or ts p d).at (get_or ts q d).at p q ≡ true)

-- the output at the place is settled, and another counts rather than it for each question at the
-- mark
pub record IsSpare (vias : List Via) (until : ℤ) (mark : Tier) (ts : List Timed)
    (p : ℕ) : Type 0 where
  pub settled : (d : Timed) → is_settled vias until mark (get_or ts p d).at ≡ true
  pub made : IsOutdoneAt Plain None mark ts p
  pub arrived : (v : Via) → IsIn v vias → IsOutdoneAt v (Some until) mark ts p

-- the output at the place is the newest by one of these delays
abbrev pub IsNewestByOf : List Via → ℤ → Tier → List Timed → ℕ → Type 0
IsNewestByOf vias until mark ts p = (v : Via) × IsIn v vias × IsNewestAt v (Some until) mark ts p

-- the output at the place, if it is settled, is the newest by its making or by one of these delays
abbrev pub IsNeeded : List Via → ℤ → Tier → List Timed → ℕ → Type 0
IsNeeded vias until mark ts p = (d : Timed) → is_settled vias until mark (get_or ts p d).at ≡ true
    → IsNewestAt Plain None mark ts p ⊎ IsNewestByOf vias until mark ts p

-- two lists of outputs answer alike every question
pub record SameAnswers (ks hs : List Timed) : Type 0 where
  pub made : (test : Timed → Bool) → latest (filter test ks) ≡ latest (filter test hs)
  pub arrived : (v : Via) (until : Option ℤ) (test : Timed → Bool)
      → latest (filter test (arrivals v until ks)) ≡ latest (filter test (arrivals v until hs))

-- there is an output at the place, and its time is later
pub record IsEarlierAt (x : Tier) (ts : List Timed) (p : ℕ) : Type 0 where
  pub there : p < length ts
  pub less : (d : Timed) → x.time <ℤ (get_or ts p d).at.time

-- one list answers as the other with one more output at its end
abbrev pub Takes : Timed → List Timed → List Timed → Type 0
Takes t old new = SameAnswers new (old ++ t ∷ [])

-- the place of a time among ascending outputs: behind those up to it; the end where they don't
-- ascend
pub record PlacedFor (x : Tier) (rising : Bool) (ts : List Timed) (p : ℕ) : Type 0 where
  pub within : p ≤ length ts
  pub parts : rising ≡ true
      → IsPartitionPoint (λ t. up_to t.at x ≡ true) (λ t. up_to t.at x ≡ false) ts p
  pub end : rising ≡ false → p ≡ length ts
