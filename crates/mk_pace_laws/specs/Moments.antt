-- When Steps are due, on a clock that counts milliseconds, and which of a journal's items were
-- sent.
use Rattle.std.specs.Prelude.{◌≡◌, ℕ, zero, suc, ◌+◌, ◌*◌, ◌≤◌, ◌==◌, ℤ, nat_abs, Bool, true, false, nat_lt, List, [], ◌∷◌, ◌++◌, length, map, filter, filter_map, Option, Some, None, if◌then◌else◌}
use Rattle.mk_base.specs.Lists.{BeginsWith, Each, IsIn}
use Rattle.mk_base.specs.declared.tier.Tier.{Tier}
use Rattle.mk_outside.specs.declared.fleet.LogEntry.{LogEntry}
use Rattle.mk_outside.specs.declared.fleet.LogEntry.TheVariants.{Told}
use Rattle.mk_plan.specs.declared.Entry.{Entry}
use Rattle.mk_plan.specs.declared.Item.{Item}
use Rattle.mk_plan.specs.declared.Item.TheVariants.{Step, GetData, Answer, Refuse}
use Rattle.mk_plan.specs.Journals.{sent}
use Rattle.mk_plan.specs.Report.{is_step}
use Rattle.mk_pace_laws.specs.declared.end.Moment.{Moment}
use Rattle.mk_pace_laws.specs.Clocks.{IsRising}

-- what the clock told when the handshake was over, and how many milliseconds a unit of time has
pub record Tempo : Type 0 where
  pub origin : ℕ
  pub factor : ℕ

-- how a run is paced: its tempo, how many milliseconds late a Step may be sent, if there is a bound,
-- and the moments of the Steps that were sent
pub record Timing : Type 0 where
  pub tempo : Tempo
  pub strict : Option ℕ
  pub moments : List Moment

-- the timing of these parts
abbrev pub timing : Tempo → Option ℕ → List Moment → Timing
timing T strict moments = record { tempo = T; strict = strict; moments = moments }

-- the moment of a Step at this time
abbrev pub moment_at : Tempo → ℤ → ℕ
moment_at T time = T.origin + nat_abs time * T.factor

-- the item is a Step whose moment is later than now
abbrev pub is_early : Tempo → ℕ → Item → Bool
is_early T now (Step at inputs advance) = nat_lt now (moment_at T at.time)
is_early T now (GetData wanted) = false
is_early T now (Answer id content) = false
is_early T now (Refuse id reason) = false

-- the items before the first early Step
abbrev pub not_early : Tempo → ℕ → List Item → List Item
not_early T now [] = []
not_early T now (item ∷ items) = if is_early T now item then [] else item ∷ not_early T now items

-- the time of an item, if it is a Step
abbrev pub step_time : Item → Option Tier
step_time (Step at inputs advance) = Some at
step_time (GetData wanted) = None
step_time (Answer id content) = None
step_time (Refuse id reason) = None

-- the items before Step number n, counted from 0
abbrev pub before_step : ℕ → List Item → List Item
before_step n [] = []
before_step n (item ∷ items) = elim (is_step item) [
  | true ↦ elim n [ zero ↦ [] | suc k ↦ item ∷ before_step k items ]
  | false ↦ item ∷ before_step n items
]

-- the moment is one of simulator i
abbrev pub is_of : ℕ → Moment → Bool
is_of i m = m.sim.0 == i

-- the moments of simulator i, in order
abbrev pub moments_of : ℕ → List Moment → List Moment
moments_of i = filter (is_of i)

-- of the items that the journal sends simulator i, those before the first Step that was never sent
abbrev pub sent_out : List Entry → List Moment → ℕ → List Item
sent_out J moments i = before_step (length (moments_of i moments)) (sent J i)

-- the moments are those of the first Steps of each simulator; none was sent before its moment, nor
-- later than is allowed; and where the clock never goes back, none was sent by an earlier look at
-- it than one before it
pub record AreMoments (T : Tempo) (strict : Option ℕ) (J : List Entry) (log : List LogEntry)
    (moments : List Moment) : Type 0 where
  pub steps : (i : ℕ) → BeginsWith (filter_map step_time (sent J i))
      (map (λ (m : Moment). m.at) (moments_of i moments))
  pub moment : Each (λ (m : Moment). m.moment ≡ moment_at T m.at.time) moments
  pub due : Each (λ (m : Moment). m.moment ≤ m.told) moments
  pub told : Each (λ (m : Moment). IsIn (Told m.told) log) moments
  pub in_time : (allowed : ℕ) → strict ≡ Some allowed
      → Each (λ (m : Moment). m.told ≤ m.moment + allowed) moments
  pub in_order : IsRising log → (first later : List Moment) (m : Moment)
      → moments ≡ first ++ m ∷ later → Each (λ (k : Moment). k.told ≤ m.told) first
