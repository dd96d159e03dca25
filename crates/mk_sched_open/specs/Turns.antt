-- Open turns: which messages are right in one, and what is known of one by its place.
use Rattle.std.specs.Prelude.{◌≡◌, ℕ, ◌+◌, ◌<◌, ◌≤◌, ◌^◌, ℤ, pos, ◌≤ℤ◌, ⊤, false, [], ◌∷◌, filter_map, Option, Some, None, option_and_then}
use Rattle.mk_base.specs.declared.tier.Tier.{Tier}
use Rattle.mk_base.specs.declared.json.Json.{Json}
use Rattle.mk_base.specs.Trees.{whole_in}
use Rattle.mk_plan.specs.declared.Plan.{Plan}
use Rattle.mk_plan.specs.declared.Message.{Message}
use Rattle.mk_plan.specs.declared.Place.{Place}
use Rattle.mk_plan.specs.declared.Place.TheVariants.{Idle, Stepping, Fetching}
use Rattle.mk_plan.specs.Turns.{wrong, next_place}
use Rattle.mk_plan.specs.Acts.{content_of}
use Rattle.mk_plan.specs.Sequential.{ids_used}
use Rattle.mk_plan.specs.Journals.{View, OpenTurn}
use Rattle.mk_base.specs.Limits.{latest_end, most_loops, most_requests}

-- the message is right in the open turn T of s, and this place follows, or none where the turn has
-- ended
pub record IsRight (P : Plan) (V : View) (s : ℕ) (m : Message) (T : OpenTurn)
    (q : Option Place) : Type 0 where
  pub opened : V.open_at s ≡ Some T
  pub right : wrong P s T.place m ≡ None
  pub goes : next_place P s T.place m ≡ q

-- the whole number that a message's content is: of a reply to a Step the next time that it returns
abbrev pub next_in : Message → Option ℤ
next_in m = option_and_then whole_in (content_of m)

-- a tiered time within the limits of all plans
pub record IsInRun (x : Tier) : Type 0 where
  pub early : pos 0 ≤ℤ x.time
  pub late : x.time ≤ℤ latest_end
  pub low : x.tier ≤ most_loops

-- the time and the id of what is open are within their limits
abbrev pub IsPlaceInRun : Place → Type 0
IsPlaceInRun Idle = ⊤
IsPlaceInRun (Stepping at id asks) = IsInRun at × (id < 2 ^ 32)
IsPlaceInRun (Fetching at id) = IsInRun at × (id < 2 ^ 32)

-- how many ids an open turn has used
abbrev pub ids_in : OpenTurn → ℕ
ids_in T = ids_used (record { at = T.at; messages = T.messages; ended = false; talk = T.talk } ∷ [])

-- a Step is open, whose id is the first that is free, in a journal of n entries
pub record IsStepping (free n : ℕ) (at : Tier) (id : ℕ) (T : OpenTurn) : Type 0 where
  pub time : T.at ≡ at
  pub run : IsInRun at
  pub contents : filter_map content_of T.messages ≡ []
  pub ids : ids_in T ≡ 1
  pub number : id ≡ free
  pub few : id + 1 ≤ most_requests + n

-- a GetData is open, after a Step that returned this next time
pub record IsFetching (free n : ℕ) (at : Tier) (id : ℕ) (next : Option ℤ)
    (T : OpenTurn) : Type 0 where
  pub time : T.at ≡ at
  pub run : IsInRun at
  pub content : Json
  pub contents : filter_map content_of T.messages ≡ content ∷ []
  pub asked : whole_in content ≡ next
  pub ids : ids_in T ≡ 2
  pub number : id ≡ free + 1
  pub few : id + 1 ≤ most_requests + n

-- what is open, by its place
abbrev pub IsOpenBy : ℕ → ℕ → Option ℤ → Place → OpenTurn → Type 0
IsOpenBy free n next Idle T = ⊥
IsOpenBy free n next (Stepping at id asks) T = IsStepping free n at id T
IsOpenBy free n next (Fetching at id) T = IsFetching free n at id next T
