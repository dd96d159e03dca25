-- What a request as it stands in its argument asks for, and what a judgement of it says.
use Rattle.std.specs.Prelude.{◌≡◌, ℕ, Bool, true, false, List, map, Option, Some, None, option_map, Result, Ok, Err}
use Rattle.std.specs.List.{list_all}
use Rattle.mk_base.specs.declared.json.Json.{Json}
use Rattle.mk_base.specs.Lists.{all_there}
use Rattle.mk_base.specs.Trees.{text_in, is_in_range, texts_in}
use Rattle.mk_plan.specs.declared.Plan.{Plan}
use Rattle.mk_plan.specs.declared.SetValue.{SetValue}
use Rattle.mk_plan.specs.Plans.{owner}
use Rattle.mk_plan.specs.Asks.{Named, Request, Get, Set, Related, RelatedOfEach, AskAnswer, Answered, Refused, members_by, datum_in}
use Rattle.mk_buffers.specs.Standing.{IsSourced}
use Rattle.mk_async.specs.declared.request.Asked.{Asked}
use Rattle.mk_async.specs.declared.request.Asked.TheVariants as as_asked

-- the members, each read by f
abbrev pub named_by : {X : Type 0} → (Json → Option X) → List (List ℕ × Json)
    → Option (List (Named X))
named_by {X} f ms = all_there
    (map (λ (m : List ℕ × Json).
    option_map (λ x. let p : Named X = record { name = m.0; value = x } in p) (f m.1)) ms)

-- the request for data that these members are
abbrev pub get_in : List (List ℕ × Json) → Option Request
get_in ms = option_map Get (named_by texts_in ms)

-- the request, where each part of it has its form
abbrev pub asked_in : Asked → Option Request
asked_in (as_asked.Get ms) = get_in ms.now
asked_in (as_asked.Set ms) = option_map Set (named_by (members_by (members_by datum_in)) ms.now)
asked_in (as_asked.Related text) = Some (Related text.now)
asked_in (as_asked.RelatedOfEach trees) = option_map RelatedOfEach
    (all_there (map text_in trees.now))

-- the number of the refusal that an answer is
abbrev pub refusal_in : AskAnswer → Option ℕ
refusal_in (Answered content sets) = None
refusal_in (Refused n) = Some n

-- the number of the refusal that a judgement is
abbrev pub refusal_by : Result Asked ℕ → Option ℕ
refusal_by (Ok asked) = None
refusal_by (Err n) = Some n

-- the whole numbers of the values that it sets are in range
abbrev pub is_asked_in_range : Asked → Bool
is_asked_in_range (as_asked.Get ms) = true
is_asked_in_range (as_asked.Set ms) = list_all (λ (m : List ℕ × Json). is_in_range m.1) ms.now
is_asked_in_range (as_asked.Related text) = true
is_asked_in_range (as_asked.RelatedOfEach trees) = true

-- it gets data
abbrev pub gets : Asked → Bool
gets (as_asked.Get ms) = true
gets (as_asked.Set ms) = false
gets (as_asked.Related text) = false
gets (as_asked.RelatedOfEach trees) = false

-- the text of a value, set under the full id of an entity of s
pub record IsGivenBy (P : Plan) (s : ℕ) (w : SetValue) : Type 0 where
  pub entity : ℕ
  pub owned : owner P entity ≡ s
  pub sourced : IsSourced P entity w
