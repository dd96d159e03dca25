-- For proofs alone. What an answered request gives a stock, step by step.
use Rattle.std.specs.Prelude.{◌≡◌, ℕ, ◌<◌, nat_lt, Bool, false, List, map, filter, length, Some, option_map, ◌++◌}
use Rattle.mk_base.specs.declared.tier.Tier.{Tier}
use Rattle.mk_base.specs.declared.tier.Via.TheVariants.{Shift}
use Rattle.mk_base.specs.Lists.{same_text}
use Rattle.mk_base.specs.Tiers.{delayed}
use Rattle.mk_plan.specs.declared.Plan.{Plan}
use Rattle.mk_plan.specs.declared.SetValue.{SetValue}
use Rattle.mk_plan.specs.Plans.{full_id}
use Rattle.mk_plan.specs.declared.Item.{Item}
use Rattle.mk_plan.specs.declared.Item.TheVariants.{Answer}
use Rattle.mk_plan.specs.Asks.{Lookup, content_text, sets_in}
use Rattle.mk_plan.specs.Deliveries.{Gift, Supply}
use Rattle.mk_async.specs.Asked.{asked_in}
use Rattle.mk_async.specs.declared.request.Asked.{Asked}
use Rattle.mk_async.specs.declared.request.Asked.TheVariants as as_asked
use Rattle.mk_buffers.specs.declared.buffers.Buffers.{Buffers}
use Rattle.mk_buffers.specs.Standing.{StandFor}

-- these values, set in a step at x, as they are given
abbrev pub gifts_in : Tier → List SetValue → List Gift
gifts_in x ws = map (λ w. record { at = delayed x (Shift 1); given = w }) ws

-- the second supply has these gifts behind those of the first, each under its entity
pub record HasGifts (P : Plan) (gifts : List Gift) (S T : Supply) : Type 0 where
  pub outputs : T.outputs ≡ S.outputs
  pub behind : (e : ℕ) → e < length P.entities
      → T.gifts e ≡ S.gifts e ++ filter (λ g. same_text g.given.source (full_id P e)) gifts

-- the buffers stand for such a supply
pub record HasGivenAll (P : Plan) (gifts : List Gift) (S : Supply) (b : Buffers) : Type 0 where
  pub supply : Supply
  pub stands : StandFor P b supply
  pub more : HasGifts P gifts S supply

-- the buffers have taken what is set by what was asked at x
pub record HasGivenOf (P : Plan) (x : Tier) (asked : Asked) (S : Supply)
    (b : Buffers) : Type 0 where
  pub values : List SetValue
  pub set : option_map (sets_in P) (asked_in asked) ≡ Some values
  pub given : HasGivenAll P (gifts_in x values) S b

-- the item is the answer to what was asked, by the values that are found
pub record IsAnswerBy (P : Plan) (look : Lookup) (asked : Asked) (id : ℕ)
    (item : Item) : Type 0 where
  pub text : List ℕ
  pub content : option_map (content_text P look) (asked_in asked) ≡ Some text
  pub is : item ≡ Answer id text

-- values of outputs are asked for
abbrev pub wants_data : Asked → Bool
wants_data (as_asked.Get ms) = nat_lt 0 (length ms.now)
wants_data (as_asked.Set ms) = false
wants_data (as_asked.Related text) = false
wants_data (as_asked.RelatedOfEach trees) = false
