-- What the data of a reply give: the values that were found are those wanted, and the flags are
-- those of an act with these data.
use Rattle.std.proofs.Common.{◌≡◌, ℕ, Bool, true, false, List, [], ◌∷◌, map, slice_get, Option, Some, None, is_some, option_map, option_and_then, unwrap_or, Result, Ok, Err, IfOk, refl, sym, ap, ◌∙◌, subst}
use Rattle.mk_base.specs.declared.json.Json.{Json}
use Rattle.mk_base.specs.declared.tier.Tier.{Tier}
use Rattle.mk_base.specs.Lists.{IsIn}
use Rattle.mk_base.specs.Texts.{text_of}
use Rattle.mk_base.specs.Trees.{is_in_range, member}
use Rattle.mk_base.proofs.Lists.{in_map}
use Rattle.mk_plan.specs.declared.Plan.{Plan}
use Rattle.mk_plan.specs.declared.Conn.{Conn}
use Rattle.mk_plan.specs.declared.Want.{Want}
use Rattle.mk_plan.specs.Plans.{eid_of}
use Rattle.mk_plan.specs.Turns.{wanted, value_for, wrong_data, want_of}
use Rattle.mk_plan.specs.Acts.{Act, output, outputs_in}
use Rattle.mk_plan_judge.proofs.Right.{right_value_is_datum}
use Rattle.mk_sched_supply.specs.declared.feeds.Feed.{Feed}
use Rattle.mk_sched_supply.specs.declared.outputs.Outputs.{Outputs}
use Rattle.mk_sched_supply.specs.Outputs.{AreData, AreOutputsIn, found_values}
use Rattle.mk_plan.specs.Deliveries.{triggering_from}
use Rattle.mk_sched_supply.specs.Stock.{IsFeedOf}
use Rattle.mk_sched_supply.specs.inner.Making.{are_given, is_given}
use Rattle.mk_sched_supply.proofs.Ranging.{value_in_range}
use Rattle.mk_base.proofs.Items.{get_map, map_map}

map_alike : {X Y : Type 0} (f g : X → Y) (xs : List X) → ((x : X) → f x ≡ g x) → map f xs ≡ map g xs
map_alike f g [] same = refl
map_alike f g (x ∷ xs) same = λ i. same x i ∷ map_alike f g xs same i

module _ (P : Plan) (s : ℕ) (content : Json) where
  -- what a want at a place is given
  abbrev given_at : Option Want → Bool
  given_at o = unwrap_or (option_map is_some (option_map (value_for content) o)) false

  flags_are : (f : Act) → outputs_in f ≡ Some content → (c : Conn) → given_at (Some (want_of P c)) ≡ is_some (output P f c.from c.from_attr)
  flags_are f is c = texts (value_for content (want_of P c)) ∙ sym (ap (λ (o : Option Json). is_some (option_map text_of (option_and_then (member c.from_attr) (option_and_then (member (eid_of P c.from)) o)))) is)
    where
      texts : (o : Option Json) → is_some o ≡ is_some (option_map text_of o)
      texts None = refl
      texts (Some v) = refl

  pub outputs_are : (feed : Feed) (outs : Outputs) → IsFeedOf P s feed → found_values outs ≡ map (value_for content) feed.wants → outs.given.items ≡ are_given (found_values outs) feed.triggers.items → AreOutputsIn P s content outs
  outputs_are feed outs of values given = record { values = all; given = flags }
    where
      all : found_values outs ≡ map (value_for content) (wanted P s)
      all = values ∙ ap (map (value_for content)) of.wants

      flags : (f : Act) → outputs_in f ≡ Some content → outs.given.items ≡ map (λ c. is_some (output P f c.from c.from_attr)) (triggering_from P s)
      flags f is = given ∙ ap (λ (l : List (Option Json)). are_given l feed.triggers.items) all
          ∙ map_alike (is_given (map (value_for content) (wanted P s))) (λ p. given_at (slice_get (wanted P s) p)) feed.triggers.items (λ p. ap (λ (o : Option (Option Json)). unwrap_or (option_map is_some o) false) (get_map (value_for content) (wanted P s) p))
          ∙ sym (map_map given_at (λ p. slice_get (wanted P s) p) feed.triggers.items) ∙ ap (map given_at) of.places ∙ map_map given_at (λ c. Some (want_of P c)) (triggering_from P s)
          ∙ map_alike (λ c. given_at (Some (want_of P c))) (λ c. is_some (output P f c.from c.from_attr)) (triggering_from P s) (flags_are f is)

-- of data that are right each value is one that a simulator may give
pub data_are : (P : Plan) (s : ℕ) (at : Tier) (content : Json) (values : List (Option Json)) → is_in_range content ≡ true → wrong_data (wanted P s) at content ≡ None → values ≡ map (value_for content) (wanted P s) → AreData values
data_are P s at content values range right is v m =
    let t = in_map (value_for content) (Some v) (wanted P s) (subst (λ (l : List (Option Json)). IsIn (Some v) l) is m) in
    (right_value_is_datum (wanted P s) at content t.0 v right t.1 (sym t.2), value_in_range content v t.0.eid t.0.attr range (sym t.2))

-- both, where the values were found
pub outputs_found : {E : Type 0} (P : Plan) (s : ℕ) (content : Json) (feed : Feed) (r : Result Outputs E) → IsFeedOf P s feed → IfOk r (λ outs. found_values outs ≡ map (value_for content) feed.wants) → IfOk r (λ outs. outs.given.items ≡ are_given (found_values outs) feed.triggers.items) → IfOk r (λ outs. AreOutputsIn P s content outs)
outputs_found P s content feed (Ok outs) of values given = outputs_are P s content feed outs of values given
outputs_found P s content feed (Err e) of values given = tt

pub data_found : {E : Type 0} (P : Plan) (s : ℕ) (at : Tier) (content : Json) (feed : Feed) (r : Result Outputs E) → IsFeedOf P s feed → is_in_range content ≡ true → wrong_data (wanted P s) at content ≡ None → IfOk r (λ outs. found_values outs ≡ map (value_for content) feed.wants) → IfOk r (λ outs. AreData (found_values outs))
data_found P s at content feed (Ok outs) of range right values = data_are P s at content (found_values outs) range right (values ∙ ap (map (value_for content)) of.wants)
data_found P s at content feed (Err e) of range right values = tt
