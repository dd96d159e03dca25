-- What a simulator is sent depends on the outputs that connections take, and on the set values, alone.
use Rattle.std.proofs.Common.{◌≡◌, ℕ, true, ◌&&◌, List, [], ◌++◌, length, map, filter, flat_map, Option, option_map, refl, ap, ◌==◌, arith, int_lt, ◌||◌}
use Rattle.std.proofs.lemmas.Bool.{eq-eqb}
use Rattle.std.specs.List.{range_with_len}
use Rattle.std.specs.Prelude.{option_to_list}
use Rattle.mk_base.specs.declared.tier.Tier.{Tier}
use Rattle.mk_base.specs.Lists.{IsIn, same_text}
use Rattle.mk_base.specs.Tiers.{delayed, up_to}
use Rattle.mk_plan.specs.declared.Plan.{Plan}
use Rattle.mk_plan.specs.declared.Conn.{Conn}
use Rattle.mk_plan.specs.declared.Message.{Message}
use Rattle.mk_plan.specs.declared.Message.TheVariants.{Ask, Success, Failure}
use Rattle.mk_plan.specs.Plans.{owner}
use Rattle.mk_plan.specs.declared.Place.{Place}
use Rattle.mk_plan.specs.Asks.{gives_attr, item_of}
use Rattle.mk_plan.specs.Deliveries.{Timed, Gift, Supply, deliveries, triggers, triggering_to}
use Rattle.mk_plan.specs.Inputs.{latest, pick, gifts_to, connections_to, connection_input, gift_input, put_all, inputs, value_at, is_since, initial_of}
use Rattle.mk_plan.specs.Sequential.{response}
use Rattle.mk_base.proofs.Lists.{in_filter, in_range, passes_some, flat_map_same}
use Rattle.mk_order.specs.Supplies.{SameSupply}
use Rattle.mk_order.proofs.LateActs.{same_answer}
use Rattle.mk_base.proofs.Bools.{and_holds}
use Rattle.mk_base.proofs.Items.{same_text_self}

pub given_by : (P : Plan) (c : Conn) → IsIn c P.conns → gives_attr P c.from c.from_attr ≡ true
given_by P c m = passes_some (λ (d : Conn). (d.from == c.from) && same_text d.from_attr c.from_attr) c P.conns m (and_holds (c.from == c.from) (same_text c.from_attr c.from_attr) (eq-eqb c.from c.from refl) (same_text_self c.from_attr))

module _ (P : Plan) (S T : Supply) (same : SameSupply P S T) where
  same_deliveries : (c : Conn) → IsIn c P.conns → deliveries P S c ≡ deliveries P T c
  same_deliveries c m = ap (λ (l : List Timed). filter (λ d. int_lt d.at.time P.until) (map (λ o. record { at = delayed o.at c.via; value = o.value }) l)) (same.outputs c.from c.from_attr (given_by P c m))

  pub triggers_by : (s : ℕ) → triggers P S s ≡ triggers P T s
  triggers_by s = flat_map_same (λ c. map (λ d. d.at) (deliveries P S c)) (λ c. map (λ d. d.at) (deliveries P T c)) (triggering_to P s)
      (λ c m. ap (map (λ (d : Timed). d.at)) (same_deliveries c (in_filter (λ (c : Conn). c.triggering && (owner P c.to == s)) c P.conns m).0))

  pub inputs_by : (s : ℕ) (p : Option Tier) (x : Tier) → inputs P S s p x ≡ inputs P T s p x
  inputs_by s p x = λ i. put_all (map (gift_input P) (gifts i)) (put_all (picks i) [])
    where
      gifts : gifts_to P S s p x ≡ gifts_to P T s p x
      gifts = flat_map_same _ _ (range_with_len 0 (length P.entities)) (λ e m.
          ap (λ (l : List Gift). map (λ (g : Gift). g.given) (filter (λ g. (owner P g.given.entity == s) && up_to g.at x && is_since p g.at) l)) (same.gifts e (let r = in_range e 0 (length P.entities) m in omega (arith, r))))

      picks : flat_map (λ c. option_to_list (option_map (connection_input P c) (pick P S c p x))) (connections_to P s) ≡ flat_map (λ c. option_to_list (option_map (connection_input P c) (pick P T c p x))) (connections_to P s)
      picks = flat_map_same _ _ (connections_to P s) (λ c m.
          ap (λ (l : List Timed). option_to_list (option_map (connection_input P c) (latest (filter (λ d. up_to d.at x && (c.persistent || is_since p d.at)) (initial_of c ++ l)))))
          (same_deliveries c (in_filter (λ (c : Conn). owner P c.to == s) c P.conns m).0))

  pub response_by : (s : ℕ) (x : Tier) (o : Place) (m : Message) → response P S s x o m ≡ response P T s x o m
  response_by s x o (Ask id name args named) = ap (item_of id) (same_answer P s (value_at S x) (value_at T x)
      (λ e attr lent given. ap (λ (l : List Timed). option_map (λ (t : Timed). t.value) (latest (filter (λ t. up_to t.at x) l))) (same.outputs e attr given)) name args named)
  response_by s x o (Success id content) = refl
  response_by s x o (Failure id text) = refl
