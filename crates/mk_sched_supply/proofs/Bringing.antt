-- The outputs that data bring, want by want: after all wants they are those of the act.
use Rattle.std.proofs.Common.{◌≡◌, ℕ, ◌+◌, Bool, true, false, List, [], ◌∷◌, ◌++◌, take, flat_map, slice_get, Option, Some, None, option_map, option_and_then, refl, sym, ap, ◌∙◌, subst, add-one, true≢false, ◌==◌, ◌&&◌, if◌then◌else◌}
use Rattle.std.specs.Prelude.{option_to_list}
use Rattle.std.proofs.lemmas.Bool.{eqb-true, eq-eqb}
use Rattle.mk_base.specs.declared.json.Json.{Json}
use Rattle.mk_base.specs.declared.tier.Tier.{Tier}
use Rattle.mk_base.specs.Lists.{IsIn}
use Rattle.mk_base.specs.Texts.{text_of}
use Rattle.mk_base.specs.Trees.{member}
use Rattle.mk_base.proofs.Lists.{append_nil, flat_map_append}
use Rattle.mk_plan.specs.declared.Plan.{Plan}
use Rattle.mk_plan.specs.declared.Want.{Want}
use Rattle.mk_plan.specs.Plans.{owner, eid_of}
use Rattle.mk_plan.specs.Turns.{wanted, value_for}
use Rattle.mk_plan.specs.Acts.{Act, Family, made, output, outputs_in}
use Rattle.mk_plan.specs.Asks.{gives_attr}
use Rattle.mk_plan.specs.Deliveries.{Timed, supply, outputs_of}
use Rattle.mk_plan.specs.Sequential.{grown}
use Rattle.mk_order.proofs.Entries.{outputs_after, outputs_apart, output_given, output_missing}
use Rattle.mk_plan_judge.proofs.Taken.{wanted_sorted}
use Rattle.mk_sched_supply.proofs.Wanting.{is_want, of_want, one_of, given_is_wanted}
use Rattle.mk_base.proofs.Items.{take_get}

-- the output that a value makes
abbrev pub made_of : Tier → Option Json → List Timed
made_of x o = option_to_list (option_map (λ v. record { at = x; value = text_of v }) o)

module _ (P : Plan) (s : ℕ) (x : Tier) (content : Json) where
  -- the outputs of an entity's attribute that the data bring for these wants of s
  abbrev pub brought : List Want → ℕ → List ℕ → List Timed
  brought ws e attr = if owner P e == s then flat_map (of_want (λ w. made_of x (value_for content w)) (record { eid = eid_of P e; attr = attr })) ws else []

  -- one want more
  pub brought_more : (k : ℕ) (w : Want) → slice_get (wanted P s) k ≡ Some w → (e : ℕ) (attr : List ℕ)
      → brought (take (k + 1) (wanted P s)) e attr ≡ brought (take k (wanted P s)) e attr ++ (if (owner P e == s) && is_want (record { eid = eid_of P e; attr = attr }) w then made_of x (value_for content w) else [])
  brought_more k w at e attr = ap (λ l. brought l e attr) (ap (λ (n : ℕ). take n (wanted P s)) (add-one k) ∙ take_get (wanted P s) k w at) ∙ go (owner P e == s)
    where
      v : Want
      v = record { eid = eid_of P e; attr = attr }

      go : (b : Bool) → (if b then flat_map (of_want (λ w. made_of x (value_for content w)) v) (take k (wanted P s) ++ w ∷ []) else [])
          ≡ (if b then flat_map (of_want (λ w. made_of x (value_for content w)) v) (take k (wanted P s)) else []) ++ (if b && is_want v w then made_of x (value_for content w) else [])
      go true = flat_map_append (of_want (λ w. made_of x (value_for content w)) v) (take k (wanted P s)) (w ∷ []) ∙ ap (λ l. flat_map (of_want (λ w. made_of x (value_for content w)) v) (take k (wanted P s)) ++ l) (append_nil _)
      go false = refl

  module _ (A : Family) (f : Act) (is : outputs_in f ≡ Some content) (when : x ≡ made f) where
    text_for : (e : ℕ) (attr : List ℕ) → output P f e attr ≡ option_map text_of (value_for content (record { eid = eid_of P e; attr = attr }))
    text_for e attr = ap (λ (o : Option Json). option_map text_of (option_and_then (member attr) (option_and_then (member (eid_of P e)) o))) is

    given_for : (e : ℕ) (attr : List ℕ) (o : Option Json) → output P f e attr ≡ option_map text_of o → made_of x o ≡ outputs_of P e attr (f ∷ [])
    given_for e attr None q = sym (output_missing P s f e attr q)
    given_for e attr (Some v) q = ap (λ (y : Tier). (let t : Timed = record { at = y; value = text_of v } in t) ∷ []) when ∙ sym (output_given P s f e attr (text_of v) q)

    -- all wants
    pub brought_all : (e : ℕ) (attr : List ℕ) → gives_attr P e attr ≡ true → (supply P A).outputs e attr ++ brought (wanted P s) e attr ≡ (supply P (grown A s f)).outputs e attr
    brought_all e attr given = go (owner P e == s) refl
      where
        v : Want
        v = record { eid = eid_of P e; attr = attr }

        go : (b : Bool) → (owner P e == s) ≡ b → (supply P A).outputs e attr ++ (if b then flat_map (of_want (λ w. made_of x (value_for content w)) v) (wanted P s) else []) ≡ (supply P (grown A s f)).outputs e attr
        go true q =
            let own : owner P e ≡ s = eqb-true (owner P e) s q in
            ap (λ (l : List Timed). (supply P A).outputs e attr ++ l) (one_of (λ w. made_of x (value_for content w)) v (wanted P s) (wanted_sorted P s) (subst (λ (i : ℕ). IsIn v (wanted P i)) own (given_is_wanted P e attr given)) ∙ given_for e attr (value_for content v) (text_for e attr))
            ∙ sym (outputs_after P s f A e attr own)
        go false q = append_nil _ ∙ sym (outputs_apart P s f A e attr (λ own. true≢false (sym (eq-eqb (owner P e) s own) ∙ q)))
