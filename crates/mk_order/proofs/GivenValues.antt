-- Set values that are given one at a time are those of each source entity, in order, so the inputs
-- are the same.
use Rattle.std.proofs.Common.{◌≡◌, ℕ, ◌<◌, Bool, true, false, ◌&&◌, not, List, [], ◌∷◌, ◌++◌, length, map, filter, flat_map, Option, Some, None, option_map, unwrap_or, refl, sym, ap, ◌∙◌, inl, inr, true≢false, ◌==◌, arith, if◌then◌else◌, find, ◌||◌}
use Rattle.std.proofs.lemmas.Bool.{eqb-true, eq-eqb}
use Rattle.std.specs.List.{list_all, list_any, range_with_len}
use Rattle.std.specs.Ordering.{ordering_then, is_eq}
use Rattle.std.specs.declared.cmp.Ordering.{Ordering}
use Rattle.std.specs.declared.cmp.Ordering.TheVariants.{Less, Equal, Greater}
use Rattle.std.specs.Cmp.Lexicographic.{texts_ties}
use Rattle.mk_base.specs.declared.tier.Tier.{Tier}
use Rattle.mk_base.specs.declared.tier.Via.TheVariants.{Shift}
use Rattle.mk_base.specs.Lists.{IsIn, same_text, text_order}
use Rattle.mk_base.specs.Tiers.{delayed, up_to}
use Rattle.mk_base.proofs.Lists.{some_same, none_some, filter_none, in_map, in_flat_map, in_either, in_range, range_in, passes_some, filter_append, map_append, append_nil}
use Rattle.mk_plan.specs.declared.Plan.{Plan}
use Rattle.mk_plan.specs.declared.Conn.{Conn}
use Rattle.mk_plan.specs.declared.Input.{Input}
use Rattle.mk_plan.specs.declared.SetValue.{SetValue}
use Rattle.mk_plan.specs.declared.Message.{Message}
use Rattle.mk_plan.specs.declared.Message.TheVariants.{Ask, Success, Failure}
use Rattle.mk_plan.specs.Plans.{owner, full_id}
use Rattle.mk_plan.specs.Acts.{Act, Family, asks}
use Rattle.mk_plan.specs.Asks.{Request, Get, Set, Related, RelatedOfEach, Lookup, Answered, Refused, no_pair, unknown_function, unknown_name, entity_of, of_entity, knows, permits, content_text, sets_in, answer_request, answered_sets, is_function, request_of, sets_of, set_values}
use Rattle.mk_plan.specs.Deliveries.{Timed, Gift, Supply, supply}
use Rattle.mk_plan.specs.Inputs.{is_since, gifts_to, input_order, gift_input, assemble}
use Rattle.mk_plan.specs.Sequential.{grown}
use Rattle.mk_order.proofs.Entries.{gifts_after, gifts_apart}
use Rattle.mk_order.proofs.Assembled.{else_by, last_with, assemble_by_last}
use Rattle.mk_base.proofs.Bools.{both_equal, both_hold}
use Rattle.mk_base.proofs.Guessing.{text_is}
use Rattle.mk_base.proofs.Items.{same_text_self}

-- ---- texts

equal_texts : (x y : List ℕ) → text_order x y ≡ Equal → x ≡ y
equal_texts x y e = text_is x y (texts_ties x y ∙ ap is_eq e)

-- inputs of one key have one source
pub one_source : (k n : Input) → input_order k n ≡ Equal → k.source ≡ n.source
one_source k n e = let t = both_equal (text_order k.eid n.eid) (ordering_then (text_order k.attr n.attr) (text_order k.source n.source)) e in
    equal_texts k.source n.source (both_equal (text_order k.attr n.attr) (text_order k.source n.source) t.1).1

-- ---- the last of a key among gifts

module _ (P : Plan) where
  abbrev gift_of : Gift → Input
  gift_of g = gift_input P g.given

  -- the last input of this key that these gifts make
  abbrev last_gift : Input → List Gift → Option Input
  last_gift k l = last_with input_order k (map gift_of l)

  abbrev or_last : Option Input → Option Input → Option Input
  or_last None o = o
  or_last (Some m) o = Some m

  or_else_by : (b o : Option Input) (c : Ordering) (n : Input) → else_by (or_last b o) c n ≡ or_last b (else_by o c n)
  or_else_by None o c n = refl
  or_else_by (Some m) o c n = refl

  last_append : (k : Input) (xs ys : List Gift) → last_gift k (xs ++ ys) ≡ or_last (last_gift k ys) (last_gift k xs)
  last_append k [] ys = go (last_gift k ys)
    where
      go : (o : Option Input) → o ≡ or_last o None
      go None = refl
      go (Some m) = refl
  last_append k (x ∷ xs) ys = ap (λ (o : Option Input). else_by o (input_order k (gift_of x)) (gift_of x)) (last_append k xs ys) ∙ or_else_by (last_gift k ys) (last_gift k xs) (input_order k (gift_of x)) (gift_of x)

  -- two tests that agree on gifts of the key
  last_by : (k : Input) (p q : Gift → Bool) (l : List Gift) → ((g : Gift) → IsIn g l → input_order k (gift_of g) ≡ Equal → p g ≡ q g) → last_gift k (filter p l) ≡ last_gift k (filter q l)
  last_by k p q [] same = refl
  last_by k p q (g ∷ l) same = go (last_by k p q l (λ h m. same h (inr m))) (p g) refl (q g) refl (input_order k (gift_of g)) refl
    where
      skipped : (o : Option Input) (c : Ordering) (n : Input) → (c ≡ Equal → ⊥) → else_by o c n ≡ o
      skipped (Some m) c n apart = refl
      skipped None Less n apart = refl
      skipped None Equal n apart = absurd (apart refl)
      skipped None Greater n apart = refl

      go : last_gift k (filter p l) ≡ last_gift k (filter q l) → (a : Bool) → p g ≡ a → (b : Bool) → q g ≡ b → (c : Ordering) → input_order k (gift_of g) ≡ c
          → last_gift k (if a then g ∷ filter p l else filter p l) ≡ last_gift k (if b then g ∷ filter q l else filter q l)
      go rest true e true f c d = ap (λ (o : Option Input). else_by o (input_order k (gift_of g)) (gift_of g)) rest
      go rest false e false f c d = rest
      go rest true e false f Equal d = absurd (true≢false (sym e ∙ same g (inl refl) d ∙ f))
      go rest true e false f Less d = ap (λ (c : Ordering). else_by (last_gift k (filter p l)) c (gift_of g)) d ∙ skipped _ Less _ (λ z. less_equal z) ∙ rest
        where
          less_equal : Less ≡ Equal → ⊥
          less_equal z = cc
      go rest true e false f Greater d = ap (λ (c : Ordering). else_by (last_gift k (filter p l)) c (gift_of g)) d ∙ skipped _ Greater _ (λ z. greater_equal z) ∙ rest
        where
          greater_equal : Greater ≡ Equal → ⊥
          greater_equal z = cc
      go rest false e true f Equal d = absurd (true≢false (sym f ∙ sym (same g (inl refl) d) ∙ e))
      go rest false e true f Less d = rest ∙ sym (ap (λ (c : Ordering). else_by (last_gift k (filter q l)) c (gift_of g)) d ∙ skipped _ Less _ (λ z. less_equal z))
        where
          less_equal : Less ≡ Equal → ⊥
          less_equal z = cc
      go rest false e true f Greater d = rest ∙ sym (ap (λ (c : Ordering). else_by (last_gift k (filter q l)) c (gift_of g)) d ∙ skipped _ Greater _ (λ z. greater_equal z))
        where
          greater_equal : Greater ≡ Equal → ⊥
          greater_equal z = cc

  -- a list in which nobody passes
  none_pass : (l : List Gift) → filter (λ (g : Gift). false) l ≡ []
  none_pass [] = refl
  none_pass (g ∷ l) = none_pass l

  filter_both : (p q : Gift → Bool) (l : List Gift) → filter p (filter q l) ≡ filter (λ g. q g && p g) l
  filter_both p q [] = refl
  filter_both p q (g ∷ l) = go (filter_both p q l) (q g) refl
    where
      go : filter p (filter q l) ≡ filter (λ g. q g && p g) l → (b : Bool) → q g ≡ b → filter p (if b then g ∷ filter q l else filter q l) ≡ (if b && p g then g ∷ filter (λ g. q g && p g) l else filter (λ g. q g && p g) l)
      go rest true e = ap (λ (r : List Gift). if p g then g ∷ r else r) rest
      go rest false e = rest

  -- ---- set values one at a time

  -- these gifts, in the order in which they were given, are those of each source entity
  pub record AreGiven (S : Supply) (all : List Gift) : Type 0 where
    pub by_source : (e : ℕ) → e < length P.entities → filter (λ g. same_text g.given.source (full_id P e)) all ≡ S.gifts e
    pub sourced : (g : Gift) → IsIn g all → (e : ℕ) × (e < length P.entities) × (g.given.source ≡ full_id P e)

  -- those for a step of s at x after a step at p
  abbrev pub is_for : ℕ → Option Tier → Tier → Gift → Bool
  is_for s p x g = (owner P g.given.entity == s) && up_to g.at x && is_since p g.at

  module _ (S : Supply) (all : List Gift) (given : AreGiven S all) (s : ℕ) (p : Option Tier) (x : Tier) where
    abbrev of_source : ℕ → List Gift
    of_source e = filter (is_for s p x) (S.gifts e)

    last_of_source : (k : Input) (e : ℕ) → e < length P.entities → (b : Bool) → same_text k.source (full_id P e) ≡ b → last_gift k (of_source e) ≡ (if b then last_gift k (filter (is_for s p x) all) else None)
    last_of_source k e low b is = ap (λ (l : List Gift). last_gift k (filter (is_for s p x) l)) (sym (given.by_source e low)) ∙ ap (last_gift k) (filter_both (is_for s p x) (λ g. same_text g.given.source (full_id P e)) all) ∙ go b is
      where
        go : (b : Bool) → same_text k.source (full_id P e) ≡ b → last_gift k (filter (λ g. same_text g.given.source (full_id P e) && is_for s p x g) all) ≡ (if b then last_gift k (filter (is_for s p x) all) else None)
        go true is = last_by k (λ g. same_text g.given.source (full_id P e) && is_for s p x g) (is_for s p x) all
            (λ g m d. ap (λ (c : Bool). c && is_for s p x g) (ap (λ (t : List ℕ). same_text t (full_id P e)) (sym (one_source k (gift_of g) d)) ∙ is))
        go false is = last_by k (λ g. same_text g.given.source (full_id P e) && is_for s p x g) (λ g. false) all
            (λ g m d. ap (λ (c : Bool). c && is_for s p x g) (ap (λ (t : List ℕ). same_text t (full_id P e)) (sym (one_source k (gift_of g) d)) ∙ is)) ∙ ap (last_gift k) (none_pass all)

    last_of_sources : (k : Input) (es : List ℕ) → ((e : ℕ) → IsIn e es → e < length P.entities) → last_gift k (flat_map of_source es) ≡ (if list_any (λ e. same_text k.source (full_id P e)) es then last_gift k (filter (is_for s p x) all) else None)
    last_of_sources k [] low = refl
    last_of_sources k (e ∷ es) low = last_append k (of_source e) (flat_map of_source es) ∙ (λ i. or_last (last_of_sources k es (λ f m. low f (inr m)) i) (last_of_source k e (low e (inl refl)) (same_text k.source (full_id P e)) refl i))
        ∙ join (last_gift k (filter (is_for s p x) all)) (same_text k.source (full_id P e)) (list_any (λ e. same_text k.source (full_id P e)) es)
      where
        join : (L : Option Input) (a b : Bool) → or_last (if b then L else None) (if a then L else None) ≡ (if a || b then L else None)
        join None true true = refl
        join (Some m) true true = refl
        join None false true = refl
        join (Some m) false true = refl
        join L true false = refl
        join L false false = refl

    -- the last of each key is the same
    last_is : (k : Input) → last_gift k (flat_map of_source (range_with_len 0 (length P.entities))) ≡ last_gift k (filter (is_for s p x) all)
    last_is k = last_of_sources k (range_with_len 0 (length P.entities)) (λ e m. let r = in_range e 0 (length P.entities) m in omega (arith, r)) ∙ go (list_any (λ e. same_text k.source (full_id P e)) (range_with_len 0 (length P.entities))) refl
      where
        go : (b : Bool) → list_any (λ e. same_text k.source (full_id P e)) (range_with_len 0 (length P.entities)) ≡ b → (if b then last_gift k (filter (is_for s p x) all) else None) ≡ last_gift k (filter (is_for s p x) all)
        go true e = refl
        go false e = sym (last_by k (is_for s p x) (λ g. false) all (λ g m d. absurd (unnamed g m d)) ∙ none)
          where
            none : last_gift k (filter (λ (g : Gift). false) all) ≡ None
            none = ap (last_gift k) (none_pass all)

            unnamed : (g : Gift) → IsIn g all → input_order k (gift_of g) ≡ Equal → ⊥
            unnamed g m d =
                let t = given.sourced g m in
                let same : same_text k.source (full_id P t.0) ≡ true = ap (λ (u : List ℕ). same_text u (full_id P t.0)) (one_source k (gift_of g) d ∙ t.2) ∙ same_text_self (full_id P t.0) in
                true≢false (sym (passes_some (λ e. same_text k.source (full_id P e)) t.0 (range_with_len 0 (length P.entities)) (range_in t.0 0 (length P.entities) (omega arith) (omega (arith, t.1))) same) ∙ e)

    each_input : (l : List Gift) → map (gift_input P) (map (λ (g : Gift). g.given) l) ≡ map gift_of l
    each_input [] = refl
    each_input (g ∷ l) = ap (λ (r : List Input). gift_of g ∷ r) (each_input l)

    all_inputs : (es : List ℕ) → map (gift_input P) (flat_map (λ e. map (λ (g : Gift). g.given) (of_source e)) es) ≡ map gift_of (flat_map of_source es)
    all_inputs [] = refl
    all_inputs (e ∷ es) = map_append (gift_input P) (map (λ (g : Gift). g.given) (of_source e)) (flat_map (λ e. map (λ (g : Gift). g.given) (of_source e)) es)
        ∙ (λ i. each_input (of_source e) i ++ all_inputs es i) ∙ sym (map_append gift_of (of_source e) (flat_map of_source es))

    -- the inputs of a step are those over the set values in the order in which they were given
    pub assemble_given : (picked : Conn → Option Timed) → assemble P s picked (gifts_to P S s p x) ≡ assemble P s picked (map (λ (g : Gift). g.given) (filter (is_for s p x) all))
    assemble_given picked = assemble_by_last P s picked (gifts_to P S s p x) (map (λ (g : Gift). g.given) (filter (is_for s p x) all))
        (λ k. ap (last_with input_order k) (all_inputs (range_with_len 0 (length P.entities))) ∙ last_is k ∙ sym (ap (last_with input_order k) (each_input (filter (is_for s p x) all))))

  -- ---- an act gives its values at its end

  find_some : {X : Type 0} (p : X → Bool) (x : X) (xs : List X) → find p xs ≡ Some x → IsIn x xs × (p x ≡ true)
  find_some p x [] e = absurd (none_some e)
  find_some p x (y ∷ ys) e = go (find_some p x ys) (p y) refl e
    where
      go : (find p ys ≡ Some x → IsIn x ys × (p x ≡ true)) → (b : Bool) → p y ≡ b → (if b then Some y else find p ys) ≡ Some x → IsIn x (y ∷ ys) × (p x ≡ true)
      go rest true h e = let same : y ≡ x = some_same e in (inl (sym same), ap p (sym same) ∙ h)
      go rest false h e = let t = rest e in (inr t.0, t.1)

  named_entity : (text : List ℕ) (test : ℕ → Bool) → of_entity P text test ≡ true → (e : ℕ) × (e < length P.entities) × (test e ≡ true) × (text ≡ full_id P e)
  named_entity text test h = go (entity_of P text) refl h
    where
      go : (o : Option ℕ) → entity_of P text ≡ o → unwrap_or (option_map test o) false ≡ true → (e : ℕ) × (e < length P.entities) × (test e ≡ true) × (text ≡ full_id P e)
      go None e h = absurd (true≢false (sym h))
      go (Some n) e h =
          let t = find_some (λ e. same_text (full_id P e) text) n (range_with_len 0 (length P.entities)) e in
          (n, (let r = in_range n 0 (length P.entities) t.0 in omega (arith, r)), h, sym (text_is (full_id P n) text t.1))

  every_passes : {X : Type 0} (p : X → Bool) (xs : List X) (x : X) → list_all p xs ≡ true → IsIn x xs → p x ≡ true
  every_passes p [] x h m = absurd m
  every_passes p (y ∷ ys) x h (inl e) = ap p e ∙ (both_hold (p y) (list_all p ys) h).0
  every_passes p (y ∷ ys) x h (inr m) = every_passes p ys x (both_hold (p y) (list_all p ys) h).1 m

  -- the entity of s that a value is set under
  pub record IsUnder (s : ℕ) (w : SetValue) : Type 0 where
    pub entity : ℕ
    pub below : entity < length P.entities
    pub owned : owner P entity ≡ s
    pub named : w.source ≡ full_id P entity

  set_under : (s : ℕ) (r : Request) (w : SetValue) → knows P s r ≡ true → IsIn w (sets_in P r) → IsUnder s w
  set_under s (Get wants) w h m = absurd m
  set_under s (Related text) w h m = absurd m
  set_under s (RelatedOfEach texts) w h m = absurd m
  set_under s (Set values) w h m =
      let v = in_flat_map _ w values m in
      let d = in_flat_map _ w v.0.value v.2 in
      let a = in_map _ w d.0.value d.2 in
      let p = every_passes _ values v.0 h v.1 in
      let t = named_entity v.0.name (λ e. owner P e == s) (both_hold (of_entity P v.0.name (λ e. owner P e == s)) _ p).0 in
      record { entity = t.0; below = t.1; owned = eqb-true (owner P t.0) s t.2; named = ap (λ (u : SetValue). u.source) a.2 ∙ t.3 }

  answered_under : (look : Lookup) (s : ℕ) (o : Option Request) (w : SetValue) → IsIn w (answered_sets (answer_request P look s o)) → IsUnder s w
  answered_under look s None w m = absurd m
  answered_under look s (Some r) w m = known (knows P s r) refl m
    where
      permitted : knows P s r ≡ true → (b : Bool) → IsIn w (answered_sets (if not b then Refused no_pair else Answered (content_text P look r) (sets_in P r))) → IsUnder s w
      permitted e true m = set_under s r w e m
      permitted e false m = absurd m

      known : (b : Bool) → knows P s r ≡ b → IsIn w (answered_sets (if not b then Refused unknown_name else if not (permits P s r) then Refused no_pair else Answered (content_text P look r) (sets_in P r))) → IsUnder s w
      known true e m = permitted e (permits P s r) m
      known false e m = absurd m

  pub message_under : (s : ℕ) (m : Message) (w : SetValue) → IsIn w (sets_of P s m) → IsUnder s w
  message_under s (Ask id name args named) w m = go (is_function name) m
    where
      go : (b : Bool) → IsIn w (answered_sets (if not b then Refused unknown_function else answer_request P (λ e attr. None) s (request_of name args named))) → IsUnder s w
      go true m = answered_under (λ e attr. None) s (request_of name args named) w m
      go false m = absurd m
  message_under s (Success id content) w m = absurd m
  message_under s (Failure id text) w m = absurd m

  -- a value that a turn of s sets is set under an entity of s
  pub values_under : (s : ℕ) (a : Act) (w : SetValue) → IsIn w (set_values P s a) → IsUnder s w
  values_under s a w m = let t = in_flat_map (sets_of P s) w (asks a) m in message_under s t.0 w t.2

  -- the gifts of an act of s, in order
  abbrev pub gifts_now : ℕ → Act → List Gift
  gifts_now s f = map (λ w. record { at = delayed f.at (Shift 1); given = w }) (set_values P s f)

  pub filter_map_gifts : (test : SetValue → Bool) (f : Act) (ws : List SetValue) → filter (λ (g : Gift). test g.given) (map (λ w. record { at = delayed f.at (Shift 1); given = w }) ws) ≡ map (λ w. record { at = delayed f.at (Shift 1); given = w }) (filter test ws)
  filter_map_gifts test f [] = refl
  filter_map_gifts test f (w ∷ ws) = go (filter_map_gifts test f ws) (test w)
    where
      go : filter (λ (g : Gift). test g.given) (map (λ w. record { at = delayed f.at (Shift 1); given = w }) ws) ≡ map (λ w. record { at = delayed f.at (Shift 1); given = w }) (filter test ws) → (b : Bool)
          → (if b then (let g : Gift = record { at = delayed f.at (Shift 1); given = w } in g) ∷ filter (λ (g : Gift). test g.given) (map (λ w. record { at = delayed f.at (Shift 1); given = w }) ws) else filter (λ (g : Gift). test g.given) (map (λ w. record { at = delayed f.at (Shift 1); given = w }) ws))
          ≡ map (λ w. record { at = delayed f.at (Shift 1); given = w }) (if b then w ∷ filter test ws else filter test ws)
      go rest true = ap (λ (l : List Gift). (let g : Gift = record { at = delayed f.at (Shift 1); given = w } in g) ∷ l) rest
      go rest false = rest

  -- with one more act of s, whose values come behind
  pub given_after : ((d e : ℕ) → d < length P.entities → e < length P.entities → full_id P d ≡ full_id P e → owner P d ≡ owner P e) → (A : Family) (s : ℕ) (f : Act) (all : List Gift) → AreGiven (supply P A) all → AreGiven (supply P (grown A s f)) (all ++ gifts_now s f)
  given_after apart A s f all given = record {
    by_source = λ e low. filter_append (λ g. same_text g.given.source (full_id P e)) all (gifts_now s f) ∙ ap (λ (l : List Gift). l ++ filter (λ g. same_text g.given.source (full_id P e)) (gifts_now s f)) (given.by_source e low) ∙ behind e low (owner P e == s) refl;
    sourced = λ g m. elim (in_either g all (gifts_now s f) m) [
      | inl o ↦ given.sourced g o
      | inr n ↦ let t = in_map (λ w. let g : Gift = record { at = delayed f.at (Shift 1); given = w } in g) g (set_values P s f) n in
          let u = values_under s f t.0 t.1 in (u.entity, u.below, ap (λ (h : Gift). h.given.source) t.2 ∙ u.named)
    ];
  }
    where
      behind : (e : ℕ) → e < length P.entities → (b : Bool) → (owner P e == s) ≡ b → (supply P A).gifts e ++ filter (λ (g : Gift). same_text g.given.source (full_id P e)) (gifts_now s f) ≡ (supply P (grown A s f)).gifts e
      behind e low true is =
          let own : owner P e ≡ s = eqb-true (owner P e) s is in
          ap (λ (l : List Gift). (supply P A).gifts e ++ l) (filter_map_gifts (λ w. same_text w.source (full_id P e)) f (set_values P s f)
          ∙ ap (λ (i : ℕ). map (λ w. let g : Gift = record { at = delayed f.at (Shift 1); given = w } in g) (filter (λ w. same_text w.source (full_id P e)) (set_values P i f))) (sym own)
          ∙ sym (append_nil (map (λ w. let g : Gift = record { at = delayed f.at (Shift 1); given = w } in g) (filter (λ w. same_text w.source (full_id P e)) (set_values P (owner P e) f)))))
          ∙ sym (gifts_after P s f A e own)
      behind e low false is =
          let other : owner P e ≡ s → ⊥ = λ own. true≢false (sym (eq-eqb (owner P e) s own) ∙ is) in
          ap (λ (l : List Gift). (supply P A).gifts e ++ l) (filter_none (λ (g : Gift). same_text g.given.source (full_id P e)) (gifts_now s f) (λ g m. unlike g m (same_text g.given.source (full_id P e)) refl other))
          ∙ append_nil ((supply P A).gifts e) ∙ sym (gifts_apart P s f A e other)
        where
          unlike : (g : Gift) → IsIn g (gifts_now s f) → (b : Bool) → same_text g.given.source (full_id P e) ≡ b → (owner P e ≡ s → ⊥) → same_text g.given.source (full_id P e) ≡ false
          unlike g m false h other = h
          unlike g m true h other =
              let t = in_map (λ w. let g : Gift = record { at = delayed f.at (Shift 1); given = w } in g) g (set_values P s f) m in
              let u = values_under s f t.0 t.1 in
              let same : full_id P e ≡ full_id P u.entity = sym (text_is g.given.source (full_id P e) h) ∙ ap (λ (k : Gift). k.given.source) t.2 ∙ u.named in
              absurd (other (apart e u.entity low u.below same ∙ u.owned))

  -- before any act nothing is given
  pub none_given : AreGiven (supply P (λ i. [])) []
  none_given = record { by_source = λ e low. refl; sourced = λ g m. absurd m }
