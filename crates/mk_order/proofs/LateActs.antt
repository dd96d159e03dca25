-- Acts that are too late for a step change neither its inputs nor the answers in it.
use Rattle.std.proofs.Common.{◌≡◌, ℕ, pos, Bool, true, false, ◌&&◌, ◌||◌, not, List, [], ◌∷◌, ◌++◌, length, map, filter, filter_map, flat_map, Option, Some, None, option_map, option_and_then, unwrap_or, refl, sym, ap, ◌∙◌, subst, inl, inr, true≢false, int_lt, if◌then◌else◌, ◌==◌}
use Rattle.std.proofs.lemmas.Bool.{eqb-true}
use Rattle.std.specs.List.{list_all, range_with_len}
use Rattle.std.specs.Prelude.{option_to_list}
use Rattle.mk_base.specs.declared.tier.Tier.{Tier}
use Rattle.mk_base.specs.declared.tier.Via.{Via}
use Rattle.mk_base.specs.declared.tier.Via.TheVariants.{Plain, Shift}
use Rattle.mk_base.specs.declared.json.Json.{Json}
use Rattle.mk_base.specs.Lists.{IsIn, Each}
use Rattle.mk_base.specs.Tiers.{delayed, up_to}
use Rattle.mk_base.specs.Texts.{object_text}
use Rattle.mk_base.proofs.TierOrder.{up_to_trans, delayed_keeps}
use Rattle.mk_plan.specs.declared.Plan.{Plan}
use Rattle.mk_plan.specs.declared.Conn.{Conn}
use Rattle.mk_plan.specs.declared.AsyncPair.{AsyncPair}
use Rattle.mk_plan.specs.declared.SetValue.{SetValue}
use Rattle.mk_plan.specs.declared.Item.TheVariants.{Step}
use Rattle.mk_plan.specs.declared.Message.{Message}
use Rattle.mk_plan.specs.declared.Message.TheVariants.{Ask, Success, Failure}
use Rattle.mk_plan.specs.Plans.{owner, has_pair, link_of, pair_links}
use Rattle.mk_plan.specs.Walks.{IsLink}
use Rattle.mk_plan.specs.declared.Place.{Place}
use Rattle.mk_plan.specs.Acts.{Act, Family, asks, made, output}
use Rattle.mk_plan.specs.Asks.{Named, Request, Get, Set, Related, RelatedOfEach, Lookup, AskAnswer, Answered, Refused, unknown_function, unknown_name, no_pair, entity_of, of_entity, gives_attr, knows, permits, ordered, values_of, content_text, sets_in, answer_request, answered_sets, is_function, request_of, answer, item_of, sets_of}
use Rattle.mk_plan.specs.Deliveries.{Timed, Gift, supply, outputs_of, gifts_of, deliveries}
use Rattle.mk_plan.specs.Inputs.{latest, is_since, initial_of, pick, gifts_to, connections_to, connection_input, gift_input, put_all, inputs, value_at}
use Rattle.mk_plan.specs.Sequential.{response, next_step, last_time}
use Rattle.mk_base.proofs.Lists.{in_map, map_in, in_filter, in_flat_map, flat_map_in, in_filter_map, in_front, in_back, filter_append, filter_none, append_nil, map_append, filter_map_append, flat_map_append, map_same, flat_map_same, filter_map_same, some_passes, in_each}
use Rattle.mk_order.specs.Supplies.{followed}
use Rattle.mk_order.proofs.RightActs.{made_no_earlier}
use Rattle.mk_base.proofs.Bools.{both_hold}

-- what i makes at y comes to s after x, over every link
abbrev pub IsLate : Plan → ℕ → Tier → ℕ → Tier → Type 0
IsLate P s x i y = (v : Via) → IsLink P i v s → up_to (delayed y v) x ≡ false

abbrev pub AllLate : Plan → ℕ → Tier → Family → Type 0
AllLate P s x U = (i : ℕ) → Each (λ (u : Act). IsLate P s x i u.at) (U i)

pub not_sooner : (x y z : Tier) → up_to y z ≡ true → up_to y x ≡ false → up_to z x ≡ false
not_sooner x y z h k = elim (up_to z x) as (λ b. up_to z x ≡ b → b ≡ false) [ true ↦ λ e. absurd (true≢false (sym (up_to_trans y z x h e) ∙ k)) | false ↦ λ e. refl ] refl

-- ---- asynchronous pairs are links

lender : (P : Plan) (from to : ℕ) → has_pair P from to ≡ true → (p : AsyncPair) × IsIn p P.asyncs × (p.from.0 ≡ from) × (p.to.0 ≡ to)
lender P from to h =
    let t = some_passes (λ (p : AsyncPair). (p.from.0 == from) && (p.to.0 == to)) P.asyncs h in
    let u = both_hold (t.0.from.0 == from) (t.0.to.0 == to) t.2 in
    (t.0, t.1, eqb-true _ _ u.0, eqb-true _ _ u.1)

pub pair_plain : (P : Plan) (from to : ℕ) → has_pair P from to ≡ true → IsLink P from Plain to
pair_plain P from to h =
    let t = lender P from to h in
    in_back _ (map (link_of P) P.conns) (flat_map pair_links P.asyncs) (flat_map_in pair_links t.0 _ P.asyncs t.1 (inl (λ i. record { from = sym t.2 i; via = Plain; to = sym t.3 i })))

pub pair_back : (P : Plan) (from to : ℕ) → has_pair P from to ≡ true → IsLink P to (Shift 1) from
pair_back P from to h =
    let t = lender P from to h in
    in_back _ (map (link_of P) P.conns) (flat_map pair_links P.asyncs) (flat_map_in pair_links t.0 _ P.asyncs t.1 (inr (inl (λ i. record { from = sym t.3 i; via = Shift 1; to = sym t.2 i }))))

-- ---- answered requests keep to the asynchronous pairs

pub all_pass : {X : Type 0} (p : X → Bool) (xs : List X) (x : X) → list_all p xs ≡ true → IsIn x xs → p x ≡ true
all_pass p [] x h m = absurd m
all_pass p (y ∷ ys) x h (inl e) = ap p e ∙ (both_hold (p y) (list_all p ys) h).0
all_pass p (y ∷ ys) x h (inr m) = all_pass p ys x (both_hold (p y) (list_all p ys) h).1 m

entity_passes : (P : Plan) (text : List ℕ) (test : ℕ → Bool) → of_entity P text test ≡ true → test (unwrap_or (entity_of P text) 0) ≡ true
entity_passes P text test h = go (entity_of P text) h
  where
    go : (o : Option ℕ) → unwrap_or (option_map test o) false ≡ true → test (unwrap_or o 0) ≡ true
    go None h = absurd (true≢false (sym h))
    go (Some e) h = h

set_permitted : (P : Plan) (s : ℕ) (r : Request) (w : SetValue) → permits P s r ≡ true → IsIn w (sets_in P r) → has_pair P (owner P w.entity) s ≡ true
set_permitted P s (Get wants) w h m = absurd m
set_permitted P s (Related text) w h m = absurd m
set_permitted P s (RelatedOfEach texts) w h m = absurd m
set_permitted P s (Set values) w h m =
    let v = in_flat_map _ w values m in
    let d = in_flat_map _ w v.0.value v.2 in
    let a = in_map _ w d.0.value d.2 in
    let p = all_pass _ values v.0 h v.1 in
    let q = all_pass _ v.0.value d.0 p d.1 in
    ap (λ (u : SetValue). has_pair P (owner P u.entity) s) a.2 ∙ entity_passes P d.0.name (λ e. has_pair P (owner P e) s) q

answered_permits : (P : Plan) (look : Lookup) (s : ℕ) (o : Option Request) (w : SetValue) → IsIn w (answered_sets (answer_request P look s o)) → has_pair P (owner P w.entity) s ≡ true
answered_permits P look s None w m = absurd m
answered_permits P look s (Some r) w m = known (knows P s r) m
  where
    permitted : (b : Bool) → permits P s r ≡ b → IsIn w (answered_sets (if not b then Refused no_pair else Answered (content_text P look r) (sets_in P r))) → has_pair P (owner P w.entity) s ≡ true
    permitted true e m = set_permitted P s r w e m
    permitted false e m = absurd m

    known : (b : Bool) → IsIn w (answered_sets (if not b then Refused unknown_name else if not (permits P s r) then Refused no_pair else Answered (content_text P look r) (sets_in P r))) → has_pair P (owner P w.entity) s ≡ true
    known true m = permitted (permits P s r) refl m
    known false m = absurd m

-- a set value of s goes to a simulator that lends to s
pub sets_lent : (P : Plan) (s : ℕ) (m : Message) (w : SetValue) → IsIn w (sets_of P s m) → has_pair P (owner P w.entity) s ≡ true
sets_lent P s (Success id content) w m = absurd m
sets_lent P s (Failure id text) w m = absurd m
sets_lent P s (Ask id name args named) w m = elim (is_function name) as (λ b. IsIn w (answered_sets (if not b then Refused unknown_function else answer_request P (λ e attr. None) s (request_of name args named))) → has_pair P (owner P w.entity) s ≡ true) [
  | true ↦ λ m. answered_permits P (λ e attr. None) s (request_of name args named) w m
  | false ↦ λ m. absurd m
] m

-- ---- answers over two look-ups

-- two look-ups that give the same of every output that can be asked of a lender of s
abbrev pub SameFor : Plan → ℕ → Lookup → Lookup → Type 0
SameFor P s look look' = (e : ℕ) (attr : List ℕ) → has_pair P (owner P e) s ≡ true → gives_attr P e attr ≡ true → look e attr ≡ look' e attr

module _ (P : Plan) (s : ℕ) (look look' : Lookup) (same : SameFor P s look look') where
  same_values : (w : Named (List (List ℕ))) → of_entity P w.name (λ e. has_pair P (owner P e) s) ≡ true → of_entity P w.name (λ e. list_all (gives_attr P e) w.value) ≡ true → values_of P look w ≡ values_of P look' w
  same_values w h k = go (entity_of P w.name) h k
    where
      go : (o : Option ℕ) → unwrap_or (option_map (λ e. has_pair P (owner P e) s) o) false ≡ true → unwrap_or (option_map (λ e. list_all (gives_attr P e) w.value) o) false ≡ true
          → filter_map (λ attr. option_map (λ text. let p : List ℕ × List ℕ = (attr, text) in p) (option_and_then (λ e. look e attr) o)) w.value
          ≡ filter_map (λ attr. option_map (λ text. let p : List ℕ × List ℕ = (attr, text) in p) (option_and_then (λ e. look' e attr) o)) w.value
      go None h k = refl
      go (Some e) h k = filter_map_same _ _ w.value (λ attr m. ap (option_map (λ text. let p : List ℕ × List ℕ = (attr, text) in p)) (same e attr h (all_pass (gives_attr P e) w.value attr k m)))

  same_content : (r : Request) → permits P s r ≡ true → knows P s r ≡ true → content_text P look r ≡ content_text P look' r
  same_content (Get wants) h k = ap object_text (map_same _ _ wants (λ w m. λ i. (w.name, object_text (ordered (same_values w (all_pass _ wants w h m) (all_pass _ wants w k m) i)))))
  same_content (Set values) h k = refl
  same_content (Related text) h k = refl
  same_content (RelatedOfEach texts) h k = refl

  same_request : (o : Option Request) → answer_request P look s o ≡ answer_request P look' s o
  same_request None = refl
  same_request (Some r) = by_tests (knows P s r) (permits P s r) refl refl
    where
      by_tests : (a b : Bool) → knows P s r ≡ a → permits P s r ≡ b
          → (if not a then Refused unknown_name else if not b then Refused no_pair else Answered (content_text P look r) (sets_in P r))
          ≡ (if not a then Refused unknown_name else if not b then Refused no_pair else Answered (content_text P look' r) (sets_in P r))
      by_tests false b k h = refl
      by_tests true false k h = refl
      by_tests true true k h = ap (λ (t : List ℕ). Answered t (sets_in P r)) (same_content r h k)

  -- the answer depends on what lenders give alone
  pub same_answer : (name : List ℕ) (args : List Json) (named : Json) → answer P look s name args named ≡ answer P look' s name args named
  same_answer name args named = ap (λ (a : AskAnswer). if not (is_function name) then Refused unknown_function else a) (same_request (request_of name args named))

-- ---- what late acts add

module _ (P : Plan) (s : ℕ) (x : Tier) (U : Family) (late : AllLate P s x U) where
  late_act : (i : ℕ) (u : Act) (v : Via) → IsIn u (U i) → IsLink P i v s → up_to (delayed u.at v) x ≡ false
  late_act i u v m l = in_each (λ (u : Act). IsLate P s x i u.at) u (U i) (late i) m v l

  late_made : (i : ℕ) (u : Act) (v : Via) → IsIn u (U i) → IsLink P i v s → up_to (delayed (made u) v) x ≡ false
  late_made i u v m l = not_sooner x (delayed u.at v) (delayed (made u) v) (delayed_keeps u.at (made u) v (made_no_earlier u)) (late_act i u v m l)

  -- an output of a late act
  late_output : (e : ℕ) (attr : List ℕ) (o : Timed) → IsIn o (outputs_of P e attr (U (owner P e))) → (u : Act) × IsIn u (U (owner P e)) × (o.at ≡ made u)
  late_output e attr o m =
      let t = in_filter_map (λ (a : Act). option_map (λ v. let r : Timed = record { at = made a; value = v } in r) (output P a e attr)) o (U (owner P e)) m in
      (t.0, t.1, made_at t.0 (output P t.0 e attr) t.2)
    where
      made_at : (u : Act) (w : Option (List ℕ)) → option_map (λ v. let r : Timed = record { at = made u; value = v } in r) w ≡ Some o → o.at ≡ made u
      made_at u None f = cc
      made_at u (Some v) f = cc

  module _ (A : Family) where
    -- what connections deliver up to x
    same_pick : (c : Conn) (p : Option Tier) → IsIn c (connections_to P s) → pick P (supply P (followed A U)) c p x ≡ pick P (supply P A) c p x
    same_pick c p m =
        let test : Timed → Bool = λ d. up_to d.at x && (c.persistent || is_since p d.at) in
        let early : Timed → Bool = λ d. int_lt d.at.time P.until in
        let bring : Timed → Timed = λ o. record { at = delayed o.at c.via; value = o.value } in
        let i : ℕ = owner P c.from in
        let old : List Timed = outputs_of P c.from c.from_attr (A i) in
        let new : List Timed = outputs_of P c.from c.from_attr (U i) in
        let split : deliveries P (supply P (followed A U)) c ≡ deliveries P (supply P A) c ++ filter early (map bring new) =
        ap (λ l. filter early (map bring l)) (filter_map_append _ (A i) (U i)) ∙ ap (filter early) (map_append bring old new) ∙ filter_append early (map bring old) (map bring new) in
        let none : filter test (filter early (map bring new)) ≡ [] = filter_none test _ (λ d n. too_late d n) in
        let whole : filter test (initial_of c ++ (deliveries P (supply P A) c ++ filter early (map bring new))) ≡ filter test (initial_of c ++ deliveries P (supply P A) c) =
        filter_append test (initial_of c) _ ∙ ap (λ l. filter test (initial_of c) ++ l) (filter_append test (deliveries P (supply P A) c) _ ∙ ap (λ l. filter test (deliveries P (supply P A) c) ++ l) none ∙ append_nil _) ∙ sym (filter_append test (initial_of c) _) in
        ap (λ l. latest (filter test (initial_of c ++ l))) split ∙ ap latest whole
      where
        link_here : IsLink P (owner P c.from) c.via s
        link_here =
            let t = in_filter (λ (c : Conn). owner P c.to == s) c P.conns m in
            let e : owner P c.to ≡ s = eqb-true (owner P c.to) s t.1 in
            subst (λ (i : ℕ). IsLink P (owner P c.from) c.via i) e (in_front _ (map (link_of P) P.conns) (flat_map pair_links P.asyncs) (map_in (link_of P) c P.conns t.0))

        too_late : (d : Timed) → IsIn d (filter (λ (d : Timed). int_lt d.at.time P.until) (map (λ (o : Timed). let r : Timed = record { at = delayed o.at c.via; value = o.value } in r) (outputs_of P c.from c.from_attr (U (owner P c.from)))))
            → (up_to d.at x && (c.persistent || is_since p d.at)) ≡ false
        too_late d n =
            let f = in_filter (λ (d : Timed). int_lt d.at.time P.until) d _ n in
            let o = in_map (λ (o : Timed). let r : Timed = record { at = delayed o.at c.via; value = o.value } in r) d _ f.0 in
            let u = late_output c.from c.from_attr o.0 o.1 in
            let l : up_to d.at x ≡ false = ap (λ (r : Timed). up_to r.at x) o.2 ∙ ap (λ (t : Tier). up_to (delayed t c.via) x) u.2 ∙ late_made (owner P c.from) u.0 c.via u.1 link_here in
            rw l refl

    -- what is set for s up to x
    same_gifts : (p : Option Tier) → gifts_to P (supply P (followed A U)) s p x ≡ gifts_to P (supply P A) s p x
    same_gifts p = flat_map_same _ _ (range_with_len 0 (length P.entities)) (λ e m.
        let test : Gift → Bool = λ g. (owner P g.given.entity == s) && up_to g.at x && is_since p g.at in
        let i : ℕ = owner P e in
        let none : filter test (gifts_of P e (U i)) ≡ [] = filter_none test _ (λ g n. too_late e g n) in
        ap (map (λ (g : Gift). g.given)) (ap (filter test) (flat_map_append _ (A i) (U i)) ∙ filter_append test (gifts_of P e (A i)) (gifts_of P e (U i)) ∙ ap (λ l. filter test (gifts_of P e (A i)) ++ l) none ∙ append_nil _))
      where
        all_three : (a b c : Bool) → (a ≡ true → b ≡ false) → (a && b && c) ≡ false
        all_three true b c h = let e : b ≡ false = h refl in rw e refl
        all_three false b c h = refl

        too_late : (e : ℕ) (g : Gift) → IsIn g (gifts_of P e (U (owner P e))) → ((owner P g.given.entity == s) && up_to g.at x && is_since p g.at) ≡ false
        too_late e g n =
            let u = in_flat_map _ g (U (owner P e)) n in
            let w = in_map _ g _ u.2 in
            let f = in_filter _ w.0 _ w.1 in
            let q = in_flat_map (sets_of P (owner P e)) w.0 (asks u.0) f.0 in
            let lent = sets_lent P (owner P e) q.0 w.0 q.2 in
            all_three (owner P g.given.entity == s) (up_to g.at x) (is_since p g.at) (λ here.
            let to_s : has_pair P s (owner P e) ≡ true = ap (λ (j : ℕ). has_pair P j (owner P e)) (sym (eqb-true _ _ here) ∙ ap (λ (h : Gift). owner P h.given.entity) w.2) ∙ lent in
            ap (λ (h : Gift). up_to h.at x) w.2 ∙ late_act (owner P e) u.0 (Shift 1) u.1 (pair_back P s (owner P e) to_s))

    pub same_inputs : (p : Option Tier) → inputs P (supply P (followed A U)) s p x ≡ inputs P (supply P A) s p x
    same_inputs p = λ i. put_all (map (gift_input P) (same_gifts p i)) (put_all (flat_map_same
        (λ (c : Conn). option_to_list (option_map (connection_input P c) (pick P (supply P (followed A U)) c p x))) (λ (c : Conn). option_to_list (option_map (connection_input P c) (pick P (supply P A) c p x)))
        (connections_to P s) (λ c m. ap (λ (t : Option Timed). option_to_list (option_map (connection_input P c) t)) (same_pick c p m)) i) [])

    same_values_at : (e : ℕ) (attr : List ℕ) → has_pair P (owner P e) s ≡ true → value_at (supply P (followed A U)) x e attr ≡ value_at (supply P A) x e attr
    same_values_at e attr lent =
        let test : Timed → Bool = λ t. up_to t.at x in
        let i : ℕ = owner P e in
        let none : filter test (outputs_of P e attr (U i)) ≡ [] = filter_none test _ (λ o n. let u = late_output e attr o n in ap (λ (t : Tier). up_to t x) u.2 ∙ late_made i u.0 Plain u.1 (pair_plain P i s lent)) in
        ap (λ l. option_map (λ (t : Timed). t.value) (latest l))
        (ap (filter test) (filter_map_append _ (A i) (U i)) ∙ filter_append test (outputs_of P e attr (A i)) (outputs_of P e attr (U i)) ∙ ap (λ l. filter test (outputs_of P e attr (A i)) ++ l) none ∙ append_nil _)

    pub step_same : (acts : List Act) → next_step P (supply P (followed A U)) s x acts ≡ next_step P (supply P A) s x acts
    step_same acts = ap (λ ins. Step x ins (pos 0)) (same_inputs (last_time acts))

    pub response_same : (o : Place) (m : Message) → response P (supply P (followed A U)) s x o m ≡ response P (supply P A) s x o m
    response_same o (Ask id name args named) = ap (item_of id) (same_answer P s (value_at (supply P (followed A U)) x) (value_at (supply P A) x) (λ e attr lent given. same_values_at e attr lent) name args named)
    response_same o (Success id content) = refl
    response_same o (Failure id text) = refl
