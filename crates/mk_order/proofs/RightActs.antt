-- Outputs are made no earlier than their turn, next times are later, and each due time over right
-- acts is visited.
use Rattle.std.proofs.Common.{◌≡◌, ℕ, ◌+◌, ◌<◌, ℤ, pos, ◌≤ℤ◌, ◌<ℤ◌, nat_abs, Bool, true, false, cond, List, [], ◌∷◌, map, filter_map, All, Option, Some, None, is_some, option_map, option_and_then, unwrap_or, slice_get, refl, sym, ap, ◌∙◌, subst, inl, inr, arith, true≢false, int_lt, int_le, nat_le, if◌then◌else◌, ◌==◌}
use Rattle.std.proofs.lemmas.Int.{ints}
use Rattle.std.proofs.lemmas.Bool.{leb-true}
use Rattle.mk_base.specs.declared.SimKind.{SimKind}
use Rattle.mk_base.specs.declared.tier.Tier.{Tier}
use Rattle.mk_base.specs.declared.json.Json.{Json}
use Rattle.mk_base.specs.Lists.{IsIn, Each}
use Rattle.mk_base.specs.Tiers.{delayed, moment, up_to, IsUpTo}
use Rattle.mk_base.specs.Trees.{whole_in}
use Rattle.mk_base.proofs.TierOrder.{is_up_to, up_to_self, up_to_trans, delayed_no_earlier}
use Rattle.mk_plan.specs.declared.Plan.{Plan}
use Rattle.mk_plan.specs.declared.PlanSim.{PlanSim}
use Rattle.mk_plan.specs.declared.Message.{Message}
use Rattle.mk_plan.specs.declared.Message.TheVariants.{Ask, Success, Failure}
use Rattle.mk_plan.specs.Plans.{sim_count, kind_of, is_event_based, IsValidPlan}
use Rattle.mk_plan.specs.Readings.{then_on}
use Rattle.mk_plan.specs.declared.Place.{Place}
use Rattle.mk_plan.specs.declared.Place.TheVariants.{Stepping}
use Rattle.mk_plan.specs.declared.Cause.TheVariants.{Wrong, Failed}
use Rattle.mk_plan.specs.Turns.{unasked, not_a_time, no_next, not_later, first_cause, wrong_next, is_number, is_wrong, next_place}
use Rattle.mk_plan.specs.Acts.{Act, Family, content_of, next_time, output_time, made}
use Rattle.mk_plan.specs.Due.{is_in_run, first_times, is_due}
use Rattle.mk_plan.specs.Sequential.{used, act, rest, Visit, visits, at_tier}
use Rattle.mk_base.proofs.Lists.{in_either, in_map, in_each, all_at, all_in, get_is}
use Rattle.mk_plan.specs.Walks.{link}
use Rattle.mk_order.proofs.VisitOrder.{visits_have, visits_are, edge_width}
use Rattle.mk_order.proofs.Reasons.{due_why}
use Rattle.mk_base.specs.Limits.{latest_end}
use Rattle.mk_base.proofs.Bools.{both_hold}

pub made_no_earlier : (a : Act) → up_to a.at (made a) ≡ true
made_no_earlier a = at_time (output_time a)
  where
    at_time : (t : Option ℤ) → up_to a.at (unwrap_or (option_map (λ (o : ℤ). if int_lt a.at.time o then moment o else a.at) t) a.at) ≡ true
    at_time None = up_to_self a.at
    at_time (Some o) = elim (int_lt a.at.time o) as (λ b. int_lt a.at.time o ≡ b → up_to a.at (if b then moment o else a.at) ≡ true) [ true ↦ λ e. grind (arith, ints) | false ↦ λ e. up_to_self a.at ] refl

-- at or after 0, and before the next time that it returned
pub record IsRight (a : Act) : Type 0 where
  pub time : pos 0 ≤ℤ a.at.time
  pub next : (n : ℤ) → next_time a ≡ Some n → a.at.time <ℤ n

third_fails : (a b c : Bool) (i j k : ℕ) → is_some (first_cause ((a, i) ∷ (b, j) ∷ (c, k) ∷ [])) ≡ false → c ≡ false
third_fails true b c i j k h = absurd (true≢false h)
third_fails false true c i j k h = absurd (true≢false h)
third_fails false false true i j k h = absurd (true≢false h)
third_fails false false false i j k h = refl

next_later : (kind : SimKind) (x : Tier) (content : Json) (n : ℤ) → is_some (wrong_next kind x content) ≡ false → whole_in content ≡ Some n → x.time <ℤ n
next_later kind x content n h e =
    let t : is_number (λ n. int_le n x.time) content ≡ false = third_fails _ _ (is_number (λ n. int_le n x.time) content) not_a_time no_next not_later h in
    let late : int_le n x.time ≡ false = sym (ap (λ (o : Option ℤ). unwrap_or (option_map (λ n. int_le n x.time) o) false) e) ∙ t in
    grind (arith, ints)

module _ (P : Plan) (s : ℕ) where
  used_next : (x : Tier) (id k : ℕ) (ms : List Message) (n : ℤ) → option_and_then whole_in (slice_get (filter_map content_of (used P s (Stepping x id k) ms)) 0) ≡ Some n → x.time <ℤ n
  used_next x id k [] n e = cc
  used_next x id k (Ask i name args named ∷ ms) n e = elim (is_wrong P s (Stepping x id k) (Ask i name args named)) as
      (λ b. option_and_then whole_in (slice_get (filter_map content_of (cond b [] (Ask i name args named ∷ used P s (Stepping x id (k + 1)) ms))) 0) ≡ Some n → x.time <ℤ n) [
        | true ↦ λ e. cc
        | false ↦ λ e. used_next x id (k + 1) ms n e
      ] e
  used_next x id k (Failure i text ∷ ms) n e = elim (i == id) as (λ b. option_and_then whole_in (slice_get (filter_map content_of (cond (is_some (if b then Some Failed else Some (Wrong unasked))) [] (Failure i text ∷ []))) 0) ≡ Some n → x.time <ℤ n) [ true ↦ λ e. cc | false ↦ λ e. cc ] e
  used_next x id k (Success i content ∷ ms) n e = go (is_wrong P s (Stepping x id k) (Success i content)) refl e
    where
      go : (b : Bool) → is_wrong P s (Stepping x id k) (Success i content) ≡ b → option_and_then whole_in (slice_get (filter_map content_of (cond b [] (Success i content ∷ then_on Message Place (is_wrong P s) (next_place P s) (next_place P s (Stepping x id k) (Success i content)) [] (λ p. used P s p ms)))) 0) ≡ Some n → x.time <ℤ n
      go true w e = cc
      go false w e = elim (i == id) as (λ b. is_some (if b then wrong_next (kind_of P s) x content else Some (Wrong unasked)) ≡ false → x.time <ℤ n) [
        | true ↦ λ w. next_later (kind_of P s) x content n w e
        | false ↦ λ w. absurd (true≢false w)
      ] w

-- the acts that sequential execution makes are right
pub act_right : (P : Plan) (A : Family) (s : ℕ) (x : Tier) (acts : List Act) (ms : List Message) → IsIn {X = Visit} (x, s) (visits P) → IsRight (act P A s x acts ms)
act_right P A s x acts ms m =
    let v = visits_are P (x, s) m in
    record {
      time = let e : x.time ≡ pos v.0 = ap (λ (y : Tier). y.time) v.2 in grind (arith, ints);
      next = λ n e. used_next P s x _ 0 (rest acts ms) n e;
    }

-- a due time over right acts is visited
module _ (P : Plan) (valid : IsValidPlan P) where
  no_sooner : (x y : Tier) → pos 0 ≤ℤ x.time → IsUpTo x y → pos 0 ≤ℤ y.time
  no_sooner x y h k = elim (is_up_to x y k) [ inl e ↦ grind (arith, ints) | inr e ↦ grind (arith, ints) ]

  first_not_negative : (s : ℕ) (x : Tier) (sim : PlanSim) → slice_get P.sims s ≡ Some sim → IsIn x (first_times sim) → pos 0 ≤ℤ x.time
  first_not_negative s x sim e m = elim (in_either x (map moment sim.initial) (if is_event_based sim.kind then [] else moment (pos 0) ∷ []) m) [
    | inl a ↦ let t = in_map moment x sim.initial a in
        let r : (pos 0 ≤ℤ t.0) × (t.0 ≤ℤ latest_end) = all_in (λ (e : ℤ). (pos 0 ≤ℤ e) × (e ≤ℤ latest_end)) sim.initial t.0
        (all_at (λ (s : PlanSim). All (λ (e : ℤ). (pos 0 ≤ℤ e) × (e ≤ℤ latest_end)) s.initial) P.sims s sim valid.well_formed.limits.events e) t.1 in
        subst (λ (y : Tier). pos 0 ≤ℤ y.time) (sym t.2) r.0
    | inr b ↦ start (is_event_based sim.kind) b
  ]
    where
      start : (b : Bool) → IsIn x (if b then [] else moment (pos 0) ∷ []) → pos 0 ≤ℤ x.time
      start true m = absurd m
      start false (inl q) = rw q (grind (arith, ints))
      start false (inr n) = absurd n

  pub due_not_negative : (A : Family) (s : ℕ) (x : Tier) → ((i : ℕ) → Each IsRight (A i)) → is_due P A s x ≡ true → (pos 0 ≤ℤ x.time) × (is_in_run P x ≡ true) × (s < sim_count P)
  due_not_negative A s x right h = elim (due_why P A s x h) [
    | inl r ↦ (first_not_negative s x r.sim r.at r.first, r.within, (get_is P.sims s r.sim r.at).0)
    | inr (inl t) ↦ let r = t.2 in let a : IsRight t.0 = in_each IsRight t.0 (A s) (right s) t.1 in let l : t.0.at.time <ℤ r.time = a.next r.time r.next in let z : pos 0 ≤ℤ t.0.at.time = a.time in
        (subst (λ (y : Tier). pos 0 ≤ℤ y.time) (sym r.is) (let w : pos 0 ≤ℤ r.time = grind (arith, ints) in w), r.within, (get_is P.sims s r.sim r.at).0)
    | inr (inr t) ↦ let r = t.5 in let a : IsRight t.2 = in_each IsRight t.2 (A t.0) (right t.0) t.4 in
        (subst (λ (y : Tier). pos 0 ≤ℤ y.time) (sym r.is) (no_sooner t.2.at (delayed (made t.2) t.1) a.time (up_to_trans t.2.at (made t.2) (delayed (made t.2) t.1) (made_no_earlier t.2) (delayed_no_earlier (made t.2) t.1 (edge_width P valid.ranks valid.well_formed.limits.widths (link t.0 t.1 s) t.3)))), r.within, (get_is P.sims s r.sim r.at).0)
  ]

  pub due_visited : (A : Family) (s : ℕ) (x : Tier) → ((i : ℕ) → Each IsRight (A i)) → is_due P A s x ≡ true → IsIn {X = Visit} (x, s) (visits P)
  due_visited A s x right h =
      let t = due_not_negative A s x right h in
      let w = both_hold (int_lt x.time P.until) (nat_le x.tier P.loops) t.1 in
      let early : int_lt x.time P.until ≡ true = w.0 in
      let z : pos 0 ≤ℤ x.time = t.0 in
      let n : nat_abs x.time < nat_abs P.until = grind (arith, ints) in
      let is : pos (nat_abs x.time) ≡ x.time = grind (arith, ints) in
      let at : at_tier (nat_abs x.time) x.tier ≡ x = λ i. record { time = is i; tier = x.tier } in
      subst (λ (y : Tier). IsIn {X = Visit} (y, s) (visits P)) at (visits_have P valid.ranks (nat_abs x.time) x.tier s n (leb-true x.tier P.loops w.1) t.2)
