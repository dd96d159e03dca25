-- A plan's tests are true exactly where its parts hold.
use Rattle.std.proofs.Common.{◌≡◌, ◌≢◌, ℕ, zero, suc, ◌+◌, ◌<◌, ◌≤◌, ℤ, pos, ◌≤ℤ◌, Bool, true, false, not, ◌&&◌, List, [], ◌∷◌, length, count_by, Option, Some, None, IfSome, IsSome, is_some, ◌==◌, nat_le, nat_lt, All, AllPairs, get_or, refl, sym, ap, ◌∙◌, subst, inl, inr, ◌⊎◌, arith, codes, if◌then◌else◌}
use Rattle.std.specs.List.{list_all, range_with_len}
use Rattle.std.proofs.lemmas.Int.{ints}
use Rattle.std.proofs.lemmas.Bool.{and_parts, and_from, true≢false, both_ways, not-true, not_from_false, not_from_true, false_from_ne_true, eqb-true, eq-eqb, ne_eqb, leb-true, le-leb, ltb-true, lt-ltb, cases_lt}
use Rattle.std.proofs.lemmas.List.Sums.{length-filter}
use Rattle.mk_base.specs.declared.SimKind.{SimKind}
use Rattle.mk_base.specs.declared.SimKind.TheVariants.{TimeBased, EventBased, Hybrid}
use Rattle.mk_base.specs.declared.tier.Via.{Via}
use Rattle.mk_base.specs.declared.tier.Via.TheVariants.{Plain, Shift, Weak}
use Rattle.mk_base.specs.Lists.{same_text}
use Rattle.mk_base.specs.Tiers.{HasWidth, is_plain}
use Rattle.mk_base.specs.Trees.{nesting, value_depth}
use Rattle.mk_base.specs.Data.{IsValueText, IsDatumText}
use Rattle.mk_base.proofs.Lists.{all_in, range_in, filter_none}
use Rattle.mk_base.specs.Names.{is_eid}
use Rattle.mk_plan.specs.declared.Plan.{Plan}
use Rattle.mk_plan.specs.declared.PlanSim.{PlanSim}
use Rattle.mk_plan.specs.declared.Conn.{Conn}
use Rattle.mk_plan.specs.Plans.{owner, eid_of, kind_of, rank_of, dot, IsWithinLimits, RefersInside, HasDistinctNames, IsWellFormed, HasRanks, HasOneConnectionEach, HasInitialValues, HasKindsOfConnections, IsValidPlan, IsOtherWay}
use Rattle.mk_plan_check.specs.Nesting.{nesting_of}
use Rattle.mk_plan_check.specs.Tests.{all_apart, implies, numbers_fit, sizes_fit, event_fits, sim_fits, models_of, models_fit, initial_fits, width_fits, is_within_limits, entity_refers, conn_refers, pair_refers, refers_inside, sims_apart, has_no_dot, eids_differ, eids_apart, has_distinct_names, is_well_formed, ranked, conn_rises, pair_rises, has_ranks, same_way, has_one_connection_each, initial_stands, has_initial_values, persistence_fits, triggering_fits, kinds_fit, same_bool, same_source, same_target, sources_agree, targets_agree, has_kinds_of_connections, first_bad}
use Rattle.mk_plan_check.specs.FirstBad.{IsFirstBad}
use Rattle.mk_plan_check.specs.inner.FirstBad.{HasDatums}
use Rattle.mk_plan_check.proofs.Scanning.{nesting_is}
use Rattle.mk_base.specs.Limits.{latest_end}
use Rattle.mk_base.proofs.Items.{same_text_self}
use Rattle.mk_base.proofs.Guessing.{text_is}

module _ {X : Type 0} where
  -- a test of all items, and what it says of each
  pub all_from : (p : X → Bool) (Q : X → Type 0) → ((x : X) → p x ≡ true → Q x) → (xs : List X) → list_all p xs ≡ true → All Q xs
  all_from p Q f [] h i d = λ k. absurd (omega arith)
  all_from p Q f (x ∷ xs) h zero d = λ k. f x (and_parts (p x) (list_all p xs) h).0
  all_from p Q f (x ∷ xs) h (suc i) d = λ k. all_from p Q f xs (and_parts (p x) (list_all p xs) h).1 i d (omega arith)

  pub from_all : (p : X → Bool) (Q : X → Type 0) → ((x : X) → Q x → p x ≡ true) → (xs : List X) → All Q xs → list_all p xs ≡ true
  from_all p Q f [] h = refl
  from_all p Q f (x ∷ xs) h = and_from (p x) (list_all p xs) (f x (h 0 x (omega arith))) (from_all p Q f xs (λ i d k. h (suc i) d (omega arith)))

  pub pairs_from : (r : X → X → Bool) (R : X → X → Type 0) → ((x y : X) → r x y ≡ true → R x y) → (xs : List X) → all_apart r xs ≡ true → AllPairs R xs
  pairs_from r R f [] h i j d k l = absurd (omega arith)
  pairs_from r R f (x ∷ xs) h zero zero d k l = absurd (omega arith)
  pairs_from r R f (x ∷ xs) h zero (suc j) d k l = all_from (r x) (R x) (f x) xs (and_parts (list_all (r x) xs) (all_apart r xs) h).0 j d (omega arith)
  pairs_from r R f (x ∷ xs) h (suc i) zero d k l = absurd (omega arith)
  pairs_from r R f (x ∷ xs) h (suc i) (suc j) d k l = pairs_from r R f xs (and_parts (list_all (r x) xs) (all_apart r xs) h).1 i j d (omega arith) (omega arith)

  pub from_pairs : (r : X → X → Bool) (R : X → X → Type 0) → ((x y : X) → R x y → r x y ≡ true) → (xs : List X) → AllPairs R xs → all_apart r xs ≡ true
  from_pairs r R f [] h = refl
  from_pairs r R f (x ∷ xs) h = and_from (list_all (r x) xs) (all_apart r xs) (from_all (r x) (R x) (f x) xs (λ j d k. h 0 (suc j) d (omega arith) (omega arith))) (from_pairs r R f xs (λ i j d k l. h (suc i) (suc j) d (omega arith) (omega arith)))

pub differ_is : (x y : List ℕ) → not (same_text x y) ≡ true → x ≢ y
differ_is x y h e = both_ways (same_text x y) (not-true (same_text x y) h) (subst (λ z. same_text x z ≡ true) e (same_text_self x))

pub is_differ : (x y : List ℕ) → x ≢ y → not (same_text x y) ≡ true
is_differ x y h = not_from_false (same_text x y) (false_from_ne_true (same_text x y) (λ e. h (text_is x y e)))

-- numbers
pub limits_from : (P : Plan) → numbers_fit P ≡ true → ((pos 1 ≤ℤ P.until) × (P.until ≤ℤ latest_end)) × ((1 ≤ P.loops) × (P.loops ≤ 1000)) × ((1 ≤ P.entries) × (P.entries ≤ 20000000))
limits_from P h = ((grind (arith, ints), grind (arith, ints)), (grind (arith, ints), grind (arith, ints)), (grind (arith, ints), grind (arith, ints)))

pub from_limits : (P : Plan) → (pos 1 ≤ℤ P.until) → (P.until ≤ℤ latest_end) → (1 ≤ P.loops) → (P.loops ≤ 1000) → (1 ≤ P.entries) → (P.entries ≤ 20000000) → numbers_fit P ≡ true
from_limits P a b c d e f = grind (arith, ints)

-- several tests together
parts3 : (a b c : Bool) → (a && b && c) ≡ true → (a ≡ true) × (b ≡ true) × (c ≡ true)
parts3 a b c h = let t = and_parts (a && b) c h in let u = and_parts a b t.0 in (u.0, u.1, t.1)

parts4 : (a b c d : Bool) → (a && b && c && d) ≡ true → (a ≡ true) × (b ≡ true) × (c ≡ true) × (d ≡ true)
parts4 a b c d h = let t = and_parts (a && b && c) d h in let u = parts3 a b c t.0 in (u.0, u.1, u.2, t.1)

parts5 : (a b c d e : Bool) → (a && b && c && d && e) ≡ true → (a ≡ true) × (b ≡ true) × (c ≡ true) × (d ≡ true) × (e ≡ true)
parts5 a b c d e h = let t = and_parts (a && b && c && d) e h in let u = parts4 a b c d t.0 in (u.0, u.1, u.2, u.3, t.1)

parts6 : (a b c d e f : Bool) → (a && b && c && d && e && f) ≡ true → (a ≡ true) × (b ≡ true) × (c ≡ true) × (d ≡ true) × (e ≡ true) × (f ≡ true)
parts6 a b c d e f h = let t = and_parts (a && b && c && d && e) f h in let u = parts5 a b c d e t.0 in (u.0, u.1, u.2, u.3, u.4, t.1)

from3 : (a b c : Bool) → a ≡ true → b ≡ true → c ≡ true → (a && b && c) ≡ true
from3 a b c p q r = and_from (a && b) c (and_from a b p q) r

from4 : (a b c d : Bool) → a ≡ true → b ≡ true → c ≡ true → d ≡ true → (a && b && c && d) ≡ true
from4 a b c d p q r s = and_from (a && b && c) d (from3 a b c p q r) s

from5 : (a b c d e : Bool) → a ≡ true → b ≡ true → c ≡ true → d ≡ true → e ≡ true → (a && b && c && d && e) ≡ true
from5 a b c d e p q r s t = and_from (a && b && c && d) e (from4 a b c d p q r s) t

from6 : (a b c d e f : Bool) → a ≡ true → b ≡ true → c ≡ true → d ≡ true → e ≡ true → f ≡ true → (a && b && c && d && e && f) ≡ true
from6 a b c d e f p q r s t u = and_from (a && b && c && d && e) f (from5 a b c d e p q r s t) u

-- tests over the numbers below n
over_from : (p : ℕ → Bool) (a n i : ℕ) → list_all p (range_with_len a n) ≡ true → a ≤ i → i < a + n → p i ≡ true
over_from p a n i h low high = all_in (λ k. p k ≡ true) (range_with_len a n) i (all_from p (λ k. p k ≡ true) (λ k e. e) (range_with_len a n) h) (range_in i a n low high)

from_over : (p : ℕ → Bool) (a n : ℕ) → ((i : ℕ) → a ≤ i → i < a + n → p i ≡ true) → list_all p (range_with_len a n) ≡ true
from_over p a zero h = refl
from_over p a (suc n) h = and_from (p a) (list_all p (range_with_len (a + 1) n)) (h a (omega arith) (omega arith)) (from_over p (a + 1) n (λ i low high. h i (omega arith) (omega arith)))

pairs_over_from : (r : ℕ → ℕ → Bool) (a n d e : ℕ) → all_apart r (range_with_len a n) ≡ true → a ≤ d → d < e → e < a + n → r d e ≡ true
pairs_over_from r a zero d e h low up high = absurd (omega arith)
pairs_over_from r a (suc n) d e h low up high = let t = and_parts (list_all (r a) (range_with_len (a + 1) n)) (all_apart r (range_with_len (a + 1) n)) h in
    elim (first a d low) [
      | inl q ↦ subst (λ k. r k e ≡ true) q (over_from (r a) (a + 1) n e t.0 (omega arith) (omega arith))
      | inr q ↦ pairs_over_from r (a + 1) n d e t.1 q up (omega arith)
    ]
  where
    first : (a d : ℕ) → a ≤ d → (a ≡ d) ⊎ (a + 1 ≤ d)
    first a d h = grind arith

from_pairs_over : (r : ℕ → ℕ → Bool) (a n : ℕ) → ((d e : ℕ) → d < e → e < a + n → r d e ≡ true) → all_apart r (range_with_len a n) ≡ true
from_pairs_over r a zero h = refl
from_pairs_over r a (suc n) h = and_from (list_all (r a) (range_with_len (a + 1) n)) (all_apart r (range_with_len (a + 1) n))
    (from_over (r a) (a + 1) n (λ e low high. h a e (omega arith) (omega arith))) (from_pairs_over r (a + 1) n (λ d e up high. h d e up (omega arith)))

-- initial values
value_from : (t : List ℕ) → nat_le (nesting_of t) value_depth ≡ true → IsDatumText t → IsValueText t
value_from t h d = record { tree = d.tree; whole = d.whole; in_range = d.in_range; deep = low; is = d.is }
  where
    e : nesting_of t ≡ nesting d.tree
    e = sym (ap nesting_of d.is) ∙ nesting_is d.tree

    low : nesting d.tree ≤ value_depth
    low = subst (λ n. n ≤ value_depth) e (leb-true (nesting_of t) value_depth h)

from_value : (t : List ℕ) → IsValueText t → nat_le (nesting_of t) value_depth ≡ true
from_value t v = le-leb (nesting_of t) value_depth (subst (λ n. n ≤ value_depth) (sym (nesting_is v.tree) ∙ ap nesting_of v.is) v.deep)

initial_from : (o : Option (List ℕ)) → initial_fits o ≡ true → IfSome o IsDatumText → IfSome o IsValueText
initial_from None h d = d
initial_from (Some t) h d = value_from t h d

from_initial : (o : Option (List ℕ)) → IfSome o IsValueText → initial_fits o ≡ true
from_initial None d = refl
from_initial (Some t) d = from_value t d

event_from : (e : ℤ) → event_fits e ≡ true → (pos 0 ≤ℤ e) × (e ≤ℤ latest_end)
event_from e h = (grind (arith, ints), grind (arith, ints))

from_event : (e : ℤ) → (pos 0 ≤ℤ e) × (e ≤ℤ latest_end) → event_fits e ≡ true
from_event e h = grind (arith, ints)

sizes_from : (P : Plan) → sizes_fit P ≡ true → ((1 ≤ length P.sims) × (length P.sims ≤ 200)) × (length P.entities ≤ 10000) × (length P.conns ≤ 100000)
sizes_from P h = let t = parts4 (nat_le 1 (length P.sims)) (nat_le (length P.sims) 200) (nat_le (length P.entities) 10000) (nat_le (length P.conns) 100000) h in
    ((leb-true 1 (length P.sims) t.0, leb-true (length P.sims) 200 t.1), leb-true (length P.entities) 10000 t.2, leb-true (length P.conns) 100000 t.3)

width_from : (v : Via) → width_fits v ≡ true → HasWidth v
width_from Plain h = tt
width_from (Shift d) h = let t = and_parts (nat_le 1 d) (nat_le d 1000000) h in (leb-true 1 d t.0, leb-true d 1000000 t.1)
width_from Weak h = tt

from_width : (v : Via) → HasWidth v → width_fits v ≡ true
from_width Plain w = refl
from_width (Shift d) w = and_from (nat_le 1 d) (nat_le d 1000000) (le-leb 1 d w.0) (le-leb d 1000000 w.1)
from_width Weak w = refl

-- a count of what isn't there
count_none : {X : Type 0} (p : X → Bool) (xs : List X) → All (λ x. p x ≡ false) xs → count_by p xs ≡ 0
count_none {X} p xs h = sym (length-filter p xs) ∙ ap length (filter_none p xs (λ x m. all_in (λ x. p x ≡ false) xs x h m))

-- the first part
limits_hold : (P : Plan) → HasDatums P → is_within_limits P ≡ true → refers_inside P ≡ true → IsWithinLimits P
limits_hold P data_of h k = record {
  until = n.0;
  loops = n.1;
  entries = n.2;
  sims = z.0;
  ranks = all_from sim_fits (λ s. s.rank ≤ 199) (λ s e. leb-true s.rank 199 (sim_parts s e).0) P.sims t.2;
  first_ids = all_from sim_fits (λ s. s.first_id ≤ 1000000) (λ s e. leb-true s.first_id 1000000 (sim_parts s e).1) P.sims t.2;
  events = all_from sim_fits (λ s. All (λ (e : ℤ). (pos 0 ≤ℤ e) × (e ≤ℤ latest_end)) s.initial) (λ s e. all_from event_fits (λ (e : ℤ). (pos 0 ≤ℤ e) × (e ≤ℤ latest_end)) event_from s.initial (sim_parts s e).2) P.sims t.2;
  models = models;
  entities = z.1;
  conns = z.2;
  initials = λ i d m. initial_from (get_or P.conns i d).initial (all_from (λ c. initial_fits c.initial) (λ c. initial_fits c.initial ≡ true) (λ c e. e) P.conns t.4 i d m) (data_of i d m);
  widths = all_from (λ c. width_fits c.via) (λ c. HasWidth c.via) (λ c e. width_from c.via e) P.conns t.5;
}
  where
    t : (numbers_fit P ≡ true) × (sizes_fit P ≡ true) × (list_all sim_fits P.sims ≡ true) × (models_fit P ≡ true) × (list_all (λ c. initial_fits c.initial) P.conns ≡ true) × (list_all (λ c. width_fits c.via) P.conns ≡ true)
    t = parts6 (numbers_fit P) (sizes_fit P) (list_all sim_fits P.sims) (models_fit P) (list_all (λ c. initial_fits c.initial) P.conns) (list_all (λ c. width_fits c.via) P.conns) h

    n : ((pos 1 ≤ℤ P.until) × (P.until ≤ℤ latest_end)) × ((1 ≤ P.loops) × (P.loops ≤ 1000)) × ((1 ≤ P.entries) × (P.entries ≤ 20000000))
    n = limits_from P t.0

    z : ((1 ≤ length P.sims) × (length P.sims ≤ 200)) × (length P.entities ≤ 10000) × (length P.conns ≤ 100000)
    z = sizes_from P t.1

    sim_parts : (s : PlanSim) → sim_fits s ≡ true → (nat_le s.rank 199 ≡ true) × (nat_le s.first_id 1000000 ≡ true) × (list_all event_fits s.initial ≡ true)
    sim_parts s e = parts3 (nat_le s.rank 199) (nat_le s.first_id 1000000) (list_all event_fits s.initial) e

    known : All (λ m. m.sim.0 < length P.sims) P.models
    known = all_from (λ m. nat_lt m.sim.0 (length P.sims)) (λ m. m.sim.0 < length P.sims) (λ m e. ltb-true m.sim.0 (length P.sims) e) P.models (parts4 (list_all (λ m. nat_lt m.sim.0 (length P.sims)) P.models) (list_all (entity_refers P) P.entities) (list_all (conn_refers P) P.conns) (list_all (pair_refers P) P.asyncs) k).0

    models : (i : ℕ) → count_by (λ m. m.sim.0 == i) P.models ≤ 10000
    models i = elim (cases_lt i (length P.sims)) [
      | inl low ↦ leb-true (models_of P i) 10000 (over_from (λ i. nat_le (models_of P i) 10000) 0 (length P.sims) i t.3 (omega arith) (omega arith))
      | inr high ↦ let e : models_of P i ≡ 0 = count_none (λ m. m.sim.0 == i) P.models (λ j d m. let q = known j d m in grind (arith, q)) in omega (arith, e)
    ]

from_limits_hold : (P : Plan) → IsWithinLimits P → is_within_limits P ≡ true
from_limits_hold P w = from6 (numbers_fit P) (sizes_fit P) (list_all sim_fits P.sims) (models_fit P) (list_all (λ c. initial_fits c.initial) P.conns) (list_all (λ c. width_fits c.via) P.conns)
    (from_limits P w.until.0 w.until.1 w.loops.0 w.loops.1 w.entries.0 w.entries.1)
    (from4 (nat_le 1 (length P.sims)) (nat_le (length P.sims) 200) (nat_le (length P.entities) 10000) (nat_le (length P.conns) 100000) (le-leb 1 (length P.sims) w.sims.0) (le-leb (length P.sims) 200 w.sims.1) (le-leb (length P.entities) 10000 w.entities) (le-leb (length P.conns) 100000 w.conns))
    (from_all sim_fits (λ s. (s.rank ≤ 199) × (s.first_id ≤ 1000000) × All (λ (e : ℤ). (pos 0 ≤ℤ e) × (e ≤ℤ latest_end)) s.initial)
    (λ s q. from3 (nat_le s.rank 199) (nat_le s.first_id 1000000) (list_all event_fits s.initial) (le-leb s.rank 199 q.0) (le-leb s.first_id 1000000 q.1) (from_all event_fits (λ (e : ℤ). (pos 0 ≤ℤ e) × (e ≤ℤ latest_end)) from_event s.initial q.2))
    P.sims (λ i d m. (w.ranks i d m, w.first_ids i d m, w.events i d m)))
    (from_over (λ i. nat_le (models_of P i) 10000) 0 (length P.sims) (λ i low high. le-leb (models_of P i) 10000 (w.models i)))
    (from_all (λ c. initial_fits c.initial) (λ c. IfSome c.initial IsValueText) (λ c. from_initial c.initial) P.conns w.initials)
    (from_all (λ c. width_fits c.via) (λ c. HasWidth c.via) (λ c. from_width c.via) P.conns w.widths)

references_hold : (P : Plan) → refers_inside P ≡ true → RefersInside P
references_hold P h = record {
  models = all_from (λ m. nat_lt m.sim.0 (length P.sims)) (λ m. m.sim.0 < length P.sims) (λ m e. ltb-true m.sim.0 (length P.sims) e) P.models t.0;
  entities = all_from (entity_refers P) (λ n. (n.model < length P.models) × All (λ (r : ℕ). r < length P.entities) n.related)
      (λ n e. let u = and_parts (nat_lt n.model (length P.models)) (list_all (λ (r : ℕ). nat_lt r (length P.entities)) n.related) e in
      (ltb-true n.model (length P.models) u.0, all_from (λ (r : ℕ). nat_lt r (length P.entities)) (λ (r : ℕ). r < length P.entities) (λ r e. ltb-true r (length P.entities) e) n.related u.1))
      P.entities t.1;
  conns = all_from (conn_refers P) (λ c. (c.from < length P.entities) × (c.to < length P.entities))
      (λ c e. let u = and_parts (nat_lt c.from (length P.entities)) (nat_lt c.to (length P.entities)) e in (ltb-true c.from (length P.entities) u.0, ltb-true c.to (length P.entities) u.1)) P.conns t.2;
  asyncs = all_from (pair_refers P) (λ p. (p.from.0 < length P.sims) × (p.to.0 < length P.sims))
      (λ p e. let u = and_parts (nat_lt p.from.0 (length P.sims)) (nat_lt p.to.0 (length P.sims)) e in (ltb-true p.from.0 (length P.sims) u.0, ltb-true p.to.0 (length P.sims) u.1)) P.asyncs t.3;
}
  where
    t : (list_all (λ m. nat_lt m.sim.0 (length P.sims)) P.models ≡ true) × (list_all (entity_refers P) P.entities ≡ true) × (list_all (conn_refers P) P.conns ≡ true) × (list_all (pair_refers P) P.asyncs ≡ true)
    t = parts4 (list_all (λ m. nat_lt m.sim.0 (length P.sims)) P.models) (list_all (entity_refers P) P.entities) (list_all (conn_refers P) P.conns) (list_all (pair_refers P) P.asyncs) h

from_references : (P : Plan) → RefersInside P → refers_inside P ≡ true
from_references P r = from4 (list_all (λ m. nat_lt m.sim.0 (length P.sims)) P.models) (list_all (entity_refers P) P.entities) (list_all (conn_refers P) P.conns) (list_all (pair_refers P) P.asyncs)
    (from_all (λ m. nat_lt m.sim.0 (length P.sims)) (λ m. m.sim.0 < length P.sims) (λ m q. lt-ltb m.sim.0 (length P.sims) q) P.models r.models)
    (from_all (entity_refers P) (λ n. (n.model < length P.models) × All (λ (r : ℕ). r < length P.entities) n.related)
    (λ n q. and_from (nat_lt n.model (length P.models)) (list_all (λ (r : ℕ). nat_lt r (length P.entities)) n.related) (lt-ltb n.model (length P.models) q.0) (from_all (λ (r : ℕ). nat_lt r (length P.entities)) (λ (r : ℕ). r < length P.entities) (λ r e. lt-ltb r (length P.entities) e) n.related q.1)) P.entities r.entities)
    (from_all (conn_refers P) (λ c. (c.from < length P.entities) × (c.to < length P.entities)) (λ c q. and_from (nat_lt c.from (length P.entities)) (nat_lt c.to (length P.entities)) (lt-ltb c.from (length P.entities) q.0) (lt-ltb c.to (length P.entities) q.1)) P.conns r.conns)
    (from_all (pair_refers P) (λ p. (p.from.0 < length P.sims) × (p.to.0 < length P.sims)) (λ p q. and_from (nat_lt p.from.0 (length P.sims)) (nat_lt p.to.0 (length P.sims)) (lt-ltb p.from.0 (length P.sims) q.0) (lt-ltb p.to.0 (length P.sims) q.1)) P.asyncs r.asyncs)

-- texts apart within one owner
eids_from : (P : Plan) (d e : ℕ) → eids_differ P d e ≡ true → owner P d ≡ owner P e → eid_of P d ≢ eid_of P e
eids_from P d e h o q = both_ways (eids_differ P d e) same h
  where
    same : eids_differ P d e ≡ false
    same = not_from_true ((owner P d == owner P e) && same_text (eid_of P d) (eid_of P e)) (and_from (owner P d == owner P e) (same_text (eid_of P d) (eid_of P e)) (eq-eqb (owner P d) (owner P e) o) (subst (λ z. same_text (eid_of P d) z ≡ true) q (same_text_self (eid_of P d))))

from_eids : (P : Plan) (d e : ℕ) → (owner P d ≡ owner P e → eid_of P d ≢ eid_of P e) → eids_differ P d e ≡ true
from_eids P d e h = not_from_false ((owner P d == owner P e) && same_text (eid_of P d) (eid_of P e)) (false_from_ne_true ((owner P d == owner P e) && same_text (eid_of P d) (eid_of P e))
    (λ k. let t = and_parts (owner P d == owner P e) (same_text (eid_of P d) (eid_of P e)) k in h (eqb-true (owner P d) (owner P e) t.0) (text_is (eid_of P d) (eid_of P e) t.1)))

no_dot_from : (b : ℕ) → not (b == dot) ≡ true → b ≢ dot
no_dot_from b h e = both_ways (b == dot) (not-true (b == dot) h) (eq-eqb b dot e)

from_no_dot : (b : ℕ) → b ≢ dot → not (b == dot) ≡ true
from_no_dot b h = not_from_false (b == dot) (ne_eqb b dot h)

names_hold : (P : Plan) → has_distinct_names P ≡ true → HasDistinctNames P
names_hold P h = record {
  sims = pairs_from (λ s t. not (same_text s.id t.id)) (λ s t. s.id ≢ t.id) (λ s t e. differ_is s.id t.id e) P.sims t.0;
  no_dots = all_from (λ s. has_no_dot s.id) (λ s. All (λ (b : ℕ). b ≢ dot) s.id) (λ s e. all_from (λ b. not (b == dot)) (λ (b : ℕ). b ≢ dot) no_dot_from s.id e) P.sims t.1;
  eids = λ d e up high. eids_from P d e (pairs_over_from (eids_differ P) 0 (length P.entities) d e t.3 (omega arith) up (omega arith));
  named = all_from (λ n. is_eid n.eid) (λ n. (n.eid ≢ []) × (n.eid ≢ codes "time")) (λ n e. let u = and_parts (not (same_text n.eid [])) (not (same_text n.eid (codes "time"))) e in (differ_is n.eid [] u.0, differ_is n.eid (codes "time") u.1)) P.entities t.2;
}
  where
    t : (sims_apart P ≡ true) × (list_all (λ s. has_no_dot s.id) P.sims ≡ true) × (list_all (λ n. is_eid n.eid) P.entities ≡ true) × (eids_apart P ≡ true)
    t = parts4 (sims_apart P) (list_all (λ s. has_no_dot s.id) P.sims) (list_all (λ n. is_eid n.eid) P.entities) (eids_apart P) h

from_names : (P : Plan) → HasDistinctNames P → has_distinct_names P ≡ true
from_names P w = from4 (sims_apart P) (list_all (λ s. has_no_dot s.id) P.sims) (list_all (λ n. is_eid n.eid) P.entities) (eids_apart P)
    (from_pairs (λ s t. not (same_text s.id t.id)) (λ s t. s.id ≢ t.id) (λ s t e. is_differ s.id t.id e) P.sims w.sims)
    (from_all (λ s. has_no_dot s.id) (λ s. All (λ (b : ℕ). b ≢ dot) s.id) (λ s e. from_all (λ b. not (b == dot)) (λ (b : ℕ). b ≢ dot) from_no_dot s.id e) P.sims w.no_dots)
    (from_all (λ n. is_eid n.eid) (λ n. (n.eid ≢ []) × (n.eid ≢ codes "time")) (λ n e. and_from (not (same_text n.eid [])) (not (same_text n.eid (codes "time"))) (is_differ n.eid [] e.0) (is_differ n.eid (codes "time") e.1)) P.entities w.named)
    (from_pairs_over (eids_differ P) 0 (length P.entities) (λ d e up high. from_eids P d e (w.eids d e up (omega arith))))

pub well_formed_from : (P : Plan) → HasDatums P → is_well_formed P ≡ true → IsWellFormed P
well_formed_from P data_of h = let t = parts3 (is_within_limits P) (refers_inside P) (has_distinct_names P) h in
    record { limits = limits_hold P data_of t.0 t.1; references = references_hold P t.1; names = names_hold P t.2 }

pub from_well_formed : (P : Plan) → IsWellFormed P → is_well_formed P ≡ true
from_well_formed P w = from3 (is_within_limits P) (refers_inside P) (has_distinct_names P) (from_limits_hold P w.limits) (from_references P w.references) (from_names P w.names)

-- the second part
rises_from : (P : Plan) (c : Conn) → conn_rises P c ≡ true → c.via ≡ Plain → rank_of P (owner P c.from) < rank_of P (owner P c.to)
rises_from P c h e = ltb-true (rank_of P (owner P c.from)) (rank_of P (owner P c.to)) (subst (λ v. implies (is_plain v) (nat_lt (rank_of P (owner P c.from)) (rank_of P (owner P c.to))) ≡ true) e h)

rises_via : (v : Via) (m n : ℕ) → (v ≡ Plain → m < n) → implies (is_plain v) (nat_lt m n) ≡ true
rises_via Plain m n h = lt-ltb m n (h refl)
rises_via (Shift d) m n h = refl
rises_via Weak m n h = refl

pub ranks_from : (P : Plan) → has_ranks P ≡ true → HasRanks P
ranks_from P h = record {
  below = all_from (λ s. nat_lt s.rank (length P.sims)) (λ s. s.rank < length P.sims) (λ s e. ltb-true s.rank (length P.sims) e) P.sims t.0;
  once = λ r low. eqb-true (ranked P r) 1 (over_from (λ r. ranked P r == 1) 0 (length P.sims) r t.1 (omega arith) (omega arith));
  conns = all_from (conn_rises P) (λ c. c.via ≡ Plain → rank_of P (owner P c.from) < rank_of P (owner P c.to)) (rises_from P) P.conns t.2;
  asyncs = all_from (pair_rises P) (λ p. rank_of P p.from.0 < rank_of P p.to.0) (λ p e. ltb-true (rank_of P p.from.0) (rank_of P p.to.0) e) P.asyncs t.3;
}
  where
    t : (list_all (λ s. nat_lt s.rank (length P.sims)) P.sims ≡ true) × (list_all (λ r. ranked P r == 1) (range_with_len 0 (length P.sims)) ≡ true) × (list_all (conn_rises P) P.conns ≡ true) × (list_all (pair_rises P) P.asyncs ≡ true)
    t = parts4 (list_all (λ s. nat_lt s.rank (length P.sims)) P.sims) (list_all (λ r. ranked P r == 1) (range_with_len 0 (length P.sims))) (list_all (conn_rises P) P.conns) (list_all (pair_rises P) P.asyncs) h

pub from_ranks : (P : Plan) → HasRanks P → has_ranks P ≡ true
from_ranks P w = from4 (list_all (λ s. nat_lt s.rank (length P.sims)) P.sims) (list_all (λ r. ranked P r == 1) (range_with_len 0 (length P.sims))) (list_all (conn_rises P) P.conns) (list_all (pair_rises P) P.asyncs)
    (from_all (λ s. nat_lt s.rank (length P.sims)) (λ s. s.rank < length P.sims) (λ s e. lt-ltb s.rank (length P.sims) e) P.sims w.below)
    (from_over (λ r. ranked P r == 1) 0 (length P.sims) (λ r low high. eq-eqb (ranked P r) 1 (w.once r (omega arith))))
    (from_all (conn_rises P) (λ c. c.via ≡ Plain → rank_of P (owner P c.from) < rank_of P (owner P c.to)) (λ c e. rises_via c.via (rank_of P (owner P c.from)) (rank_of P (owner P c.to)) e) P.conns w.conns)
    (from_all (pair_rises P) (λ p. rank_of P p.from.0 < rank_of P p.to.0) (λ p e. lt-ltb (rank_of P p.from.0) (rank_of P p.to.0) e) P.asyncs w.asyncs)

alone_from : (c d : Conn) → not (same_way c d) ≡ true → IsOtherWay c d
alone_from c d h e f g = both_ways (same_way c d) (not-true (same_way c d) h) (from3 (c.from == d.from) (c.to == d.to) (same_text c.to_attr d.to_attr) (eq-eqb c.from d.from e) (eq-eqb c.to d.to f) (subst (λ z. same_text c.to_attr z ≡ true) g (same_text_self c.to_attr)))

from_alone : (c d : Conn) → IsOtherWay c d → not (same_way c d) ≡ true
from_alone c d h = not_from_false (same_way c d) (false_from_ne_true (same_way c d) (λ k.
    let t = parts3 (c.from == d.from) (c.to == d.to) (same_text c.to_attr d.to_attr) k in h (eqb-true c.from d.from t.0) (eqb-true c.to d.to t.1) (text_is c.to_attr d.to_attr t.2)))

pub connections_from : (P : Plan) → has_one_connection_each P ≡ true → HasOneConnectionEach P
connections_from P h = pairs_from (λ c d. not (same_way c d)) IsOtherWay alone_from P.conns h

pub from_connections : (P : Plan) → HasOneConnectionEach P → has_one_connection_each P ≡ true
from_connections P w = from_pairs (λ c d. not (same_way c d)) IsOtherWay from_alone P.conns w

-- the fourth part
abbrev Stands : Via → Bool → Option (List ℕ) → Type 0
Stands v b o = ((d : ℕ) → v ≡ Shift d → b ≡ true → IsSome o) × (v ≡ Plain → o ≡ None)

stands_from : (v : Via) (b : Bool) (o : Option (List ℕ)) → initial_stands v b (is_some o) ≡ true → Stands v b o
stands_from Plain b None h = (λ d e. cc, λ e. refl)
stands_from Plain b (Some t) h = absurd (true≢false (sym h))
stands_from (Shift d) true o h = (λ n e f. h, λ e. cc)
stands_from (Shift d) false o h = (λ n e f. absurd (true≢false (sym f)), λ e. cc)
stands_from Weak b o h = (λ d e. cc, λ e. cc)

from_stands : (v : Via) (b : Bool) (o : Option (List ℕ)) → Stands v b o → initial_stands v b (is_some o) ≡ true
from_stands Plain b None h = refl
from_stands Plain b (Some t) h = let e : Some t ≡ None = h.1 refl in cc
from_stands (Shift d) true o h = h.0 d refl refl
from_stands (Shift d) false o h = refl
from_stands Weak b o h = refl

pub initials_from : (P : Plan) → has_initial_values P ≡ true → HasInitialValues P
initials_from P h = all_from (λ c. initial_stands c.via c.persistent (is_some c.initial)) (λ c. Stands c.via c.persistent c.initial) (λ c e. stands_from c.via c.persistent c.initial e) P.conns h

pub from_initials : (P : Plan) → HasInitialValues P → has_initial_values P ≡ true
from_initials P w = from_all (λ c. initial_stands c.via c.persistent (is_some c.initial)) (λ c. Stands c.via c.persistent c.initial) (λ c e. from_stands c.via c.persistent c.initial e) P.conns w

-- the fifth part
persists_from : (k : SimKind) (b : Bool) → persistence_fits k b ≡ true → (k ≡ TimeBased → b ≡ true) × (k ≡ EventBased → b ≡ false)
persists_from TimeBased b h = (λ e. h, λ e. cc)
persists_from EventBased b h = (λ e. cc, λ e. not-true b h)
persists_from Hybrid b h = (λ e. cc, λ e. cc)

from_persists : (k : SimKind) (b : Bool) → (k ≡ TimeBased → b ≡ true) × (k ≡ EventBased → b ≡ false) → persistence_fits k b ≡ true
from_persists TimeBased b h = h.0 refl
from_persists EventBased b h = not_from_false b (h.1 refl)
from_persists Hybrid b h = refl

triggers_from : (k : SimKind) (b : Bool) → triggering_fits k b ≡ true → (k ≡ TimeBased → b ≡ false) × (k ≡ EventBased → b ≡ true)
triggers_from TimeBased b h = (λ e. not-true b h, λ e. cc)
triggers_from EventBased b h = (λ e. cc, λ e. h)
triggers_from Hybrid b h = (λ e. cc, λ e. cc)

from_triggers : (k : SimKind) (b : Bool) → (k ≡ TimeBased → b ≡ false) × (k ≡ EventBased → b ≡ true) → triggering_fits k b ≡ true
from_triggers TimeBased b h = not_from_false b (h.0 refl)
from_triggers EventBased b h = h.1 refl
from_triggers Hybrid b h = refl

pub bools_from : (a b : Bool) → same_bool a b ≡ true → a ≡ b
bools_from true b h = sym h
bools_from false b h = sym (not-true b h)

pub from_bools : (a b : Bool) → a ≡ b → same_bool a b ≡ true
from_bools true b h = sym h
from_bools false b h = not_from_false b (sym h)

pub implies_at : (a b : Bool) → implies a b ≡ true → a ≡ true → b ≡ true
implies_at true b h e = h
implies_at false b h e = absurd (true≢false (sym e))

pub at_implies : (a b : Bool) → (a ≡ true → b ≡ true) → implies a b ≡ true
at_implies true b h = h refl
at_implies false b h = refl

-- of two with one number and one text, the flags are the same
abbrev Agree : ℕ → ℕ → List ℕ → List ℕ → Bool → Bool → Type 0
Agree m n x y a b = m ≡ n → x ≡ y → a ≡ b

agree_from : (m n : ℕ) (x y : List ℕ) (a b : Bool) → implies ((m == n) && same_text x y) (same_bool a b) ≡ true → Agree m n x y a b
agree_from m n x y a b h e f = bools_from a b (implies_at ((m == n) && same_text x y) (same_bool a b) h (and_from (m == n) (same_text x y) (eq-eqb m n e) (subst (λ z. same_text x z ≡ true) f (same_text_self x))))

from_agree : (m n : ℕ) (x y : List ℕ) (a b : Bool) → Agree m n x y a b → implies ((m == n) && same_text x y) (same_bool a b) ≡ true
from_agree m n x y a b h = at_implies ((m == n) && same_text x y) (same_bool a b) (λ k. let t = and_parts (m == n) (same_text x y) k in from_bools a b (h (eqb-true m n t.0) (text_is x y t.1)))

abbrev Persists : Plan → Conn → Type 0
Persists P c = (kind_of P (owner P c.from) ≡ TimeBased → c.persistent ≡ true) × (kind_of P (owner P c.from) ≡ EventBased → c.persistent ≡ false)

abbrev Triggers : Plan → Conn → Type 0
Triggers P c = (kind_of P (owner P c.to) ≡ TimeBased → c.triggering ≡ false) × (kind_of P (owner P c.to) ≡ EventBased → c.triggering ≡ true)

pub kinds_from : (P : Plan) → has_kinds_of_connections P ≡ true → HasKindsOfConnections P
kinds_from P h = record {
  persistent = all_from (kinds_fit P) (Persists P) (λ c e. persists_from (kind_of P (owner P c.from)) c.persistent (fits_parts c e).0) P.conns t.0;
  of_source = pairs_from (λ c d. implies (same_source c d) (same_bool c.persistent d.persistent)) (λ c d. c.from ≡ d.from → c.from_attr ≡ d.from_attr → c.persistent ≡ d.persistent) (λ c d e. agree_from c.from d.from c.from_attr d.from_attr c.persistent d.persistent e) P.conns t.1;
  triggering = all_from (kinds_fit P) (Triggers P) (λ c e. triggers_from (kind_of P (owner P c.to)) c.triggering (fits_parts c e).1) P.conns t.0;
  of_target = pairs_from (λ c d. implies (same_target c d) (same_bool c.triggering d.triggering)) (λ c d. c.to ≡ d.to → c.to_attr ≡ d.to_attr → c.triggering ≡ d.triggering) (λ c d e. agree_from c.to d.to c.to_attr d.to_attr c.triggering d.triggering e) P.conns t.2;
}
  where
    t : (list_all (kinds_fit P) P.conns ≡ true) × (sources_agree P ≡ true) × (targets_agree P ≡ true)
    t = parts3 (list_all (kinds_fit P) P.conns) (sources_agree P) (targets_agree P) h

    fits_parts : (c : Conn) → kinds_fit P c ≡ true → (persistence_fits (kind_of P (owner P c.from)) c.persistent ≡ true) × (triggering_fits (kind_of P (owner P c.to)) c.triggering ≡ true)
    fits_parts c e = and_parts (persistence_fits (kind_of P (owner P c.from)) c.persistent) (triggering_fits (kind_of P (owner P c.to)) c.triggering) e

pub from_kinds : (P : Plan) → HasKindsOfConnections P → has_kinds_of_connections P ≡ true
from_kinds P w = from3 (list_all (kinds_fit P) P.conns) (sources_agree P) (targets_agree P)
    (from_all (kinds_fit P) (λ c. Persists P c × Triggers P c) (λ c e. and_from (persistence_fits (kind_of P (owner P c.from)) c.persistent) (triggering_fits (kind_of P (owner P c.to)) c.triggering) (from_persists (kind_of P (owner P c.from)) c.persistent e.0) (from_triggers (kind_of P (owner P c.to)) c.triggering e.1)) P.conns (λ i d m. (w.persistent i d m, w.triggering i d m)))
    (from_pairs (λ c d. implies (same_source c d) (same_bool c.persistent d.persistent)) (λ c d. c.from ≡ d.from → c.from_attr ≡ d.from_attr → c.persistent ≡ d.persistent) (λ c d e. from_agree c.from d.from c.from_attr d.from_attr c.persistent d.persistent e) P.conns w.of_source)
    (from_pairs (λ c d. implies (same_target c d) (same_bool c.triggering d.triggering)) (λ c d. c.to ≡ d.to → c.to_attr ≡ d.to_attr → c.triggering ≡ d.triggering) (λ c d e. from_agree c.to d.to c.to_attr d.to_attr c.triggering d.triggering e) P.conns w.of_target)

-- the first part that fails
first_of : (a b c d e : Bool) → Option ℕ
first_of a b c d e = if not a then Some 1 else if not b then Some 2 else if not c then Some 3 else if not d then Some 4 else if not e then Some 5 else None

all_true : (a b c d e : Bool) → first_of a b c d e ≡ None → (a ≡ true) × (b ≡ true) × (c ≡ true) × (d ≡ true) × (e ≡ true)
unfolding first_of
all_true false b c d e h = cc
all_true true false c d e h = cc
all_true true true false d e h = cc
all_true true true true false e h = cc
all_true true true true true false h = cc
all_true true true true true true h = (refl, refl, refl, refl, refl)

true_all : (a b c d e : Bool) → a ≡ true → b ≡ true → c ≡ true → d ≡ true → e ≡ true → first_of a b c d e ≡ None
unfolding first_of
true_all a b c d e p q r s t = rw (p, q, r, s, t) refl

-- the plan is valid where no part fails
pub valid_is : (P : Plan) → HasDatums P → first_bad P ≡ None → IsValidPlan P
unfolding first_of
valid_is P data_of h = let t = all_true (is_well_formed P) (has_ranks P) (has_one_connection_each P) (has_initial_values P) (has_kinds_of_connections P) h in
    record { well_formed = well_formed_from P data_of t.0; ranks = ranks_from P t.1; connections = connections_from P t.2; initials = initials_from P t.3; kinds = kinds_from P t.4 }

pub is_valid : (P : Plan) → IsValidPlan P → first_bad P ≡ None
unfolding first_of
is_valid P v = true_all (is_well_formed P) (has_ranks P) (has_one_connection_each P) (has_initial_values P) (has_kinds_of_connections P) (from_well_formed P v.well_formed) (from_ranks P v.ranks) (from_connections P v.connections) (from_initials P v.initials) (from_kinds P v.kinds)

-- datums are known wherever the first part's test is true
some_first : (P : Plan) (a b c d e : Bool) (n : ℕ) → is_well_formed P ≡ a → has_ranks P ≡ b → has_one_connection_each P ≡ c → has_initial_values P ≡ d → has_kinds_of_connections P ≡ e → (a ≡ true → HasDatums P) → first_of a b c d e ≡ Some n → IsFirstBad P n
unfolding first_of
some_first P false b c d e n p q r s t k h = let m : 1 ≡ n = cc in subst (IsFirstBad P) m (λ w. both_ways (is_well_formed P) p (from_well_formed P w))
some_first P true false c d e n p q r s t k h = let m : 2 ≡ n = cc in subst (IsFirstBad P) m (well_formed_from P (k refl) p, λ w. both_ways (has_ranks P) q (from_ranks P w))
some_first P true true false d e n p q r s t k h = let m : 3 ≡ n = cc in subst (IsFirstBad P) m (well_formed_from P (k refl) p, ranks_from P q, λ w. both_ways (has_one_connection_each P) r (from_connections P w))
some_first P true true true false e n p q r s t k h = let m : 4 ≡ n = cc in subst (IsFirstBad P) m (well_formed_from P (k refl) p, ranks_from P q, connections_from P r, λ w. both_ways (has_initial_values P) s (from_initials P w))
some_first P true true true true false n p q r s t k h = let m : 5 ≡ n = cc in subst (IsFirstBad P) m (well_formed_from P (k refl) p, ranks_from P q, connections_from P r, initials_from P s, λ w. both_ways (has_kinds_of_connections P) t (from_kinds P w))
some_first P true true true true true n p q r s t k h = cc

pub bad_is : (P : Plan) (n : ℕ) → (is_well_formed P ≡ true → HasDatums P) → first_bad P ≡ Some n → IsFirstBad P n
unfolding first_of
bad_is P n k h = some_first P (is_well_formed P) (has_ranks P) (has_one_connection_each P) (has_initial_values P) (has_kinds_of_connections P) n refl refl refl refl refl k h

pub valid_where : (P : Plan) → (is_well_formed P ≡ true → HasDatums P) → first_bad P ≡ None → IsValidPlan P
unfolding first_of
valid_where P k h = valid_is P (k (all_true (is_well_formed P) (has_ranks P) (has_one_connection_each P) (has_initial_values P) (has_kinds_of_connections P) h).0) h
