-- Which simulators ask, a connection or an asynchronous pair after the other.
use Rattle.std.proofs.Common.{◌≡◌, ◌≢◌, inl, inr, ℕ, ◌+◌, ◌<◌, ◌≤◌, Bool, true, false, ◌||◌, List, [], ◌∷◌, ◌++◌, length, take, get_or, Some, slice_get, slice_set, refl, sym, ap, ◌∙◌, arith, ◌==◌, All}
use Rattle.std.specs.List.{list_any}
use Rattle.std.proofs.lemmas.List.{take_all, take_more}
use Rattle.std.proofs.lemmas.Bool.Decides.{nat_tests}
use Rattle.mk_base.proofs.Lists.{set_here, set_else, below_get, get_is, all_at}
use Rattle.mk_plan.specs.declared.PlanEntity.{PlanEntity}
use Rattle.mk_plan.specs.declared.PlanModel.{PlanModel}
use Rattle.mk_plan.specs.Plans.{RefersInside}
use Rattle.mk_plan.specs.declared.Plan.{Plan}
use Rattle.mk_plan.specs.declared.Conn.{Conn}
use Rattle.mk_plan.specs.declared.AsyncPair.{AsyncPair}
use Rattle.mk_plan.specs.Plans.{owner}
use Rattle.mk_buffers.specs.Marking.{AreAsking}
use Rattle.mk_buffers_log.proofs.Places.{apart_or_same, get_any, get_some}
use Rattle.mk_base.proofs.Counts.{equal_same}
use Rattle.mk_base.proofs.Bools.{or_false, or_true}

-- those that the first connections go to
pub record HaveAsked (P : Plan) (n : ℕ) (conns : List Conn) (asks : List Bool) : Type 0 where
  pub count : length asks ≡ length P.sims
  pub each : (s : ℕ) → s < length P.sims → slice_get asks s ≡ Some (list_any (λ c. owner P c.to == s) (take n conns))

-- and those that are the second of one of the first asynchronous pairs
pub record HavePaired (P : Plan) (n : ℕ) (pairs : List AsyncPair) (asks : List Bool) : Type 0 where
  pub count : length asks ≡ length P.sims
  pub each : (s : ℕ) → s < length P.sims → slice_get asks s ≡ Some (list_any (λ c. owner P c.to == s) P.conns || list_any (λ p. p.to.0 == s) (take n pairs))

module _ {X : Type 0} (f : X → Bool) where
  any_more : (xs : List X) (n : ℕ) (x : X) → n < length xs → x ≡ get_or xs n x → list_any f (take (n + 1) xs) ≡ list_any f (take n xs) || f x
  any_more xs n x low is = ap (list_any f) (take_more xs n x low ∙ ap (λ (y : X). take n xs ++ y ∷ []) (sym is)) ∙ any_append (take n xs)
    where
      or_false : (b : Bool) → b || false ≡ b
      or_false true = refl
      or_false false = refl

      any_append : (ys : List X) → list_any f (ys ++ x ∷ []) ≡ list_any f ys || f x
      any_append [] = or_false (f x)
      any_append (y ∷ ys) = ap (λ (b : Bool). f y || b) (any_append ys) ∙ assoc (f y) (list_any f ys) (f x)
        where
          assoc : (a b c : Bool) → a || (b || c) ≡ (a || b) || c
          assoc true b c = refl
          assoc false b c = refl

apart_is : (m n : ℕ) → m ≢ n → (m == n) ≡ false
apart_is m n h = grind (arith, nat_tests)

-- one more that asks
flag : (asks new : List Bool) (o s : ℕ) (b : Bool) → o < length asks → new ≡ slice_set asks o true → slice_get asks s ≡ Some b → slice_get new s ≡ Some (b || (o == s))
flag asks new o s b low is at = elim (apart_or_same s o) [
  | inl same ↦ let old = below_get asks o low in ap (λ (l : List Bool). slice_get l s) is ∙ ap (slice_get (slice_set asks o true)) same ∙ set_here asks o true old.0 old.1 ∙ ap Some (sym (ap (λ (c : Bool). b || c) (equal_same o s (sym same)) ∙ or_true b))
  | inr apart ↦ ap (λ (l : List Bool). slice_get l s) is ∙ set_else asks o s true apart ∙ at ∙ ap Some (sym (ap (λ (c : Bool). b || c) (apart_is o s (λ q. apart (sym q))) ∙ or_false b))
]

pub asked_more : (P : Plan) (conns : List Conn) (n : ℕ) (c : Conn) (o : ℕ) (asks new : List Bool) → HaveAsked P n conns asks → n < length conns → c ≡ get_or conns n c → o ≡ owner P c.to → o < length P.sims → length new ≡ length asks → (o < length asks → new ≡ slice_set asks o true) → HaveAsked P (n + 1) conns new
asked_more P conns n c o asks new has low is own there count set = record {
  count = count ∙ has.count;
  each = λ s below. let k : o < length asks = omega (arith, there, has.count) in flag asks new o s _ k (set k) (has.each s below) ∙ ap Some (sym (any_more (λ c. owner P c.to == s) conns n c low is ∙ ap (λ (q : ℕ). list_any (λ c. owner P c.to == s) (take n conns) || (q == s)) (sym own)));
}

pub paired_more : (P : Plan) (pairs : List AsyncPair) (n : ℕ) (p : AsyncPair) (asks new : List Bool) → HavePaired P n pairs asks → n < length pairs → p ≡ get_or pairs n p → p.to.0 < length P.sims → length new ≡ length asks → (p.to.0 < length asks → new ≡ slice_set asks p.to.0 true) → HavePaired P (n + 1) pairs new
paired_more P pairs n p asks new has low is there count set = record {
  count = count ∙ has.count;
  each = λ s below. let k : p.to.0 < length asks = omega (arith, there, has.count) in flag asks new p.to.0 s _ k (set k) (has.each s below)
      ∙ ap Some (assoc (list_any (λ c. owner P c.to == s) P.conns) (list_any (λ p. p.to.0 == s) (take n pairs)) (p.to.0 == s) ∙ ap (λ (b : Bool). list_any (λ c. owner P c.to == s) P.conns || b) (sym (any_more (λ p. p.to.0 == s) pairs n p low is)));
}
  where
    assoc : (a b c : Bool) → (a || b) || c ≡ a || (b || c)
    assoc true b c = refl
    assoc false b c = refl

-- all connections have been looked at
pub paired_none : (P : Plan) (conns : List Conn) (pairs : List AsyncPair) (n : ℕ) (asks : List Bool) → conns ≡ P.conns → length conns ≤ n → HaveAsked P n conns asks → HavePaired P 0 pairs asks
paired_none P conns pairs n asks is all has = record {
  count = has.count;
  each = λ s below. has.each s below ∙ ap Some (ap (list_any (λ c. owner P c.to == s)) (take_all n conns all ∙ is) ∙ sym (or_false (list_any (λ c. owner P c.to == s) P.conns)));
}

pub asking_all : (P : Plan) (pairs : List AsyncPair) (n : ℕ) (asks : List Bool) → pairs ≡ P.asyncs → length pairs ≤ n → HavePaired P n pairs asks → AreAsking P asks
asking_all P pairs n asks is all has = record {
  count = has.count;
  each = λ s below. has.each s below ∙ ap Some (ap (λ (l : List AsyncPair). list_any (λ c. owner P c.to == s) P.conns || list_any (λ p. p.to.0 == s) l) (take_all n pairs all ∙ is));
}

-- a connection's target is of a simulator of the plan
pub target_there : (P : Plan) → RefersInside P → (conns : List Conn) (n : ℕ) (c : Conn) → conns ≡ P.conns → n < length conns → c ≡ get_or conns n c → owner P c.to < length P.sims
target_there P refs conns n c is low at =
    let ends = all_at (λ (c : Conn). (c.from < length P.entities) × (c.to < length P.entities)) P.conns n c refs.conns (sym (ap (λ (l : List Conn). slice_get l n) is) ∙ get_some conns n c low at) in
    let e = below_get P.entities c.to ends.1 in
    let m = below_get P.models e.0.model (all_at (λ (n : PlanEntity). (n.model < length P.models) × All (λ (r : ℕ). r < length P.entities) n.related) P.entities c.to e.0 refs.entities e.1).0 in
    let sim = all_at (λ (m : PlanModel). m.sim.0 < length P.sims) P.models e.0.model m.0 refs.models m.1 in
    rw (e.1, m.1) sim

pub second_there : (P : Plan) → RefersInside P → (pairs : List AsyncPair) (n : ℕ) (p : AsyncPair) → pairs ≡ P.asyncs → n < length pairs → p ≡ get_or pairs n p → p.to.0 < length P.sims
second_there P refs pairs n p is low at = (all_at (λ (p : AsyncPair). (p.from.0 < length P.sims) × (p.to.0 < length P.sims)) P.asyncs n p refs.asyncs (sym (ap (λ (l : List AsyncPair). slice_get l n) is) ∙ get_some pairs n p low at)).1

pub at_place : {X : Type 0} (xs : List X) (n : ℕ) (x : X) → slice_get xs n ≡ Some x → (n < length xs) × (x ≡ get_or xs n x)
at_place xs n x at = ((get_is xs n x at).0, sym (get_any xs n x x at))

-- the ends of a connection are entities of the plan
pub ends_there : (P : Plan) → RefersInside P → (n : ℕ) (c : Conn) → slice_get P.conns n ≡ Some c → (c.from < length P.entities) × (c.to < length P.entities)
ends_there P refs n c at = all_at (λ (c : Conn). (c.from < length P.entities) × (c.to < length P.entities)) P.conns n c refs.conns at
