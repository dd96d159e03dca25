-- The tables of new buffers are those of the plan.
use Rattle.std.proofs.Common.{◌≡◌, ◌⊎◌, inl, inr, ℕ, ℤ, zero, suc, ◌<◌, ◌≤◌, nat_lt, nat_le, get_or, true, false, ◌&&◌, List, [], ◌∷◌, length, Option, Some, None, pos, unwrap_or, option_map, slice_get, refl, sym, ap, subst, ◌∙◌, ◌+◌, arith, ◌==◌, ◌++◌}
use Rattle.std.proofs.lemmas.List.{length-append}
use Rattle.std.specs.Cmp.{IsTotalOrder}
use Rattle.std.specs.List.Sorted.{IsStrictlySortedBy}
use Rattle.std.specs.Ordering.{ordering_then, ordering_reverse, nat_cmp}
use Rattle.std.specs.declared.alloc.Global.{Global}
use Rattle.std.specs.declared.cmp.Ordering.{Ordering}
use Rattle.std.specs.declared.cmp.Ordering.TheVariants.{Less, Greater}
use Rattle.std.specs.declared.vec.Vec.{Vec}
use Rattle.std.proofs.lemmas.Bool.Decides.{nat_tests}
use Rattle.std.proofs.lemmas.Slice.Eq.{bytes_eq-Decides}
use Rattle.mk_base.specs.declared.tier.Via.{Via}
use Rattle.mk_base.specs.Lists.{IsIn, text_order, same_text}
use Rattle.mk_base.proofs.Lists.{some_same, in_at, at_in, get_is, below_get, all_in, in_filter, filter_in, some_passes}
use Rattle.mk_plan.specs.declared.Plan.{Plan}
use Rattle.mk_plan.specs.declared.Conn.{Conn}
use Rattle.mk_plan.specs.Asks.{gives_attr}
use Rattle.mk_plan.specs.Plans.{owner, eid_of, HasDistinctNames, RefersInside}
use Rattle.mk_buffers.specs.declared.buffers.Buffers.{Buffers}
use Rattle.mk_buffers.specs.declared.buffers.Home.{Home}
use Rattle.mk_buffers.specs.declared.inlets.Inlet.{Inlet}
use Rattle.mk_buffers.specs.declared.inlets.Target.{Target}
use Rattle.mk_buffers.specs.declared.outlets.Source.{Source}
use Rattle.mk_buffers.specs.declared.outlets.Outlet.{Outlet}
use Rattle.mk_buffers.specs.declared.outlets.Outlets.{Outlets}
use Rattle.mk_buffers.specs.declared.sets.Slot.{Slot}
use Rattle.mk_buffers.specs.Marking.{AreAsking, IsLeastMark}
use Rattle.mk_buffers.specs.inner.Marking.{AreStarts}
use Rattle.mk_base.specs.declared.tier.Tier.{Tier}
use Rattle.mk_base.specs.Tiers.{moment}
use Rattle.mk_plan.specs.Plans.{full_id, IsValidPlan}
use Rattle.mk_buffers.specs.Held.{is_key, has_key}
use Rattle.mk_buffers.specs.inner.Building.{outlet_order, IsSource, HasSources, AreOutlets, AreParts, IsPartOf}
use Rattle.mk_buffers.specs.inner.Listing.{IsTargetAt, AreTargets, IsInletOf, AreListed}
use Rattle.mk_buffers.specs.Standing.{HasHome, mark_of, IsInlet, AreInlets, IsFound, IsNew, HasSizes, IsUnset, IsLookedAt, IsTight}
use Rattle.mk_buffers.specs.inner.Standing.{AreHomes, AreUnset}
use Rattle.std.specs.List.{sum_by}
use Rattle.mk_plan.specs.Deliveries.{Timed}
use Rattle.mk_plan.proofs.FullIds.{owner_there, order_of}
use Rattle.mk_buffers.specs.declared.outlets.Part.{Part}
use Rattle.mk_buffers.specs.Bounds.{HasShape}
use Rattle.mk_buffers_log.specs.Logs.{IsFew}
use Rattle.mk_buffers.proofs.Collecting.{outlets_total, key_of}
use Rattle.mk_buffers.proofs.Aligning.{aligned}
use Rattle.mk_plan_judge.proofs.Puts.{all_has}
use Rattle.mk_buffers.proofs.Rising.{get_more}
use Rattle.mk_buffers.proofs.Standing.{key_is}
use Rattle.mk_base.proofs.Counts.{equal_same, same_equal}
use Rattle.mk_base.proofs.Bools.{both_hold}

sorted_at : {X : Type 0} (order : X → X → Ordering) (xs : List X) (i j : ℕ) (x y : X) → IsStrictlySortedBy order xs → i < j → slice_get xs i ≡ Some x → slice_get xs j ≡ Some y → order x y ≡ Less
unfolding IsStrictlySortedBy
sorted_at order [] i j x y s l at to = cc
sorted_at order (z ∷ zs) i zero x y s l at to = absurd (omega (arith, l))
sorted_at order (z ∷ zs) zero (suc j) x y s l at to = subst (λ w. order w y ≡ Less) (some_same at) (all_has (λ w. order z w ≡ Less) zs y s.0 (at_in y zs j to))
sorted_at order (z ∷ zs) (suc i) (suc j) x y s l at to = sorted_at order zs i j x y s.1 (omega (arith, l)) at to

-- a connection's source, from the test
conn_key : (c : Conn) (e : ℕ) (attr : List ℕ) → (c.from == e) && same_text c.from_attr attr ≡ true → (c.from ≡ e) × (c.from_attr ≡ attr)
conn_key c e attr h = let both = both_hold (c.from == e) (same_text c.from_attr attr) h in (same_equal c.from e both.0, (bytes_eq-Decides c.from_attr attr).0 both.1)

not_less : {X : Type 0} (order : X → X → Ordering) → IsTotalOrder order → (x : X) → order x x ≡ Less → ⊥
not_less order total x less = let wrong : Less ≡ Greater = sym less ∙ total.antisymm x x ∙ ap ordering_reverse less in cc

-- no set values yet
pub parts_none : (all : List Outlet) (xs : List Part) → xs ≡ [] → AreParts 0 all xs
parts_none all xs none = record { count = ap length none; each = λ s part at. absurd (no_more s part (sym (ap (λ (l : List Part). slice_get l s) none) ∙ at)) }
  where
    no_more : (s : ℕ) (part : Part) → slice_get (let l : List Part = [] in l) s ≡ Some part → ⊥
    no_more s part e = cc

pub parts_more : (all : List Outlet) (n : ℕ) (xs new : List Part) (part : Part) → AreParts n all xs → IsPartOf all n part → new ≡ xs ++ part ∷ [] → AreParts (n + 1) all new
parts_more all n xs new part are is whole = record {
  count = omega (arith, ap length whole, length-append xs (part ∷ []), are.count);
  each = λ s p at. elim (get_more xs part p s (sym (ap (λ (l : List Part). slice_get l s) whole) ∙ at)) [
    | inl h ↦ are.each s p h
    | inr h ↦ subst (λ k. IsPartOf all k p) (sym (h.0 ∙ are.count)) (subst (λ q. IsPartOf all n q) (sym h.1) is)
  ];
}

pub names_more : (P : Plan) (n : ℕ) (xs new : List (List ℕ)) (x : List ℕ) → (length xs ≡ n) × ((e : ℕ) (y : List ℕ) → slice_get xs e ≡ Some y → y ≡ full_id P e) → x ≡ full_id P n → new ≡ xs ++ x ∷ [] → (length new ≡ n + 1) × ((e : ℕ) (y : List ℕ) → slice_get new e ≡ Some y → y ≡ full_id P e)
names_more P n xs new x are is whole = (
  omega (arith, ap length whole, length-append xs (x ∷ []), are.0),
  λ e y at. elim (get_more xs x y e (sym (ap (λ (l : List (List ℕ)). slice_get l e) whole) ∙ at)) [
    | inl h ↦ are.1 e y h
    | inr h ↦ h.1 ∙ is ∙ ap (full_id P) (sym (h.0 ∙ are.0))
  ],
)

pub homes_more : (P : Plan) (parts : List Part) (n : ℕ) (xs new : List Home) (h : Home)
    → (length xs ≡ n) × ((e : ℕ) (g : Home) → slice_get xs e ≡ Some g → (slice_get parts e ≡ Some g.outlets) × (g.sim ≡ owner P e) × (g.eid ≡ eid_of P e)) → (slice_get parts n ≡ Some h.outlets) × (h.sim ≡ owner P n) × (h.eid ≡ eid_of P n) → new ≡ xs ++ h ∷ []
    → (length new ≡ n + 1) × ((e : ℕ) (g : Home) → slice_get new e ≡ Some g → (slice_get parts e ≡ Some g.outlets) × (g.sim ≡ owner P e) × (g.eid ≡ eid_of P e))
homes_more P parts n xs new h are is whole = (
  omega (arith, ap length whole, length-append xs (h ∷ []), are.0),
  λ e g at. elim (get_more xs h g e (sym (ap (λ (l : List Home). slice_get l e) whole) ∙ at)) [
    | inl k ↦ are.1 e g k
    | inr k ↦ subst (λ m. (slice_get parts m ≡ Some g.outlets) × (g.sim ≡ owner P m) × (g.eid ≡ eid_of P m)) (sym (k.0 ∙ are.0))
        (subst (λ (x : Home). (slice_get parts n ≡ Some x.outlets) × (x.sim ≡ owner P n) × (x.eid ≡ eid_of P n)) (sym k.1) is)
  ],
)

pub unset_more : (v w : List (List Slot)) (l : List Slot) → AreUnset (length v) v → l ≡ [] → w ≡ v ++ l ∷ [] → AreUnset (length w) w
unset_more v w l unset none whole = record {
  all = refl;
  each = λ s k there. elim (get_more v l k s (sym (ap (λ x. slice_get x s) whole) ∙ there)) [ inl h ↦ unset.each s k h | inr h ↦ h.1 ∙ none ];
}

module _ (P : Plan) (names : HasDistinctNames P) (done : List Source) (sources : HasSources P (length P.conns) done) (m : Outlets) (are : AreOutlets P done done m) where
  -- an outlet's simulator is its entity's
  sim_is : (o : Outlet) → IsIn o m.all.items → o.sim ≡ owner P o.entity
  sim_is o r = let t = are.each o r in let s = sources.each t.0 t.1 in t.2.sim ∙ s.sim ∙ sym (ap (owner P) (t.2.entity ∙ s.entity))

  one_key : (i j : ℕ) (o q : Outlet) → slice_get m.all.items i ≡ Some o → slice_get m.all.items j ≡ Some q → is_key o.entity o.attr q ≡ true → i ≡ j
  one_key i j o q at to key = elim (order_of i j) [
    | inl e ↦ e
    | inr r ↦ elim r [
      | inl l ↦ absurd (not_less (outlet_order P) (outlets_total P) o (sym (turned o q same.0 same.1 sims o) ∙ sorted_at (outlet_order P) m.all.items i j o q are.sorted l at to))
      | inr l ↦ absurd (not_less (outlet_order P) (outlets_total P) o (sym (turned_back o q same.0 same.1 sims o) ∙ sorted_at (outlet_order P) m.all.items j i q o are.sorted l to at))
    ]
  ]
    where
      same : (q.entity ≡ o.entity) × (q.attr ≡ o.attr)
      same = key_is o.entity o.attr q key

      sims : q.sim ≡ o.sim
      sims = sim_is q (at_in q m.all.items j to) ∙ ap (owner P) same.0 ∙ sym (sim_is o (at_in o m.all.items i at))

      turned : (o q : Outlet) → q.entity ≡ o.entity → q.attr ≡ o.attr → q.sim ≡ o.sim → (x : Outlet) → outlet_order P x q ≡ outlet_order P x o
      turned o q e a s x = λ k. ordering_then (nat_cmp x.sim (s k)) (ordering_then (text_order (eid_of P x.entity) (eid_of P (e k))) (text_order x.attr (a k)))

      turned_back : (o q : Outlet) → q.entity ≡ o.entity → q.attr ≡ o.attr → q.sim ≡ o.sim → (x : Outlet) → outlet_order P q x ≡ outlet_order P o x
      turned_back o q e a s x = λ k. ordering_then (nat_cmp (s k) x.sim) (ordering_then (text_order (eid_of P (e k)) (eid_of P x.entity)) (text_order (a k) x.attr))

  -- an outlet is that of a connection
  from_conn : (o : Outlet) → IsIn o m.all.items → (c : Conn) × IsIn c P.conns × (o.entity ≡ c.from) × (o.attr ≡ c.from_attr)
  from_conn o r = let t = are.each o r in let s = sources.each t.0 t.1 in (s.conn, at_in s.conn P.conns t.0.place s.at_place, t.2.entity ∙ s.entity, t.2.attr ∙ s.attr)

  -- a connection's outlet
  outlet_for : (p : ℕ) (c : Conn) → slice_get P.conns p ≡ Some c → (i : ℕ) × (slice_get m.of_conn.items p ≡ Some i) × (o : Outlet) × (slice_get m.all.items i ≡ Some o) × (o.entity ≡ c.from) × (o.attr ≡ c.from_attr) × IsIn c.via o.vias.items
  outlet_for p c at =
      let s = sources.all p (get_is P.conns p c at).0 in
      let is : IsSource P s.0 = sources.each s.0 s.1 in
      let conn : is.conn ≡ c = some_same (sym is.at_place ∙ ap (slice_get P.conns) s.2 ∙ at) in
      let h = are.conns s.0 s.1 in (
        h.outlet,
        sym (ap (slice_get m.of_conn.items) s.2) ∙ h.place,
        h.is,
        h.at_place,
        h.entity ∙ is.entity ∙ ap (λ (c : Conn). c.from) conn,
        h.attr ∙ is.attr ∙ ap (λ (c : Conn). c.from_attr) conn,
        subst (λ (v : Via). IsIn v h.is.vias.items) (is.via ∙ ap (λ (c : Conn). c.via) conn) h.via,
      )

  in_outlets : (c : Conn) → IsIn c P.conns → (o : Outlet) × IsIn o m.all.items × (o.entity ≡ c.from) × (o.attr ≡ c.from_attr)
  in_outlets c r = let p = in_at c P.conns r in let o = outlet_for p.0 c p.1 in (o.2, at_in o.2 m.all.items o.0 o.3, o.4, o.5)

  module _ (homes : List Home) (lives : AreHomes P m.of_entity.items homes) (targets : List Target) (ends : AreTargets P m.of_conn.items targets) (b : Buffers) (outlets : b.outlets ≡ m.all) (housed : b.homes.items ≡ homes) (until : b.until ≡ P.until) (listed : AreListed (length P.sims) targets b.inlets.items) (feeds : b.feeds.items ≡ m.of_sim.items) (parts : AreParts (length P.sims) m.all.items m.of_sim.items) (sizes : HasSizes P b) (unset : IsUnset b) (valid : IsValidPlan P) (asking : AreAsking P b.marks.asks) (least : IsLeastMark b.marks) (starts : AreStarts b.marks.marks) (noted : length b.next_marks.items ≡ length P.sims) (references : RefersInside P) where
    home_of : (e : ℕ) → e < length P.entities → HasHome P b e
    home_of e low = let h = below_get homes e (rw lives.count low) in let is = lives.each e h.0 h.1 in record { home = h.0; at_home = ap (λ (l : List Home). slice_get l e) housed ∙ h.1; sim = is.1; eid = is.2 }

    start_of : (s : ℕ) → mark_of b s ≡ moment (pos 0)
    start_of s = go (slice_get b.marks.marks s) refl
      where
        go : (o : Option Tier) → slice_get b.marks.marks s ≡ o → unwrap_or (slice_get b.marks.marks s) (moment (pos 0)) ≡ moment (pos 0)
        go None e = ap (λ (o : Option Tier). unwrap_or o (moment (pos 0))) e
        go (Some m) e = ap (λ (o : Option Tier). unwrap_or o (moment (pos 0))) e ∙ starts s m e

    found : (e : ℕ) (attr : List ℕ) → gives_attr P e attr ≡ true → IsFound b e attr
    found e attr given =
        let c = some_passes (λ (c : Conn). (c.from == e) && same_text c.from_attr attr) P.conns given in
        let p = in_at c.0 P.conns c.1 in
        let o = outlet_for p.0 c.0 p.1 in
        let own : (c.0.from ≡ e) × (c.0.from_attr ≡ attr) = conn_key c.0 e attr c.2 in
        let part = are.entities o.0 o.2 o.3 in
        let entity : o.2.entity ≡ e = o.4 ∙ own.0 in
        let low : e < length homes = rw lives.count (rw (sym are.entity_count) ((get_is m.of_entity.items e part.0 (sym (ap (slice_get m.of_entity.items) entity) ∙ part.1)).0)) in
        let h = below_get homes e low in
        let is : part.0 ≡ h.0.outlets = some_same (sym part.1 ∙ ap (slice_get m.of_entity.items) entity ∙ (lives.each e h.0 h.1).0) in
        record {
          home = h.0;
          at_home = ap (λ (l : List Home). slice_get l e) housed ∙ h.1;
          place = o.0;
          first = subst (λ q. q.first ≤ o.0) is part.2;
          end = subst (λ q. o.0 < q.end) is part.3;
          key = ap (λ v. has_key v.items e attr o.0) outlets ∙ ap (λ (x : Option Outlet). unwrap_or (option_map (is_key e attr) x) false) o.3 ∙ key_of o.2 e attr entity (o.5 ∙ own.1);
        }

    inlet_is : (t : Target) (p : ℕ) (i : Inlet) → IsInletOf t i → (at : IsTargetAt P m.of_conn.items p t) → IsInlet P b at.of i
    inlet_is t p i f at =
        let o = outlet_for p at.of at.at_place in
        let place : i.outlet ≡ o.0 = f.outlet ∙ at.is.to ∙ some_same (sym at.outlet ∙ o.1) in
        record {
          eid = f.eid ∙ at.is.eid;
          attr = f.attr ∙ ap (λ (c : Conn). c.to_attr) at.is.conn;
          source = f.source ∙ at.is.source;
          via = f.via ∙ ap (λ (c : Conn). c.via) at.is.conn;
          persistent = f.persistent ∙ ap (λ (c : Conn). c.persistent) at.is.conn;
          initial = f.initial ∙ ap (λ (c : Conn). c.initial) at.is.conn;
          outlet = o.2;
          at_place = ap (λ v. slice_get v.items i.outlet) outlets ∙ ap (slice_get m.all.items) place ∙ o.3;
          entity = o.4;
          from_attr = o.5;
          delay = o.6;
        }

    inlets_are : (s : ℕ) (l : Vec Inlet Global) → slice_get b.inlets.items s ≡ Some l → AreInlets P b s l.items
    inlets_are s l at = let a = listed.each s l at in record {
      sorted = a.sorted;
      each = λ i r. let t = a.each i r in let k = ends.each t.0 t.1 in
          (k.1.of, filter_in (λ (c : Conn). owner P c.to == s) k.1.of P.conns (at_in k.1.of P.conns k.0 k.1.at_place) (equal_same (owner P k.1.of.to) s (sym k.1.is.sim ∙ t.2)), inlet_is t.0 k.0 i t.3 k.1);
      all = λ c r.
          let f = in_filter (λ (c : Conn). owner P c.to == s) c P.conns r in
          let p = in_at c P.conns f.0 in
          let t = ends.all p.0 (get_is P.conns p.0 c p.1).0 in
          let conn : t.2.of ≡ c = some_same (sym t.2.at_place ∙ p.1) in
          let i = a.all t.0 t.1 (t.2.is.sim ∙ ap (λ (d : Conn). owner P d.to) conn ∙ same_equal (owner P c.to) s f.1) in
          (i.0, i.1, subst (λ (d : Conn). IsInlet P b d i.0) conn (inlet_is t.0 p.0 i.0 i.2 t.2));
    }

    at_all : (i : ℕ) (o : Outlet) → slice_get b.outlets.items i ≡ Some o → slice_get m.all.items i ≡ Some o
    at_all i o at = sym (ap (λ v. slice_get v.items i) outlets) ∙ at

    empty_log : (i : ℕ) (o : Outlet) → slice_get b.outlets.items i ≡ Some o → o.log ≡ []
    empty_log i o at = (are.each o (at_in o m.all.items i (at_all i o at))).2.log

    shape_of : HasShape P b.outlets.items
    shape_of = record {
      taken = λ i o at. from_conn o (at_in o m.all.items i (at_all i o at));
      delays = λ i o v at r. let t = are.delays o v (at_in o m.all.items i (at_all i o at)) r in let s = sources.each t.0 t.1 in
          (s.conn, at_in s.conn P.conns t.0.place s.at_place, t.2.entity ∙ s.entity, t.2.attr ∙ s.attr, t.2.via ∙ s.via);
      few = subst (λ v. sum_by (λ (o : Outlet). length o.vias.items) v.items ≤ length P.conns) (sym outlets) (omega (arith, are.few, sources.count));
    }

    -- an outlet stands among those of its simulator
    in_part : (o : Outlet) (i : ℕ) (part : Part) → slice_get m.all.items i ≡ Some o → IsPartOf m.all.items o.sim part → (part.first ≤ i) × (i < part.end)
    in_part o i part at is = (first (le_or part.first i), end (le_or part.end i))
      where
        le_or : (n k : ℕ) → (k < n) ⊎ (n ≤ k)
        le_or n k = grind arith

        there : (i < length m.all.items) × (get_or m.all.items i o ≡ o)
        there = get_is m.all.items i o at

        first : (i < part.first) ⊎ (part.first ≤ i) → part.first ≤ i
        first (inl l) = absurd (not_self o.sim (subst (λ (q : Outlet). nat_lt q.sim o.sim ≡ true) there.1 (is.first.0 i o (omega arith) l)))
          where
            not_self : (n : ℕ) → nat_lt n n ≡ true → ⊥
            not_self n h = grind (arith, nat_tests)
        first (inr l) = l

        end : (i < part.end) ⊎ (part.end ≤ i) → i < part.end
        end (inl l) = l
        end (inr l) = absurd (self_le o.sim (subst (λ (q : Outlet). nat_le q.sim o.sim ≡ false) there.1 (is.end.1 i o l there.0)))
          where
            self_le : (n : ℕ) → nat_le n n ≡ false → ⊥
            self_le n h = grind (arith, nat_tests)

    looked_at : (i : ℕ) (o : Outlet) → slice_get b.outlets.items i ≡ Some o → IsLookedAt b i o
    looked_at i o at =
        let r = at_in o m.all.items i (at_all i o at) in
        let c = from_conn o r in
        let home : o.entity < length P.entities = let l = (all_in (λ c. (c.from < length P.entities) × (c.to < length P.entities)) P.conns c.0 references.conns c.1).0 in omega (arith, l, c.2) in
        let low : o.sim < length P.sims = subst (λ (n : ℕ). n < length P.sims) (sym (sim_is o r)) (owner_there P names references o.entity home) in
        let part = below_get m.of_sim.items o.sim (let n = parts.count in omega (arith, low, n)) in
        let inside = in_part o i part.0 (at_all i o at) (parts.each o.sim part.0 part.1) in
        record { part = part.0; at_sim = ap (λ l. slice_get l o.sim) feeds ∙ part.1; first = inside.0; end = inside.1; noted = omega (arith, low, noted) }

    none_few : (vs : List Via) (u : ℤ) (x : Tier) (l : List Timed) → l ≡ [] → IsFew vs u x l
    none_few vs u x l none = subst (IsFew vs u x) (sym none) (omega arith)

    tight_of : IsTight b
    tight_of = record {
      few = λ i o at low. none_few o.vias.items b.until b.marks.least o.log (empty_log i o at);
      stays = λ i o at x above due. none_few o.vias.items b.until x o.log (empty_log i o at);
      looked = looked_at;
    }

    pub founded : IsNew P b
    founded = record {
      unset = unset;
      starts = start_of;
      of_plan = record {
        valid = valid;
        homes = home_of;
        home_count = ap length housed ∙ lives.count;
        asking = asking;
        least = least;
        shape = shape_of;
        tight = tight_of;
        sizes = sizes;
        until = until;
        once = λ i j o q at to key. one_key i j o q (sym (ap (λ v. slice_get v.items i) outlets) ∙ at) (sym (ap (λ v. slice_get v.items j) outlets) ∙ to) key;
        inlets = inlets_are;
        found = found;
        aligned = λ s part at i w want. aligned P b s part m.all.items (ap (λ v. v.items) outlets) are.sorted (λ o r. sim_is o r) (λ o r. from_conn o r) (λ c r. in_outlets c r) (parts.each s part (sym (ap (λ l. slice_get l s) feeds) ∙ at)).first i w want;
      };
      empty = λ i o at. (are.each o (at_in o m.all.items i (sym (ap (λ v. slice_get v.items i) outlets) ∙ at))).2.log;
    }
