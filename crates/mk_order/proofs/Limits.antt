-- While there is no fault, no trigger is beyond the loop limit.
use Rattle.std.proofs.Common.{◌≡◌, ℕ, ◌+◌, ◌≤◌, ℤ, Bool, true, false, ◌&&◌, List, [], ◌∷◌, ◌++◌, filter, find, Option, Some, None, option_map, unwrap_or, refl, sym, ap, ◌∙◌, subst, inl, inr, arith, true≢false, int_lt, nat_le, ◌==◌, if◌then◌else◌, fold}
use Rattle.std.proofs.lemmas.Bool.{eqb-true, eq-eqb, leb-true, le-leb}
use Rattle.mk_base.specs.declared.tier.Tier.{Tier}
use Rattle.mk_base.specs.declared.tier.Via.{Via}
use Rattle.mk_base.specs.declared.tier.Via.TheVariants.{Plain, Shift, Weak}
use Rattle.mk_base.specs.Lists.{IsIn, Each}
use Rattle.mk_base.specs.Tiers.{delayed, moment}
use Rattle.mk_base.proofs.Lists.{some_same, none_some, each_in, in_each, in_either, in_filter, filter_in, map_in, filter_map_in}
use Rattle.mk_plan.specs.declared.Plan.{Plan}
use Rattle.mk_plan.specs.declared.Conn.{Conn}
use Rattle.mk_plan.specs.declared.Item.TheVariants.{Step, GetData, Answer, Refuse}
use Rattle.mk_plan.specs.declared.Message.{Message}
use Rattle.mk_plan.specs.declared.Entry.{Entry}
use Rattle.mk_plan.specs.declared.Entry.TheVariants.{Sent, Got}
use Rattle.mk_plan.specs.Plans.{owner}
use Rattle.mk_plan.specs.declared.Place.{Place}
use Rattle.mk_plan.specs.declared.Cause.{Cause}
use Rattle.mk_plan.specs.Turns.{wrong, next_place}
use Rattle.mk_plan.specs.Acts.{Act, output_time, made, output}
use Rattle.mk_plan.specs.Deliveries.{Timed, supply, outputs_of, deliveries, triggers, triggering_to}
use Rattle.mk_plan.specs.Due.{is_in_run}
use Rattle.mk_plan.specs.Sequential.{grown, no_acts}
use Rattle.mk_plan.specs.Journals.{OpenTurn, Owed, View, Fault, LoopLimit, empty_view, with_open, place_at, told_more, note_sent, beyond, loop_fault, ended_turn, note_right, note_got, note, view}
use Rattle.mk_plan.specs.Ready.{IsReady}
use Rattle.mk_plan.specs.Orderly.{IsNext, IsAllowed, IsOrderlyFrom, IsOrderlySoFar}
use Rattle.mk_plan.specs.Report.{is_step}
use Rattle.mk_order.proofs.Reasons.{in_due, found, in_triggers, triggers_early, pending_due}
use Rattle.mk_order.proofs.Seen.{IsSound, open_after_is, follows}
use Rattle.mk_base.proofs.Counts.{same_self}
use Rattle.mk_base.proofs.Bools.{and_holds, both_hold}

-- ---- what an act triggers

find_none : {X : Type 0} (p : X → Bool) (x : X) (xs : List X) → find p xs ≡ None → IsIn x xs → p x ≡ false
find_none p x [] e m = absurd m
find_none p x (y ∷ ys) e m = go (λ f k. find_none p x ys f k) (p y) refl e m
  where
    go : (find p ys ≡ None → IsIn x ys → p x ≡ false) → (b : Bool) → p y ≡ b → (if b then Some y else find p ys) ≡ None → IsIn x (y ∷ ys) → p x ≡ false
    go rest true q f k = absurd (none_some (sym f))
    go rest false q f (inl s) = ap p s ∙ q
    go rest false q f (inr k) = rest f k

made_tier : (a : Act) → (made a).tier ≤ a.at.tier
made_tier a = at_time (output_time a)
  where
    at_time : (t : Option ℤ) → (unwrap_or (option_map (λ (o : ℤ). if int_lt a.at.time o then moment o else a.at) t) a.at).tier ≤ a.at.tier
    at_time None = omega arith
    at_time (Some o) = elim (int_lt a.at.time o) as (λ b. (if b then moment o else a.at).tier ≤ a.at.tier) [ true ↦ omega arith | false ↦ omega arith ]

delayed_tier : (x : Tier) (v : Via) → (delayed x v).tier ≤ x.tier + 1
delayed_tier x Plain = omega arith
delayed_tier x (Shift d) = omega arith
delayed_tier x Weak = omega arith

module _ (P : Plan) where
  -- an act of i within the loop limit that triggers nobody beyond it
  pub record IsInLimit (i : ℕ) (a : Act) : Type 0 where
    pub tier : a.at.tier ≤ P.loops
    pub triggers : loop_fault P i a ≡ None

  is_beyond : Timed → Bool
  is_beyond d = d.at.tier == P.loops + 1

  beyond_none : (i : ℕ) (a : Act) (c : Conn) (cs : List Conn) → beyond P i a cs ≡ None → IsIn c cs → find (λ d. d.at.tier == P.loops + 1) (deliveries P (supply P (grown no_acts i a)) c) ≡ None
  beyond_none i a c [] e m = absurd m
  beyond_none i a c (b ∷ cs) e m = go (λ f k. beyond_none i a c cs f k) (find (λ d. d.at.tier == P.loops + 1) (deliveries P (supply P (grown no_acts i a)) b)) refl e m
    where
      go : (beyond P i a cs ≡ None → IsIn c cs → find (λ d. d.at.tier == P.loops + 1) (deliveries P (supply P (grown no_acts i a)) c) ≡ None)
          → (o : Option Timed) → find (λ d. d.at.tier == P.loops + 1) (deliveries P (supply P (grown no_acts i a)) b) ≡ o
          → elim o as (λ _. Option Fault) [ None ↦ beyond P i a cs | Some d ↦ Some (LoopLimit (owner P b.to) d.at.time) ] ≡ None → IsIn c (b ∷ cs)
          → find (λ d. d.at.tier == P.loops + 1) (deliveries P (supply P (grown no_acts i a)) c) ≡ None
      go rest None f e (inl q) = subst (λ (k : Conn). find (λ d. d.at.tier == P.loops + 1) (deliveries P (supply P (grown no_acts i a)) k) ≡ None) (sym q) f
      go rest None f e (inr k) = rest e k
      go rest (Some d) f e m = absurd (none_some (sym e))

  -- what an act in the limit triggers is in the limit
  pub trigger_in_limit : (a : Act) (c : Conn) (s : ℕ) (w : List ℕ) → IsInLimit (owner P c.from) a → IsIn c (triggering_to P s) → output P a c.from c.from_attr ≡ Some w
      → int_lt (delayed (made a) c.via).time P.until ≡ true → is_in_run P (delayed (made a) c.via) ≡ true
  trigger_in_limit a c s w kept m gives early = and_holds _ _ early (le-leb (delayed (made a) c.via).tier P.loops low)
    where
      j : ℕ
      j = owner P c.from

      d : Timed
      d = record { at = delayed (made a) c.via; value = w }

      from_j : IsIn c (filter (λ (c : Conn). c.triggering && (owner P c.from == j)) P.conns)
      from_j = let t = in_filter (λ (c : Conn). c.triggering && (owner P c.to == s)) c P.conns m in
          filter_in (λ (c : Conn). c.triggering && (owner P c.from == j)) c P.conns t.0 (and_holds c.triggering (owner P c.from == j) (both_hold c.triggering (owner P c.to == s) t.1).0 (same_self j))

      outputs : (supply P (grown no_acts j a)).outputs c.from c.from_attr ≡ outputs_of P c.from c.from_attr (a ∷ [])
      outputs = ap (λ (b : Bool). outputs_of P c.from c.from_attr (if b then [] ++ a ∷ [] else [])) (same_self j)

      made_here : IsIn (let o : Timed = record { at = made a; value = w } in o) ((supply P (grown no_acts j a)).outputs c.from c.from_attr)
      made_here = subst (λ (l : List Timed). IsIn (let o : Timed = record { at = made a; value = w } in o) l) (sym outputs)
          (filter_map_in (λ (a : Act). option_map (λ v. let r : Timed = record { at = made a; value = v } in r) (output P a c.from c.from_attr)) a (record { at = made a; value = w }) (a ∷ []) (inl refl)
          (ap (option_map (λ v. let r : Timed = record { at = made a; value = v } in r)) gives))

      delivered : IsIn d (deliveries P (supply P (grown no_acts j a)) c)
      delivered = filter_in (λ (d : Timed). int_lt d.at.time P.until) d _ (map_in (λ (o : Timed). let r : Timed = record { at = delayed o.at c.via; value = o.value } in r) (record { at = made a; value = w }) ((supply P (grown no_acts j a)).outputs c.from c.from_attr) made_here) early

      not_beyond : (d.at.tier == P.loops + 1) ≡ false
      not_beyond = find_none (λ (d : Timed). d.at.tier == P.loops + 1) d (deliveries P (supply P (grown no_acts j a)) c) (beyond_none j a c _ kept.triggers from_j) delivered

      low : d.at.tier ≤ P.loops
      low = let no : d.at.tier ≡ P.loops + 1 → ⊥ = λ e. true≢false (sym (eq-eqb d.at.tier (P.loops + 1) e) ∙ not_beyond) in
          let t : (made a).tier ≤ a.at.tier = made_tier a in
          let u : d.at.tier ≤ (made a).tier + 1 = delayed_tier (made a) c.via in
          let l : a.at.tier ≤ P.loops = kept.tier in
          omega (arith, no)

-- ---- journals

module _ (Ready : Plan → View → ℕ → Tier → Type 0) (Advance : Plan → View → ℕ → Tier → ℤ → Type 0) (P : Plan) (truly : (V : View) (s : ℕ) (x : Tier) → Ready P V s x → IsReady P V s x) where
  -- open turns are in the limit, and without a fault so are acts and what they trigger
  pub record IsKept (V : View) : Type 0 where
    pub opened : (i : ℕ) (T : OpenTurn) → V.open_at i ≡ Some T → T.at.tier ≤ P.loops
    pub acts : V.fault ≡ None → (i : ℕ) → Each (IsInLimit P i) (V.acts i)

  opened_with : (V : View) → IsKept V → (s : ℕ) (o : Option OpenTurn) → ((T : OpenTurn) → o ≡ Some T → T.at.tier ≤ P.loops) → (i : ℕ) (T : OpenTurn) → with_open V s o i ≡ Some T → T.at.tier ≤ P.loops
  opened_with V kept s o here i T = elim (i == s) as (λ b. (if b then o else V.open_at i) ≡ Some T → T.at.tier ≤ P.loops) [ true ↦ here T | false ↦ kept.opened i T ]

  ready_tier : (V : View) (s : ℕ) (x : Tier) → IsReady P V s x → x.tier ≤ P.loops
  ready_tier V s x ready =
      let t = in_due P V.acts s x (found x _ (pending_due P V.acts s x ready.at_pending)) in
      leb-true x.tier P.loops (both_hold (int_lt x.time P.until) (nat_le x.tier P.loops) t.2).1

  kept_got : (V : View) → IsKept V → V.fault ≡ None → (i : ℕ) (m : Message) (o : Option OpenTurn) (c : Option Cause) → V.open_at i ≡ o → IsKept (note_got P V i m o c)
  kept_got V kept fine i m o (Some c) is = record { opened = kept.opened; acts = λ e. absurd (none_some (sym e)) }
  kept_got V kept fine i m None None is = kept
  kept_got V kept fine i m (Some T) None is = right (next_place P i T.place m)
    where
      tier : T.at.tier ≤ P.loops
      tier = kept.opened i T is

      right : (q : Option Place) → IsKept (note_right P V i m T q)
      right (Some q) = record { opened = opened_with V kept i _ (λ S e. subst (λ (U : OpenTurn). U.at.tier ≤ P.loops) (some_same e) tier); acts = kept.acts }
      right None = record {
        opened = opened_with V kept i None (λ S e. absurd (none_some e));
        acts = λ e j. grows e j (j == i) refl;
      }
        where
          a : Act
          a = ended_turn T m

          grows : loop_fault P i a ≡ None → (j : ℕ) (b : Bool) → (j == i) ≡ b → Each (IsInLimit P j) (if b then V.acts j ++ a ∷ [] else V.acts j)
          grows e j false n = kept.acts fine j
          grows e j true s = each_in (IsInLimit P j) (V.acts j ++ a ∷ []) (λ u k. elim (in_either u (V.acts j) (a ∷ []) k) [
            | inl old ↦ in_each (IsInLimit P j) u (V.acts j) (kept.acts fine j) old
            | inr (inl new) ↦ subst (IsInLimit P j) (sym new) (subst (λ (k : ℕ). IsInLimit P k a) (sym (eqb-true j i s)) (record { tier = tier; triggers = e }))
            | inr (inr n) ↦ absurd n
          ])

  kept_after : (V : View) (e : Entry) → IsKept V → IsSound V → IsAllowed Ready Advance P V e → IsKept (note P V e)
  kept_after V e kept sound allowed = by_owed V.owed refl allowed.1
    where
      alone : (e : Entry) → IsNext Ready Advance P V None e → IsKept (note P V e)
      alone (Got s m) next = kept_got V kept allowed.0 s.0 m (V.open_at s.0) (wrong P s.0 (place_at (V.open_at s.0)) m) refl
      alone (Sent s (Step x ins advance)) next = record { opened = opened_with V kept s.0 _ (λ T q. subst (λ (U : OpenTurn). U.at.tier ≤ P.loops) (some_same q) (ready_tier V s.0 x (truly V s.0 x next.0.0))); acts = kept.acts }
      alone (Sent s (GetData wants)) next = absurd next
      alone (Sent s (Answer id content)) next = absurd next
      alone (Sent s (Refuse id reason)) next = absurd next

      goes : (o : Owed) (T : OpenTurn) → V.open_at o.sim ≡ Some T → is_step o.item ≡ false → IsKept (note_sent P V o.sim o.item)
      goes o T is late = record {
        opened = opened_with V kept o.sim _ (λ S q. subst (λ (U : OpenTurn). U.at.tier ≤ P.loops) (some_same (sym (open_after_is P V o.sim o.item late ∙ ap (option_map (told_more o.item)) is) ∙ q)) (kept.opened o.sim T is));
        acts = kept.acts;
      }

      by_owed : (o : Option Owed) → V.owed ≡ o → IsNext Ready Advance P V o e → IsKept (note P V e)
      by_owed None owes next = alone e next
      by_owed (Some o) owes next = let t = sound.turn o owes in subst (λ (f : Entry). IsKept (note P V f)) (sym next) (goes o t.0 t.1 (sound.later o owes))

  kept_from : (V : View) (J : List Entry) → IsKept V → IsSound V → IsOrderlyFrom Ready Advance P V J → IsKept (fold (note P) V J)
  kept_from V [] kept sound orderly = kept
  kept_from V (e ∷ es) kept sound orderly = kept_from (note P V e) es (kept_after V e kept sound orderly.0) (follows Ready Advance P truly V e sound orderly.0).1 orderly.1

  pub view_kept : (J : List Entry) → IsOrderlySoFar Ready Advance P J → IsKept (view P J)
  view_kept J orderly = kept_from empty_view J (record { opened = λ i T e. absurd (none_some e); acts = λ e i. tt }) (record { turn = λ o e. absurd (none_some e); later = λ o e. absurd (none_some e) }) orderly

  -- while there is no fault each trigger is within the run and the loop limit
  pub triggers_within : (J : List Entry) → IsOrderlySoFar Ready Advance P J → (view P J).fault ≡ None → (s : ℕ) (d : Tier) → IsIn d (triggers P (supply P (view P J).acts) s) → is_in_run P d ≡ true
  triggers_within J orderly fine s d m =
      let t = in_triggers P (view P J).acts s d m in
      let c : Conn = t.0 in
      let a : Act = t.2.0 in
      let kept : IsInLimit P (owner P c.from) a = in_each (IsInLimit P (owner P c.from)) a ((view P J).acts (owner P c.from)) ((view_kept J orderly).acts fine (owner P c.from)) t.2.1 in
      let early : int_lt d.time P.until ≡ true = triggers_early P (view P J).acts s d m in
      subst (λ (x : Tier). is_in_run P x ≡ true) (sym t.2.2.2) (trigger_in_limit P a c s t.2.2.0 kept t.1 t.2.2.1 (ap (λ (x : Tier). int_lt x.time P.until) (sym t.2.2.2) ∙ early))
