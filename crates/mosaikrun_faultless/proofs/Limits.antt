-- A journal that keeps to kinds meets no limit, where sequential execution over what they reply meets none.
use Rattle.std.proofs.Common.{◌≡◌, inl, inr, ℕ, ◌<◌, ◌≤◌, ◌⊎◌, true, List, [], ◌∷◌, ◌++◌, length, Option, Some, None, is_some, option_map, refl, sym, ap, ◌∙◌, subst, length-append, arith, true≢false}
use Rattle.std.specs.Prelude.{IsSome}
use Rattle.std.specs.List.{range_with_len}
use Rattle.mk_base.specs.declared.SimNo.{SimNo}
use Rattle.mk_base.specs.declared.tier.Tier.{Tier}
use Rattle.mk_base.specs.Lists.{IsIn}
use Rattle.mk_base.proofs.Lists.{in_front, range_in}
use Rattle.mk_plan.specs.declared.Plan.{Plan}
use Rattle.mk_plan.specs.declared.Message.{Message}
use Rattle.mk_plan.specs.declared.Entry.{Entry}
use Rattle.mk_plan.specs.declared.Entry.TheVariants.{Sent, Got}
use Rattle.mk_plan.specs.declared.Place.{Place}
use Rattle.mk_plan.specs.declared.Cause.{Cause}
use Rattle.mk_plan.specs.Plans.{IsValidPlan, sim_count}
use Rattle.mk_plan.specs.Turns.{next_place, wrong}
use Rattle.mk_plan.specs.Acts.{Act, Family, Heard, Said, Told}
use Rattle.mk_plan.specs.Deliveries.{supply}
use Rattle.mk_plan.specs.Sequential.{Messages, all_ended, next_step, run_talk, sequential, talk_of}
use Rattle.mk_plan.specs.Journals.{OpenTurn, Owed, View, ended_turn, note_got, note_right, place_at, said, sim_of, view}
use Rattle.mk_plan.specs.Ready.{IsReady}
use Rattle.mk_plan.specs.Advance.{IsAdvance}
use Rattle.mk_plan.specs.Orderly.{IsAllowed, IsOrderlySoFar}
use Rattle.mk_plan.specs.Agreement.{Continues}
use Rattle.mk_order_any.specs.Parts as theory
use Rattle.mk_order_any.proofs.ActLists.{each_ended}
use Rattle.mk_order_any.proofs.Invariant.{invariant_holds}
use Rattle.mk_order_any.proofs.Talks.{agrees, everywhere}
use Rattle.mk_order.proofs.Theory.{parts, laws, seq_is}
use Rattle.mk_order.proofs.Seen.{owed_at, reached, reached_sound, ready_seen, seen, turn_of}
use Rattle.mk_order.proofs.Told.{said_seen}
use Rattle.mk_order.proofs.Agreeing.{goes_on}
use Rattle.mk_order.proofs.Entries.{grown_new}
use Rattle.mk_order.proofs.Pushing.{orderly_front, view_push}
use Rattle.mk_run_laws.proofs.NextHeard.{next_heard}
use Rattle.mk_run.specs.Ends.{NeedsMore}
use Rattle.mk_run.proofs.NextRight.{message_right}
use Rattle.mosaikrun_faultless.specs.Limits.{MeetsNoLimit, whole_talk}
use Rattle.mosaikrun_faultless.proofs.Asked.{ready_low, step_behind}
use Rattle.mosaikrun_faultless.proofs.Counting.{all_said, counted, entry_low, open_low}
use Rattle.mosaikrun_faultless.proofs.Sums.{one_shorter}

its : (P : Plan) (V : View) (s : ℕ) (x : Tier) → IsReady P V s x → IsReady P V s x
its P V s x r = r

-- a list is empty, or has a last item
last_of : {X : Type 0} (xs : List X) → (xs ≡ []) ⊎ ((front : List X) × (x : X) × (xs ≡ front ++ x ∷ []))
last_of [] = inl refl
last_of (x ∷ xs) = elim (last_of xs) [
  | inl e ↦ inr ([], x, ap (λ l. x ∷ l) e)
  | inr t ↦ inr (x ∷ t.0, t.1, ap (λ l. x ∷ l) t.2)
]

module _ (P : Plan) (valid : IsValidPlan P) (R : Messages) (within : MeetsNoLimit P R) (whole : (i : ℕ) → i < sim_count P → all_ended (sequential P R i) ≡ true) (J : List Entry) (orderly : IsOrderlySoFar IsReady IsAdvance P J) (cont : Continues P J R) where
  abbrev V : View
  V = view P J

  is_reached : theory.Reached (parts P) (seen P (view P J))
  is_reached = reached IsReady IsAdvance P (its P) J orderly

  known : (i : ℕ) → i < sim_count P → theory.Prefix (theory.heard_of (parts P) (seen P (view P J)) i) (R i)
  known = goes_on IsReady IsAdvance P (its P) valid J orderly R cont

  talk_is : (i : ℕ) → theory.talk_in (parts P) (theory.seq (parts P) R i) ≡ run_talk P R i
  talk_is i = ap (λ (F : Family). talk_of (F i)) (seq_is P R)

  -- ---- room

  -- no more was said with a simulator than sequential execution says
  fits : (i : ℕ) → length (said V i) ≤ length (run_talk P R i)
  fits i =
      let t = agrees (parts P) (laws P valid) (seen P V) is_reached R known i in
      let e : length (run_talk P R i) ≡ length (said V i ++ t.0) = ap length (sym (talk_is i) ∙ t.1 ∙ ap (λ (l : List Said). l ++ t.0) (said_seen P V i)) in
      let a = length-append (said V i) t.0 in
      omega (arith, e, a)

  -- where a turn is open there is more to be said
  open_shorter : (i : ℕ) (T : OpenTurn) → V.open_at i ≡ Some T → length (said V i) < length (run_talk P R i)
  open_shorter i T is =
      let low = open_low P valid J orderly i T is in
      let all = each_ended (parts P) (theory.seq (parts P) R i) (ap (λ (F : Family). all_ended (F i)) (seq_is P R) ∙ whole i low) in
      let g = next_heard (parts P) (laws P valid) R (seen P V) is_reached known i (turn_of P V.owed i T) (ap (λ (o : Option OpenTurn). option_map (turn_of P V.owed i) o) is) all in
      let e : length (run_talk P R i) ≡ length ((said V i ++ owed_at V.owed i) ++ Heard g.m ∷ g.more) = ap length (sym (talk_is i) ∙ g.said ∙ ap (λ (l : List Said). (l ++ owed_at V.owed i) ++ Heard g.m ∷ g.more) (said_seen P V i)) in
      let a = length-append (said V i ++ owed_at V.owed i) (Heard g.m ∷ g.more) in
      let b = length-append (said V i) (owed_at V.owed i) in
      omega (arith, e, a, b)

  -- and so there is where somebody is ready
  ready_shorter : (s : ℕ) (x : Tier) → IsReady P V s x → length (said V s) < length (run_talk P R s)
  ready_shorter s x ready =
      let t = step_behind (parts P) (laws P valid) R (seen P V) is_reached known s x (ready_seen P V s x ready) in
      let next : Said = Told (next_step P (supply P V.acts) s x (V.acts s)) in
      let e : length (run_talk P R s) ≡ length (said V s ++ next ∷ t.0) = ap length (sym (talk_is s) ∙ t.1 ∙ ap (λ (l : List Said). l ++ next ∷ t.0) (said_seen P V s)) in
      let a = length-append (said V s) (next ∷ t.0) in
      omega (arith, e, a)

  full_is_all : V.fault ≡ None → length J ≡ P.entries → (k : ℕ) → k < sim_count P → length (said V k) < length (run_talk P R k) → ⊥
  full_is_all fine full k low less =
      let more : length (all_said P J) < length (whole_talk P R) = one_shorter (said V) (run_talk P R) (range_with_len 0 (sim_count P)) k (range_in k 0 (sim_count P) (omega arith) (omega (arith, low))) (λ i m. fits i) less in
      let count = counted P valid J orderly fine in
      let most = within.entries in
      absurd (omega (arith, more, count, most, full))

  -- where the journal is full no turn is open
  pub full_closed : (view P J).fault ≡ None → length J ≡ P.entries → (s : ℕ) → s < sim_count P → ((view P J).open_at s ≡ None → ⊥) → ⊥
  full_closed fine full s low opened = by_open ((view P J).open_at s) refl
    where
      by_open : (o : Option OpenTurn) → (view P J).open_at s ≡ o → ⊥
      by_open None e = opened e
      by_open (Some T) e = full_is_all fine full s low (open_shorter s T e)

  -- and it needs no more entry
  pub roomy : (left : Type 0) → (view P J).fault ≡ None → length J ≡ P.entries → NeedsMore P J left → ⊥
  roomy left fine full (inl owes) = by_owed (view P J).owed refl owes
    where
      by_owed : (o : Option Owed) → (view P J).owed ≡ o → IsSome o → ⊥
      by_owed None e some = absurd (true≢false (sym some))
      by_owed (Some o) e some = let t = (reached_sound IsReady IsAdvance P (its P) J orderly).turn o e in full_is_all fine full o.sim (open_low P valid J orderly o.sim t.0 t.1) (open_shorter o.sim t.0 t.1)
  roomy left fine full (inr (inl some)) = full_is_all fine full some.0 (ready_low (parts P) (laws P valid) (seen P V) some.0 some.1 (ready_seen P V some.0 some.1 some.2)) (ready_shorter some.0 some.1 some.2)
  roomy left fine full (inr (inr waits)) = full_closed fine full waits.1.0.0 waits.1.0.1.0 waits.1.0.1.1

  -- ---- faults

  -- a turn that has ended is one of sequential execution
  known_act : (i : ℕ) (a : Act) → IsIn a ((view P J).acts i) → IsIn a (sequential P R i)
  known_act i a there =
      let inv = invariant_holds (parts P) (laws P valid) (seen P (view P J)) is_reached in
      let t = (inv.agreeing R (everywhere (parts P) (laws P valid) (seen P (view P J)) is_reached R known)).known i in
      subst (λ (l : List Act). IsIn a l) (sym t.1 ∙ ap (λ (F : Family). F i) (seq_is P R)) (in_front a ((view P J).acts i) t.0 there)

  right_fine : (U : View) (s : ℕ) (m : Message) (T : OpenTurn) (q : Option Place) → view P J ≡ note_right P U s m T q → U.fault ≡ None → (view P J).fault ≡ None
  right_fine U s m T (Some q) is fine = ap (λ (W : View). W.fault) is ∙ fine
  right_fine U s m T None is fine = ap (λ (W : View). W.fault) is ∙ within.loops s (ended_turn T m) (known_act s (ended_turn T m) (subst (λ (W : View). IsIn (ended_turn T m) (W.acts s)) (sym is) (grown_new U.acts s (ended_turn T m))))

  -- where each message was awaited there is no fault
  pub no_fault : ((H : List Entry) (s : SimNo) (m : Message) (more : List Entry) → J ≡ H ++ Got s m ∷ more → s.0 < sim_count P → (view P H).open_at s.0 ≡ None → ⊥) → (view P J).fault ≡ None
  no_fault awaited = elim (last_of J) [
    | inl none ↦ ap (λ (K : List Entry). (view P K).fault) none
    | inr t ↦ by_last t.0 t.1 t.2
  ]
    where
      by_last : (H : List Entry) (e : Entry) → J ≡ H ++ e ∷ [] → (view P J).fault ≡ None
      by_last H e is = by_entry e refl
        where
          front : IsOrderlySoFar IsReady IsAdvance P H × IsAllowed IsReady IsAdvance P (view P H) e
          front = let t = orderly_front IsReady IsAdvance P H (e ∷ []) (subst (λ (K : List Entry). IsOrderlySoFar IsReady IsAdvance P K) is orderly) in (t.0, t.1.0)

          by_entry : (f : Entry) → e ≡ f → (view P J).fault ≡ None
          by_entry (Sent s item) q = ap (λ (K : List Entry). (view P K).fault) (is ∙ ap (λ (f : Entry). H ++ f ∷ []) q) ∙ ap (λ (W : View). W.fault) (view_push P H (Sent s item)) ∙ front.1.0
          by_entry (Got s m) q = by_open ((view P H).open_at s.0) (wrong P s.0 (place_at ((view P H).open_at s.0)) m) refl refl (ap (view P) there ∙ view_push P H (Got s m))
            where
              there : J ≡ H ++ Got s m ∷ []
              there = is ∙ ap (λ (f : Entry). H ++ f ∷ []) q

              low : s.0 < sim_count P
              low = subst (λ (f : Entry). sim_of f < sim_count P) q (entry_low P valid H e front.0 front.1)

              by_open : (o : Option OpenTurn) (c : Option Cause) → (view P H).open_at s.0 ≡ o → wrong P s.0 (place_at o) m ≡ c → view P J ≡ note_got P (view P H) s.0 m o c → (view P J).fault ≡ None
              by_open None c shut w e = absurd (awaited H s m [] there low shut)
              by_open (Some T) (Some c) opened w e = absurd (true≢false (ap is_some (sym w)
                  ∙ message_right P valid R H s m T front.0 front.1.0 (subst (λ (K : List Entry). Continues P K R) there cont) low opened (whole s.0 low)))
              by_open (Some T) None opened w e = right_fine (view P H) s.0 m T (next_place P s.0 T.place m) e front.1.0
