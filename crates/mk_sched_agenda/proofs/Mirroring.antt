-- An agenda that mirrors a view: how it begins, what it answers, and that a Step keeps it so.
use Rattle.std.proofs.Common.{◌≡◌, ℕ, zero, suc, ◌<◌, ◌≤◌, ℤ, ◌≤ℤ◌, Bool, true, false, List, [], ◌∷◌, length, Option, Some, None, is_some, unwrap_or, slice_set, All, refl, sym, ap, ◌∙◌, subst, inl, inr, arith, true≢false}
use Rattle.std.specs.Prelude.{MatchOption}
use Rattle.std.specs.List.{list_any}
use Rattle.std.proofs.lemmas.Bool.{cases_lt}
use Rattle.mk_base.specs.declared.SimNo.{SimNo}
use Rattle.mk_base.specs.declared.tier.Tier.{Tier}
use Rattle.mk_base.specs.Lists.{IsIn}
use Rattle.mk_base.specs.Tiers.{HasWidth}
use Rattle.mk_base.proofs.Lists.{all_at, some_same, none_some, length_set, below_get, set_here, set_else}
use Rattle.mk_plan.specs.declared.Plan.{Plan}
use Rattle.mk_plan.specs.declared.Conn.{Conn}
use Rattle.mk_plan.specs.declared.Entry.{Entry}
use Rattle.mk_plan.specs.declared.Input.{Input}
use Rattle.mk_plan.specs.declared.Item.{Item}
use Rattle.mk_plan.specs.declared.Item.TheVariants.{Step}
use Rattle.mk_plan.specs.declared.Message.{Message}
use Rattle.mk_plan.specs.declared.Place.{Place}
use Rattle.mk_plan.specs.Report.{is_step}
use Rattle.mk_order.proofs.Entries.{step_last, step_last_apart, told_last, went_last}
use Rattle.mk_plan.specs.Plans.{sim_count, IsValidPlan}
use Rattle.mk_plan.specs.Journals.{View, OpenTurn, empty_view, note_sent, note_right, view}
use Rattle.mk_plan.specs.Walks.{Reach, nobody, IsEarliest}
use Rattle.mk_plan.specs.Ready.{start, last_step, IsReady}
use Rattle.mk_plan.specs.Advance.{IsAdvance}
use Rattle.mk_plan.specs.Orderly.{IsFirstReady, IsOrderlySoFar}
use Rattle.mk_nextstep.specs.declared.queue.Due.{Due}
use Rattle.mk_nextstep.specs.Queues.{time_of, least, later, least_trigger_after}
use Rattle.mk_tiers.specs.Seen.{Seen, AreOfPlan, start_in, is_busy_in, IsEarliestIn, IsFirstReadyIn, IsOuterIn}
use Rattle.mk_order.proofs.EntityNames.{owner_is_below}
use Rattle.mk_order.proofs.Pends.{start_is, closed_start, pends_step, pends_step_apart, pends_told, pends_went}
use Rattle.mk_order.specs.Pending.{Pends, StartsOf}
use Rattle.mk_order.proofs.Tables.{starts_stepped, starts_told, starts_went, earliest_by, unreached_by, sooner, advance_by, advance_by_queue}
use Rattle.mk_sched_agenda.specs.declared.limits.Limits.{Limits}
use Rattle.mk_sched_agenda.specs.declared.outlets.Outlet.{Outlet}
use Rattle.mk_sched_agenda.specs.Outlets.{IsOutletOf, AreOutletsOf, outlets_in}
use Rattle.mk_plan.specs.Deliveries.{triggering_from, triggering_in}
use Rattle.mk_sched_agenda.specs.inner.Outlets.{AreRowsOf}
use Rattle.mk_sched_agenda.specs.Dues.{queue_in, last_in, limits_of}
use Rattle.mk_sched_agenda.specs.inner.Dues.{IsSound, IsTidy, is_open, with_start}
use Rattle.mk_sched_agenda.specs.inner.Begun.{AreBegun, AreNone}
use Rattle.mk_sched_agenda.specs.Mirrors.{AgendaState, flag_of, Mirrors}
use Rattle.mk_sched_agenda.proofs.Queued.{least_is_least, later_is_after, least_trigger_is}
use Rattle.mk_sched_agenda.proofs.Tabled.{first_is, nobody_is, outer_is, own_here, own_else, busy_here, busy_else}
use Rattle.mk_sched_agenda.proofs.Tidying.{queue_here, queue_else}
use Rattle.mk_sched_agenda.proofs.Begins.{begun_count, begun_pends, begun_starts}
use Rattle.mk_base.specs.Limits.{latest_end}
use Rattle.mk_base.proofs.Items.{in_all, take_whole}
use Rattle.mk_base.proofs.Counts.{same_or_not}

-- ---- the beginning

module _ (P : Plan) where
  outlet_of : (cs : List Conn) (os : List Outlet) (o : Outlet) → AreOutletsOf P cs os → IsIn o os → (c : Conn) × IsOutletOf P c o
  outlet_of [] [] o all m = absurd m
  outlet_of [] (p ∷ os) o all m = absurd all
  outlet_of (d ∷ cs) [] o all m = absurd m
  outlet_of (d ∷ cs) (p ∷ os) o all (inl e) = (d, subst (IsOutletOf P d) (sym e) all.0)
  outlet_of (d ∷ cs) (p ∷ os) o all (inr m) = outlet_of cs os o all.1 m

row_beyond : (R : List (List Outlet)) (i : ℕ) → length R ≤ i → outlets_in R i ≡ []
row_beyond [] i high = refl
row_beyond (r ∷ R) zero high = absurd (omega arith)
row_beyond (r ∷ R) (suc i) high = row_beyond R i (omega arith)

module _ (P : Plan) (valid : IsValidPlan P) (R : List (List Outlet)) (Q : List (List Due)) (O : List Bool) (B : Seen) (L : Limits) (of : L ≡ limits_of P) (rows : AreRowsOf P (length P.conns) R) (h : AreBegun P (length P.sims) Q O B) where
  whole : (i : ℕ) → i < sim_count P → AreOutletsOf P (triggering_from P i) (outlets_in R i)
  whole i low = subst (λ (cs : List Conn). AreOutletsOf P (triggering_in P i cs) (outlets_in R i)) (take_whole P.conns (length P.conns) (omega arith)) (rows.each i low)

  pub new_sound : IsSound L R Q
  new_sound = record {
    until = subst (λ (M : Limits). M.until ≤ℤ latest_end) (sym of) valid.well_formed.limits.until.1;
    loops = subst (λ (M : Limits). M.loops ≤ 1000) (sym of) valid.well_formed.limits.loops.1;
    count = rows.count ∙ sym (begun_count P valid Q O B h);
    outlets = λ i o m. elim (cases_lt i (sim_count P)) [
      | inl low ↦ sound o (outlet_of P (triggering_from P i) (outlets_in R i) o (whole i low) m)
      | inr high ↦ absurd (subst (λ (os : List Outlet). IsIn o os) (row_beyond R i (omega (arith, high, rows.count))) m)
    ];
  }
    where
      sound : (o : Outlet) → (c : Conn) × IsOutletOf P c o → (o.to.0 < length Q) × HasWidth o.via
      sound o t = (
        omega (arith, t.1.to, begun_count P valid Q O B h, owner_is_below P valid.well_formed.references t.0.to (all_at (λ (d : Conn). (d.from < length P.entities) × (d.to < length P.entities)) P.conns o.conn t.0 valid.well_formed.references.conns t.1.conn).1),
        subst HasWidth (sym t.1.via) (all_at (λ (d : Conn). HasWidth d.via) P.conns o.conn t.0 valid.well_formed.limits.widths t.1.conn),
      )

  pub new_mirrors : (lasts : List (Option Tier)) → AreNone (length P.sims) lasts → Mirrors P empty_view (let A : AgendaState = record { limits = L; outlets = R; queues = Q; lasts = lasts; bounds = B } in A)
  new_mirrors lasts none = record {
    plan = record { limits = of; count = begun_count P valid Q O B h; outlets = whole; bounds = h.plan };
    queues = begun_pends P valid Q O B h;
    lasts = λ i _. none.none i;
    starts = begun_starts P valid Q O B h;
  }

pub sound_same : (L : Limits) (R : List (List Outlet)) (Q T : List (List Due)) → length T ≡ length Q → IsSound L R Q → IsSound L R T
sound_same L R Q T same S = record { until = S.until; loops = S.loops; count = S.count ∙ sym same; outlets = λ i o m. let t = S.outlets i o m in (omega (arith, t.0, same), t.1) }

-- ---- what it answers

module _ (P : Plan) (V : View) (A : AgendaState) (mirrors : Mirrors P V A) where
  pub earliest_is : (s : ℕ) (o : Option Tier) → IsEarliestIn P A.bounds s o → MatchOption o ((y : Tier) → Reach P (start P V) nobody s y → ⊥) (λ e. IsEarliest P (start P V) s e)
  earliest_is s None h = unreached_by P V (start_in A.bounds) (is_busy_in A.bounds) mirrors.starts s h
  earliest_is s (Some e) h = earliest_by P V (start_in A.bounds) (is_busy_in A.bounds) mirrors.starts s e h

  pub none_ready : IsFirstReadyIn P A.bounds None → (i : ℕ) (x : Tier) → IsReady P V i x → ⊥
  none_ready = nobody_is P V A.bounds mirrors.plan.bounds mirrors.starts

  module _ (O : List Bool) (tidy : IsTidy A.queues O A.bounds) where
    pub start_least : (s : SimNo) → IsFirstReadyIn P A.bounds (Some s) → start_in A.bounds s.0 ≡ least (queue_in A.queues s.0)
    start_least s f = tidy.starts s.0 (omega (arith, f.0, tidy.owns)) (sym (tidy.busy s.0) ∙ f.1.idle)

    pub first_never : (s : SimNo) → IsFirstReadyIn P A.bounds (Some s) → least (queue_in A.queues s.0) ≡ None → ⊥
    first_never s f none = none_some (sym (start_least s f ∙ none) ∙ f.1.start)

    pub first_ready_is : (s : SimNo) (x : Tier) → IsFirstReadyIn P A.bounds (Some s) → least (queue_in A.queues s.0) ≡ Some x → IsFirstReady IsReady IsAdvance P V s.0 x
    first_ready_is s x f is =
        let t = first_is P V A.bounds mirrors.plan.bounds mirrors.starts s f in
        subst (IsFirstReady IsReady IsAdvance P V s.0) (some_same (sym t.1 ∙ start_least s f ∙ is)) t.2

    pub some_open : (i : ℕ) → is_open O i ≡ true → is_some (V.open_at i) ≡ true
    some_open i h = sym (mirrors.starts.opened i) ∙ tidy.busy i ∙ h

    pub none_open : (i : ℕ) → is_open O i ≡ false → V.open_at i ≡ None
    none_open i h = go (V.open_at i) refl
      where
        go : (o : Option OpenTurn) → V.open_at i ≡ o → o ≡ None
        go None e = refl
        go (Some T) e = absurd (true≢false (ap is_some (sym e) ∙ sym (mirrors.starts.opened i) ∙ tidy.busy i ∙ h))

    any_where : (l : List Bool) → list_any (λ b. b) l ≡ true → (i : ℕ) × (i < length l) × (is_open l i ≡ true)
    any_where [] h = absurd (true≢false (sym h))
    any_where (true ∷ l) h = (0, omega arith, refl)
    any_where (false ∷ l) h = let t = any_where l h in (suc t.0, omega (arith, t.1), t.2)

    none_where : (l : List Bool) → list_any (λ b. b) l ≡ false → (i : ℕ) → is_open l i ≡ false
    none_where [] h i = refl
    none_where (true ∷ l) h i = absurd (true≢false h)
    none_where (false ∷ l) h zero = refl
    none_where (false ∷ l) h (suc i) = none_where l h i

    pub any_is_open : list_any (λ b. b) O ≡ true → (i : ℕ) × (i < sim_count P) × (is_some (V.open_at i) ≡ true)
    any_is_open h = let t = any_where O h in (t.0, omega (arith, t.1, tidy.opens, mirrors.plan.count), some_open t.0 t.2)

    pub all_closed : list_any (λ b. b) O ≡ false → (i : ℕ) → V.open_at i ≡ None
    all_closed h i = none_open i (none_where O h i)

-- max_advance by the queue and the bounds
pub advance_of : (P : Plan) (J : List Entry) (A : AgendaState) (O : List Bool) → IsValidPlan P → IsOrderlySoFar IsReady IsAdvance P J → (view P J).fault ≡ None → (s : ℕ) (x : Tier) → IsReady P (view P J) s x → Mirrors P (view P J) A → IsTidy A.queues O A.bounds → s < length A.queues
    → (outer : Option ℤ) → IsOuterIn P A.bounds s outer → IsAdvance P (view P J) s x (advance_by A.limits.until x.time (sooner (least_trigger_after x (queue_in A.queues s)) outer))
advance_of P J A O valid orderly fine s x ready mirrors tidy low outer out =
    subst (λ (L : Limits). IsAdvance P (view P J) s x (advance_by L.until x.time (sooner (least_trigger_after x (queue_in A.queues s)) outer))) (sym mirrors.plan.limits)
    (advance_by_queue time_of flag_of P valid J orderly fine s x ready (queue_in A.queues s) (mirrors.queues s (omega (arith, low, mirrors.plan.count)))
    (least_trigger_after x (queue_in A.queues s)) (least_trigger_is (queue_in A.queues s) x (tidy.rising s)) outer (outer_is P (view P J) A.bounds mirrors.plan.bounds mirrors.starts s outer out))

-- ---- entries by which no turn begins or ends

pub told_mirrors : (P : Plan) (V : View) (A : AgendaState) → Mirrors P V A → (s : ℕ) (item : Item) → is_step item ≡ false → Mirrors P (note_sent P V s item) A
told_mirrors P V A mirrors s item late = record {
  plan = mirrors.plan;
  queues = λ i low. pends_told P time_of flag_of V s item late i (queue_in A.queues i) (mirrors.queues i low);
  lasts = λ i low. mirrors.lasts i low ∙ sym (told_last P V s item late i);
  starts = starts_told P V (start_in A.bounds) (is_busy_in A.bounds) mirrors.starts s item late;
}

pub went_mirrors : (P : Plan) (V : View) (A : AgendaState) → Mirrors P V A → (s : ℕ) (m : Message) (T : OpenTurn) (p : Place) → V.open_at s ≡ Some T → Mirrors P (note_right P V s m T (Some p)) A
went_mirrors P V A mirrors s m T p is = record {
  plan = mirrors.plan;
  queues = λ i low. pends_went P time_of flag_of V s m T p is i (queue_in A.queues i) (mirrors.queues i low);
  lasts = λ i low. mirrors.lasts i low ∙ sym (went_last P V s m T p is i);
  starts = starts_went P V (start_in A.bounds) (is_busy_in A.bounds) mirrors.starts s m T p is;
}

-- ---- a Step

last_here : (l : List (Option Tier)) (i : ℕ) (o : Option Tier) → i < length l → last_in (slice_set l i o) i ≡ o
last_here l i o low = let t = below_get l i low in ap (λ (p : Option (Option Tier)). unwrap_or p None) (set_here l i o t.0 t.1)

last_else : (l : List (Option Tier)) (i j : ℕ) (o : Option Tier) → (j ≡ i → ⊥) → last_in (slice_set l i o) j ≡ last_in l j
last_else l i j o n = ap (λ (p : Option (Option Tier)). unwrap_or p None) (set_else l i j o n)

module _ (P : Plan) (V : View) (A : AgendaState) (O : List Bool) (mirrors : Mirrors P V A) (tidy : IsTidy A.queues O A.bounds) (s : ℕ) (low : s < length A.queues) (x : Tier) (ready : IsReady P V s x) (ins : List Input) (advance : ℤ) where
  mine : Pends P time_of flag_of V s (queue_in A.queues s)
  mine = mirrors.queues s (omega (arith, low, mirrors.plan.count))

  is_least : least (queue_in A.queues s) ≡ Some x
  is_least = sym (start_is P time_of flag_of V s (queue_in A.queues s) ready.closed mine (least (queue_in A.queues s)) (least_is_least (queue_in A.queues s) (tidy.rising s))) ∙ closed_start P V s ready.closed ∙ ready.at_pending

  pub step_mirrors : (R : List (List Due)) (B : Seen) (lasts : List (Option Tier)) → s < length A.lasts → lasts ≡ slice_set A.lasts s (least (queue_in A.queues s)) → R ≡ slice_set A.queues s (later (queue_in A.queues s)) → B ≡ with_start A.bounds s (least (queue_in A.queues s)) true → AreOfPlan P B
      → Mirrors P (note_sent P V s (Step x ins advance)) (let E : AgendaState = record { limits = A.limits; outlets = A.outlets; queues = R; lasts = lasts; bounds = B } in E)
  step_mirrors R B lasts kept moved are is of = record {
    plan = record { limits = mirrors.plan.limits; count = ap length are ∙ length_set A.queues s (later (queue_in A.queues s)) ∙ mirrors.plan.count; outlets = mirrors.plan.outlets; bounds = of };
    queues = λ i under. elim (same_or_not i s) [
      | inl e ↦ subst (λ (j : ℕ). Pends P time_of flag_of (note_sent P V s (Step x ins advance)) j (queue_in R j)) (sym e)
          (subst (Pends P time_of flag_of (note_sent P V s (Step x ins advance)) s) (sym (ap (λ (l : List (List Due)). queue_in l s) are ∙ queue_here A.queues s (later (queue_in A.queues s)) low))
          (pends_step P time_of flag_of V s x ins advance (queue_in A.queues s) (later (queue_in A.queues s)) ready (later_is_after (queue_in A.queues s) x (tidy.rising s) is_least) mine))
      | inr n ↦ subst (Pends P time_of flag_of (note_sent P V s (Step x ins advance)) i) (sym (ap (λ (l : List (List Due)). queue_in l i) are ∙ queue_else A.queues s i (later (queue_in A.queues s)) n))
          (pends_step_apart P time_of flag_of V s x ins advance i (queue_in A.queues i) n (mirrors.queues i under))
    ];
    lasts = λ i under. elim (same_or_not i s) [
      | inl e ↦ ap (λ (l : List (Option Tier)). last_in l i) moved ∙ ap (last_in (slice_set A.lasts s (least (queue_in A.queues s)))) e ∙ last_here A.lasts s (least (queue_in A.queues s)) kept ∙ is_least
          ∙ sym (ap (last_step (note_sent P V s (Step x ins advance))) e ∙ step_last P V s x ins advance)
      | inr n ↦ ap (λ (l : List (Option Tier)). last_in l i) moved ∙ last_else A.lasts s i (least (queue_in A.queues s)) n ∙ mirrors.lasts i under ∙ sym (step_last_apart P V s x ins advance i n)
    ];
    starts = record { at = λ j. same j ∙ S.at j; opened = S.opened };
  }
    where
      own : s < length A.bounds.owns
      own = omega (arith, low, tidy.owns)

      S : StartsOf P (note_sent P V s (Step x ins advance)) (start_in A.bounds) (is_busy_in B)
      S = starts_stepped P V (start_in A.bounds) (is_busy_in A.bounds) mirrors.starts s x ins advance ready (is_busy_in B)
          (busy_here A.bounds B s (least (queue_in A.queues s)) true is (omega (arith, low, tidy.busies))) (busy_else A.bounds B s (least (queue_in A.queues s)) true is)

      same : (j : ℕ) → start_in B j ≡ start_in A.bounds j
      same j = elim (same_or_not j s) [
        | inl e ↦ ap (start_in B) e ∙ own_here A.bounds B s (least (queue_in A.queues s)) true is own ∙ is_least ∙ sym ready.at_pending ∙ sym (closed_start P V s ready.closed) ∙ sym (mirrors.starts.at s) ∙ ap (start_in A.bounds) (sym e)
        | inr n ↦ own_else A.bounds B s (least (queue_in A.queues s)) true is own j n
      ]

-- ---- the outlets of a simulator are sound

module _ (L : Limits) (R : List (List Outlet)) (Q : List (List Due)) (S : IsSound L R Q) (i : ℕ) (os : List Outlet) (are : outlets_in R i ≡ os) where
  pub outlets_wide : All (λ (o : Outlet). HasWidth o.via) os
  outlets_wide = in_all (λ (o : Outlet). HasWidth o.via) os (λ o m. (S.outlets i o (subst (λ (l : List Outlet). IsIn o l) (sym are) m)).1)

  pub outlets_sound : (T : List (List Due)) → length T ≡ length Q → All (λ (o : Outlet). (o.to.0 < length T) × HasWidth o.via) os
  outlets_sound T same = in_all (λ (o : Outlet). (o.to.0 < length T) × HasWidth o.via) os (λ o m. let t = S.outlets i o (subst (λ (l : List Outlet). IsIn o l) (sym are) m) in (omega (arith, t.0, same), t.1))
