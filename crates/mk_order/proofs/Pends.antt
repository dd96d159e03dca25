-- A queue holds what is pending at a simulator: what that says of its pending time, and what keeps
-- it so entry by entry.
use Rattle.std.proofs.Common.{◌≡◌, ℕ, ◌<◌, ℤ, Bool, true, false, slice_get, List, [], ◌∷◌, ◌++◌, Option, Some, None, refl, sym, ap, ◌∙◌, subst, ◌⊎◌, inl, inr, true≢false, arith}
use Rattle.std.proofs.lemmas.Int.{ints}
use Rattle.mk_base.specs.declared.tier.Tier.{Tier}
use Rattle.mk_base.specs.Lists.{IsIn}
use Rattle.mk_base.specs.Tiers.{moment, up_to, IsUpTo, IsBefore}
use Rattle.mk_base.proofs.Lists.{in_front, in_back, in_either, some_same}
use Rattle.mk_base.proofs.TierOrder.{up_to_antisym}
use Rattle.mk_plan.specs.declared.Plan.{Plan}
use Rattle.mk_plan.specs.declared.PlanSim.{PlanSim}
use Rattle.mk_plan.specs.declared.Conn.{Conn}
use Rattle.mk_plan.specs.declared.Input.{Input}
use Rattle.mk_plan.specs.declared.Item.{Item}
use Rattle.mk_plan.specs.declared.Item.TheVariants.{Step}
use Rattle.mk_plan.specs.declared.Message.{Message}
use Rattle.mk_plan.specs.declared.Place.{Place}
use Rattle.mk_plan.specs.Plans.{sim_count}
use Rattle.mk_plan.specs.Acts.{Act}
use Rattle.mk_plan.specs.Deliveries.{supply, triggers}
use Rattle.mk_plan.specs.Due.{is_in_run, first_times, is_due}
use Rattle.mk_plan.specs.Inputs.{is_since}
use Rattle.mk_plan.specs.Sequential.{grown, no_acts, last_time}
use Rattle.mk_plan.specs.Journals.{OpenTurn, View, empty_view, note_sent, note_right}
use Rattle.mk_plan.specs.Report.{is_step}
use Rattle.mk_plan.specs.Ready.{pending, start, step_at, last_step, IsReady}
use Rattle.mk_order.proofs.Reasons.{IsNextOf, in_triggers, due_why, due_first, pending_due, pending_since, pending_least}
use Rattle.mk_order.proofs.Limits.{IsInLimit}
use Rattle.mk_order.proofs.Entries.{Brings, IsNew, by_itself, by_output, brought_at, triggers_after, triggers_kept, triggers_new, due_after, due_kept, due_new, step_last, step_last_apart, told_last, went_last}
use Rattle.mk_order.proofs.Queues.{before_is, is_before, before_then_up_to, IsAdded, IsAfter, IsLeast, is_none, is_some, holds_as, holds_added, holds_after}
use Rattle.mk_order.specs.Pending.{Holds, IsPendingAt, IsTriggeredAt, Pends}

-- ---- since a step

pub since_later : (p : Option Tier) (x y : Tier) → is_since p x ≡ true → IsUpTo x y → is_since p y ≡ true
since_later None x y h k = refl
since_later (Some p) x y h k = is_before p y (before_then_up_to p x y (before_is p x h) k)

pub since_past : (p : Option Tier) (x y : Tier) → is_since p x ≡ true → IsBefore x y → is_since p y ≡ true
since_past None x y h k = refl
since_past (Some p) x y h k = since_later (Some p) x y h (up_to_of x y k)
  where
    up_to_of : (x y : Tier) → IsBefore x y → IsUpTo x y
    up_to_of x y b = elim (up_to x y) as (λ c. up_to x y ≡ c → c ≡ true) [ true ↦ λ e. refl | false ↦ λ e. absurd (grind (arith, ints)) ] refl

module _ (P : Plan) where
  -- one that is open, or closed: its last step
  pub closed_last : (V : View) (i : ℕ) → V.open_at i ≡ None → last_step V i ≡ last_time (V.acts i)
  closed_last V i shut = ap (λ o. step_at o (last_time (V.acts i))) shut

  pub closed_start : (V : View) (i : ℕ) → V.open_at i ≡ None → start P V i ≡ pending P V.acts i
  closed_start V i shut = ap (λ o. step_at o (pending P V.acts i)) shut

  module _ {X : Type 0} (time : X → Tier) (flag : X → Bool) where
    -- where no turn is open, the pending time is the queue's least
    pub pending_is : (V : View) (i : ℕ) (q : List X) → V.open_at i ≡ None → Pends P time flag V i q → (o : Option Tier) → IsLeast time flag q o → pending P V.acts i ≡ o
    pending_is V i q shut h None (is_none none) = go (pending P V.acts i) refl
      where
        go : (o : Option Tier) → pending P V.acts i ≡ o → o ≡ None
        go None e = refl
        go (Some x) e = absurd (none x (h.all x (record { due = pending_due P V.acts i x e; since = ap (λ p. is_since p x) (closed_last V i shut) ∙ pending_since P V.acts i x e })))
    pending_is V i q shut h (Some x) (is_some _ there least) =
        let a = h.only x there in
        let t = pending_least P V.acts i x a.due (ap (λ p. is_since p x) (sym (closed_last V i shut)) ∙ a.since) in
        let b = h.all t.0 (record { due = pending_due P V.acts i t.0 t.1; since = ap (λ p. is_since p t.0) (closed_last V i shut) ∙ pending_since P V.acts i t.0 t.1 }) in
        t.1 ∙ ap Some (up_to_antisym t.0 x t.2 (least t.0 b))

    pub start_is : (V : View) (i : ℕ) (q : List X) → V.open_at i ≡ None → Pends P time flag V i q → (o : Option Tier) → IsLeast time flag q o → start P V i ≡ o
    start_is V i q shut h o l = closed_start V i shut ∙ pending_is V i q shut h o l

    -- ---- entries by which no turn ends

    -- acts and last step stay, and so does the queue
    pub pends_same : (V W : View) (i : ℕ) (q : List X) → W.acts ≡ V.acts → last_step W i ≡ last_step V i → Pends P time flag V i q → Pends P time flag W i q
    pends_same V W i q acts last h = holds_as time flag (IsPendingAt P V i) (IsTriggeredAt P V i) (IsPendingAt P W i) (IsTriggeredAt P W i)
        (λ y a. record { due = ap (λ A. is_due P A i y) acts ∙ a.due; since = ap (λ p. is_since p y) last ∙ a.since })
        (λ y a. record { due = ap (λ A. is_due P A i y) (sym acts) ∙ a.due; since = ap (λ p. is_since p y) (sym last) ∙ a.since })
        (λ y _ b. record { by = subst (λ A. IsIn y (triggers P (supply P A) i)) (sym acts) b.by })
        (λ y _ b. record { by = subst (λ A. IsIn y (triggers P (supply P A) i)) acts b.by }) q h

    -- a Step takes its time off
    pub pends_step : (V : View) (s : ℕ) (x : Tier) (ins : List Input) (advance : ℤ) (q r : List X) → IsReady P V s x → IsAfter time flag x q r → Pends P time flag V s q → Pends P time flag (note_sent P V s (Step x ins advance)) s r
    pends_step V s x ins advance q r ready after h =
        let W : View = note_sent P V s (Step x ins advance) in
        holds_after time flag (IsPendingAt P V s) (IsTriggeredAt P V s) (IsPendingAt P W s) (IsTriggeredAt P W s) x
        (λ y a b. record { due = a.due; since = ap (λ p. is_since p y) (step_last P V s x ins advance) ∙ is_before x y b })
        (λ y a. let b : IsBefore x y = before_is x y (ap (λ p. is_since p y) (sym (step_last P V s x ins advance)) ∙ a.since) in
        (record { due = a.due; since = ap (λ p. is_since p y) (closed_last V s ready.closed) ∙ since_past (last_time (V.acts s)) x y (pending_since P V.acts s x ready.at_pending) b }, b))
        (λ y b. record { by = b.by }) (λ y b. record { by = b.by }) q r after h

    pub pends_step_apart : (V : View) (s : ℕ) (x : Tier) (ins : List Input) (advance : ℤ) (i : ℕ) (q : List X) → (i ≡ s → ⊥) → Pends P time flag V i q → Pends P time flag (note_sent P V s (Step x ins advance)) i q
    pends_step_apart V s x ins advance i q n h = pends_same V (note_sent P V s (Step x ins advance)) i q refl (step_last_apart P V s x ins advance i n) h

    -- what is owed is sent, and a right message after which the turn goes on
    pub pends_told : (V : View) (s : ℕ) (item : Item) → is_step item ≡ false → (i : ℕ) (q : List X) → Pends P time flag V i q → Pends P time flag (note_sent P V s item) i q
    pends_told V s item late i q h = pends_same V (note_sent P V s item) i q refl (told_last P V s item late i) h

    pub pends_went : (V : View) (s : ℕ) (m : Message) (T : OpenTurn) (p : Place) → V.open_at s ≡ Some T → (i : ℕ) (q : List X) → Pends P time flag V i q → Pends P time flag (note_right P V s m T (Some p)) i q
    pends_went V s m T p is i q h = pends_same V (note_right P V s m T (Some p)) i q refl (went_last P V s m T p is i) h

    -- ---- the end of a turn: act f of s is added, what each connection brings and its next time

    module _ (V : View) (s : ℕ) (f : Act) where
      -- j is due at y: it was so, or by the next time, if that was added, or by one of these connections
      pub data IsComingAt (own : Bool) (cs : List Conn) (j : ℕ) (y : Tier) : Type 0 where
        was : IsPendingAt P V j y → IsComingAt own cs j y
        itself : own ≡ true → j ≡ s → IsNextOf P s f y → IsComingAt own cs j y
        brought : (c : Conn) → IsIn c cs → Brings P s f j y c → IsComingAt own cs j y

      pub data IsCalledAt (cs : List Conn) (j : ℕ) (y : Tier) : Type 0 where
        called : IsTriggeredAt P V j y → IsCalledAt cs j y
        calls : (c : Conn) → IsIn c cs → Brings P s f j y c → IsCalledAt cs j y

      abbrev pub PendsWith : Bool → List Conn → ℕ → List X → Type 0
      PendsWith own cs j q = Holds time flag (IsComingAt own cs j) (IsCalledAt cs j) q

      pub with_none : (j : ℕ) (q : List X) → Pends P time flag V j q → PendsWith false [] j q
      with_none j q h = holds_as time flag (IsPendingAt P V j) (IsTriggeredAt P V j) (IsComingAt false [] j) (IsCalledAt [] j) (λ y a. was a) back (λ y _ b. called b) (λ y _ b. back_flags y b) q h
        where
          back : (y : Tier) → IsComingAt false [] j y → IsPendingAt P V j y
          back y (was a) = a
          back y (itself e _ _) = absurd (true≢false (sym e))
          back y (brought c m _) = absurd m

          back_flags : (y : Tier) → IsCalledAt [] j y → IsTriggeredAt P V j y
          back_flags y (called b) = b
          back_flags y (calls c m _) = absurd m

      -- no next time for j
      pub with_no_next : (cs : List Conn) (j : ℕ) (q : List X) → ((y : Tier) → j ≡ s → IsNextOf P s f y → ⊥) → PendsWith false cs j q → PendsWith true cs j q
      with_no_next cs j q none h = holds_as time flag (IsComingAt false cs j) (IsCalledAt cs j) (IsComingAt true cs j) (IsCalledAt cs j) to back (λ y _ b. b) (λ y _ b. b) q h
        where
          to : (y : Tier) → IsComingAt false cs j y → IsComingAt true cs j y
          to y (was a) = was a
          to y (itself e _ _) = absurd (true≢false (sym e))
          to y (brought c m b) = brought c m b

          back : (y : Tier) → IsComingAt true cs j y → IsComingAt false cs j y
          back y (was a) = was a
          back y (itself _ e n) = absurd (none y e n)
          back y (brought c m b) = brought c m b

      -- the next time is added at s; if something that came triggers s then, it was pending
      pub with_next : (cs : List Conn) (x : Tier) → IsNextOf P s f x → (IsTriggeredAt P V s x → IsPendingAt P V s x) → (q r : List X) → IsAdded time flag false x q r → PendsWith false cs s q → PendsWith true cs s r
      with_next cs x n known q r added h = holds_added time flag (IsComingAt false cs s) (IsCalledAt cs s) (IsComingAt true cs s) (IsCalledAt cs s) false x to (itself refl refl n) back (λ y b. b) (λ e. absurd (true≢false (sym e))) flags q r added h
        where
          to : (y : Tier) → IsComingAt false cs s y → IsComingAt true cs s y
          to y (was a) = was a
          to y (itself e _ _) = absurd (true≢false (sym e))
          to y (brought c m b) = brought c m b

          one_next : (y : Tier) → IsNextOf P s f y → y ≡ x
          one_next y k = k.is ∙ ap moment (some_same (sym k.next ∙ n.next)) ∙ sym n.is

          back : (y : Tier) → IsComingAt true cs s y → IsComingAt false cs s y ⊎ (y ≡ x)
          back y (was a) = inl (was a)
          back y (itself _ _ k) = inr (one_next y k)
          back y (brought c m b) = inl (brought c m b)

          flags : (y : Tier) → IsComingAt true cs s y → IsCalledAt cs s y → (IsComingAt false cs s y × IsCalledAt cs s y) ⊎ ((y ≡ x) × (false ≡ true))
          flags y (was a) b = inl (was a, b)
          flags y (itself _ _ k) (called b) = inl (was (subst (IsPendingAt P V s) (sym (one_next y k)) (known (subst (IsTriggeredAt P V s) (one_next y k) b))), called b)
          flags y (itself _ _ k) (calls c m b) = inl (brought c m b, calls c m b)
          flags y (brought c m k) b = inl (brought c m k, b)

      -- one connection more, that brings something to j at x, or nothing
      pub with_brought : (own : Bool) (cs : List Conn) (c : Conn) (j : ℕ) (x : Tier) → Brings P s f j x c → (q r : List X) → IsAdded time flag true x q r → PendsWith own cs j q → PendsWith own (cs ++ c ∷ []) j r
      with_brought own cs c j x b q r added h = holds_added time flag (IsComingAt own cs j) (IsCalledAt cs j) (IsComingAt own (cs ++ c ∷ []) j) (IsCalledAt (cs ++ c ∷ []) j) true x
          to (brought c (in_back c cs (c ∷ []) (inl refl)) b) back to_flags (λ _. calls c (in_back c cs (c ∷ []) (inl refl)) b) flags q r added h
        where
          to : (y : Tier) → IsComingAt own cs j y → IsComingAt own (cs ++ c ∷ []) j y
          to y (was a) = was a
          to y (itself e k n) = itself e k n
          to y (brought d m k) = brought d (in_front d cs (c ∷ []) m) k

          to_flags : (y : Tier) → IsCalledAt cs j y → IsCalledAt (cs ++ c ∷ []) j y
          to_flags y (called a) = called a
          to_flags y (calls d m k) = calls d (in_front d cs (c ∷ []) m) k

          which : (d : Conn) (y : Tier) → IsIn d (cs ++ c ∷ []) → Brings P s f j y d → IsIn d cs ⊎ (y ≡ x)
          which d y m k = elim (in_either d cs (c ∷ []) m) [ inl o ↦ inl o | inr (inl e) ↦ inr (brought_at P s f j y x c (subst (Brings P s f j y) e k) b) | inr (inr z) ↦ absurd z ]

          back : (y : Tier) → IsComingAt own (cs ++ c ∷ []) j y → IsComingAt own cs j y ⊎ (y ≡ x)
          back y (was a) = inl (was a)
          back y (itself e k n) = inl (itself e k n)
          back y (brought d m k) = elim (which d y m k) [ inl o ↦ inl (brought d o k) | inr e ↦ inr e ]

          back_flags : (y : Tier) → IsCalledAt (cs ++ c ∷ []) j y → IsCalledAt cs j y ⊎ (y ≡ x)
          back_flags y (called a) = inl (called a)
          back_flags y (calls d m k) = elim (which d y m k) [ inl o ↦ inl (calls d o k) | inr e ↦ inr e ]

          flags : (y : Tier) → IsComingAt own (cs ++ c ∷ []) j y → IsCalledAt (cs ++ c ∷ []) j y → (IsComingAt own cs j y × IsCalledAt cs j y) ⊎ ((y ≡ x) × (true ≡ true))
          flags y e u = elim (back y e) [ inl o ↦ elim (back_flags y u) [ inl v ↦ inl (o, v) | inr k ↦ inr (k, refl) ] | inr k ↦ inr (k, refl) ]

      pub with_not_brought : (own : Bool) (cs : List Conn) (c : Conn) (j : ℕ) → ((y : Tier) → Brings P s f j y c → ⊥) → (q : List X) → PendsWith own cs j q → PendsWith own (cs ++ c ∷ []) j q
      with_not_brought own cs c j none q h = holds_as time flag (IsComingAt own cs j) (IsCalledAt cs j) (IsComingAt own (cs ++ c ∷ []) j) (IsCalledAt (cs ++ c ∷ []) j) to back (λ y _ a. to_flags y a) (λ y _ a. back_flags y a) q h
        where
          to : (y : Tier) → IsComingAt own cs j y → IsComingAt own (cs ++ c ∷ []) j y
          to y (was a) = was a
          to y (itself e k n) = itself e k n
          to y (brought d m k) = brought d (in_front d cs (c ∷ []) m) k

          to_flags : (y : Tier) → IsCalledAt cs j y → IsCalledAt (cs ++ c ∷ []) j y
          to_flags y (called a) = called a
          to_flags y (calls d m k) = calls d (in_front d cs (c ∷ []) m) k

          old : (d : Conn) (y : Tier) → IsIn d (cs ++ c ∷ []) → Brings P s f j y d → IsIn d cs
          old d y m k = elim (in_either d cs (c ∷ []) m) [ inl o ↦ o | inr (inl e) ↦ absurd (none y (subst (Brings P s f j y) e k)) | inr (inr z) ↦ absurd z ]

          back : (y : Tier) → IsComingAt own (cs ++ c ∷ []) j y → IsComingAt own cs j y
          back y (was a) = was a
          back y (itself e k n) = itself e k n
          back y (brought d m k) = brought d (old d y m k) k

          back_flags : (y : Tier) → IsCalledAt (cs ++ c ∷ []) j y → IsCalledAt cs j y
          back_flags y (called a) = called a
          back_flags y (calls d m k) = calls d (old d y m k) k

      -- all that brings something is through
      pub pends_ended : (W : View) (cs : List Conn) (j : ℕ) (q : List X) → IsInLimit P s f → j < sim_count P → W.acts ≡ grown V.acts s f → last_step W j ≡ last_step V j
          → ((c : Conn) (y : Tier) → Brings P s f j y c → IsIn c cs) → ((y : Tier) → IsNew P s f j y → is_since (last_step V j) y ≡ true) → PendsWith true cs j q → Pends P time flag W j q
      pends_ended W cs j q kept low acts last whole fresh h = holds_as time flag (IsComingAt true cs j) (IsCalledAt cs j) (IsPendingAt P W j) (IsTriggeredAt P W j) to back (λ y _ a. to_flags y a) (λ y _ a. back_flags y a) q h
        where
          pends : (y : Tier) → is_due P (grown V.acts s f) j y ≡ true → is_since (last_step V j) y ≡ true → IsPendingAt P W j y
          pends y due since = record { due = ap (λ A. is_due P A j y) acts ∙ due; since = ap (λ p. is_since p y) last ∙ since }

          to : (y : Tier) → IsComingAt true cs j y → IsPendingAt P W j y
          to y (was a) = pends y (due_kept P s f V.acts j y a.due) a.since
          to y (itself _ e n) = pends y (due_new P s f V.acts kept j y low (by_itself e n)) (fresh y (by_itself e n))
          to y (brought c m b) = pends y (due_new P s f V.acts kept j y low (by_output c b)) (fresh y (by_output c b))

          back : (y : Tier) → IsPendingAt P W j y → IsComingAt true cs j y
          back y a = elim (due_after P s f V.acts j y (ap (λ A. is_due P A j y) (sym acts) ∙ a.due)) [
            | inl old ↦ was (record { due = old; since = ap (λ p. is_since p y) (sym last) ∙ a.since })
            | inr (by_itself e n) ↦ itself refl e n
            | inr (by_output c b) ↦ brought c (whole c y b) b
          ]

          to_flags : (y : Tier) → IsCalledAt cs j y → IsTriggeredAt P W j y
          to_flags y (called b) = record { by = subst (λ A. IsIn y (triggers P (supply P A) j)) (sym acts) (triggers_kept P s f V.acts j y b.by) }
          to_flags y (calls c m b) = record { by = subst (λ A. IsIn y (triggers P (supply P A) j)) (sym acts) (triggers_new P s f V.acts j y c b) }

          back_flags : (y : Tier) → IsTriggeredAt P W j y → IsCalledAt cs j y
          back_flags y b = elim (triggers_after P s f V.acts j y (subst (λ A. IsIn y (triggers P (supply P A) j)) acts b.by)) [
            | inl old ↦ called (record { by = old })
            | inr new ↦ calls new.0 (whole new.0 y new.1) new.1
          ]

    -- ---- the beginning: the first times are added one by one

    pub record IsBegunAt (done : List Tier) (y : Tier) : Type 0 where
      pub there : IsIn y done
      pub within : is_in_run P y ≡ true

    pub record IsNever (y : Tier) : Type 0 where
      pub none : ⊥

    abbrev pub PendsFirst : List Tier → List X → Type 0
    PendsFirst done q = Holds time flag (IsBegunAt done) IsNever q

    pub first_none : PendsFirst [] []
    first_none = record { only = λ y a. absurd a.there; all = λ y a. absurd a.there; flags = λ y a. absurd a.there; flagged = λ y a b. absurd a.there }

    pub first_added : (done : List Tier) (x : Tier) (q r : List X) → is_in_run P x ≡ true → IsAdded time flag false x q r → PendsFirst done q → PendsFirst (done ++ x ∷ []) r
    first_added done x q r within added h = holds_added time flag (IsBegunAt done) IsNever (IsBegunAt (done ++ x ∷ [])) IsNever false x
        (λ y a. record { there = in_front y done (x ∷ []) a.there; within = a.within }) (record { there = in_back x done (x ∷ []) (inl refl); within = within })
        (λ y a. elim (in_either y done (x ∷ []) a.there) [ inl o ↦ inl (record { there = o; within = a.within }) | inr (inl e) ↦ inr e | inr (inr z) ↦ absurd z ])
        (λ y b. b) (λ e. absurd (true≢false (sym e))) (λ y a b. absurd b.none) q r added h

    pub first_skipped : (done : List Tier) (x : Tier) (q : List X) → is_in_run P x ≡ false → PendsFirst done q → PendsFirst (done ++ x ∷ []) q
    first_skipped done x q out h = holds_as time flag (IsBegunAt done) IsNever (IsBegunAt (done ++ x ∷ [])) IsNever
        (λ y a. record { there = in_front y done (x ∷ []) a.there; within = a.within })
        (λ y a. elim (in_either y done (x ∷ []) a.there) [ inl o ↦ record { there = o; within = a.within } | inr (inl e) ↦ absurd (true≢false (sym a.within ∙ ap (is_in_run P) e ∙ out)) | inr (inr z) ↦ absurd z ])
        (λ y _ b. b) (λ y _ b. b) q h

    pub pends_first : (i : ℕ) (sim : PlanSim) (q : List X) → slice_get P.sims i ≡ Some sim → PendsFirst (first_times sim) q → Pends P time flag empty_view i q
    pends_first i sim q at h = holds_as time flag (IsBegunAt (first_times sim)) IsNever (IsPendingAt P empty_view i) (IsTriggeredAt P empty_view i)
        (λ y a. record { due = due_first P no_acts i y (record { sim = sim; at = at; within = a.within; first = a.there }); since = refl })
        back (λ y _ b. absurd b.none) (λ y a b. absurd (in_triggers P no_acts i y b.by).2.1) q h
      where
        back : (y : Tier) → IsPendingAt P empty_view i y → IsBegunAt (first_times sim) y
        back y a = elim (due_why P no_acts i y a.due) [
          | inl f ↦ record { there = subst (λ (p : PlanSim). IsIn y (first_times p)) (some_same (sym f.at ∙ at)) f.first; within = f.within }
          | inr (inl r) ↦ absurd r.1
          | inr (inr r) ↦ absurd r.4
        ]
