-- What the core owes after a message waits, or is sent.
use Rattle.std.specs.Bool.{⊤}
use Rattle.std.proofs.Common.{◌≡◌, inl, inr, ℕ, ◌+◌, ◌<◌, true, false, List, [], ◌∷◌, ◌++◌, length, Some, None, is_some, slice_get, slice_set, Result, Ok, Err, OnOk, OnErr, IfErr, refl, sym, ap, ◌∙◌, subst, length-append, true≢false}
use Rattle.mk_base.specs.declared.SimNo.{SimNo}
use Rattle.mk_base.proofs.Lists.{below_get, some_same}
use Rattle.mk_plan.specs.declared.Entry.{Entry}
use Rattle.mk_plan.specs.declared.Entry.TheVariants.{Sent, Got}
use Rattle.mk_plan.specs.declared.Item.{Item}
use Rattle.mk_plan.specs.declared.Item.TheVariants.{Step, GetData, Answer, Refuse}
use Rattle.mk_plan.specs.declared.Message.{Message}
use Rattle.mk_plan.specs.Advance.{IsAdvance}
use Rattle.mk_plan.specs.Orderly.{IsOrderlySoFar}
use Rattle.mk_plan.specs.Plans.{sim_count}
use Rattle.mk_plan.specs.Ready.{IsReady}
use Rattle.mk_plan.specs.Report.{is_step}
use Rattle.mk_order.proofs.Pushing.{orderly_front}
use Rattle.mk_order.proofs.Seen.{reached_sound}
use Rattle.mk_outside.specs.declared.fleet.LogEntry.{LogEntry}
use Rattle.mk_sched.specs.Cores.{CoreState, Stands}
use Rattle.mk_sched.specs.Answers.{IsAnswered, IsAsked, IsQuiet, open_id, with_message}
use Rattle.mk_run_local.specs.Laws.{RepliesAreKinds}
use Rattle.mk_run_crew.specs.Calls.{SendsAs}
use Rattle.mk_run_crew.specs.Seen.{CrewSeen, crew_of}
use Rattle.mk_run.specs.declared.outcome.Outcome.{Outcome}
use Rattle.mk_run.specs.declared.outcome.Outcome.TheVariants as outcome
use Rattle.mk_run.specs.inner.Sendings.{CanSend, CanTake, EndsWithItem, IsItemAt, IsUnsent}
use Rattle.mk_run.specs.inner.Underway.{Setting}
use Rattle.mk_run.proofs.LoopSteps.{answered_id, answered_opens, none_owed}
use Rattle.mk_run.proofs.LastItem.{get_last}
use Rattle.mk_pace_held.specs.declared.held.Held.{Held}
use Rattle.mk_pace_held.specs.Firsts.{IsChanged}
use Rattle.mk_pace_laws.specs.declared.end.PaceEnd.TheVariants as pace
use Rattle.mk_pace_laws.specs.Moments.{Tempo}
use Rattle.mk_pace_loop.specs.inner.Pacing.{IsPacing, IsPacingBut, IsPacingFor}
use Rattle.mk_pace_loop.specs.inner.Turns.{AnswersAs, GoesOn, IsPast, IsStopping, TakesAs}
use Rattle.mk_pace_loop.specs.inner.Waiting.{DueAs, HasTime, IsHeldLast, IsSomeHeld, WaitingSeen, waiting_seen}
use Rattle.mk_pace_loop.proofs.Asking.{as_seen, asked_unheld}
use Rattle.mk_pace_loop.proofs.Following.{follower_sent, follower_taken, follower_unsent, mem_ends, same_item}
use Rattle.mk_pace_loop.proofs.Grown.{changed_set}
use Rattle.mk_pace_loop.proofs.HeldFirst.{all_again}
use Rattle.mk_pace_loop.proofs.Meeting.{met_low}
use Rattle.mk_pace_loop.proofs.Taking.{owed_waits, quiet_on}

-- an item that is no Step has any time, and is never due
late_time : (item : Item) → is_step item ≡ false → HasTime item
late_time (Step x inputs advance) late = absurd (true≢false late)
late_time (GetData wanted) late = tt
late_time (Answer id content) late = tt
late_time (Refuse id reason) late = tt

late_due : (T : Tempo) (item : Item) → is_step item ≡ false → DueAs T item None
late_due T (Step x inputs advance) late = absurd (true≢false late)
late_due T (GetData wanted) late = refl
late_due T (Answer id content) late = refl
late_due T (Refuse id reason) late = refl

-- something is held, or nothing is
pub some_held : (W : WaitingSeen) (s : ℕ) (q : List Held) → slice_get W.holds s ≡ Some q → is_some (slice_get q 0) ≡ true → IsSomeHeld s W
some_held W s [] there some = absurd (true≢false (sym some))
some_held W s (h ∷ q) there some = (h, q, there)

pub none_held : (W : WaitingSeen) (s : ℕ) (q : List Held) → slice_get W.holds s ≡ Some q → is_some (slice_get q 0) ≡ false → slice_get W.holds s ≡ Some []
none_held W s [] there none = there
none_held W s (h ∷ q) there none = absurd (true≢false none)

-- ---- the core took the message, and owes nothing

module _ (S : Setting) (core new : CoreState) (log : List LogEntry) (s : SimNo) (m : Message) (C : CrewSeen) (W : WaitingSeen) (h : IsPast S core log s m C W) (stands : Stands new.plan new.entries) where
  pub past_low : s.0 < sim_count core.plan
  past_low = met_low S W.tempo W.strict core.plan core.entries h.before h.entries h.crew (crew_of C) C.sims W.holds W.moments h.pacing s m h.nobody h.of_links h.fit h.heard

  pub quiet_goes : IsQuiet core s m new → GoesOn S new log C W
  quiet_goes q = subst (λ (c : CoreState). GoesOn S c log C W) (sym q.moved) (subst (λ (l : List LogEntry). IsPacing S core.plan (core.entries ++ Got s m ∷ []) l (crew_of C) C.sims W) (sym h.parts)
      (quiet_on S W.tempo W.strict core.plan core.entries h.before h.entries h.crew (crew_of C) C.sims W.holds W.moments h.pacing s m h.nobody h.of_links h.fit h.heard (none_owed core.plan core.entries (h.pacing).stands q.room.room) q.no_fault
      (subst (λ (c : CoreState). Stands c.plan c.entries) q.moved stands) q.none_owed))

  -- ---- or it owes an item

  module _ (a : IsAnswered core s m new) where
    abbrev K : List Entry
    K = core.entries ++ Got s m ∷ []

    abbrev L : List Entry
    L = (core.entries ++ Got s m ∷ []) ++ Sent s a.item ∷ []

    stands_so : Stands core.plan L
    stands_so = subst (λ (c : CoreState). Stands c.plan c.entries) a.moved stands

    standing : IsOrderlySoFar IsReady IsAdvance core.plan (with_message core s m)
    standing = (orderly_front IsReady IsAdvance core.plan (with_message core s m) (Sent s a.item ∷ []) stands_so.orderly.0).0

    late : is_step a.item ≡ false
    late = (reached_sound IsReady IsAdvance core.plan (λ V t x r. r) K standing).later (record { sim = s.0; item = a.item }) a.owed

    pub opened : (id : ℕ) × (open_id new s.0 ≡ Some id)
    opened = answered_opens core new s m (h.pacing).stands standing a

    pub owed_ends : EndsWithItem new s a.item opened.0
    owed_ends = record { before = K; last = ap (λ (c : CoreState). c.entries) a.moved; opened = opened.1 }

    pub owed_time : HasTime a.item
    owed_time = late_time a.item late

    pub owed_low : s.0 < sim_count new.plan
    owed_low = subst (λ (c : CoreState). s.0 < sim_count c.plan) (sym a.moved) past_low

    pub owed_sized : length W.holds ≡ sim_count new.plan
    owed_sized = (h.pacing).count ∙ ap (λ (c : CoreState). sim_count c.plan) (sym a.moved)

    -- it waits
    module _ (begins : ℕ → Type 0) (after : List (List Held)) (was : List Held) (k : Held) (ch : IsChanged s.0 was (was ++ k ∷ []) W.holds after) (place : k.place + 1 ≡ length L) (id_is : k.id ≡ opened.0) (due : DueAs W.tempo a.item k.due) (only : begins s.0 → was ≡ [] → ⊥) where
      waits : IsPacingFor begins S core.plan L (h.before ++ h.entries) (crew_of C) C.sims (waiting_seen W.tempo W.strict after W.moments)
      waits = owed_waits S W.tempo W.strict core.plan core.entries h.before h.entries h.crew (crew_of C) C.sims W.holds W.moments h.pacing s m h.nobody h.of_links h.fit h.heard (none_owed core.plan core.entries (h.pacing).stands a.room.room) a.no_fault
          a.item stands_so a.owed begins after was k ch place (λ takes. id_is ∙ answered_id core new s m opened.0 (h.pacing).stands standing a opened.1 takes) due only

      waits_over : IsPacingFor begins S new.plan new.entries log (crew_of C) C.sims (waiting_seen W.tempo W.strict after W.moments)
      waits_over = subst (λ (c : CoreState). IsPacingFor begins S c.plan c.entries log (crew_of C) C.sims (waiting_seen W.tempo W.strict after W.moments)) (sym a.moved)
          (subst (λ (l : List LogEntry). IsPacingFor begins S core.plan L l (crew_of C) C.sims (waiting_seen W.tempo W.strict after W.moments)) (sym h.parts) waits)

    -- it waits by itself, and is about to be sent
    abbrev here : List Held
    here = (below_get W.holds s.0 (subst (λ (n : ℕ). s.0 < n) (sym (h.pacing).count) past_low)).0

    here_is : slice_get W.holds s.0 ≡ Some here
    here_is = (below_get W.holds s.0 (subst (λ (n : ℕ). s.0 < n) (sym (h.pacing).count) past_low)).1

    abbrev ghost_held : Held
    ghost_held = record { place = length K; id = opened.0; due = None }

    abbrev with_it : List Held → List (List Held)
    with_it was = slice_set W.holds s.0 (was ++ ghost_held ∷ [])

    but_it : (was : List Held) → slice_get W.holds s.0 ≡ Some was → IsPacingBut s.0 S new.plan new.entries log (crew_of C) C.sims (waiting_seen W.tempo W.strict (with_it was) W.moments)
    but_it was there = waits_over (λ i. i ≡ s.0 → ⊥) (with_it was) was ghost_held (changed_set W.holds s.0 was (was ++ ghost_held ∷ []) there) (sym (length-append K (Sent s a.item ∷ []))) refl (late_due W.tempo a.item late) (λ apart none. apart refl)

    there_now : IsItemAt new.entries (length K) a.item
    there_now = (s, ap (λ (c : CoreState). slice_get c.entries (length K)) a.moved ∙ get_last K (Sent s a.item) (length K) (sym (length-append K (Sent s a.item ∷ []))))

    set_there : (none : slice_get W.holds s.0 ≡ Some []) → slice_get (with_it []) s.0 ≡ Some (ghost_held ∷ [])
    set_there none = (changed_set W.holds s.0 [] (ghost_held ∷ []) none).here

    -- the crew takes it, where nothing waits
    pub can_answer : slice_get W.holds s.0 ≡ Some [] → CanSend new s C
    can_answer none =
        let t = follower_taken S W.tempo W.strict new.plan new.entries log C (with_it []) W.moments s.0 owed_low ghost_held [] (but_it [] none) (set_there none) in
        let same : t.0 ≡ a.item = same_item new.entries (length K) t.0 a.item t.1 there_now in
        (a.item, opened.0, owed_ends, subst (λ (it : Item). CanTake s.0 it opened.0 C) same t.2)

    -- it waits behind others
    pub held_on : IsSomeHeld s.0 W → (V : WaitingSeen) → IsHeldLast new s a.item opened.0 W V → GoesOn S new log C V
    held_on some V k = as_seen S new.plan new.entries log (crew_of C) C.sims W V (k.anew).same.tempo (k.anew).same.strict (k.anew).moments
        (waits_over (λ i. ⊤) V.holds k.was k.held (k.anew).changed (k.place ∙ ap (λ (c : CoreState). length c.entries) a.moved) k.numbered k.due (λ t none. apart (some_same (sym some.2 ∙ (k.anew).changed.there) ∙ none)))
      where
        apart : some.0 ∷ some.1 ≡ [] → ⊥
        apart e = cc

    -- it was sent
    pub sent_now : RepliesAreKinds → slice_get W.holds s.0 ≡ Some [] → (D : CrewSeen) → SendsAs s.0 a.item opened.0 C D → GoesOn S new log D W
    sent_now law none D so = whole (follower_sent S W.tempo W.strict new.plan new.entries log C (with_it []) W.moments s.0 owed_low ghost_held [] (but_it [] none) (set_there none) refl law D
        (λ item there. subst (λ (it : Item). SendsAs s.0 it opened.0 C D) (same_item new.entries (length K) a.item item there_now there) so) W.holds back)
      where
        back : IsChanged s.0 (ghost_held ∷ []) [] (with_it []) W.holds
        back = let c = changed_set W.holds s.0 [] (ghost_held ∷ []) none in record { there = c.here; here = none; others = λ i apart. sym (c.others i apart); count = sym c.count }

        whole : IsPacingBut s.0 S new.plan new.entries log (crew_of D) D.sims W → GoesOn S new log D W
        whole p = all_again s.0 S W.tempo W.strict new.plan new.entries log (crew_of D) D.sims W.holds W.moments [] none tt p

    -- there was no memory for it
    pub answered_mem : IsStopping ⊥ S new log C W (pace.Outcome outcome.Mem)
    answered_mem = mem_ends (λ i. i ≡ s.0 → ⊥) S W.tempo W.strict new.plan new.entries log C (with_it here) W.moments (but_it here here_is)

    -- it couldn't be sent
    pub answered_not : slice_get W.holds s.0 ≡ Some [] → (end : Outcome) → IsUnsent end s.0 a.item C → IsStopping ⊥ S new log C W (pace.Outcome end)
    answered_not none end u = follower_unsent S W.tempo W.strict new.plan new.entries log C (with_it []) W.moments s.0 owed_low ghost_held [] (but_it [] none) (set_there none) end
        (λ item there. subst (λ (it : Item). IsUnsent end s.0 it C) (same_item new.entries (length K) a.item item there_now there) u)

-- whatever came of it
pub answered_so : (core new : CoreState) (s : SimNo) (m : Message) (C D : CrewSeen) (W V : WaitingSeen) (r : Result (Unit {0}) Outcome) → IsAnswered core s m new → Stands new.plan new.entries → RepliesAreKinds
    → ((item : Item) (id : ℕ) → EndsWithItem new s item id → AnswersAs r new s item id C W D V) → TakesAs r s m core C W new D V
answered_so core new s m C D W V (Ok done) a stands law so = (ap (λ (c : CoreState). c.ended) a.moved, λ S log h. go S log h (so a.item (opened S core new log s m C W h stands a).0 (owed_ends S core new log s m C W h stands a)))
  where
    go : (S : Setting) (log : List LogEntry) (h : IsPast S core log s m C W) → AnswersAs (Ok done) new s a.item (opened S core new log s m C W h stands a).0 C W D V → GoesOn S new log D V
    go S log h (inl t) = subst (λ (E : CrewSeen). GoesOn S new log E V) (sym t.1) (held_on S core new log s m C W h stands a t.0 V t.2)
    go S log h (inr t) = subst (λ (U : WaitingSeen). GoesOn S new log D U) (sym t.2) (sent_now S core new log s m C W h stands a law t.0 D t.1)
answered_so core new s m C D W V (Err end) a stands law so = λ S log h. go S log h (so a.item (opened S core new log s m C W h stands a).0 (owed_ends S core new log s m C W h stands a))
  where
    go : (S : Setting) (log : List LogEntry) (h : IsPast S core log s m C W) → AnswersAs (Err end) new s a.item (opened S core new log s m C W h stands a).0 C W D V → IsStopping ⊥ S new log D V (pace.Outcome end)
    go S log h (same, still, inl mem) = subst (λ (E : CrewSeen). IsStopping ⊥ S new log E V (pace.Outcome end)) (sym same) (subst (λ (U : WaitingSeen). IsStopping ⊥ S new log C U (pace.Outcome end)) (sym still)
        (subst (λ (e : Outcome). IsStopping ⊥ S new log C W (pace.Outcome e)) (sym mem) (answered_mem S core new log s m C W h stands a)))
    go S log h (same, still, inr u) = subst (λ (E : CrewSeen). IsStopping ⊥ S new log E V (pace.Outcome end)) (sym same) (subst (λ (U : WaitingSeen). IsStopping ⊥ S new log C U (pace.Outcome end)) (sym still)
        (answered_not S core new log s m C W h stands a u.0 end u.1))

-- there was no memory for a Step that was asked for
pub asked_mem : (S : Setting) (old new : CoreState) (log : List LogEntry) (C : CrewSeen) (W : WaitingSeen) (s : SimNo) (p : GoesOn S old log C W) → Stands new.plan new.entries → IsAsked old s new → IsStopping ⊥ S new log C W (pace.Outcome outcome.Mem)
asked_mem S old new log C W s p stands a = let t = asked_unheld S old new log C W s p stands a in mem_ends (λ i. ⊤) S W.tempo W.strict new.plan new.entries log C t.0 W.moments t.1

-- what is owed was sent, or not
pub sent_or_not : (core : CoreState) (s : SimNo) (C D : CrewSeen) (W : WaitingSeen) (r : Result (Unit {0}) Outcome) → slice_get W.holds s.0 ≡ Some [] → OnOk r ((item : Item) (id : ℕ) → EndsWithItem core s item id → SendsAs s.0 item id C D)
    → IfErr r (λ end. (item : Item) (id : ℕ) → EndsWithItem core s item id → IsUnsent end s.0 item C) → OnErr r (D ≡ C) → (item : Item) (id : ℕ) → EndsWithItem core s item id → AnswersAs r core s item id C W D W
sent_or_not core s C D W (Ok done) none sent unsent same item id ends = inr (none, sent item id ends, refl)
sent_or_not core s C D W (Err end) none sent unsent same item id ends = (same, refl, inr (none, unsent item id ends))
