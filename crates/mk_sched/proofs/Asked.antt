-- The core asks the first simulator that is ready, waits, is over, or has no room.
use Rattle.std.proofs.Common.{◌≡◌, ◌≢◌, ℕ, ◌+◌, ◌<◌, ◌≤◌, ℤ, ◌≤ℤ◌, true, List, [], ◌∷◌, ◌++◌, length, Option, Some, None, Result, Ok, Err, IfOk, IfErr, refl, sym, ap, ◌∙◌, subst, inl, inr, arith, is_some, int_lt, nat_le, true≢false}
use Rattle.std.proofs.lemmas.Int.{ints}
use Rattle.std.proofs.lemmas.Bool.{leb-true}
use Rattle.mk_base.specs.declared.Mem.{Mem}
use Rattle.mk_base.specs.declared.SimNo.{SimNo}
use Rattle.mk_base.specs.declared.tier.Tier.{Tier}
use Rattle.mk_plan.specs.declared.Plan.{Plan}
use Rattle.mk_plan.specs.declared.Input.{Input}
use Rattle.mk_plan.specs.declared.Entry.{Entry}
use Rattle.mk_plan.specs.declared.Entry.TheVariants.{Sent}
use Rattle.mk_plan.specs.declared.Item.TheVariants.{Step}
use Rattle.mk_plan.specs.Plans.{sim_count}
use Rattle.mk_plan.specs.Deliveries.{supply}
use Rattle.mk_plan.specs.Inputs.{inputs}
use Rattle.mk_plan.specs.Sequential.{last_time}
use Rattle.mk_plan.specs.Journals.{OpenTurn, Owed, note_sent, view}
use Rattle.mk_plan.specs.Orderly.{IsAllowed, IsNext, IsFirstReady}
use Rattle.mk_plan.specs.Ready.{pending, last_step, step_at, IsReady, IsDone}
use Rattle.mk_plan.specs.Advance.{IsAdvance}
use Rattle.mk_order.proofs.Headlines.{orderly_finished}
use Rattle.mk_order.proofs.Orders.{somebody_is_ready}
use Rattle.mk_order.proofs.Past.{pending_within}
use Rattle.mk_sched_agenda.specs.Mirrors.{Mirrors}
use Rattle.mk_sched_open.specs.Sims.{AreSimsOf}
use Rattle.mk_sched_open.specs.Turns.{IsInRun}
use Rattle.mk_sched_supply.specs.Stock.{IsStockOf, MayComeNext}
use Rattle.mk_sched.specs.declared.derived.Derived.{Derived}
use Rattle.mk_sched.specs.declared.faults.Ended.{Ended}
use Rattle.mk_sched.specs.declared.faults.Ended.TheVariants.{Faulty}
use Rattle.mk_sched.specs.declared.faults.CoreFault.TheVariants.{TooLong}
use Rattle.mk_sched.specs.declared.faults.Next.{Next}
use Rattle.mk_sched.specs.declared.faults.Next.TheVariants as next
use Rattle.mk_sched.specs.Answers.{IsAsked, IsOutOfMemory, NextOf}
use Rattle.mk_sched.specs.Cores.{CoreState}
use Rattle.mk_sched.specs.inner.Holding.{HasGivenUp}
use Rattle.mk_sched.specs.inner.Derived.{IsCurrent, IsDerived, HasAdvanced, core_of, end_after_next}
use Rattle.mk_sched.proofs.Standing.{derived_push, ended_derived, ended_given_up, failed_core}
use Rattle.mk_base.specs.Limits.{latest_end}
use Rattle.mk_base.proofs.Bools.{both_hold}

module _ (P : Plan) (J : List Entry) (K : Derived) (derived : IsDerived P J K None) where
  pub its : IsCurrent P (view P J) (length J) K
  its = derived.current refl

  -- where nothing is open at a simulator its last Step is that of its last act
  pub last_closed : (s : ℕ) (x : Tier) → IsReady P (view P J) s x → last_step (view P J) s ≡ last_time ((view P J).acts s)
  last_closed s x ready = ap (λ (o : Option OpenTurn). step_at o (last_time ((view P J).acts s))) ready.closed

  pub ready_low : (s : ℕ) (x : Tier) → IsReady P (view P J) s x → s < sim_count P
  ready_low s x ready = (pending_within IsReady IsAdvance P (λ V s x r. r) derived.valid J derived.orderly.0 s x ready.at_pending).2

  pub in_run : (s : ℕ) (x : Tier) → IsReady P (view P J) s x → IsInRun x
  in_run s x ready =
      let w = pending_within IsReady IsAdvance P (λ V s x r. r) derived.valid J derived.orderly.0 s x ready.at_pending in
      let u : P.until ≤ℤ latest_end = derived.valid.well_formed.limits.until.1 in
      let l : P.loops ≤ 1000 = derived.valid.well_formed.limits.loops.1 in
      let t = both_hold (int_lt x.time P.until) (nat_le x.tier P.loops) w.1 in
      let e : int_lt x.time P.until ≡ true = t.0 in
      let k : x.tier ≤ P.loops = leb-true x.tier P.loops t.1 in
      record { early = w.0; late = grind (arith, ints); low = omega arith }

  module _ (s : SimNo) (x : Tier) (first : IsFirstReady IsReady IsAdvance P (view P J) s.0 x) (ins : List Input) (given : ins ≡ inputs P (supply P (view P J).acts) s.0 (last_step (view P J) s.0) x) (advance : ℤ) (promise : IsAdvance P (view P J) s.0 x advance) where
    asked_allowed : IsAllowed IsReady IsAdvance P (view P J) (Sent s (Step x ins advance))
    asked_allowed = (
      its.no_fault,
      subst (λ (o : Option Owed). IsNext IsReady IsAdvance P (view P J) o (Sent s (Step x ins advance))) (sym its.none_owed)
          (first, given ∙ ap (λ (p : Option Tier). inputs P (supply P (view P J).acts) s.0 p x) (last_closed s.0 x first.0), promise),
    )

    pub asked_may : MayComeNext P J (Sent s (Step x ins advance))
    asked_may = record { valid = derived.valid; orderly = derived.orderly.0; allowed = asked_allowed }

    pub asked : (L : Derived) (M : List Entry) → length J ≢ P.entries → M ≡ J ++ Sent s (Step x ins advance) ∷ [] → AreSimsOf P (note_sent P (view P J) s.0 (Step x ins advance)) (length J + 1) L.sims → Mirrors P (note_sent P (view P J) s.0 (Step x ins advance)) L.agenda
        → IsStockOf P (note_sent P (view P J) s.0 (Step x ins advance)) L.stock → IsDerived P M L None × IsAsked (core_of P J None) s (core_of P M None)
    asked L M room is sims agenda stock = (
      subst (λ (N : List Entry). IsDerived P N L None) (sym is) (derived_push P J K L None (Sent s (Step x ins advance)) derived room asked_allowed (inl refl)
          (λ going. record { sims = sims; agenda = agenda; stock = stock; no_fault = its.no_fault; none_owed = refl })),
      record { going = refl; at = x; inputs = ins; advance = advance; allowed = asked_allowed; moved = ap (λ (N : List Entry). core_of P N None) is },
    )

  -- ---- what is answered

  pub next_asked : (s : SimNo) (L : Derived) (M : List Entry) → IsDerived P M L None → IsAsked (core_of P J None) s (core_of P M None) → HasGivenUp P M L None → HasAdvanced P J (Ok (next.Ask s)) L M
  next_asked s L M derived asked given_up = record { derived = derived; given_up = given_up; ok = asked; err = tt }

  pub next_full : (s : ℕ) (x : Tier) → IsReady P (view P J) s x → length J ≡ P.entries → HasAdvanced P J (Ok (next.Fault (TooLong P.entries))) K J
  next_full s x ready full = record {
    derived = ended_derived P J K derived J K (Faulty (TooLong P.entries)) refl;
    given_up = ended_given_up P J K (Faulty (TooLong P.entries));
    ok = inr (record { going = refl; named = refl; full = full; ready = (s, x, ready); ended = refl });
    err = tt;
  }

  module _ (given_up : HasGivenUp P J K None) (nobody_ready : (i : ℕ) (x : Tier) → IsReady P (view P J) i x → ⊥) where
    pub next_waits : (i : ℕ) × (i < sim_count P) × (is_some ((view P J).open_at i) ≡ true) → HasAdvanced P J (Ok next.Wait) K J
    next_waits t = record {
      derived = derived;
      given_up = given_up;
      ok = record { going = refl; nobody = λ r. nobody_ready r.0 r.1 r.2; waiting = (t.0, (t.1, λ none. true≢false (sym t.2 ∙ ap is_some none))); same = refl };
      err = tt;
    }

    -- nothing is pending where nobody is ready and nothing is open
    none_pending : ((i : ℕ) → i < sim_count P → (view P J).open_at i ≡ None) → (i : ℕ) → i < sim_count P → pending P (view P J).acts i ≡ None
    none_pending shut i low = go (pending P (view P J).acts i) refl
      where
        go : (o : Option Tier) → pending P (view P J).acts i ≡ o → o ≡ None
        go None e = refl
        go (Some y) e = let t = somebody_is_ready IsReady IsAdvance P (λ V s x r. r) derived.valid J derived.orderly.0 shut i y e in absurd (nobody_ready t.0 t.1 t.2)

    is_over : ((i : ℕ) → i < sim_count P → (view P J).open_at i ≡ None) → IsDone P (view P J)
    is_over shut = record { no_fault = its.no_fault; closed = shut; none_pending = none_pending shut }

    pub next_done : ((i : ℕ) → i < sim_count P → (view P J).open_at i ≡ None) → HasAdvanced P J (Ok next.Done) K J
    next_done shut = record {
      derived = derived;
      given_up = given_up;
      ok = record { going = refl; done = is_over shut; finished = orderly_finished P derived.valid J derived.orderly (is_over shut); same = refl };
      err = tt;
    }

-- ---- a core by its fields, before and after

pub advanced_ok : (P : Plan) (J M : List Entry) (r : Result Next Mem) (L : Derived) → HasAdvanced P J r L M → (old : CoreState) (o n : Option Ended) → old ≡ core_of P J o → o ≡ None → n ≡ end_after_next r → IfOk r (λ a. NextOf old a (core_of P M n))
advanced_ok P J M r L advanced old o n is none end =
    subst (λ (k : CoreState). IfOk r (λ a. NextOf k a (core_of P M n))) (sym (is ∙ ap (λ (e : Option Ended). core_of P J e) none))
    (subst (λ (e : Option Ended). IfOk r (λ a. NextOf (core_of P J None) a (core_of P M e))) (sym end) advanced.ok)

pub advanced_err : (P : Plan) (J M : List Entry) (r : Result Next Mem) (L : Derived) → HasAdvanced P J r L M → (old : CoreState) (o n : Option Ended) → old ≡ core_of P J o → o ≡ None → n ≡ end_after_next r → IfErr r (λ _. IsOutOfMemory old (core_of P M n))
advanced_err P J M (Ok a) L advanced old o n is none end = tt
advanced_err P J M (Err e) L advanced old o n is none end = failed_core P J M old o n is none end advanced.err
