-- From the calls of a resumed run's turn to what the turn comes to.
use Rattle.std.proofs.Common.{◌≡◌, ℕ, ◌<◌, List, [], ◌∷◌, ◌++◌, length, slice_get, Some, None, refl, sym, ap, subst}
use Rattle.mk_base.specs.declared.SimNo.{SimNo}
use Rattle.mk_plan.specs.declared.Plan.{Plan}
use Rattle.mk_plan.specs.declared.Item.{Item}
use Rattle.mk_plan.specs.declared.Item.TheVariants.{Step}
use Rattle.mk_plan.specs.declared.Message.{Message}
use Rattle.mk_plan.specs.declared.Entry.{Entry}
use Rattle.mk_plan.specs.declared.Entry.TheVariants.{Sent, Got}
use Rattle.mk_plan.specs.Plans.{sim_count, first_id}
use Rattle.mk_plan.specs.Journals.{Arrival, got, sent}
use Rattle.mk_plan.specs.Sequential.{id_after}
use Rattle.mk_outside.specs.declared.fleet.LogEntry.{LogEntry}
use Rattle.mk_sched.specs.Cores.{CoreState, Stands}
use Rattle.mk_sched.specs.Answers.{SomeReady, IsAsked, IsAnswered, IsQuiet, AwaitsMessage, IsOver}
use Rattle.mk_run_laws.specs.Crews.{IsHeard}
use Rattle.mk_run_local.specs.Calls.{IsFitSuccess}
use Rattle.mk_run_local.specs.Laws.{RepliesAreKinds}
use Rattle.mk_run_crew.specs.Calls.{SendsAs}
use Rattle.mk_run_crew.specs.Seen.{CrewSeen, crew_of}
use Rattle.mk_run_links.specs.Entries.{AreOn}
use Rattle.mk_run_links.specs.Places.{IsChannelLink}
use Rattle.mk_run_links.proofs.OnEntries.{on_run}
use Rattle.mk_run.specs.inner.Underway.{Setting}
use Rattle.mk_run.specs.inner.Sendings.{CanSend, EndsWithItem}
use Rattle.mk_resume_links.specs.Rests.{Counts}
use Rattle.mk_resume_links.specs.inner.Catching.{one_more}
use Rattle.mk_resume_loop.specs.declared.behind.Standing.{Standing}
use Rattle.mk_resume_loop.specs.inner.Turns.{GoesOn, IsPast}
use Rattle.mk_resume_loop.specs.inner.Underway.{AreBehind, BehindSeen, IsIndexed, IsResuming}
use Rattle.mk_resume_loop.proofs.Asked.{asked_goes, asked_linked, asked_low, asked_opened, asked_replied, asked_waits, longer_begins}
use Rattle.mk_resume_loop.proofs.New.{answered_goes, answered_linked, answered_opened, answered_replied, quiet_goes}
use Rattle.mk_resume_loop.proofs.Standing.{stands_got, stands_sent}

-- ---- what is kept of all, as the journal grows

indexed_longer : (P : Plan) (J : List Entry) (e : Entry) (B : BehindSeen) → IsIndexed P J B.index → IsIndexed P (J ++ e ∷ []) B.index
indexed_longer P J e B i = record { sims = i.sims; part = i.part; is = i.is; begins = longer_begins J i.part e i.begins }

pub behind_sent : (P : Plan) (J : List Entry) (heard : Counts) (s : SimNo) (item : Item) (B : BehindSeen) → AreBehind P J heard B → AreBehind P (J ++ Sent s item ∷ []) heard B
behind_sent P J heard s item B b = record {
  indexed = indexed_longer P J (Sent s item) B b.indexed;
  sims = b.sims;
  each = λ i o is. stands_sent P J s item i (heard i) o (b.each i o is);
}

pub behind_got : (P : Plan) (J : List Entry) (heard : Counts) (s : SimNo) (m : Message) (B : BehindSeen) → heard s.0 ≡ length (got J s.0) → AreBehind P J heard B → AreBehind P (J ++ Got s m ∷ []) (one_more heard s.0) B
behind_got P J heard s m B caught b = record {
  indexed = indexed_longer P J (Got s m) B b.indexed;
  sims = b.sims;
  each = λ i o is. stands_got P J heard s m caught i o (b.each i o is);
}

-- ---- a Step was asked

module _ (T : Setting) (old new : CoreState) (first : List Entry) (heard : Counts) (log : List LogEntry) (C : CrewSeen) (B : BehindSeen) (s : SimNo) (u : GoesOn T first heard old log C B) (stands : Stands new.plan new.entries) (a : IsAsked old s new) where
  pub asked_there : s.0 < sim_count new.plan
  asked_there = subst (λ (c : CoreState). s.0 < sim_count c.plan) (sym a.moved) (asked_low T old new first heard log C s u.0 stands a)

  behind_then : AreBehind new.plan new.entries heard B
  behind_then = subst (λ (c : CoreState). AreBehind c.plan c.entries heard B) (sym a.moved) (behind_sent old.plan old.entries heard s (Step a.at a.inputs a.advance) B u.1)

  -- of a simulator that is behind
  pub asked_later : (c : Standing) → slice_get B.sims s.0 ≡ Some (Some c) → heard s.0 < length (got old.entries s.0) → GoesOn T first heard new log C B
  asked_later c there low = (asked_waits T old new first heard log C s u.0 stands a low, behind_then)

  -- of one that has caught up
  module _ (none : slice_get B.sims s.0 ≡ Some None) where
    caught : heard s.0 ≡ length (got old.entries s.0)
    caught = u.1.each s.0 None none

    pub ends_with_step : EndsWithItem new s (Step a.at a.inputs a.advance) (id_after (first_id old.plan s.0) (sent old.entries s.0))
    ends_with_step = record { before = old.entries; last = ap (λ (c : CoreState). c.entries) a.moved; opened = asked_opened T old new first heard log C s u.0 stands a }

    pub can_ask : CanSend new s C
    can_ask = (
      Step a.at a.inputs a.advance,
      id_after (first_id old.plan s.0) (sent old.entries s.0),
      ends_with_step,
      record { replied = asked_replied T old new first heard log C s u.0 stands a caught; linked = asked_linked T old new first heard log C s u.0 stands a caught },
    )

    pub asked_on : RepliesAreKinds → (D : CrewSeen) → ((item : Item) (id : ℕ) → EndsWithItem new s item id → SendsAs s.0 item id C D) → GoesOn T first heard new log D B
    asked_on law D so = (
      asked_goes T old new first heard log C s u.0 stands a caught law D (id_after (first_id old.plan s.0) (sent old.entries s.0)) (asked_opened T old new first heard log C s u.0 stands a) (so _ _ ends_with_step),
      behind_then,
    )

-- ---- nobody is ready

pub waiting_on : (T : Setting) (old new : CoreState) (first : List Entry) (heard : Counts) (log : List LogEntry) (C : CrewSeen) (B : BehindSeen) → AwaitsMessage old new → GoesOn T first heard old log C B → GoesOn T first heard new log C B
waiting_on T old new first heard log C B w u = subst (λ (c : CoreState). GoesOn T first heard c log C B) (sym w.same) u

pub over_on : (T : Setting) (old new : CoreState) (first : List Entry) (heard : Counts) (log : List LogEntry) (C : CrewSeen) (B : BehindSeen) → IsOver old new → GoesOn T first heard old log C B → GoesOn T first heard new log C B
over_on T old new first heard log C B o u = subst (λ (c : CoreState). GoesOn T first heard c log C B) (sym o.same) u

-- ---- a message was heard

pub past_it : (T : Setting) (core : CoreState) (first : List Entry) (heard : Counts) (log entries : List LogEntry) (C D : CrewSeen) (B : BehindSeen) (s : SimNo) (m : Message) → GoesOn T first heard core log C B → (SomeReady core.plan core.entries → ⊥) → IsHeard entries s.0 m (crew_of C) (crew_of D) → AreOn (IsChannelLink C.channels) entries → D.sims ≡ C.sims
    → ((k : Arrival) (more : List Arrival) → C.kept ≡ k ∷ more → IsFitSuccess m) → IsPast T first heard core (log ++ entries) s m D B
past_it T core first heard log entries C D B s m u nobody h on_links sims fit = (
  record {
    before = log;
    entries = entries;
    parts = refl;
    crew = crew_of C;
    resuming = subst (λ (l : _). IsResuming T core.plan first core.entries heard log (crew_of C) l) (sym sims) u.0;
    nobody = nobody;
    met = h;
    fit = fit;
    on_links = on_run T.started T.scenario C.channels entries (λ i l linked. let g = u.0.catching.touch.channels i l linked in (g.channel, g.there, g.link)) u.0.no_other on_links;
  },
  u.1,
)

-- ---- the core took it

pub quiet_on : (T : Setting) (core new : CoreState) (first : List Entry) (heard : Counts) (log : List LogEntry) (C : CrewSeen) (B : BehindSeen) (s : SimNo) (m : Message) → IsPast T first heard core log s m C B → slice_get B.sims s.0 ≡ Some None → IsQuiet core s m new → Stands new.plan new.entries
    → GoesOn T first (one_more heard s.0) new log C B
quiet_on T core new first heard log C B s m h none q stands =
    let caught : heard s.0 ≡ length (got core.entries s.0) = h.1.each s.0 None none in (
      quiet_goes T core new first heard log s m (crew_of C) C.sims h.0 caught q stands,
      subst (λ (c : CoreState). AreBehind c.plan c.entries (one_more heard s.0) B) (sym q.moved) (behind_got core.plan core.entries heard s m B caught h.1),
    )

module _ (T : Setting) (core new : CoreState) (first : List Entry) (heard : Counts) (log : List LogEntry) (C : CrewSeen) (B : BehindSeen) (s : SimNo) (m : Message) (h : IsPast T first heard core log s m C B) (none : slice_get B.sims s.0 ≡ Some None) (a : IsAnswered core s m new) (stands : Stands new.plan new.entries) where
  caught_up : heard s.0 ≡ length (got core.entries s.0)
  caught_up = h.1.each s.0 None none

  ends_with_answer : EndsWithItem new s a.item (answered_opened T core new first heard log s m C h.0 caught_up a stands).0
  ends_with_answer = record { before = core.entries ++ Got s m ∷ []; last = ap (λ (c : CoreState). c.entries) a.moved; opened = (answered_opened T core new first heard log s m C h.0 caught_up a stands).1 }

  pub owed_last : (id : ℕ) × EndsWithItem new s a.item id
  owed_last = ((answered_opened T core new first heard log s m C h.0 caught_up a stands).0, ends_with_answer)

  pub can_answer : CanSend new s C
  can_answer =
      let k = answered_opened T core new first heard log s m C h.0 caught_up a stands in
      (a.item, k.0, ends_with_answer, record { replied = answered_replied T core new first heard log s m C h.0 caught_up a stands; linked = answered_linked T core new first heard log s m C h.0 caught_up a stands k.0 k.1 })

  pub answered_on : RepliesAreKinds → (D : CrewSeen) → ((item : Item) (id : ℕ) → EndsWithItem new s item id → SendsAs s.0 item id C D) → GoesOn T first (one_more heard s.0) new log D B
  answered_on law D so =
      let k = answered_opened T core new first heard log s m C h.0 caught_up a stands in (
        answered_goes T core new first heard log s m C h.0 caught_up a stands law D k.0 k.1 (so a.item k.0 ends_with_answer),
        subst (λ (c : CoreState). AreBehind c.plan c.entries (one_more heard s.0) B) (sym a.moved)
            (behind_sent core.plan (core.entries ++ Got s m ∷ []) (one_more heard s.0) s a.item B (behind_got core.plan core.entries heard s m B caught_up h.1)),
      )
