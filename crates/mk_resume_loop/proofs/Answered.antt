-- The core took a message and owes an item: it was sent, or it wasn't.
use Rattle.std.proofs.Common.{◌≡◌, inl, inr, ℕ, ◌+◌, List, [], ◌∷◌, ◌++◌, length, slice_get, Some, None, Result, Ok, Err, OnOk, OnErr, IfErr, refl, sym, ap, ◌∙◌, subst}
use Rattle.mk_base.specs.declared.SimNo.{SimNo}
use Rattle.mk_base.specs.Lists.{BeginsWith}
use Rattle.mk_base.proofs.Lists.{append_nil}
use Rattle.mk_plan.specs.declared.Item.{Item}
use Rattle.mk_plan.specs.declared.Message.{Message}
use Rattle.mk_plan.specs.declared.Entry.{Entry}
use Rattle.mk_plan.specs.declared.Entry.TheVariants.{Sent, Got}
use Rattle.mk_plan.specs.Journals.{got}
use Rattle.mk_outside.specs.declared.fleet.LogEntry.{LogEntry}
use Rattle.mk_sched.specs.Cores.{CoreState, Stands}
use Rattle.mk_sched.specs.Answers.{IsAnswered}
use Rattle.mk_run_laws.specs.Crews.{IsHeard, kept_of}
use Rattle.mk_run_local.specs.Laws.{RepliesAreKinds}
use Rattle.mk_run_crew.specs.declared.halt.Halt.{Halt}
use Rattle.mk_run_crew.specs.Calls.{SendsAs, ShowsUnsent}
use Rattle.mk_run_crew.specs.Seen.{CrewSeen, crew_of}
use Rattle.mk_run.specs.declared.outcome.Outcome.{Outcome}
use Rattle.mk_run.specs.Outcomes.{outcome_of}
use Rattle.mk_run.specs.inner.Sendings.{EndsWithItem, IsUnsent}
use Rattle.mk_run.specs.inner.Underway.{Setting, reply_in, exchange_at}
use Rattle.mk_sched.proofs.Pushed.{fault_after_sent, patient_got, patient_sent}
use Rattle.mk_run.proofs.Pushed.{range_got, range_sent}
use Rattle.mk_resume_walk.specs.Talks.{free_items}
use Rattle.mk_resume_links.specs.Rests.{Counts}
use Rattle.mk_resume_links.specs.inner.Catching.{IsCatchingWith, awaited, one_more}
use Rattle.mk_resume_links.proofs.Catching.{catching_sent, more_away, more_here, new_on_link, new_within}
use Rattle.mk_resume_links.proofs.Closing.{seen}
use Rattle.mk_resume_links.proofs.Growing.{free_sent_away, free_sent_here}
use Rattle.mk_resume_loop.specs.declared.ending.ResumeEnd.{ResumeEnd}
use Rattle.mk_resume_loop.specs.declared.ending.ResumeEnd.TheVariants as ends
use Rattle.mk_resume_loop.specs.inner.Ending.{HasEnded}
use Rattle.mk_resume_loop.specs.inner.Turns.{TakesAs}
use Rattle.mk_resume_loop.specs.inner.Underway.{BehindSeen, IsMet, IsResuming, IsResumingWith, course_of, saved_of}
use Rattle.mk_resume_loop.proofs.Asked.{longer_begins, paid_by_sent}
use Rattle.mk_resume_loop.proofs.Resting.{resting}
use Rattle.mk_resume_loop.proofs.Hearing.{met_back, met_fits, met_low, met_no_other, met_log_right}
use Rattle.mk_resume_loop.proofs.New.{few_then, free_here, free_others}
use Rattle.mk_resume_loop.proofs.Turning.{answered_on, owed_last}
use Rattle.mk_resume_loop.proofs.Unsent.{unsent_ends}
use Rattle.mk_base.proofs.Counts.{same_or_not}

module _ (T : Setting) (core new : CoreState) (first : List Entry) (heard : Counts) (log : List LogEntry) (s : SimNo) (m : Message) (C : CrewSeen) (h : IsMet T core.plan first core.entries heard log s.0 m (crew_of C) C.sims) (caught : heard s.0 ≡ length (got core.entries s.0))
    (a : IsAnswered core s m new) (stands : Stands new.plan new.entries) where
  abbrev v : IsResuming T core.plan first core.entries heard h.before h.crew C.sims
  v = h.resuming

  abbrev before : List Entry
  before = core.entries ++ Got s m ∷ []

  abbrev after : List Entry
  after = (core.entries ++ Got s m ∷ []) ++ Sent s a.item ∷ []

  abbrev next : Counts
  next = one_more heard s.0

  abbrev free : ℕ → List Item
  free i = free_items core.entries i (heard i)

  abbrev kept : ℕ → List Message
  kept i = kept_of i C.kept

  -- ---- what is free with the item, and what was sent of it

  free_with : free_items after s.0 (next s.0) ≡ free s.0 ++ a.item ∷ []
  free_with = ap (free_items after s.0) (more_here heard s.0) ∙ free_sent_here before s a.item (heard s.0 + 1) (few_then T core.plan first core.entries heard log s m (crew_of C) C.sims h caught)
      ∙ ap (λ (l : List Item). l ++ a.item ∷ []) (free_here T core.plan first core.entries heard log s m (crew_of C) C.sims h caught)

  free_away : (i : ℕ) → (i ≡ s.0 → ⊥) → free_items after i (next i) ≡ free i
  free_away i apart = ap (free_items after i) (more_away heard s.0 i apart) ∙ free_sent_away before s a.item i (heard i) apart ∙ sym (free_others T core.plan first core.entries heard log s m (crew_of C) C.sims h caught i apart)

  firsts : (i : ℕ) → BeginsWith (free_items after i (next i)) (free i)
  firsts i = elim (same_or_not i s.0) [
    | inl q ↦ subst (λ (j : ℕ). BeginsWith (free_items after j (next j)) (free j)) (sym q) (a.item ∷ [], free_with)
    | inr apart ↦ ([], free_away i apart ∙ sym (append_nil (free i)))
  ]

  -- ---- the journal has the item, and it wasn't sent yet

  catching : IsCatchingWith free kept (saved_of first) (exchange_at T (h.before ++ h.entries)) T.replies core.plan after next (crew_of C)
  catching = go h.met
    where
      go : IsHeard h.entries s.0 m h.crew (crew_of C) → IsCatchingWith free kept (saved_of first) (exchange_at T (h.before ++ h.entries)) T.replies core.plan after next (crew_of C)
      go (IsHeard.kept at channels none) =
          let t = new_within (saved_of first) T.started T.scenario T.replies (reply_in T) core.plan core.entries heard h.before h.entries h.crew (crew_of C) s m v.catching at channels none caught in
          (catching_sent (saved_of first) T.started T.scenario T.replies (reply_in T) core.plan free kept before next (h.before ++ h.entries) (crew_of C) s a.item t.0 t.1).0
      go (IsHeard.on_link none late w there moved parked) =
          let k = met_back T core.plan first core.entries heard log s m (crew_of C) C.sims h w there in
          let t = new_on_link (saved_of first) T.started T.scenario T.replies (reply_in T) core.plan (awaited T.scenario (reply_in T) core.entries heard) core.entries heard h.before h.entries h.crew (crew_of C) s m k.0 v.catching (resting T core.plan first core.entries heard h.before h.crew C.sims v h.nobody none) k.1 none late moved parked caught in
          let l = (catching_sent (saved_of first) T.started T.scenario T.replies (reply_in T) core.plan free (awaited T.scenario (reply_in T) core.entries heard) before next (h.before ++ h.entries) (crew_of C) s a.item t.0 t.1).0 in
          seen (saved_of first) T.started T.scenario T.replies (reply_in T) core.plan free free (awaited T.scenario (reply_in T) core.entries heard) kept after next (h.before ++ h.entries) (crew_of C) l (λ i k linked. refl) (λ i. sym (l.touch.kept i))

  owed_stands : IsResumingWith (course_of T first next free kept log) core.plan after (crew_of C) C.sims
  owed_stands = record {
    suits = v.suits;
    stands = subst (λ (c : CoreState). Stands c.plan c.entries) a.moved stands;
    begins = longer_begins before first (Sent s a.item) (longer_begins core.entries first (Got s m) v.begins);
    patient = patient_sent core.plan before s a.item (patient_got core.plan core.entries s m v.patient h.nobody);
    in_range = range_sent before s a.item (range_got core.entries s m v.in_range (met_fits T core.plan first core.entries heard log s m (crew_of C) C.sims h));
    no_fault = fault_after_sent core.plan before s a.item a.no_fault;
    paid = paid_by_sent core.plan before s a.item;
    catching = subst (λ (l : List LogEntry). IsCatchingWith free kept (saved_of first) (exchange_at T l) T.replies core.plan after next (crew_of C)) (sym h.parts) catching;
    no_other = met_no_other T core.plan first core.entries heard log s m (crew_of C) C.sims h;
    come = v.come;
    only_within = v.only_within;
    log_right = met_log_right T core.plan first core.entries heard log s m (crew_of C) C.sims h;
  }

  -- and it isn't sent
  pub unanswered_ends : (halt : Halt) → ShowsUnsent halt s.0 a.item C → HasEnded ⊥ T new.plan first new.entries next log (crew_of C) (ends.Outcome (outcome_of halt))
  unanswered_ends halt shown = subst (λ (c : CoreState). HasEnded ⊥ T c.plan first c.entries next log (crew_of C) (ends.Outcome (outcome_of halt))) (sym a.moved)
      (unsent_ends ⊥ free kept T core.plan first after next log C C.sims s a.item [] (met_low T core.plan first core.entries heard log s m (crew_of C) C.sims h) owed_stands firsts free_with halt shown)

-- ---- whether it was sent or not

pub answered_so : (core new : CoreState) (s : SimNo) (m : Message) (C D : CrewSeen) (B : BehindSeen) (r : Result (Unit {0}) ResumeEnd) → slice_get B.sims s.0 ≡ Some None → IsAnswered core s m new → Stands new.plan new.entries → RepliesAreKinds
    → OnOk r ((item : Item) (id : ℕ) → EndsWithItem new s item id → SendsAs s.0 item id C D)
    → IfErr r (λ end. (item : Item) (id : ℕ) → EndsWithItem new s item id → (o : Outcome) × (end ≡ ends.Outcome o) × IsUnsent o s.0 item C) → OnErr r (D ≡ C) → TakesAs r s m core C B new D B
answered_so core new s m C D B (Ok done) none a stands law sent unsent same = (ap (λ (c : CoreState). c.ended) a.moved, λ T first heard log h. answered_on T core new first heard log C B s m h none a stands law D sent)
answered_so core new s m C D B (Err end) none a stands law sent unsent same = λ T first heard log h.
    let caught : heard s.0 ≡ length (got core.entries s.0) = h.1.each s.0 None none in
    let e = owed_last T core new first heard log C B s m h none a stands in
    let u = unsent a.item e.0 e.1 in (
      one_more heard s.0,
      subst (λ (E : CrewSeen). HasEnded ⊥ T new.plan first new.entries (one_more heard s.0) log (crew_of E) end) (sym same)
          (subst (HasEnded ⊥ T new.plan first new.entries (one_more heard s.0) log (crew_of C)) (sym (u.1 ∙ ap (λ (o : Outcome). ends.Outcome o) u.2.1))
          (unanswered_ends T core new first heard log s m C h.0 caught a stands u.2.0 u.2.2)),
    )
