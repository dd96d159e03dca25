-- What sending a simulator its items anew comes to, by the calls that it is made of; and a message
-- that was sent again.
use Rattle.std.proofs.Common.{◌≡◌, ℕ, ◌+◌, ◌<◌, List, [], ◌∷◌, ◌++◌, length, take, slice_get, Option, Some, None, Ok, Err, refl, sym, ap, ◌∙◌, subst, arith, append_assoc}
use Rattle.mk_base.specs.declared.SimNo.{SimNo}
use Rattle.mk_base.proofs.Lists.{append_nil, filter_map_append, some_same}
use Rattle.mk_plan.specs.declared.Item.{Item}
use Rattle.mk_plan.specs.Sequential.{id_after}
use Rattle.mk_plan.specs.declared.Message.{Message}
use Rattle.mk_plan.specs.declared.Entry.{Entry}
use Rattle.mk_plan.specs.declared.Entry.TheVariants.{Sent, Got}
use Rattle.mk_plan.specs.Plans.{sim_count}
use Rattle.mk_plan.specs.Journals.{got, sent, sent_to}
use Rattle.mk_outside.specs.declared.fleet.LogEntry.{LogEntry}
use Rattle.mk_sched.specs.Cores.{CoreState}
use Rattle.mk_run_local.specs.Laws.{RepliesAreKinds}
use Rattle.mk_run_crew.specs.declared.halt.Halt.{Halt}
use Rattle.mk_run_crew.specs.Calls.{SendsAs, ShowsUnsent}
use Rattle.mk_run_crew.specs.Seen.{CrewSeen, crew_of}
use Rattle.mk_run.specs.declared.outcome.Outcome.TheVariants as outcome
use Rattle.mk_run.specs.Outcomes.{outcome_of}
use Rattle.mk_run.specs.inner.Underway.{Setting}
use Rattle.mk_resume_walk.specs.Talks.{free_items, up_to}
use Rattle.mk_resume_walk.specs.Walks.{IsFirstOwn, IsGoneTo}
use Rattle.mk_resume_walk.specs.Index.{own_count}
use Rattle.mk_resume_walk.proofs.Indexing.{counted_behind}
use Rattle.mk_resume_walk.proofs.UpTo.{up_to_behind}
use Rattle.mk_resume_links.specs.Rests.{Counts, repeated}
use Rattle.mk_resume_links.specs.inner.Catching.{one_more}
use Rattle.mk_resume_links.proofs.Waiting.{so_far_end}
use Rattle.mk_resume_loop.specs.declared.behind.Standing.{Standing}
use Rattle.mk_resume_loop.specs.declared.ending.ResumeEnd.{ResumeEnd}
use Rattle.mk_resume_loop.specs.declared.ending.ResumeEnd.TheVariants as ends
use Rattle.mk_resume_loop.specs.inner.Standings.{standing_at}
use Rattle.mk_resume_loop.specs.inner.Turns.{GoesOn, IsPast, IsSized, IsStopping, PassesAs}
use Rattle.mk_resume_loop.specs.inner.Underway.{BehindSeen, StandsAt, saved_of}
use Rattle.mk_resume_loop.proofs.Endings.{differs_ends}
use Rattle.mk_resume_loop.proofs.Repeating.{again_behind, again_due, again_goes, next_message}
use Rattle.mk_resume_loop.proofs.Standing.{gone_sent, next_behind}
use Rattle.mk_resume_loop.proofs.Unsent.{unsent_ends}
use Rattle.mk_resume_loop.proofs.Walking.{due_ends, due_sent, due_waits}

-- what is free begins with the items gone through
free_begins : (J : List Entry) (i n from : ℕ) (g : IsGoneTo J i n from) → free_items J i n ≡ sent g.gone i ++ sent (up_to i 0 g.left) i
free_begins J i n from g =
    ap (λ (K : List Entry). sent (up_to i n K) i) g.parts
    ∙ ap (λ (K : List Entry). sent K i) (up_to_behind i n 0 g.gone g.left (let c = g.count in omega (arith, c)))
    ∙ filter_map_append (sent_to i) g.gone (up_to i 0 g.left)

module _ (core : CoreState) (C : CrewSeen) (s : SimNo) (gone id : ℕ) (low : s.0 < sim_count core.plan) where
  -- the look-up behind so many entries of the simulator
  abbrev pub LooksUp : ℕ → Option ℕ → Type 0
  LooksUp count r = (from : ℕ) → count ≡ own_count s.0 (take from core.entries) → IsFirstOwn core.entries s.0 from r

  -- it is a message, or there is none
  pub passes_quietly : (r : Option ℕ) (E : BehindSeen) → LooksUp gone r → ((p : ℕ) → r ≡ Some p → (t : SimNo) × (m : Message) × (slice_get core.entries p ≡ Some (Got t m))) → slice_get E.sims s.0 ≡ Some (standing_at r gone id) → PassesAs (Ok tt) core s.0 gone id C C E
  passes_quietly None E looks entry stands R d =
      let t = due_ends R core C s gone id low d (looks R.from d.counted) in
      (t.0, λ o is. subst (StandsAt core.plan core.entries s.0 (R.course.heard s.0)) (some_same (sym stands ∙ is)) t.1)
  passes_quietly (Some p) E looks entry stands R d =
      let e = entry p refl in
      let t = due_waits R core C s gone id low d p e.0 e.1 (looks R.from d.counted) e.2 in
      (t.0, λ o is. subst (StandsAt core.plan core.entries s.0 (R.course.heard s.0)) (some_same (sym stands ∙ is)) t.1)

  module _ (p : ℕ) (t : SimNo) (item : Item) (looks : LooksUp gone (Some p)) (there : slice_get core.entries p ≡ Some (Sent t item)) where
    -- it is an item, which was sent
    pub passes_sent : RepliesAreKinds → (D : CrewSeen) → SendsAs s.0 item id C D → (later : Option ℕ) (E : BehindSeen) → LooksUp (gone + 1) later → slice_get E.sims s.0 ≡ Some (standing_at later (gone + 1) (id_after id (item ∷ []))) → PassesAs (Ok tt) core s.0 gone id C D E
    passes_sent law D so later E further stands R d =
        let first = looks R.from d.counted in
        let count : own_count s.0 (take (p + 1) core.entries) ≡ gone + 1 = counted_behind core.entries s.0 R.from p first ∙ ap (λ (k : ℕ). k + 1) (sym d.counted) in
        let w = due_sent R core C s gone id low d p t item first there law D so later (further (p + 1) (sym count)) in
        (w.0, λ o is. subst (StandsAt core.plan core.entries s.0 (R.course.heard s.0)) (some_same (sym stands ∙ is)) w.1)

    -- it is an item, which wasn't sent
    pub passes_not : (h : Halt) (E : BehindSeen) → ShowsUnsent h s.0 item C → PassesAs (Err (ends.Outcome (outcome_of h))) core s.0 gone id C C E
    passes_not h E shown R d =
        let first = looks R.from d.counted in
        let k = gone_sent core.entries s.0 (R.course.heard s.0) R.from d.passing.gone p t item first there in
        let rest : List Item = sent (up_to s.0 0 k.0.left) s.0 in
        let next : free_items core.entries s.0 (R.course.heard s.0) ≡ R.course.queued s.0 ++ item ∷ rest = free_begins core.entries s.0 (R.course.heard s.0) (p + 1) k.0
        ∙ ap (λ (l : List Item). l ++ rest) (k.1 ∙ ap (λ (l : List Item). l ++ item ∷ []) d.passing.was_sent) ∙ append_assoc (R.course.queued s.0) (item ∷ []) rest in
        unsent_ends ⊥ R.course.queued R.course.awaits R.course.setting core.plan R.course.first core.entries R.course.heard R.course.log C C.sims s item rest low d.resuming d.passing.firsts next h shown

  -- there was no memory for the index
  pub passes_for_memory : (E : BehindSeen) → PassesAs (Err (ends.Outcome outcome.Mem)) core s.0 gone id C C E
  passes_for_memory E R d = record {
    suits = d.resuming.suits;
    stands = d.resuming.stands;
    begins = d.resuming.begins;
    patient = d.resuming.patient;
    in_range = d.resuming.in_range;
    counts = d.resuming.catching.counts;
    kinds = d.resuming.catching.kinds;
    channels = λ i l linked. record {
      messages = repeated core.entries i (R.course.heard i);
      items = R.course.queued i;
      channel = d.resuming.catching.touch.channels i l linked;
      given = ([], sym (append_nil (repeated core.entries i (R.course.heard i))));
      queued = d.passing.firsts i;
      queued_all = tt;
    };
    no_other = d.resuming.no_other;
    rests = so_far_end (saved_of R.course.first) R.course.setting.started R.course.setting.scenario R.course.setting.replies core.plan core.entries R.course.log C.kept d.resuming.catching.rests;
    log_right = d.resuming.log_right;
    ends = tt;
    fault = d.resuming.no_fault;
    unfinished = λ broken. absurd broken;
  }

-- ---- a message was sent again

module _ (T : Setting) (core : CoreState) (first : List Entry) (heard : Counts) (log : List LogEntry) (C D : CrewSeen) (B E : BehindSeen) (s : SimNo) (m : Message) (h : IsPast T first heard core log s m C B) (c : Standing) (there : slice_get B.sims s.0 ≡ Some (Some c)) where
  -- it is the saved one, and what is free then was sent
  pub again_on : (x : SimNo) → slice_get core.entries c.place ≡ Some (Got x m) → PassesAs (Ok tt) core s.0 c.gone c.id C D E → IsSized core E → ((i : ℕ) → (i ≡ s.0 → ⊥) → slice_get E.sims i ≡ slice_get B.sims i) → GoesOn T first (one_more heard s.0) core log D E
  again_on x at passes sized others =
      let stand = h.1.each s.0 (Some c) there in
      let p = passes _ (again_due T first heard core log s m C h.0 c stand x at) in (
        again_goes T first heard core log s m C h.0 c stand x at D p.0,
        record {
          indexed = sized.indexed;
          sims = sized.sims;
          each = again_behind T first heard core log s m C h.0 c stand x at B E h.1.each others p.1;
        },
      )

  -- or it wasn't
  pub again_not : (x : SimNo) → slice_get core.entries c.place ≡ Some (Got x m) → (end : ResumeEnd) → PassesAs (Err end) core s.0 c.gone c.id C D E → IsStopping ⊥ T first core log D end
  again_not x at end passes = (one_more heard s.0, passes _ (again_due T first heard core log s m C h.0 c (h.1.each s.0 (Some c) there) x at))

  -- it isn't the saved one
  pub differs_on : (x : SimNo) (kept : Message) → slice_get core.entries c.place ≡ Some (Got x kept) → (kept ≡ m → ⊥) → (place : ℕ) → place ≡ heard s.0 → IsStopping ⊥ T first core log C (ends.Differs s place kept m)
  differs_on x kept at apart place is =
      let stand = h.1.each s.0 (Some c) there in
      let low = next_behind core.entries s.0 (heard s.0) c.place stand.0 in (
        heard,
        differs_ends T first ⊥ core core heard log s m (crew_of C) C.sims h.0 place kept is (subst (λ (k : ℕ). k < length (got core.entries s.0)) (sym is) low)
            (ap (slice_get (got core.entries s.0)) is ∙ next_message core.entries s.0 (heard s.0) c.place stand.0 x kept at) apart,
      )
