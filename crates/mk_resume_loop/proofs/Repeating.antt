-- A message was sent again: its simulator is due what stands behind it, and when it was sent that
-- the run goes on.
use Rattle.std.proofs.Common.{◌≡◌, inl, inr, ℕ, ◌+◌, ◌<◌, nat_lt, ◌&&◌, List, [], ◌∷◌, ◌++◌, length, map, take, slice_get, Option, Some, None, if◌then◌else◌, sym, ap, ◌∙◌, subst, append_assoc, length-append}
use Rattle.std.specs.List.{cons_option}
use Rattle.std.proofs.lemmas.Bool.{eq-eqb}
use Rattle.mk_base.specs.declared.SimNo.{SimNo}
use Rattle.mk_base.specs.Lists.{BeginsWith}
use Rattle.mk_base.proofs.Lists.{append_nil, filter_map_append, some_same}
use Rattle.mk_plan.specs.declared.Message.{Message}
use Rattle.mk_plan.specs.declared.Entry.{Entry}
use Rattle.mk_plan.specs.declared.Entry.TheVariants.{Got}
use Rattle.mk_plan.specs.Journals.{bare, got, got_from, sent}
use Rattle.mk_outside.specs.declared.fleet.LogEntry.{LogEntry}
use Rattle.mk_sched.specs.Cores.{CoreState}
use Rattle.mk_run_laws.specs.Handshake.{is_within}
use Rattle.mk_run_laws.specs.Crews.{kept_of}
use Rattle.mk_run_local.specs.Calls.{IsFitSuccess}
use Rattle.mk_run_crew.specs.Seen.{CrewSeen, crew_of}
use Rattle.mk_run.specs.inner.Underway.{Setting, put, reply_in}
use Rattle.mk_run.proofs.Pushed.{same_last, same_message}
use Rattle.mk_resume_walk.specs.Talks.{free_items, up_to}
use Rattle.mk_resume_walk.specs.Walks.{IsGoneTo, IsNextAt}
use Rattle.mk_resume_walk.proofs.Fronts.{free_alternate}
use Rattle.mk_resume_walk.proofs.GoingOn.{free_go_on, up_to_counted, walk_laws}
use Rattle.mk_resume_links.specs.Rests.{Counts}
use Rattle.mk_resume_links.specs.inner.Catching.{awaited, one_more}
use Rattle.mk_resume_links.proofs.Catching.{more_away, more_here}
use Rattle.mk_resume_loop.specs.declared.behind.Standing.{Standing}
use Rattle.mk_resume_loop.specs.inner.Underway.{BehindSeen, Course, IsMet, IsPassed, IsResuming, StandsAt, course_of}
use Rattle.mk_resume_loop.specs.inner.Turns.{IsDue, Walk}
use Rattle.mk_resume_loop.proofs.Again.{IsRepeated, repeated_goes}
use Rattle.mk_resume_loop.proofs.Hearing.{met_success}
use Rattle.mk_run.proofs.Putting.{put_away, put_here}
use Rattle.mk_resume_loop.proofs.Passing.{resuming_as}
use Rattle.mk_resume_loop.proofs.Standing.{next_behind, take_front}
use Rattle.mk_base.proofs.Counts.{same_or_not}
use Rattle.mk_base.proofs.Items.{at_length}

-- ---- the message that has to be sent again

module _ (J : List Entry) (i n p : ℕ) (t : IsNextAt J i n (Some p)) where
  -- the entry at its place is it
  pub next_there : (x : SimNo) (kept : Message) → slice_get J p ≡ Some (Got x kept) → t.1 ≡ kept
  next_there x kept there = go t
    where
      go : (u : IsNextAt J i n (Some p)) → u.1 ≡ kept
      go (s, m, later, own, parts, at) = same_message s x m kept (some_same (sym (at_length (up_to i n J) later (Got s m)) ∙ ap (λ (l : List Entry). slice_get l (length (up_to i n J))) (sym parts) ∙ ap (slice_get J) at ∙ there))

  -- it is the next of the simulator's messages
  pub next_message : (x : SimNo) (kept : Message) → slice_get J p ≡ Some (Got x kept) → slice_get (got J i) n ≡ Some kept
  next_message x kept there = go t (next_there x kept there)
    where
      go : (u : IsNextAt J i n (Some p)) → u.1 ≡ kept → slice_get (got J i) n ≡ Some kept
      go (s, m, later, own, parts, at) same =
          let all : got J i ≡ got (up_to i n J) i ++ m ∷ got later i = ap (λ (K : List Entry). got K i) parts ∙ filter_map_append (got_from i) (up_to i n J) (Got s m ∷ later)
          ∙ ap (λ b. got (up_to i n J) i ++ cons_option (if b then Some m else None) (got later i)) (eq-eqb s.0 i own) in
          ap (λ (k : ℕ). slice_get (got J i) k) (up_to_counted J i n (next_behind J i n p (s, m, later, own, parts, at))) ∙ ap (λ (l : List Message). slice_get l (length (got (up_to i n J) i))) all
          ∙ at_length (got (up_to i n J) i) (got later i) m ∙ ap (λ (k : Message). Some k) same

  -- and the last of those before the place behind it
  pub next_last : (x : SimNo) (kept : Message) → slice_get J p ≡ Some (Got x kept) → (H : List Entry) (y : SimNo) (m : Message) → take (p + 1) J ≡ H ++ Got y m ∷ [] → m ≡ kept
  next_last x kept there H y m is = go t (next_there x kept there)
    where
      go : (u : IsNextAt J i n (Some p)) → u.1 ≡ kept → m ≡ kept
      go (s, k, later, own, parts, at) same =
          let U : List Entry = up_to i n J ++ Got s k ∷ [] in
          let long : length U ≡ p + 1 = length-append (up_to i n J) (Got s k ∷ []) ∙ ap (λ (j : ℕ). j + 1) at in
          let taken : take (p + 1) J ≡ U = ap (λ (j : ℕ). take j J) (sym long) ∙ ap (take (length U)) (parts ∙ sym (append_assoc (up_to i n J) (Got s k ∷ []) later)) ∙ take_front U later in
          same_message y s m k (same_last H (up_to i n J) (Got y m) (Got s k) (sym is ∙ taken)).1 ∙ same

-- ---- it is due what stands behind it

module _ (T : Setting) (first : List Entry) (heard : Counts) (core : CoreState) (log : List LogEntry) (s : SimNo) (m : Message) (C : CrewSeen) (h : IsMet T core.plan first core.entries heard log s.0 m (crew_of C) C.sims) (c : Standing)
    (stand : StandsAt core.plan core.entries s.0 (heard s.0) (Some c)) (x : SimNo) (there : slice_get core.entries c.place ≡ Some (Got x m)) where
  abbrev J : List Entry
  J = core.entries

  abbrev next : Counts
  next = one_more heard s.0

  abbrev course : Course
  course = course_of T first next (λ i. free_items J i (heard i)) (λ i. kept_of i C.kept) log

  abbrev walk : Walk
  walk = record { course = course; from = c.place + 1 }

  pub again : IsRepeated T core.plan first J heard log s.0 (crew_of C) C.sims
  again = repeated_goes T core.plan first J heard log s m (crew_of C) C.sims h (next_message J s.0 (heard s.0) c.place stand.0 x m there)

  more : heard s.0 < length (got J s.0)
  more = next_behind J s.0 (heard s.0) c.place stand.0

  gone : (g : IsGoneTo J s.0 (heard s.0 + 1) (c.place + 1)) × (sent g.gone s.0 ≡ free_items J s.0 (heard s.0))
  gone = walk_laws.goes_on J s.0 (heard s.0) c.place stand.0 more

  gone_next : (g : IsGoneTo J s.0 (next s.0) (c.place + 1)) × (sent g.gone s.0 ≡ free_items J s.0 (heard s.0))
  gone_next = subst (λ (k : ℕ). (g : IsGoneTo J s.0 k (c.place + 1)) × (sent g.gone s.0 ≡ free_items J s.0 (heard s.0))) (sym (more_here heard s.0)) gone

  firsts : (i : ℕ) → BeginsWith (free_items J i (next i)) (free_items J i (heard i))
  firsts i = elim (same_or_not i s.0) [
    | inl q ↦ subst (λ (j : ℕ). BeginsWith (free_items J j (next j)) (free_items J j (heard j))) (sym q)
        (subst (λ (k : ℕ). BeginsWith (free_items J s.0 k) (free_items J s.0 (heard s.0))) (sym (more_here heard s.0)) (free_go_on.next J s.0 (heard s.0) more))
    | inr apart ↦ subst (λ (k : ℕ). BeginsWith (free_items J i k) (free_items J i (heard i))) (sym (more_away heard s.0 i apart)) ([], sym (append_nil (free_items J i (heard i))))
  ]

  pub again_due : IsDue walk core C s.0 c.gone c.id
  again_due = record {
    resuming = again.resuming;
    passing = record {
      gone = gone_next.0;
      was_sent = gone_next.1;
      answered = free_alternate.one_more core.plan J h.resuming.stands.orderly.0 h.resuming.no_fault s.0 (heard s.0) more ∙ sym (more_here heard s.0);
      none = again.none;
      firsts = firsts;
      over = again.over;
    };
    counted = sym stand.1;
    numbered = stand.2;
    fit = λ inside H y k last own. subst IsFitSuccess (sym (next_last J s.0 (heard s.0) c.place stand.0 x m there H y k last)) (met_success T core.plan first J heard log s m (crew_of C) C.sims h inside);
  }

  -- ---- once it was sent

  awaited_same : (i : ℕ) → heard i ≡ next i → awaited T.scenario (reply_in T) J heard i ≡ awaited T.scenario (reply_in T) J next i
  awaited_same i same = ap (λ (k : ℕ). if is_within T.scenario i && nat_lt k (length (free_items J i k)) then reply_in T i (map bare (free_items J i k)) ∷ [] else []) same

  pub again_goes : (D : CrewSeen) → IsPassed course core.plan J s.0 D → IsResuming T core.plan first J next log (crew_of D) D.sims
  again_goes D passed = resuming_as (put course.queued s.0 (free_items J s.0 (next s.0))) (λ i. free_items J i (next i)) (put course.awaits s.0 (awaited T.scenario (reply_in T) J next s.0)) (awaited T.scenario (reply_in T) J next)
      T core.plan first J next log (crew_of D) D.sims (λ i low. items i) awaits passed
    where
      items : (i : ℕ) → put course.queued s.0 (free_items J s.0 (next s.0)) i ≡ free_items J i (next i)
      items i = elim (same_or_not i s.0) [
        | inl q ↦ subst (λ (j : ℕ). put course.queued s.0 (free_items J s.0 (next s.0)) j ≡ free_items J j (next j)) (sym q) (put_here course.queued s.0 (free_items J s.0 (next s.0)))
        | inr apart ↦ put_away course.queued s.0 (free_items J s.0 (next s.0)) i apart ∙ ap (free_items J i) (sym (more_away heard s.0 i apart))
      ]

      awaits : (i : ℕ) → put course.awaits s.0 (awaited T.scenario (reply_in T) J next s.0) i ≡ awaited T.scenario (reply_in T) J next i
      awaits i = elim (same_or_not i s.0) [
        | inl q ↦ subst (λ (j : ℕ). put course.awaits s.0 (awaited T.scenario (reply_in T) J next s.0) j ≡ awaited T.scenario (reply_in T) J next j) (sym q) (put_here course.awaits s.0 (awaited T.scenario (reply_in T) J next s.0))
        | inr apart ↦ put_away course.awaits s.0 (awaited T.scenario (reply_in T) J next s.0) i apart ∙ again.others i apart ∙ awaited_same i (sym (more_away heard s.0 i apart))
      ]

  -- and each stands where it is said
  pub again_behind : (B E : BehindSeen) → ((i : ℕ) (o : Option Standing) → slice_get B.sims i ≡ Some o → StandsAt core.plan J i (heard i) o) → ((i : ℕ) → (i ≡ s.0 → ⊥) → slice_get E.sims i ≡ slice_get B.sims i)
      → ((o : Option Standing) → slice_get E.sims s.0 ≡ Some o → StandsAt core.plan J s.0 (next s.0) o) → (i : ℕ) (o : Option Standing) → slice_get E.sims i ≡ Some o → StandsAt core.plan J i (next i) o
  again_behind B E before others here i o is = elim (same_or_not i s.0) [
    | inl q ↦ subst (λ (j : ℕ). StandsAt core.plan J j (next j) o) (sym q) (here o (ap (slice_get E.sims) (sym q) ∙ is))
    | inr apart ↦ subst (λ (k : ℕ). StandsAt core.plan J i k o) (sym (more_away heard s.0 i apart)) (before i o (sym (others i apart) ∙ is))
  ]
