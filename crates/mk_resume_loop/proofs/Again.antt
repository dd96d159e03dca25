-- A message was heard that its simulator has to send again, or a new one that the core took: what
-- goes on.
use Rattle.std.proofs.Common.{◌≡◌, ℕ, true, List, [], ◌++◌, slice_get, Option, Some, refl, sym, ap, ◌∙◌, subst, true≢false}
use Rattle.mk_base.specs.declared.SimNo.{SimNo}
use Rattle.mk_plan.specs.declared.Plan.{Plan}
use Rattle.mk_plan.specs.declared.Message.{Message}
use Rattle.mk_plan.specs.declared.Entry.{Entry}
use Rattle.mk_plan.specs.Journals.{got}
use Rattle.mk_outside.specs.declared.fleet.LogEntry.{LogEntry}
use Rattle.mk_local.specs.Simulators.{Simulator}
use Rattle.mk_run_laws.specs.Handshake.{is_within}
use Rattle.mk_run_laws.specs.Crews.{CrewState, kept_of, IsHeard}
use Rattle.mk_run_laws.proofs.Stepping.{linked_out}
use Rattle.mk_run.specs.inner.Underway.{Setting, reply_in, exchange_at}
use Rattle.mk_resume_walk.specs.Talks.{free_items}
use Rattle.mk_resume_links.specs.Rests.{Counts}
use Rattle.mk_resume_links.specs.inner.Catching.{IsCatchingWith, awaited, one_more}
use Rattle.mk_resume_links.specs.inner.Touching.{RestsOver}
use Rattle.mk_resume_links.proofs.Catching.{again_on_link, again_within}
use Rattle.mk_resume_links.proofs.Closing.{seen}
use Rattle.mk_resume_loop.specs.inner.Underway.{IsMet, IsResuming, IsResumingWith, course_of, saved_of}
use Rattle.mk_resume_loop.proofs.Resting.{resting}
use Rattle.mk_resume_loop.proofs.Hearing.{met_back, met_no_other, met_log_right}

-- what a message that was sent again leaves: nothing of simulator s is kept, of the others what
-- was, and where it runs within the program a message has come since each rest
pub record IsRepeated (T : Setting) (P : Plan) (first J : List Entry) (heard : Counts) (log : List LogEntry) (s : ℕ) (D : CrewState) (sims : List (Option Simulator)) : Type 0 where
  pub resuming : IsResumingWith (course_of T first (one_more heard s) (λ i. free_items J i (heard i)) (λ i. kept_of i D.kept) log) P J D sims
  pub none : kept_of s D.kept ≡ []
  pub others : (i : ℕ) → (i ≡ s → ⊥) → kept_of i D.kept ≡ awaited T.scenario (reply_in T) J heard i
  pub over : is_within T.scenario s ≡ true → RestsOver (saved_of first) T.started T.scenario T.replies P J log

module _ (T : Setting) (P : Plan) (first J : List Entry) (heard : Counts) (log : List LogEntry) (s : SimNo) (m : Message) (D : CrewState) (sims : List (Option Simulator)) (h : IsMet T P first J heard log s.0 m D sims) where
  abbrev u : IsResuming T P first J heard h.before h.crew sims
  u = h.resuming

  with_catching : IsCatchingWith (λ i. free_items J i (heard i)) (λ i. kept_of i D.kept) (saved_of first) (exchange_at T log) T.replies P J (one_more heard s.0) D
      → IsResumingWith (course_of T first (one_more heard s.0) (λ i. free_items J i (heard i)) (λ i. kept_of i D.kept) log) P J D sims
  with_catching c = record {
    suits = u.suits;
    stands = u.stands;
    begins = u.begins;
    patient = u.patient;
    in_range = u.in_range;
    no_fault = u.no_fault;
    paid = u.paid;
    catching = c;
    no_other = met_no_other T P first J heard log s m D sims h;
    come = u.come;
    only_within = u.only_within;
    log_right = met_log_right T P first J heard log s m D sims h;
  }

  -- the message is the saved one
  pub repeated_goes : slice_get (got J s.0) (heard s.0) ≡ Some m → IsRepeated T P first J heard log s.0 D sims
  repeated_goes is = go h.met
    where
      go : IsHeard h.entries s.0 m h.crew D → IsRepeated T P first J heard log s.0 D sims
      go (IsHeard.kept at channels none) =
          let t = again_within (saved_of first) T.started T.scenario T.replies (reply_in T) P J heard h.before h.entries h.crew D s.0 m u.catching at channels none is in record {
            resuming = with_catching (subst (λ (l : List LogEntry). IsCatchingWith (λ i. free_items J i (heard i)) (λ i. kept_of i D.kept) (saved_of first) (exchange_at T l) T.replies P J (one_more heard s.0) D) (sym h.parts) t.0);
            none = t.2.none;
            others = t.2.others;
            over = λ inside. subst (RestsOver (saved_of first) T.started T.scenario T.replies P J) (sym h.parts) t.1;
          }
      go (IsHeard.on_link none after w there moved parked) =
          let k = met_back T P first J heard log s m D sims h w there in
          let c = again_on_link (saved_of first) T.started T.scenario T.replies (reply_in T) P (awaited T.scenario (reply_in T) J heard) J heard h.before h.entries h.crew D s.0 m k.0 u.catching (resting T P first J heard h.before h.crew sims u h.nobody none) k.1 none after moved parked is in
          record {
            resuming = with_catching (subst (λ (l : List LogEntry). IsCatchingWith (λ i. free_items J i (heard i)) (λ i. kept_of i D.kept) (saved_of first) (exchange_at T l) T.replies P J (one_more heard s.0) D) (sym h.parts)
                (seen (saved_of first) T.started T.scenario T.replies (reply_in T) P (λ i. free_items J i (heard i)) (λ i. free_items J i (heard i)) (awaited T.scenario (reply_in T) J heard) (λ i. kept_of i D.kept) J (one_more heard s.0) (h.before ++ h.entries) D c
                (λ i l linked. refl) (λ i. sym (c.touch.kept i))));
            none = ap (kept_of s.0) after;
            others = λ i apart. c.touch.kept i;
            over = λ inside. absurd (true≢false (sym inside ∙ linked_out T.started T.scenario s.0 k.0 k.1));
          }
