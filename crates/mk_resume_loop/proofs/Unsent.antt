-- An item wasn't sent: the run ends by it.
use Rattle.std.proofs.Common.{◌≡◌, ℕ, ◌<◌, List, [], ◌∷◌, ◌++◌, length, Option, sym, ap, ◌∙◌, subst}
use Rattle.mk_base.specs.declared.SimNo.{SimNo}
use Rattle.mk_base.specs.Lists.{BeginsWith}
use Rattle.mk_base.proofs.Lists.{append_nil, some_same}
use Rattle.mk_plan.specs.declared.Plan.{Plan}
use Rattle.mk_plan.specs.declared.Item.{Item}
use Rattle.mk_plan.specs.declared.Message.{Message}
use Rattle.mk_plan.specs.declared.Entry.{Entry}
use Rattle.mk_plan.specs.Plans.{first_id, sim_count}
use Rattle.mk_plan.specs.Sequential.{id_after}
use Rattle.mk_message.specs.Written.{item_text}
use Rattle.mk_frame.specs.Frames.{limit}
use Rattle.mk_outside.specs.declared.fleet.LogEntry.{LogEntry}
use Rattle.mk_local.specs.Simulators.{Simulator}
use Rattle.mk_run_laws.specs.Channels.{Channel}
use Rattle.mk_run_links.specs.Crews.{IsLengthOf}
use Rattle.mk_run_crew.specs.declared.halt.Halt.{Halt}
use Rattle.mk_run_crew.specs.declared.halt.Halt.TheVariants as halt
use Rattle.mk_run_crew.specs.Seen.{CrewSeen, crew_of}
use Rattle.mk_run_crew.specs.Calls.{ShowsUnsent}
use Rattle.mk_run.specs.Outcomes.{outcome_of}
use Rattle.mk_run.proofs.Endings.{none_named}
use Rattle.mk_run.specs.inner.Underway.{Setting}
use Rattle.mk_resume_walk.specs.Talks.{free_items}
use Rattle.mk_resume_links.specs.Rests.{Counts, repeated}
use Rattle.mk_resume_links.proofs.Waiting.{so_far_end}
use Rattle.mk_resume_loop.specs.declared.ending.ResumeEnd.TheVariants as ends
use Rattle.mk_resume_loop.specs.Resumed.{IsCutOff, IsLongFree, IsRunWaiting, QueuedAllAt}
use Rattle.mk_resume_loop.specs.inner.Ending.{EndsBy, HasEnded}
use Rattle.mk_resume_loop.specs.inner.Underway.{IsResumingWith, course_of, saved_of}

-- these items were queued, those that are free go on with this one
module _ (risen : Type 0) (X : ℕ → List Item) (A : ℕ → List Message) (T : Setting) (P : Plan) (first J : List Entry) (heard : Counts) (log : List LogEntry) (C : CrewSeen) (sims : List (Option Simulator)) (s : SimNo) (item : Item) (later : List Item) (low : s.0 < sim_count P)
    (u : IsResumingWith (course_of T first heard X A log) P J (crew_of C) sims) (firsts : (i : ℕ) → BeginsWith (free_items J i (heard i)) (X i)) (next : free_items J s.0 (heard s.0) ≡ X s.0 ++ item ∷ later) where
  long_free : (n : ℕ) → IsLengthOf n item s.0 C.channels → limit < n → IsLongFree T.started T.scenario P J heard s.0 n
  long_free n size beyond =
      let t = u.no_other s.0 size.0 size.1 in
      let g = u.catching.touch.channels s.0 t.0 t.1 in
      let same : g.channel ≡ size.0 = some_same (sym g.there ∙ size.1) in
      let id_is : size.0.next ≡ id_after (first_id P s.0) (X s.0) = ap (λ (w : Channel). w.next) (sym same) ∙ g.in_step.next_id ∙ ap (λ (k : ℕ). id_after k (X s.0)) (sym (u.suits.first s.0 low)) in
      record {
        link = t.0;
        linked = t.1;
        queued = X s.0;
        item = item;
        more = later;
        parts = next;
        bytes = ap (λ (k : ℕ). length (item_text k item)) (sym id_is) ∙ sym size.2;
        beyond = beyond;
      }

  by_halt : (h : Halt) → ShowsUnsent h s.0 item C
      → ((i : ℕ) → QueuedAllAt (ends.Outcome (outcome_of h)) (free_items J i (heard i)) (X i)) × (IsCutOff (ends.Outcome (outcome_of h)) → IsRunWaiting P J heard) × EndsBy risen T P first J heard log (crew_of C) (ends.Outcome (outcome_of h))
  by_halt (halt.Setup fault) shown = absurd shown
  by_halt halt.Fleet shown = absurd shown
  by_halt (halt.Gone sim) shown = absurd shown
  by_halt (halt.Garbled sim test) shown = absurd shown
  by_halt (halt.LongFrame sim n) shown = absurd shown
  by_halt (halt.LongItem sim n) shown = ((λ i. tt), (λ broken. absurd broken), subst (λ (i : ℕ). IsLongFree T.started T.scenario P J heard i n) (sym shown.0) (long_free n shown.2 shown.3))
  by_halt halt.Mem shown = ((λ i. tt), (λ broken. absurd broken), tt)

  pub unsent_ends : (h : Halt) → ShowsUnsent h s.0 item C → HasEnded risen T P first J heard log (crew_of C) (ends.Outcome (outcome_of h))
  unsent_ends h shown = record {
    suits = u.suits;
    stands = u.stands;
    begins = u.begins;
    patient = u.patient;
    in_range = u.in_range;
    counts = u.catching.counts;
    kinds = u.catching.kinds;
    channels = λ i l linked. record {
      messages = repeated J i (heard i);
      items = X i;
      channel = u.catching.touch.channels i l linked;
      given = ([], sym (append_nil (repeated J i (heard i))));
      queued = firsts i;
      queued_all = (by_halt h shown).0 i;
    };
    no_other = u.no_other;
    rests = so_far_end (saved_of first) T.started T.scenario T.replies P J log C.kept u.catching.rests;
    log_right = u.log_right;
    ends = (by_halt h shown).2;
    fault = u.no_fault ∙ sym (none_named h);
    unfinished = (by_halt h shown).1;
  }
