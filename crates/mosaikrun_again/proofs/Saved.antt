-- What `replay` says of a record that comes of a run.
use Rattle.std.proofs.Common.{◌≡◌, ◌⊎◌, inl, inr, ℕ, List, Option, Some, None, Result, Err, refl, sym, ◌∙◌, subst}
use Rattle.mk_plan.specs.declared.Plan.{Plan}
use Rattle.mk_plan.specs.declared.Entry.{Entry}
use Rattle.mk_base.proofs.Lists.{some_same}
use Rattle.mk_scenario.specs.declared.parts.Scenario.{Scenario}
use Rattle.mk_sched.specs.declared.faults.CoreFault.{CoreFault}
use Rattle.mk_sched.specs.declared.faults.CoreFault.TheVariants as core
use Rattle.mk_sched.specs.Answers.{fault_in}
use Rattle.mk_run_laws.specs.Exchanges.{Exchange}
use Rattle.mk_run.specs.declared.outcome.Outcome.{Outcome}
use Rattle.mk_run.specs.declared.outcome.Outcome.TheVariants as outcome
use Rattle.mk_run.specs.Ends.{IsRun, ShownBy}
use Rattle.mk_run.specs.Ran.{HasRun}
use Rattle.mk_record_read.specs.Texts.{record_text}
use Rattle.mosaikrun_endings.specs.declared.ending.Ending.{Ending}
use Rattle.mosaikrun_endings.specs.declared.ending.Ending.TheVariants as ends
use Rattle.mosaikrun_records.specs.Reports.{IsOutcome}
use Rattle.mosaikrun_sayings.specs.Sayings.{ids_of}
use Rattle.mosaikrun_run.specs.declared.sayings.Form.{Form}
use Rattle.mosaikrun_run.specs.declared.sayings.Form.TheVariants.{Report}
use Rattle.mosaikrun_run.specs.Outcomes.{IsSaid, Outside, attempt_in, exchange_in}
use Rattle.mosaikrun_run.specs.Records.{HasRecord, EndsOfItself}
use Rattle.mosaikrun_run.specs.Sayings.{saying_of}
use Rattle.mosaikrun_again.specs.Readable.{IsShallow}
use Rattle.mosaikrun_again.specs.Saying.{IsLimitAgain, IsReadAs, IsSaidAgain, IsRecordOfRun, IsToldAgain, RecordsSayTheSame}
use Rattle.mosaikrun_again.proofs.Readable.{runs_are_readable}
use Rattle.mosaikrun_again.proofs.Replaying.{replays_are_runs}
use Rattle.mosaikrun_again.proofs.Saying.{replays_say_the_same}

limit_saved : (O : Outside) (S : Scenario) (ranks : List ℕ) (P : Plan) (J : List Entry) (end : Outcome) → HasRun (attempt_in O S ranks) P J O.faults O.new_faults end → IsReadAs P J → (f : CoreFault) → end ≡ outcome.Core f → fault_in f ≡ None
    → (ids : List (List ℕ)) (o : Result (List ℕ) Ending) → IsOutcome (record_text P J) None o → (o ≡ Err ends.Mem → ⊥) → IsLimitAgain (saying_of Report ids P J end) o
limit_saved O S ranks P J end h read f is none ids o comes not = subst (λ (e : Outcome). IsLimitAgain (saying_of Report ids P J e) o) (sym is)
    (replays_say_the_same.limit (exchange_in O S) P J O.faults O.new_faults f (subst (λ (e : Outcome). IsRun (exchange_in O S) P J O.faults O.new_faults e) is h.run) read none ids o comes not)

saved : (O : Outside) (form : Form) (S : Scenario) (text : Result (List ℕ) Ending) (kept : Option (List ℕ)) → (h : HasRecord O form S text kept) → IsShallow S h.journal → IsRecordOfRun (ids_of S) h.plan h.journal h.outcome
saved O form S text kept h shallow =
    let read = h.again (runs_are_readable (attempt_in O S h.ranks) h.plan h.journal O.faults O.new_faults h.outcome h.run shallow) in record {
      read = read;
      replayed = λ K replay_end by. replays_are_runs (exchange_in O S) h.plan h.journal O.faults O.new_faults h.outcome h.run.run K replay_end by;
      limited = λ f is none o comes not. limit_saved O S h.ranks h.plan h.journal h.outcome h.run read f is none (ids_of S) o comes not;
      said = λ again o is not. replays_say_the_same.same (exchange_in O S) h.plan h.journal O.faults O.new_faults h.outcome h.run.run read again (ids_of S) o is not;
    }

-- ---- what was told names how the run ended

-- the run ended by the limit of entries, and that is its line
record IsLimited (ids : List (List ℕ)) (P : Plan) (J : List Entry) (end : Outcome) : Type 0 where
  fault : CoreFault
  is : end ≡ outcome.Core fault
  none : fault_in fault ≡ None
  entries : ℕ
  line : saying_of Report ids P J end ≡ Err (ends.Entries entries)

ends_faulty : (ids : List (List ℕ)) (P : Plan) (J : List Entry) (f : CoreFault) → IsSaidAgain (outcome.Core f) ⊎ IsLimited ids P J (outcome.Core f)
ends_faulty ids P J (core.Wrong s place cause) = inl refl
ends_faulty ids P J (core.Failed s place) = inl refl
ends_faulty ids P J (core.LoopLimit s time) = inl refl
ends_faulty ids P J (core.TooLong n) = inr (record { fault = core.TooLong n; is = refl; none = refl; entries = n; line = refl })

module _ (X : Exchange) (P : Plan) (J : List Entry) (faults new_faults : ℕ) (ids : List (List ℕ)) where
  ends_as : (end : Outcome) → ShownBy X P J faults new_faults end → EndsOfItself (saying_of Report ids P J end) → IsSaidAgain end ⊎ IsLimited ids P J end
  ends_as outcome.Done shown of_itself = inl tt
  ends_as (outcome.Setup f) shown of_itself = absurd shown
  ends_as (outcome.Core f) shown of_itself = ends_faulty ids P J f
  ends_as outcome.Fleet shown of_itself = absurd of_itself
  ends_as (outcome.Gone i) shown of_itself = absurd of_itself
  ends_as (outcome.Garbled i n) shown of_itself = absurd of_itself
  ends_as (outcome.LongFrame i n) shown of_itself = absurd of_itself
  ends_as (outcome.LongItem i n) shown of_itself = absurd of_itself
  ends_as outcome.Mem shown of_itself = absurd of_itself

one_text : (O : Outside) (S : Scenario) (text : Result (List ℕ) Ending) (bytes : List ℕ) → (h : HasRecord O Report S text (Some bytes)) → IsShallow S h.journal → EndsOfItself text → (o : Result (List ℕ) Ending) → IsOutcome bytes None o → (o ≡ Err ends.Mem → ⊥) → IsToldAgain text o
one_text O S text bytes h shallow of_itself o comes not = by_said h.said
  where
    all : IsRecordOfRun (ids_of S) h.plan h.journal h.outcome
    all = saved O Report S text (Some bytes) h shallow

    these : IsOutcome (record_text h.plan h.journal) None o
    these = subst (λ (b : List ℕ). IsOutcome b None o) (some_same h.is) comes

    by_limit : (l : IsLimited (ids_of S) h.plan h.journal h.outcome) → text ≡ saying_of Report (ids_of S) h.plan h.journal h.outcome → IsLimitAgain (saying_of Report (ids_of S) h.plan h.journal h.outcome) o → IsToldAgain text o
    by_limit l same (inl again) = inl (again ∙ sym same)
    by_limit l same (inr (m, short)) = inr (l.entries, m, same ∙ l.line, short)

    by_end : text ≡ saying_of Report (ids_of S) h.plan h.journal h.outcome → IsSaidAgain h.outcome ⊎ IsLimited (ids_of S) h.plan h.journal h.outcome → IsToldAgain text o
    by_end same (inl again) = inl (all.said again o these not ∙ sym same)
    by_end same (inr l) = by_limit l same (all.limited l.fault l.is l.none o these not)

    by_said : IsSaid (saying_of Report (ids_of S) h.plan h.journal h.outcome) text → IsToldAgain text o
    by_said (inl same) = by_end same (ends_as (exchange_in O S) h.plan h.journal O.faults O.new_faults (ids_of S) h.outcome h.run.run.shown (subst (λ (t : Result (List ℕ) Ending). EndsOfItself t) same of_itself))
    by_said (inr mem) = absurd (subst (λ (t : Result (List ℕ) Ending). EndsOfItself t) mem of_itself)

pub records_say_the_same : RecordsSayTheSame
records_say_the_same = record { saved = saved; one_text = one_text }
