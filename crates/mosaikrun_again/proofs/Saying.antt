-- What was said of a run is an outcome of its record, and a record has one.
use Rattle.std.proofs.Common.{◌≡◌, true, ℕ, ◌≤◌, List, Option, None, Some, Result, Err, is_some, length, refl, sym, ap, ◌∙◌, subst, ◌⊎◌, inl, inr, true≢false}
use Rattle.std.specs.Prelude.{IsSome}
use Rattle.mk_plan.specs.declared.Plan.{Plan}
use Rattle.mk_plan.specs.declared.Entry.{Entry}
use Rattle.mk_plan.specs.Plans.{IsValidPlan}
use Rattle.mk_plan.specs.Journals.{Fault, arrivals, got, sent, view}
use Rattle.mk_plan.specs.Orderly.{IsEager}
use Rattle.mk_plan.specs.Ready.{IsDone}
use Rattle.mk_plan.specs.Report.{report}
use Rattle.mk_plan.specs.Sequential.{Messages, all_ended, messages_in, run_items, sequential}
use Rattle.mk_order.proofs.Headlines.{orderly_agrees, orderly_finished}
use Rattle.mk_sched.specs.declared.faults.CoreFault.{CoreFault}
use Rattle.mk_sched.specs.declared.faults.CoreFault.TheVariants as core
use Rattle.mk_sched.specs.Answers.{fault_in, IsLastFaulty}
use Rattle.mk_run_laws.specs.Exchanges.{Exchange}
use Rattle.mk_run.specs.declared.outcome.Outcome.{Outcome}
use Rattle.mk_run.specs.declared.outcome.Outcome.TheVariants as outcome
use Rattle.mk_run.specs.Ends as runs
use Rattle.mk_run.specs.Ends.{IsRun}
use Rattle.mk_record_read.specs.Texts.{record_text}
use Rattle.mk_record_laws.specs.Again.{steps_of}
use Rattle.mk_record_replay.specs.declared.replaying.ReplayEnd.{ReplayEnd}
use Rattle.mk_record_replay.specs.declared.replaying.ReplayEnd.TheVariants as ends
use Rattle.mk_record_replay.specs.Replays.{EndsBy, IsReplay, end_with, messages_from}
use Rattle.mk_record_replay.proofs.Pushing.{got_is}
use Rattle.mk_record_report.proofs.Bare.{report_bare}
use Rattle.mosaikrun_endings.specs.declared.ending.Ending.{Ending}
use Rattle.mosaikrun_endings.specs.declared.ending.Ending.TheVariants as endings
use Rattle.mosaikrun_endings.specs.declared.ending.Ending.TheVariants.{Mem}
use Rattle.mosaikrun_records.specs.Reports.{IsOutcome, IsReportOf}
use Rattle.mosaikrun_records.specs.Saved.{IsSaidOf}
use Rattle.mosaikrun_sayings.specs.Stops.{stop_of}
use Rattle.mosaikrun_records.proofs.OneOutcome.{one_outcome}
use Rattle.mosaikrun_run.specs.declared.sayings.Form.TheVariants.{Report}
use Rattle.mosaikrun_run.specs.Sayings.{saying_of}
use Rattle.mosaikrun_again.specs.Saying.{IsLimitAgain, IsReadAs, IsSaidAgain, ReplaysSayTheSame}
use Rattle.mosaikrun_again.proofs.Replaying.{full_again, own_messages, own_other, whole}

module _ (P : Plan) (J : List Entry) (valid : IsValidPlan P) (eager : IsEager P J) (within : length J ≤ P.entries) where
  -- the journal is a replay of its own messages
  own_replay : IsReplay P (arrivals J) J
  own_replay = record { agrees = orderly_agrees P valid J eager.0; eager = eager; given = own_messages J; within = within }

  module _ (read : IsReadAs P J) where
    -- where all is done, the report of what was sent is that of the record
    own_report : IsDone P (view P J) → IsReportOf (record_text P J) None (report P (sent J))
    own_report done =
        let finished = orderly_finished P valid J eager.0 done in
        let all = whole P valid J eager done in
        let same : got J ≡ messages_from (arrivals J) = λ k i. (got_is J i) k in record {
          plan = P;
          arrivals = arrivals J;
          journal = J;
          steps = Some (steps_of J);
          read = read;
          valid = valid;
          done = (own_replay, own_other J, all);
          used = λ i low. subst (λ (R : Messages). messages_in (sequential P R i) ≡ R i) same (finished i low).used;
          uncut = λ i low. subst (λ (R : Messages). all_ended (sequential P R i) ≡ true) same (finished i low).ended;
          reported = report_bare P (sent J) (run_items P (messages_from (arrivals J))) all.sent;
        }

    -- what is said of an end is an outcome of the record
    own_stop : (end : ReplayEnd) (e : Ending) → EndsBy P (arrivals J) J end → end ≡ end_with end None → IsSaidOf P J end e → IsOutcome (record_text P J) None (Err e)
    own_stop end e by alone said = inr (record {
      plan = P;
      arrivals = arrivals J;
      journal = J;
      end = end;
      steps = Some (steps_of J);
      read = read;
      valid = valid;
      replayed = (own_replay, record { messages_end = end; other = None; ends = by; compared = own_other J; is = alone });
      said = said;
    })

    -- it ends by the fault of its last message, or by the limit of entries
    own_fault : (ids : List (List ℕ)) (f : CoreFault) → EndsBy P (arrivals J) J (ends.Core f) → IsOutcome (record_text P J) None (saying_of Report ids P J (outcome.Core f))
    own_fault ids f by = own_stop (ends.Core f) (stop_of P J f) by refl refl

    -- or messages are missing
    own_short : (n : ℕ) → EndsBy P (arrivals J) J (ends.Short n) → IsOutcome (record_text P J) None (Err (endings.Short n))
    own_short n short = own_stop (ends.Short n) (endings.Short n) short refl refl

-- what is said of a named fault isn't that memory is wanting
not_mem : (ids : List (List ℕ)) (P : Plan) (J : List Entry) (f : CoreFault) → saying_of Report ids P J (outcome.Core f) ≡ Err Mem → ⊥
not_mem ids P J (core.Wrong s place cause) e = cc
not_mem ids P J (core.Failed s place) e = cc
not_mem ids P J (core.LoopLimit s time) e = cc
not_mem ids P J (core.TooLong n) e = cc

said_again : (X : Exchange) (P : Plan) (J : List Entry) (faults new_faults : ℕ) (end : Outcome) → IsRun X P J faults new_faults end → IsReadAs P J → IsSaidAgain end
    → (ids : List (List ℕ)) (o : Result (List ℕ) Ending) → IsOutcome (record_text P J) None o → (o ≡ Err Mem → ⊥) → o ≡ saying_of Report ids P J end
said_again X P J faults new_faults outcome.Done run read said ids o is not =
    one_outcome (record_text P J) None o (saying_of Report ids P J outcome.Done) is (own_report P J run.valid run.eager run.within read run.shown) not (λ e. cc)
said_again X P J faults new_faults (outcome.Core f) run read said ids o is not =
    one_outcome (record_text P J) None o (saying_of Report ids P J (outcome.Core f)) is (own_fault P J run.valid run.eager run.within read ids f (inl (by_last run.shown))) not (not_mem ids P J f)
  where
    by_last : (IsLastFaulty P J f ⊎ runs.IsFull P J f (runs.IsMessageLeft X.started X.scenario P J X.log)) → IsLastFaulty P J f
    by_last (inl last) = record { before = last.before; sim = last.sim; message = last.message; is = last.is; right_before = last.right_before; named = last.named; fault = last.fault }
    by_last (inr long) = absurd (let none : IsSome (fault_in (core.TooLong P.entries)) = subst (λ (g : CoreFault). IsSome (fault_in g)) long.named said in cc)
said_again X P J faults new_faults (outcome.Setup f) run read said ids o is not = absurd said
said_again X P J faults new_faults outcome.Fleet run read said ids o is not = absurd said
said_again X P J faults new_faults (outcome.Gone i) run read said ids o is not = absurd said
said_again X P J faults new_faults (outcome.Garbled i n) run read said ids o is not = absurd said
said_again X P J faults new_faults (outcome.LongFrame i n) run read said ids o is not = absurd said
said_again X P J faults new_faults (outcome.LongItem i n) run read said ids o is not = absurd said
said_again X P J faults new_faults outcome.Mem run read said ids o is not = absurd said

limit_again : (X : Exchange) (P : Plan) (J : List Entry) (faults new_faults : ℕ) (f : CoreFault) → IsRun X P J faults new_faults (outcome.Core f) → IsReadAs P J → fault_in f ≡ None
    → (ids : List (List ℕ)) (o : Result (List ℕ) Ending) → IsOutcome (record_text P J) None o → (o ≡ Err Mem → ⊥) → IsLimitAgain (saying_of Report ids P J (outcome.Core f)) o
limit_again X P J faults new_faults f run read none ids o is not = by_shown run.shown
  where
    by_end : EndsBy P (arrivals J) J (ends.Core f) ⊎ ((n : ℕ) × EndsBy P (arrivals J) J (ends.Short n)) → IsLimitAgain (saying_of Report ids P J (outcome.Core f)) o
    by_end (inl limit) = inl (one_outcome (record_text P J) None o (saying_of Report ids P J (outcome.Core f)) is (own_fault P J run.valid run.eager run.within read ids f limit) not (not_mem ids P J f))
    by_end (inr (n, short)) = inr (n, one_outcome (record_text P J) None o (Err (endings.Short n)) is (own_short P J run.valid run.eager run.within read n short) not (λ e. cc))

    by_shown : (IsLastFaulty P J f ⊎ runs.IsFull P J f (runs.IsMessageLeft X.started X.scenario P J X.log)) → IsLimitAgain (saying_of Report ids P J (outcome.Core f)) o
    by_shown (inl last) = absurd (true≢false (sym last.named ∙ ap (λ (x : Option Fault). is_some x) none))
    by_shown (inr long) = by_end (full_again P J f (runs.IsMessageLeft X.started X.scenario P J X.log) long)

pub replays_say_the_same : ReplaysSayTheSame
replays_say_the_same = record { same = said_again; limit = limit_again }
