-- A run's journal is a replay of its own messages, and such a replay is one.
use Rattle.std.proofs.Common.{◌≡◌, ℕ, ◌<◌, ◌≤◌, List, [], Option, None, Some, is_some, length, refl, sym, ap, ◌∙◌, subst, ◌⊎◌, inl, inr, arith}
use Rattle.std.specs.Prelude.{IsSome}
use Rattle.mk_base.specs.Lists.{BeginsWith}
use Rattle.mk_base.proofs.Lists.{append_nil, none_some}
use Rattle.mk_plan.specs.declared.Plan.{Plan}
use Rattle.mk_plan.specs.declared.Entry.{Entry}
use Rattle.mk_plan.specs.Plans.{IsValidPlan, sim_count}
use Rattle.mk_plan.specs.Journals.{Owed, arrivals, open_count, view}
use Rattle.mk_plan.specs.Sequential.{Messages, run_items}
use Rattle.mk_plan.specs.Ready.{IsDone, IsReady}
use Rattle.mk_plan.specs.Advance.{IsAdvance}
use Rattle.mk_plan.specs.Orderly.{IsEager}
use Rattle.mk_order.proofs.Headlines.{orderly_finished}
use Rattle.mk_order.proofs.Seen.{reached_sound}
use Rattle.mk_order.proofs.Tables.{start_beyond}
use Rattle.mk_order.proofs.SameEnd.{IsAtEnd, faulty, full, quiet, done_is_quiet, replay_is_longest, replay_is_one}
use Rattle.mk_sched.specs.declared.faults.CoreFault.{CoreFault}
use Rattle.mk_sched.specs.Answers.{SomeReady, fault_in}
use Rattle.mk_run_laws.specs.Exchanges.{Exchange}
use Rattle.mk_run.specs.declared.outcome.Outcome.{Outcome}
use Rattle.mk_run.specs.declared.outcome.Outcome.TheVariants as outcome
use Rattle.mk_run.specs.Ends as runs
use Rattle.mk_run.specs.Ends.{IsAwaiting, IsBrokenOff, IsMessageLeft, IsRun, NeedsMore, ShownBy}
use Rattle.mk_record_compare.specs.Differences.{IsOther}
use Rattle.mk_record_compare.proofs.Places.{one_other}
use Rattle.mk_record_read.specs.Entries.{entries_in}
use Rattle.mk_record_laws.specs.Again.{steps_of}
use Rattle.mk_record_replay.specs.declared.replaying.ReplayEnd.{ReplayEnd}
use Rattle.mk_record_replay.specs.declared.replaying.ReplayEnd.TheVariants.{Done, Core, Short}
use Rattle.mk_record_replay.specs.Replays.{EndsBy, IsEndOf, SomeUngiven, IsWhole, end_with}
use Rattle.mk_record_replay.proofs.Counting.{some_are_open}
use Rattle.mk_record_replay.proofs.OneEnd.{at_end, one_end, some_of}
use Rattle.mk_record_replay.proofs.Pushing.{got_is}
use Rattle.mosaikrun_again.specs.Again.{EndsAlike, IsFaultAgain, IsReplayOf, IsSaidToTheEnd, IsSentAll, ReplayHasJournal, ReplaysAreRuns}
use Rattle.mosaikrun_again.proofs.Again.{entries_again}

-- a journal at whose end nothing is to be sent is at its end as a replay of its own messages
own_end : (P : Plan) (J : List Entry) → IsSentAll P J → IsAtEnd IsReady IsAdvance P (arrivals J) J
own_end P J (inl fault) = let x = some_of (view P J).fault fault in faulty x.0 x.1
own_end P J (inr (inl is)) = full is
own_end P J (inr (inr (paid, nobody))) = quiet refl paid (λ i x ready. nobody (i, x, ready))

pub own_messages : (J : List Entry) → BeginsWith (arrivals J) (arrivals J)
own_messages J = ([], sym (append_nil (arrivals J)))

pub replayed : (P : Plan) (J K : List Entry) → IsEager P J → length J ≤ P.entries → IsReplayOf P J K → ReplayHasJournal P J K
replayed P J K eager within (r, (end, by)) = record {
  begins = replay_is_longest P (arrivals J) K J r.eager eager r.given (own_messages J) within (at_end P (arrivals J) K end r by);
  same = λ sent. replay_is_one P (arrivals J) K J r.eager eager r.given (own_messages J) r.within within (at_end P (arrivals J) K end r by) (own_end P J sent);
}

-- ---- how a run ended, as the end of a replay

-- where nothing is left to do nothing is owed: what is owed is owed in an open turn
done_paid : (P : Plan) → IsValidPlan P → (J : List Entry) → IsEager P J → IsDone P (view P J) → (view P J).owed ≡ None
done_paid P valid J eager done = by_owed (view P J).owed refl
  where
    compared : (i n : ℕ) → (i < n) ⊎ (n ≤ i)
    compared i n = grind arith

    shut : (i : ℕ) → (view P J).open_at i ≡ None
    shut i = elim (compared i (sim_count P)) [ inl low ↦ done.closed i low | inr high ↦ (start_beyond P valid J eager.0.0 i high).1 ]

    by_owed : (o : Option Owed) → (view P J).owed ≡ o → o ≡ None
    by_owed None is = refl
    by_owed (Some o) is = let turn = (reached_sound IsReady IsAdvance P (λ V s x r. r) J eager.0.0).turn o is in absurd (none_some (sym (shut o.sim) ∙ turn.1))

-- a run that was done is a whole replay of its messages
pub whole : (P : Plan) → IsValidPlan P → (J : List Entry) → IsEager P J → IsDone P (view P J) → IsWhole P (arrivals J) J
whole P valid J eager done = let finished = orderly_finished P valid J eager.0 done in record {
  given = refl;
  done = done;
  paid = done_paid P valid J eager done;
  finished = finished;
  sent = λ i low. (finished i low).sent ∙ ap (λ (R : Messages). run_items P R i) (λ k j. (got_is J j) k);
}

-- where a run's journal is full, the replay of its messages ends by that limit too; or, where a
-- message had come for which there was no room, requests are open
pub full_again : (P : Plan) (J : List Entry) (f : CoreFault) (left : Type 0) → runs.IsFull P J f left → EndsBy P (arrivals J) J (Core f) ⊎ ((n : ℕ) × EndsBy P (arrivals J) J (Short n))
full_again P J f left at_limit = by_more at_limit.more
  where
    too_long : IsSome (view P J).owed ⊎ (SomeReady P J ⊎ SomeUngiven (arrivals J) J) → EndsBy P (arrivals J) J (Core f)
    too_long more = inr (record { named = at_limit.named; full = at_limit.full; no_fault = at_limit.no_fault; more = more })

    by_owed : (o : Option Owed) → (view P J).owed ≡ o → IsAwaiting P J → EndsBy P (arrivals J) J (Core f) ⊎ ((n : ℕ) × EndsBy P (arrivals J) J (Short n))
    by_owed (Some o) is awaits = inl (too_long (inl (ap is_some is)))
    by_owed None is awaits = inr (open_count P (view P J), record { given = refl; no_fault = at_limit.no_fault; paid = is; nobody = awaits.1; count = refl; some = some_are_open P J awaits.0 })

    by_more : NeedsMore P J left → EndsBy P (arrivals J) J (Core f) ⊎ ((n : ℕ) × EndsBy P (arrivals J) J (Short n))
    by_more (inl owed) = inl (too_long (inl owed))
    by_more (inr (inl ready)) = inl (too_long (inr (inl ready)))
    by_more (inr (inr (l, awaits))) = by_owed (view P J).owed refl awaits

-- no entry of the record isn't the journal's
pub own_other : (J : List Entry) → IsOther (arrivals J) (Some (steps_of J)) J None
own_other J = ([], sym (append_nil (entries_in (arrivals J) (steps_of J)) ∙ entries_again J))

module _ (X : Exchange) (P : Plan) (J : List Entry) (faults new_faults : ℕ) where
  -- at the end of a run that was said to the end nothing is to be sent
  by_limit : IsEager P J → (SomeReady P J → ⊥) → IsSentAll P J
  by_limit eager nobody = elim eager.0.1 [ inl paid ↦ inr (inr (paid, nobody)) | inr long ↦ inr (inl long) ]

  broken : (end : Outcome) → IsBrokenOff end → IsRun X P J faults new_faults end → IsSentAll P J
  broken end off run = by_limit run.eager (run.unfinished off).1

  run_ended : (end : Outcome) → IsSaidToTheEnd end → IsRun X P J faults new_faults end → IsSentAll P J
  run_ended outcome.Done said run = by_limit run.eager (λ ready. done_is_quiet P (view P J) run.shown ready.0 ready.1 ready.2)
  run_ended (outcome.Setup f) said run = absurd run.shown
  run_ended (outcome.Core f) said run = elim run.shown [
    | inl last ↦ inl (subst (λ o. IsSome o) (sym last.fault) last.named)
    | inr long ↦ inr (inl long.full)
  ]
  run_ended outcome.Fleet said run = broken outcome.Fleet tt run
  run_ended (outcome.Gone i) said run = broken (outcome.Gone i) tt run
  run_ended (outcome.Garbled i n) said run = broken (outcome.Garbled i n) tt run
  run_ended (outcome.LongFrame i n) said run = broken (outcome.LongFrame i n) tt run
  run_ended (outcome.LongItem i n) said run = absurd said
  run_ended outcome.Mem said run = absurd said

  module _ (K : List Entry) (end : ReplayEnd) (same : K ≡ J) (by : IsEndOf P (arrivals J) (Some (steps_of J)) K end) where
    here : EndsBy P (arrivals J) J by.messages_end
    here = subst (λ (L : List Entry). EndsBy P (arrivals J) L by.messages_end) same by.ends

    done_again : IsWhole P (arrivals J) J → end ≡ Done
    done_again all =
        let other : None ≡ by.other = one_other (arrivals J) (Some (steps_of J)) J None by.other (own_other J) (subst (λ (L : List Entry). IsOther (arrivals J) (Some (steps_of J)) L by.other) same by.compared) in
        by.is ∙ ap (λ (e : ReplayEnd). end_with e by.other) (sym (one_end P (arrivals J) J Done by.messages_end all here)) ∙ ap (end_with Done) (sym other)

    by_fault : (f : CoreFault) → EndsBy P (arrivals J) J (Core f) → end ≡ Core f
    by_fault f ends = by.is ∙ ap (λ (e : ReplayEnd). end_with e by.other) (sym (one_end P (arrivals J) J (Core f) by.messages_end ends here))

    by_short : (n : ℕ) → EndsBy P (arrivals J) J (Short n) → end ≡ Short n
    by_short n ends =
        let other : None ≡ by.other = one_other (arrivals J) (Some (steps_of J)) J None by.other (own_other J) (subst (λ (L : List Entry). IsOther (arrivals J) (Some (steps_of J)) L by.other) same by.compared) in
        by.is ∙ ap (λ (e : ReplayEnd). end_with e by.other) (sym (one_end P (arrivals J) J (Short n) by.messages_end ends here)) ∙ ap (end_with (Short n)) (sym other)

    faulty_again : (f : CoreFault) → ShownBy X P J faults new_faults (outcome.Core f) → IsFaultAgain f end
    faulty_again f (inl last) = inl (by_fault f (inl (record { before = last.before; sim = last.sim; message = last.message; is = last.is; right_before = last.right_before; named = last.named; fault = last.fault })))
    faulty_again f (inr long) = elim (full_again P J f (IsMessageLeft X.started X.scenario P J X.log) long) [
      | inl ends ↦ inl (by_fault f ends)
      | inr t ↦ inr (ap fault_in long.named, (t.0, by_short t.0 t.1))
    ]

    ends_alike : (e : Outcome) → IsRun X P J faults new_faults e → EndsAlike e end
    ends_alike outcome.Done run = done_again (whole P run.valid J run.eager run.shown)
    ends_alike (outcome.Setup f) run = tt
    ends_alike (outcome.Core f) run = faulty_again f run.shown
    ends_alike outcome.Fleet run = tt
    ends_alike (outcome.Gone i) run = tt
    ends_alike (outcome.Garbled i n) run = tt
    ends_alike (outcome.LongFrame i n) run = tt
    ends_alike (outcome.LongItem i n) run = tt
    ends_alike outcome.Mem run = tt

  ends_or_not : (e : Outcome) (K : List Entry) (end : ReplayEnd) → IsRun X P J faults new_faults e → (IsSaidToTheEnd e → K ≡ J) → IsEndOf P (arrivals J) (Some (steps_of J)) K end → EndsAlike e end
  ends_or_not outcome.Done K end run same by = ends_alike K end (same tt) by outcome.Done run
  ends_or_not (outcome.Setup f) K end run same by = tt
  ends_or_not (outcome.Core f) K end run same by = ends_alike K end (same tt) by (outcome.Core f) run
  ends_or_not outcome.Fleet K end run same by = tt
  ends_or_not (outcome.Gone i) K end run same by = tt
  ends_or_not (outcome.Garbled i n) K end run same by = tt
  ends_or_not (outcome.LongFrame i n) K end run same by = tt
  ends_or_not (outcome.LongItem i n) K end run same by = tt
  ends_or_not outcome.Mem K end run same by = tt

pub replays_are_runs : ReplaysAreRuns
replays_are_runs X P J faults new_faults end run K replay_end (replay, by) =
    let law = replayed P J K run.eager run.within (replay, (by.messages_end, by.ends)) in
    let same : IsSaidToTheEnd end → K ≡ J = λ said. law.same (run_ended X P J faults new_faults end said run) in
    record { begins = law.begins; same = same; ends = ends_or_not X P J faults new_faults end K replay_end run same by }
