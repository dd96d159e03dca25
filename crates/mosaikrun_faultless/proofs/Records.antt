-- A run within the program that came to its end, and its record.
use Rattle.std.proofs.Common.{◌≡◌, ℕ, true, List, [], ◌∷◌, map, Option, Some, None, Ok, refl, sym, ap, ◌∙◌, subst}
use Rattle.mk_base.proofs.Lists.{append_nil}
use Rattle.mk_plan.specs.declared.Entry.{Entry}
use Rattle.mk_plan.specs.declared.Plan.{Plan}
use Rattle.mk_plan.specs.Agreement.{Continues}
use Rattle.mk_plan.specs.Journals as journals
use Rattle.mk_plan.specs.Journals.{Owed, arrivals, got, view}
use Rattle.mk_plan.specs.Advance.{IsAdvance}
use Rattle.mk_plan.specs.Ready.{IsDone, IsReady}
use Rattle.mk_order.proofs.SameEnd.{done_is_quiet}
use Rattle.mk_order.proofs.Seen.{reached_sound}
use Rattle.mk_record.specs.Again.{steps_of}
use Rattle.mk_record.specs.Reading.{Said, reading}
use Rattle.mk_record.specs.Seen.{came}
use Rattle.mk_record_compare.specs.Differences.{IsOther}
use Rattle.mk_record_restored.specs.Restored.{IsRestored}
use Rattle.mk_scenario.specs.declared.parts.Scenario.{Scenario}
use Rattle.mk_scenario.specs.Scenarios.{scenario_of}
use Rattle.mk_scenario.specs.Wellformed.{IsWellformed}
use Rattle.mk_launch.specs.Ready.{IsPrepared}
use Rattle.mk_local.specs.Kinds.{name_of}
use Rattle.mk_run_crew.specs.Wholly.{is_wholly_within}
use Rattle.mk_run.specs.declared.outcome.Outcome.TheVariants as outcome
use Rattle.mk_run.specs.Laws.{IsRightRun, RunsAreRight}
use Rattle.mk_run.specs.Ran.{HasRun}
use Rattle.mk_outside.specs.Counts.{HasRisen}
use Rattle.mosaikrun_check.specs.Runnable.{AreRanks}
use Rattle.mosaikrun_run.specs.Outcomes.{Outside, attempt_in, exchange_in}
use Rattle.mosaikrun_again.proofs.Again.{entries_again}
use Rattle.mosaikrun_faultless.specs.Within.{RecordsWithin, RunsWithin}
use Rattle.mosaikrun_faultless.proofs.Counting.{open_low}
use Rattle.mosaikrun_faultless.proofs.Finishing.{limits_kept}
use Rattle.mk_base.proofs.Items.{some_none}
use Rattle.mk_record_read.proofs.Known.{kept_as}

came_kept : (A : List journals.Arrival) → map came (map kept_as A) ≡ A
came_kept [] = refl
came_kept (a ∷ A) = ap (λ (B : List journals.Arrival). a ∷ B) (came_kept A)

module _ (O : Outside) (bytes : List ℕ) (S : Scenario) (ranks : List ℕ) (P : Plan) (J : List Entry) (read : scenario_of bytes ≡ Ok S) (wellformed : IsWellformed S) (ranked : AreRanks S ranks) (prepared : IsPrepared S (map name_of O.kinds)) (inside : is_wholly_within S ≡ true)
    (run : HasRun (attempt_in O S ranks) P J O.faults O.new_faults outcome.Done) (right : RunsAreRight) where
  is_right : IsRightRun (exchange_in O S) P J (HasRisen O.faults O.new_faults) outcome.Done
  is_right = right (exchange_in O S) P J O.faults O.new_faults outcome.Done (run.run)

  is_done : IsDone P (view P J)
  is_done = (run.run).shown

  itself : Continues P J (got J)
  itself j low = ([], sym (append_nil (got J j)))

  within : RunsWithin O.kinds bytes
  within = record {
    scenario = S;
    ranks = ranks;
    read = read;
    wellformed = wellformed;
    ranked = ranked;
    prepared = prepared;
    inside = inside;
    answers = run.answers;
    of_kinds = run.kinds;
    plan = P;
    made = run.made;
    messages = got J;
    by_kind = (is_right.done refl).answers (got J) itself;
    limits = limits_kept P (run.run).valid J ((run.run).journal).orderly is_done (run.run).within (got J) itself;
  }

  paid : (view P J).owed ≡ None
  paid = by_owed (view P J).owed refl
    where
      by_owed : (o : Option Owed) → (view P J).owed ≡ o → (view P J).owed ≡ None
      by_owed None e = e
      by_owed (Some o) e =
          let t = (reached_sound IsReady IsAdvance P (λ V s x ready. ready) J ((run.run).journal).orderly).turn o e in
          absurd (some_none t.0 (sym t.1 ∙ is_done.closed o.sim (open_low P (run.run).valid J ((run.run).journal).orderly o.sim t.0 t.1)))

  restored : IsRestored P (arrivals J) J
  restored = record {
    replay = record { agrees = is_right.agrees; eager = (run.run).eager; given = ([], sym (append_nil (arrivals J))); within = (run.run).within };
    given = refl;
    no_fault = is_done.no_fault;
    paid = paid;
    nobody = λ some. done_is_quiet P (view P J) is_done some.0 some.1 some.2;
  }

  same : IsOther (arrivals J) (Some (steps_of J)) J None
  same = ([], sym (entries_again J) ∙ sym (append_nil _))

  recorded_within : (recorded : List ℕ) → reading recorded ≡ Said P (arrivals J) (Some (steps_of J)) → RecordsWithin O.kinds bytes recorded
  unfolding within
  recorded_within recorded reads = record {
    run = within;
    old = record { plan = P; arrivals = map kept_as (arrivals J); asks = Some (steps_of J) };
    old_read = reads ∙ ap (λ (A : List journals.Arrival). Said P A (Some (steps_of J))) (sym (came_kept (arrivals J)));
    same_plan = (((refl, refl), refl, refl, refl, refl), refl);
    journal = J;
    restored = subst (λ (A : List journals.Arrival). IsRestored P A J) (sym (came_kept (arrivals J))) restored;
    same_entries = subst (λ (A : List journals.Arrival). IsOther A (Some (steps_of J)) J None) (sym (came_kept (arrivals J))) same;
    replies = ((run.run).journal).kinds;
  }

  pub done : RunsWithin O.kinds bytes × ((recorded : List ℕ) → reading recorded ≡ Said P (arrivals J) (Some (steps_of J)) → RecordsWithin O.kinds bytes recorded)
  done = (within, recorded_within)
