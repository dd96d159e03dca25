-- Where the record of a paced run is there.
use Rattle.std.proofs.Common.{◌≡◌, ◌⊎◌, inl, inr, ℕ, true, List, [], ◌∷◌, map, Option, None, Result, Err, sym, ◌∙◌, subst}
use Rattle.std.specs.Prelude.{IfSome}
use Rattle.mk_outside.specs.declared.fleet.LogEntry.{LogEntry}
use Rattle.mk_scenario.specs.declared.parts.Scenario.{Scenario}
use Rattle.mk_local.specs.Kinds.{name_of}
use Rattle.mk_setup.specs.declared.fault.SetupFault.TheVariants as fault
use Rattle.mk_run_crew.specs.declared.halt.Halt.{Halt}
use Rattle.mk_run_crew.specs.declared.halt.Halt.TheVariants as halt
use Rattle.mk_pace_laws.specs.Paced.{IsAwake}
use Rattle.mosaikrun_check.specs.Runnable.{IsUnrunnable}
use Rattle.mosaikrun_endings.specs.declared.ending.Ending.{Ending}
use Rattle.mosaikrun_endings.specs.declared.ending.Ending.TheVariants as endings
use Rattle.mosaikrun_sayings.specs.Sayings.{ids_of}
use Rattle.mosaikrun_run.specs.declared.sayings.Form.TheVariants.{Report}
use Rattle.mosaikrun_run.specs.Outcomes.{IsReadAgain, IsUnrunnableScenario, Outside}
use Rattle.mosaikrun_run.specs.Records.{EndsOfItself, IsStepSaid}
use Rattle.mosaikrun_run.specs.Sayings.{halt_ending}
use Rattle.mosaikrun_run.proofs.Recording.{unready_not, unrun_not}
use Rattle.mosaikrun_paced.specs.Laws.{PacedRecordsAreThere}
use Rattle.mosaikrun_paced.specs.Outcomes.{IsPacedScenario, IsUnpaced}
use Rattle.mosaikrun_paced.specs.Records.{HasPaceRecord, IsLateEnding, EndsOfItselfPaced}

-- a fleet with which nothing was done didn't sleep
pub awake_none : (log : List LogEntry) → log ≡ [] → IsAwake log
awake_none log quiet [] after is = let wrong = sym quiet ∙ is in cc
awake_none log quiet (x ∷ before) after is = let wrong = sym quiet ∙ is in cc

-- what has no journal is no Step that was too late

unrunnable_in_time : (kinds : List (List ℕ)) (S : Scenario) (e : Ending) → IsUnrunnable kinds S e → IsLateEnding e → ⊥
unrunnable_in_time kinds S e (inl mem) late = let wrong = sym mem ∙ late.is in cc
unrunnable_in_time kinds S e (inr (inl circle)) late = let wrong = sym circle.is ∙ late.is in cc
unrunnable_in_time kinds S e (inr (inr unprepared)) late = let wrong = sym unprepared.unbegun.is ∙ late.is in cc

halt_in_time : (ids : List (List ℕ)) (h : Halt) → IsLateEnding (halt_ending ids h) → ⊥
halt_in_time ids (halt.Setup (fault.Meta sim e)) late = let wrong = late.is in cc
halt_in_time ids (halt.Setup (fault.Create sim e)) late = let wrong = late.is in cc
halt_in_time ids (halt.Setup (fault.Connect e)) late = let wrong = late.is in cc
halt_in_time ids (halt.Setup (fault.Unasked sim)) late = let wrong = late.is in cc
halt_in_time ids (halt.Setup (fault.Failed sim text)) late = let wrong = late.is in cc
halt_in_time ids (halt.Setup fault.Mem) late = let wrong = late.is in cc
halt_in_time ids halt.Fleet late = let wrong = late.is in cc
halt_in_time ids (halt.Gone sim) late = let wrong = late.is in cc
halt_in_time ids (halt.Garbled sim test) late = let wrong = late.is in cc
halt_in_time ids (halt.LongFrame sim n) late = let wrong = late.is in cc
halt_in_time ids (halt.LongItem sim n) late = let wrong = late.is in cc
halt_in_time ids halt.Mem late = let wrong = late.is in cc

-- that an ending is of_itself in a paced run means that it is in a run, or that a Step was too late
of_itself_or_late : (text : Result (List ℕ) Ending) (e : Ending) → text ≡ Err e → (IsLateEnding e → ⊥) → EndsOfItselfPaced text → EndsOfItself text
of_itself_or_late text e is not of_itself = elim (subst (λ (t : Result (List ℕ) Ending). EndsOfItselfPaced t) is of_itself) [
  | inl fault ↦ subst (λ (t : Result (List ℕ) Ending). EndsOfItself t) (sym is) fault
  | inr late ↦ absurd (not late)
]

module _ (O : Outside) (factor : ℕ) (strict : Option ℕ) (S : Scenario) (text : Result (List ℕ) Ending) (kept : Option (List ℕ)) where
  abbrev Due : Type 0
  Due = EndsOfItselfPaced text ⊎ (IsStepSaid O.started S O.log ⊎ (IsAwake O.log → ⊥))

  not_unready : IsUnrunnableScenario O S text kept → Due → ⊥
  not_unready u (inl of_itself) = unready_not O Report S text kept u (inl (of_itself_or_late text u.ending u.is (unrunnable_in_time (map name_of O.kinds) S u.ending u.cause) of_itself))
  not_unready u (inr (inl said)) = unready_not O Report S text kept u (inr said)
  not_unready u (inr (inr slept)) = slept (awake_none O.log u.idle.quiet)

  not_unpaced : IsUnpaced O S text kept → (text ≡ Err endings.Mem → ⊥) → Due → ⊥
  not_unpaced u not (inl of_itself) = elim u.unrun.said [
    | inl same ↦ unrun_not O Report S text kept u.unrun not (inl (of_itself_or_late text (halt_ending (ids_of S) u.unrun.halt) same (halt_in_time (ids_of S) u.unrun.halt) of_itself))
    | inr mem ↦ not mem
  ]
  not_unpaced u not (inr (inl said)) = unrun_not O Report S text kept u.unrun not (inr said)
  not_unpaced u not (inr (inr slept)) = slept u.awake

  -- of each run there is a record, but for want of memory
  there : IsPacedScenario O factor strict true S text kept → (text ≡ Err endings.Mem → ⊥) → Due → HasPaceRecord O factor strict S text kept
  there (inl unready) not due = absurd (not_unready unready due)
  there (inr (inl unpaced)) not due = absurd (not_unpaced unpaced not due)
  there (inr (inr p)) not due = elim p.recorded [
    | inl is ↦ record { ranks = p.ranks; runnable = p.runnable; plan = p.plan; journal = p.journal; moments = p.moments; end = p.end; run = p.run; said = p.said; is = is; again = subst (λ (k : Option (List ℕ)). IfSome k (IsReadAgain p.plan p.journal)) is p.again }
    | inr none ↦ absurd (not none.1)
  ]

  only : IsPacedScenario O factor strict true S text kept → (kept ≡ None) ⊎ HasPaceRecord O factor strict S text kept
  only (inl unready) = inl unready.idle.unrecorded
  only (inr (inl unpaced)) = inl unpaced.unrun.unrecorded
  only (inr (inr p)) = elim p.recorded [
    | inl is ↦ inr (record { ranks = p.ranks; runnable = p.runnable; plan = p.plan; journal = p.journal; moments = p.moments; end = p.end; run = p.run; said = p.said; is = is; again = subst (λ (k : Option (List ℕ)). IfSome k (IsReadAgain p.plan p.journal)) is p.again })
    | inr none ↦ inl none.0
  ]

pub records_there : PacedRecordsAreThere
records_there = record { there = there; only = only }
