-- Answers to the goals of `top::answer` that the prover leaves.
use Rattle.std.proofs.Common.{◌≡◌, [], inl, inr, arith, refl, sym, ap, ◌∙◌, subst, map, Result, Err}
use Rattle.std.specs.String.{string_bytes}
use Rattle.std.proofs.lemmas.Result.{err_from_is_err_and}
use Rattle.mk_outside.proofs.OnLogs.{adds_none}
use Rattle.mk_local.specs.Registries.{rows_in}
use Rattle.mosaikrun_words.specs.declared.request.Request.{Request}
use Rattle.mosaikrun_words.specs.declared.request.Request.TheVariants.{Run, Resume, Paced, Demo}
use Rattle.mosaikrun_endings.specs.declared.ending.Ending.{Ending}
use Rattle.mosaikrun_run.specs.Outcomes.{outside}
use Rattle.mosaikrun_program.specs.Around.{Around, folder_seen, output_seen, rules_seen}
use Rattle.mosaikrun_program.specs.Commands.{IsAsked}
use Rattle.mosaikrun_program.specs.Program.{EndedAs}
use Rattle.mosaikrun_program.proofs.Fleetless.{pace_needs, resume_within, run_within}
use Rattle.mosaikrun_paced.proofs.Telling.{rising_none}
use Rattle.mosaikrun_program.proofs.Pacing.{pace_of_words, within_bounds}
use Rattle.mosaikrun_program.proofs.Playing.{performed}
use Rattle.mosaikrun_program.proofs.top.answer.Goals as goal

-- the words ask for nothing
pub returns-in_err-scenario-clause-ended : goal.returns-in_err-scenario-clause-ended
returns-in_err-scenario-clause-ended g c =
    let S : Around = record {
      words = map string_bytes c.args.words.now;
      outside = outside g.F.Fleet.started g.F.Fleet.faults (rows_in c.args.kinds.now) c.args.fleet.now c.args.fleet.now [];
      rules = rules_seen c.args.rules.now;
      folder = folder_seen g.D.Folder.files g.D.Folder.faults c.args.folder.now c.args.folder.now;
      output = output_seen g.K.Sink.written g.K.Sink.faults g.K.Sink.shortages c.args.out.now c.args.out.now;
    } in
    let e = err_from_is_err_and c.from_residual.result c.from_residual.ensures.1 in (
      [],
      adds_none (g.F.Fleet.log c.args.fleet.now),
      subst (λ (r : Result (Unit {0}) Ending). EndedAs S r) (sym (e.1 ∙ ap (λ x. Err x) e.2)) (inl (record {
        cause = c.in_err-scenario.ensures.unasked;
        untouched = record { unput = refl; unsaved = refl; log = refl; faults = refl };
      })),
    )

-- the demo is run
pub returns-in-Demo-clause-ended : goal.returns-in-Demo-clause-ended
returns-in-Demo-clause-ended g c =
    let seen = folder_seen g.D.Folder.files g.D.Folder.faults c.args.folder.now c.args.folder.now in
    let asked = subst (λ (R : Request). IsAsked (map string_bytes c.args.words.now) R) c.in-Demo.is c.in_ok-scenario.ensures.asked in
    let came = c.sum_up.ensures.summed (map string_bytes c.args.words.now) (rules_seen c.args.rules.now) seen refl in
    (came.0, came.1, performed _ _ (inr (record { request = Demo c.in-Demo.size; asked = asked; run = came.2 })))

-- a run does nothing with the fleet where no simulator has a link
pub returns-in-Run-clause-fleet_unused : goal.returns-in-Run-clause-fleet_unused
returns-in-Run-clause-fleet_unused g c =
    let same : c.in_ok-scenario.field-0 ≡ Run c.as_str.result.now c.in-Run.record = cc (c.in-Run.is, c.as_str.ensures) in
    let asked = subst (λ (R : Request). IsAsked (map string_bytes c.args.words.now) R) same c.in_ok-scenario.ensures.asked in
    λ needless. c.play.ensures.within (run_within (map string_bytes c.args.words.now) (g.D.Folder.files c.args.folder.now) _ _ asked needless)

-- a command on files is done
pub returns-in-Files : goal.returns-in-Files
returns-in-Files g c = record {
  ended = (
    [],
    adds_none (g.F.Fleet.log c.args.fleet.now),
    c.make.ensures.made (map string_bytes c.args.words.now) (g.F.Fleet.started c.args.fleet.now) (g.F.Fleet.faults c.args.fleet.now)
        (subst (λ (R : Request). IsAsked (map string_bytes c.args.words.now) R) c.in-Files.is c.in_ok-scenario.ensures.asked),
  );
  links_closed = λ low_ones. refl;
  fleet_unused = λ needless. refl;
  rising = λ pace. ([], adds_none (g.F.Fleet.log c.args.fleet.now), λ told. rising_none);
  folder_count = c.make.ensures.folder_count;
  fleet_count = omega (arith);
  out_count = c.make.ensures.out_count;
}

-- a run is made
pub returns-in-Run-clause-ended : goal.returns-in-Run-clause-ended
returns-in-Run-clause-ended g c =
    let same : c.in_ok-scenario.field-0 ≡ Run c.as_str.result.now c.in-Run.record = cc (c.in-Run.is, c.as_str.ensures) in
    let asked = subst (λ (R : Request). IsAsked (map string_bytes c.args.words.now) R) same c.in_ok-scenario.ensures.asked in
    c.play.ensures.played (map string_bytes c.args.words.now) (rules_seen c.args.rules.now) asked

-- a run goes on
pub returns-in-Resume-clause-ended : goal.returns-in-Resume-clause-ended
returns-in-Resume-clause-ended g c =
    let same : c.in_ok-scenario.field-0 ≡ Resume c.as_str-in-Resume.result.now c.as_str-in-Resume-2.result.now c.in-Resume.save = cc (c.in-Resume.is, c.as_str-in-Resume.ensures, c.as_str-in-Resume-2.ensures) in
    let asked = subst (λ (R : Request). IsAsked (map string_bytes c.args.words.now) R) same c.in_ok-scenario.ensures.asked in
    c.carry_on.ensures.carried (map string_bytes c.args.words.now) (rules_seen c.args.rules.now) asked

pub returns-in-Resume-clause-fleet_unused : goal.returns-in-Resume-clause-fleet_unused
returns-in-Resume-clause-fleet_unused g c =
    let same : c.in_ok-scenario.field-0 ≡ Resume c.as_str-in-Resume.result.now c.as_str-in-Resume-2.result.now c.in-Resume.save = cc (c.in-Resume.is, c.as_str-in-Resume.ensures, c.as_str-in-Resume-2.ensures) in
    let asked = subst (λ (R : Request). IsAsked (map string_bytes c.args.words.now) R) same c.in_ok-scenario.ensures.asked in
    λ needless. c.carry_on.ensures.within (resume_within (map string_bytes c.args.words.now) (g.D.Folder.files c.args.folder.now) _ _ _ asked needless)

-- a run by a clock is made
pub returns-in-Paced-clause-ended : goal.returns-in-Paced-clause-ended
returns-in-Paced-clause-ended g c =
    let same : c.in_ok-scenario.field-0 ≡ Paced c.as_str-in-Paced.result.now c.in-Paced.factor c.in-Paced.strict c.in-Paced.record = cc (c.in-Paced.is, c.as_str-in-Paced.ensures) in
    let asked = subst (λ (R : Request). IsAsked (map string_bytes c.args.words.now) R) same c.in_ok-scenario.ensures.asked in
    c.pace.ensures.paced (map string_bytes c.args.words.now) (rules_seen c.args.rules.now) asked

pub returns-in-Paced-clause-fleet_unused : goal.returns-in-Paced-clause-fleet_unused
returns-in-Paced-clause-fleet_unused g c =
    let same : c.in_ok-scenario.field-0 ≡ Paced c.as_str-in-Paced.result.now c.in-Paced.factor c.in-Paced.strict c.in-Paced.record = cc (c.in-Paced.is, c.as_str-in-Paced.ensures) in
    let asked = subst (λ (R : Request). IsAsked (map string_bytes c.args.words.now) R) same c.in_ok-scenario.ensures.asked in
    λ needless. absurd (pace_needs (map string_bytes c.args.words.now) (g.D.Folder.files c.args.folder.now) _ _ _ _ asked needless)

pub returns-in-Paced-clause-rising : goal.returns-in-Paced-clause-rising
returns-in-Paced-clause-rising g c = λ pace. c.pace.ensures.rising

-- the pace is within its bounds
pub pace-requires-clause-least : goal.pace-requires-clause-least
pace-requires-clause-least g c =
    let asked = subst (λ (R : Request). IsAsked (map string_bytes c.args.words.now) R) c.in-Paced.is c.in_ok-scenario.ensures.asked in
    (within_bounds (map string_bytes c.args.words.now) _ _ _ _ asked).least

pub pace-requires-clause-most : goal.pace-requires-clause-most
pace-requires-clause-most g c =
    let asked = subst (λ (R : Request). IsAsked (map string_bytes c.args.words.now) R) c.in-Paced.is c.in_ok-scenario.ensures.asked in
    (within_bounds (map string_bytes c.args.words.now) _ _ _ _ asked).most

pub pace-requires-clause-allowed : goal.pace-requires-clause-allowed
pace-requires-clause-allowed g c =
    let asked = subst (λ (R : Request). IsAsked (map string_bytes c.args.words.now) R) c.in-Paced.is c.in_ok-scenario.ensures.asked in
    (within_bounds (map string_bytes c.args.words.now) _ _ _ _ asked).allowed

-- no other request is one for a pace
pub returns-in-Run-clause-rising : goal.returns-in-Run-clause-rising
returns-in-Run-clause-rising g c =
    let asked = subst (λ (R : Request). IsAsked (map string_bytes c.args.words.now) R) c.in-Run.is c.in_ok-scenario.ensures.asked in
    λ pace. let wrong = pace_of_words (map string_bytes c.args.words.now) (Run c.in-Run.scenario c.in-Run.record) asked pace in absurd cc

pub returns-in-Resume-clause-rising : goal.returns-in-Resume-clause-rising
returns-in-Resume-clause-rising g c =
    let asked = subst (λ (R : Request). IsAsked (map string_bytes c.args.words.now) R) c.in-Resume.is c.in_ok-scenario.ensures.asked in
    λ pace. let wrong = pace_of_words (map string_bytes c.args.words.now) (Resume c.in-Resume.scenario c.in-Resume.record c.in-Resume.save) asked pace in absurd cc

pub returns-in-Demo-clause-rising : goal.returns-in-Demo-clause-rising
returns-in-Demo-clause-rising g c =
    let asked = subst (λ (R : Request). IsAsked (map string_bytes c.args.words.now) R) c.in-Demo.is c.in_ok-scenario.ensures.asked in
    λ pace. let wrong = pace_of_words (map string_bytes c.args.words.now) (Demo c.in-Demo.size) asked pace in absurd cc

pub returns-in_err-scenario-clause-rising : goal.returns-in_err-scenario-clause-rising
returns-in_err-scenario-clause-rising g c = λ pace. ([], adds_none (g.F.Fleet.log c.args.fleet.now), λ told. rising_none)
