-- Answers to the goals of `summing::summed` that the prover leaves.
use Rattle.std.proofs.Common.{List, [], Ok, Err, refl, sym, ap, ◌∙◌, option_map, subst}
use Rattle.std.specs.Prelude.{IfErr}
use Rattle.std.proofs.lemmas.Result.{err_from_is_err_and}
use Rattle.mk_local.specs.Registries.{rows_in}
use Rattle.mk_outside.specs.declared.fleet.LogEntry.{LogEntry}
use Rattle.mk_outside.specs.Logs.{Adds}
use Rattle.mk_outside.proofs.OnLogs.{adds_none}
use Rattle.mosaikrun_run.specs.Outcomes.{outside}
use Rattle.mosaikrun_demo.specs.Outcomes.{IsDemoOutcome}
use Rattle.mosaikrun_demo.proofs.OfDemo.{all_within, if_err, no_memory, of_demo}
use Rattle.mosaikrun_demo.proofs.summing.summed.Goals as goal
use Rattle.mk_base.proofs.Items.{if_ok}

pub returns-clause-text : goal.returns-clause-text
returns-clause-text g c =
    if_ok c.played.result.text
    (λ text h. (h.0, h.1, of_demo (outside g.F.Fleet.started g.F.Fleet.faults (rows_in c.args.kinds.now) c.args.fleet.now c.played.new.fleet h.0) c.args.size c.in_ok-scenario.scenario (Ok text.items) (option_map (λ v. v.items) c.played.result.record_text) c.in_ok-scenario.ensures.made h.2))
    c.played.ensures.text

pub returns-clause-none : goal.returns-clause-none
returns-clause-none g c =
    if_err c.played.result.text
    (λ e h. (h.0, h.1, of_demo (outside g.F.Fleet.started g.F.Fleet.faults (rows_in c.args.kinds.now) c.args.fleet.now c.played.new.fleet h.0) c.args.size c.in_ok-scenario.scenario (Err e) (option_map (λ v. v.items) c.played.result.record_text) c.in_ok-scenario.ensures.made h.2))
    c.played.ensures.none

-- all simulators are within the program
pub returns-clause-unused : goal.returns-clause-unused
returns-clause-unused g c = c.played.ensures.within (all_within c.args.size c.in_ok-scenario.scenario c.in_ok-scenario.ensures.made)

-- there was no memory for the scenario
pub returns-in_err-scenario-clause-none : goal.returns-in_err-scenario-clause-none
returns-in_err-scenario-clause-none g c =
    let e = err_from_is_err_and c.from_residual.result c.from_residual.ensures.1 in
    let O = outside g.F.Fleet.started g.F.Fleet.faults (rows_in c.args.kinds.now) c.args.fleet.now c.args.fleet.now [] in
    subst (λ r. IfErr r (λ e. (entries : List LogEntry) × Adds entries (g.F.Fleet.log c.args.fleet.now) (g.F.Fleet.log c.args.fleet.now) × IsDemoOutcome (outside g.F.Fleet.started g.F.Fleet.faults (rows_in c.args.kinds.now) c.args.fleet.now c.args.fleet.now entries) c.args.size (Err e)))
    (sym (e.1 ∙ ap (λ x. Err x) e.2))
    ([], adds_none (g.F.Fleet.log c.args.fleet.now), no_memory O c.args.size refl refl)
