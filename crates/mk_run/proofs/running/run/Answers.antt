-- Answers to the goals of `running::run` that the prover leaves.
use Rattle.std.proofs.Common.{[], ◌++◌, refl, sym, ap, ◌∙◌, inl, inr}
use Rattle.mk_outside.proofs.OnLogs.{adds_none}
use Rattle.mk_local.specs.Registries.{rows_in}
use Rattle.mk_outside.proofs.OnLogs.{adds_more}
use Rattle.mk_run_crew.specs.Started.{IsOfStart}
use Rattle.mk_run_crew.proofs.Started.{all_started, none_started, started_unless}
use Rattle.mk_run.specs.Outcomes.{outcome_of}
use Rattle.mk_run.proofs.Beginning.{setting_of, run_begins, links_open, runs_so}
use Rattle.mk_run.proofs.running.run.Goals as goal

pub run_plan-requires-clause-underway : goal.run_plan-requires-clause-underway
run_plan-requires-clause-underway g c =
    let b = c.in-Ok.ensures.begun in (
      setting_of (g.F.Fleet.started c.args.fleet.now) c.args.scenario c.args.ranks (rows_in c.args.kinds.now) b.0 c.in-Ok.crew c.in-Ok.plan b.2,
      b.0,
      run_begins (g.F.Fleet.started c.args.fleet.now) c.args.scenario c.args.ranks (rows_in c.args.kinds.now) b.0 c.in-Ok.crew c.in-Ok.plan b.2 c.requires.prepared,
      links_open (g.F.Fleet.started c.args.fleet.now) c.args.scenario c.args.ranks (rows_in c.args.kinds.now) b.0 c.in-Ok.crew c.in-Ok.plan b.2 _ c.in-Ok.ensures.open,
    )

pub returns-in-Ok-clause-ran : goal.returns-in-Ok-clause-ran
returns-in-Ok-clause-ran g c =
    let b = c.in-Ok.ensures.begun in
    let r = c.run_plan.ensures.ran in (
      b.0 ++ r.0,
      adds_more b.0 r.0 _ _ _ b.1 r.1,
      runs_so (g.F.Fleet.started c.args.fleet.now) c.args.scenario c.args.ranks (rows_in c.args.kinds.now) b.0 c.in-Ok.crew c.in-Ok.plan b.2 c.requires.prepared r.0 (g.F.Fleet.faults c.args.fleet.now) (g.F.Fleet.faults c.begin.new.fleet)
          (g.F.Fleet.faults c.run_plan.new.fleet) c.in-Ok.ensures.count c.run_plan.result.plan c.run_plan.result.journal c.run_plan.result.outcome r.2,
      all_started c.args.scenario _ _ c.in-Ok.crew.places _ c.in-Ok.ensures.started.places (c.run_plan.ensures.same_count ∙ c.in-Ok.ensures.started.started),
    )

pub returns-in-Err-clause-ran : goal.returns-in-Err-clause-ran
returns-in-Err-clause-ran g c =
    let h = c.in-Err.ensures.halted in (
      h.0,
      h.1,
      record { halt = c.in-Err.halt; is = c.from.ensures; halted = h.2 },
      started_unless c.args.scenario _ _ (IsOfStart c.in-Err.halt h.0) _ (λ t. (refl, t.0, elim t.1 [ inl e ↦ inl (c.from.ensures ∙ ap outcome_of e) | inr e ↦ inr (c.from.ensures ∙ ap outcome_of e) ])) h.4,
    )

-- where all simulators are within the program

pub returns-then-is_wholly_within-clause-ran : goal.returns-then-is_wholly_within-clause-ran
returns-then-is_wholly_within-clause-ran g c = (
  [],
  adds_none _,
  c.run_local.ensures.ran (g.F.Fleet.started c.args.fleet.now) (g.F.Fleet.faults c.args.fleet.now),
  none_started c.args.scenario _ _ (sym c.is_wholly_within.ensures ∙ c.if-is_wholly_within.true),
)
