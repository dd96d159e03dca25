-- Answers to the goals of `pacing::paced` that the prover leaves.
use Rattle.std.proofs.Common.{◌++◌, refl, ap, ◌∙◌, inl, inr}
use Rattle.mk_outside.proofs.OnLogs.{adds_more}
use Rattle.mk_local.specs.Registries.{rows_in}
use Rattle.mk_run_links.specs.Entries.{IsRunLink}
use Rattle.mk_run_links.proofs.OnEntries.{on_no_clock}
use Rattle.mk_run_crew.specs.Started.{IsOfStart}
use Rattle.mk_run_crew.proofs.Started.{all_started, started_unless}
use Rattle.mk_run.specs.Outcomes.{outcome_of}
use Rattle.mk_pace.proofs.Early.{begun_not}
use Rattle.mk_pace.proofs.Telling.{rises, rising_clockless, rising_more}
use Rattle.mk_pace.proofs.pacing.paced.Goals as goal

pub pace_plan-requires-clause-started : goal.pace_plan-requires-clause-started
pace_plan-requires-clause-started g c =
    let b = c.in-Ok.ensures.begun in (
      record { started = g.F.Fleet.started c.args.fleet.now; scenario = c.args.scenario; ranks = c.args.ranks; rows = rows_in c.args.kinds.now; log = b.0 },
      refl,
      record { prepared = c.requires.prepared; begun = b.2; clockless = on_no_clock (IsRunLink (g.F.Fleet.started c.args.fleet.now) c.args.scenario) b.0 b.2.on_links },
    )

pub returns-in-Ok-clause-ran : goal.returns-in-Ok-clause-ran
returns-in-Ok-clause-ran g c =
    let b = c.in-Ok.ensures.begun in
    let r = c.pace_plan.ensures.ran in (
      b.0 ++ r.0,
      adds_more b.0 r.0 _ _ _ b.1 r.1.adds,
      rises (b.0 ++ r.0) _ _ (rising_more b.0 r.0 _ _ _ (rising_clockless b.0 _ _ b.1 (on_no_clock (IsRunLink (g.F.Fleet.started c.args.fleet.now) c.args.scenario) b.0 b.2.on_links)) r.1),
      r.2 (record { started = g.F.Fleet.started c.args.fleet.now; scenario = c.args.scenario; ranks = c.args.ranks; rows = rows_in c.args.kinds.now; log = b.0 }) (g.F.Fleet.faults c.args.fleet.now) c.in-Ok.ensures.count
          (record { prepared = c.requires.prepared; begun = b.2; clockless = on_no_clock (IsRunLink (g.F.Fleet.started c.args.fleet.now) c.args.scenario) b.0 b.2.on_links }),
      all_started c.args.scenario _ _ c.in-Ok.crew.places _ c.in-Ok.ensures.started.places (c.pace_plan.ensures.same_count ∙ c.in-Ok.ensures.started.started),
    )

pub returns-in-Err-clause-ran : goal.returns-in-Err-clause-ran
returns-in-Err-clause-ran g c =
    let h = c.in-Err.ensures.halted in (
      h.0,
      h.1,
      rises h.0 _ _ (rising_clockless h.0 _ _ h.1 h.3),
      begun_not (g.F.Fleet.started c.args.fleet.now) c.args.scenario c.args.ranks (rows_in c.args.kinds.now) c.args.factor c.args.strict h.0 (g.F.Fleet.faults c.args.fleet.now) (g.F.Fleet.faults c.begin.new.fleet) c.in-Err.halt c.from.result c.unpaced.result h.2 h.3 c.from.ensures c.unpaced.ensures,
      rw c.unpaced.ensures (started_unless c.args.scenario _ _ (IsOfStart c.in-Err.halt h.0) _
          (λ t. (c.from.result, refl, (refl, t.0, elim t.1 [ inl e ↦ inl (c.from.ensures ∙ ap outcome_of e) | inr e ↦ inr (c.from.ensures ∙ ap outcome_of e) ]))) h.4),
    )
