-- Answers to the goals of `resuming::resume_over` that the prover leaves.
use Rattle.std.proofs.Common.{◌++◌, refl, ap, ◌∙◌, inl, inr}
use Rattle.mk_outside.proofs.OnLogs.{adds_more}
use Rattle.mk_local.specs.Registries.{rows_in}
use Rattle.mk_run_crew.specs.Started.{IsOfStart}
use Rattle.mk_run_crew.proofs.Started.{all_started, started_unless}
use Rattle.mk_run.specs.Outcomes.{outcome_of}
use Rattle.mk_resume.proofs.resuming.resume_over.Goals as goal

pub resume_plan-requires-clause-started : goal.resume_plan-requires-clause-started
resume_plan-requires-clause-started g c =
    let b = c.in-Ok.ensures.begun in (
      record { started = g.F.Fleet.started c.args.fleet.now; scenario = c.args.scenario; ranks = c.args.ranks; rows = rows_in c.args.kinds.now; log = b.0 },
      refl,
      record { prepared = c.requires.prepared; begun = b.2 },
    )

pub returns-in-Ok-clause-ran : goal.returns-in-Ok-clause-ran
returns-in-Ok-clause-ran g c =
    let b = c.in-Ok.ensures.begun in
    let r = c.resume_plan.ensures.ran in (
      b.0 ++ r.0,
      adds_more b.0 r.0 _ _ _ b.1 r.1,
      r.2 (record { started = g.F.Fleet.started c.args.fleet.now; scenario = c.args.scenario; ranks = c.args.ranks; rows = rows_in c.args.kinds.now; log = b.0 }) (g.F.Fleet.faults c.args.fleet.now) c.in-Ok.ensures.count (record { prepared = c.requires.prepared; begun = b.2 }),
      all_started c.args.scenario _ _ c.in-Ok.crew.places _ c.in-Ok.ensures.started.places (c.resume_plan.ensures.same_count ∙ c.in-Ok.ensures.started.started),
    )

pub returns-in-Err-clause-ran : goal.returns-in-Err-clause-ran
returns-in-Err-clause-ran g c =
    let h = c.in-Err.ensures.halted in
    rw c.nothing_left.ensures (
      h.0,
      h.1,
      inr (c.from.result, refl, record { halt = c.in-Err.halt; is = c.from.ensures; halted = h.2 }),
      started_unless c.args.scenario _ _ (IsOfStart c.in-Err.halt h.0) _
          (λ t. (c.from.result, refl, (refl, t.0, elim t.1 [ inl e ↦ inl (c.from.ensures ∙ ap outcome_of e) | inr e ↦ inr (c.from.ensures ∙ ap outcome_of e) ]))) h.4,
    )
