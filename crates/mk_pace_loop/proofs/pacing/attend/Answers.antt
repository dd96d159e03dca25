-- Answers to the goals of `pacing::attend` that the prover leaves.
use Rattle.std.proofs.Common.{◌≡◌, ◌∷◌, sym, ap, subst, ◌++◌, List, Option, None, Ok, Err}
use Rattle.std.specs.Prelude.{IfSome}
use Rattle.mk_base.specs.declared.SimNo.{SimNo}
use Rattle.mk_plan.specs.declared.Message.{Message}
use Rattle.mk_plan.specs.Journals.{Arrival}
use Rattle.mk_outside.specs.Counts.{HasRisen}
use Rattle.mk_outside.proofs.OnLogs.{adds_more}
use Rattle.mk_run_laws.specs.Crews.{IsHeard}
use Rattle.mk_run_links.specs.Entries.{AreOfLinks}
use Rattle.mk_run_links.specs.Places.{IsChannelLink}
use Rattle.mk_run_links.proofs.OnEntries.{no_clock}
use Rattle.mk_run_local.specs.Calls.{IsFitSuccess}
use Rattle.mk_run_crew.specs.Calls.{TriesAs}
use Rattle.mk_run_crew.specs.Seen.{crew_of}
use Rattle.mk_run.specs.declared.outcome.Outcome.{Outcome}
use Rattle.mk_pace_loop.specs.inner.Turns.{AttendsAs}
use Rattle.mk_pace_loop.proofs.Gaining.{nothing_heard}
use Rattle.mk_pace_loop.proofs.Risen.{clockless_rises, rises_on}
use Rattle.mk_pace_loop.proofs.Turning.{heard_attends, met_form, met_it, met_there, napped, napped_rises, unheard_attends}
use Rattle.mk_pace_loop.proofs.pacing.attend.Goals as goal
use Rattle.mk_session.proofs.Polling.{risen_after}

pub take-requires-clause-there : goal.take-requires-clause-there
take-requires-clause-there g c =
    let t = c.requires.underway in
    let h = c.in-Ok-Some.ensures.tried c.requires.unhalted in
    let k : IsHeard h.0 c.in-Ok-Some.sim.0 c.in-Ok-Some.message (crew_of c.args.crew.now) (crew_of c.try_hear.new.self) × AreOfLinks (IsChannelLink c.args.crew.now.channels) h.0 = subst (λ (o : Option (SimNo × Message)). TriesAs (Ok o) h.0 c.args.crew.now c.try_hear.new.self) c.in-Ok-Some.field-0-is h.2 in
    let fit = λ (a : Arrival) (more : List Arrival) (e : c.args.crew.now.kept ≡ a ∷ more). subst (λ (o : Option (SimNo × Message)). IfSome o (λ (p : SimNo × Message). IsFitSuccess p.1)) c.in-Ok-Some.field-0-is (c.in-Ok-Some.ensures.fit a more e) in
    met_there t.0 c.args.core.now (t.1 ++ h.0) c.in-Ok-Some.sim c.in-Ok-Some.message c.try_hear.new.self c.args.waiting.now
    (met_it t.0 c.args.core.now t.1 h.0 c.args.crew.now c.try_hear.new.self c.args.waiting.now c.in-Ok-Some.sim c.in-Ok-Some.message t.2 c.requires.waits k.0 k.1 c.in-Ok-Some.ensures.same_sims fit)

pub take-requires-clause-form : goal.take-requires-clause-form
take-requires-clause-form g c =
    let t = c.requires.underway in
    let h = c.in-Ok-Some.ensures.tried c.requires.unhalted in
    let k : IsHeard h.0 c.in-Ok-Some.sim.0 c.in-Ok-Some.message (crew_of c.args.crew.now) (crew_of c.try_hear.new.self) × AreOfLinks (IsChannelLink c.args.crew.now.channels) h.0 = subst (λ (o : Option (SimNo × Message)). TriesAs (Ok o) h.0 c.args.crew.now c.try_hear.new.self) c.in-Ok-Some.field-0-is h.2 in
    let fit = λ (a : Arrival) (more : List Arrival) (e : c.args.crew.now.kept ≡ a ∷ more). subst (λ (o : Option (SimNo × Message)). IfSome o (λ (p : SimNo × Message). IsFitSuccess p.1)) c.in-Ok-Some.field-0-is (c.in-Ok-Some.ensures.fit a more e) in
    met_form t.0 c.args.core.now (t.1 ++ h.0) c.in-Ok-Some.sim c.in-Ok-Some.message c.try_hear.new.self c.args.waiting.now
    (met_it t.0 c.args.core.now t.1 h.0 c.args.crew.now c.try_hear.new.self c.args.waiting.now c.in-Ok-Some.sim c.in-Ok-Some.message t.2 c.requires.waits k.0 k.1 c.in-Ok-Some.ensures.same_sims fit)

pub take-requires-clause-heard : goal.take-requires-clause-heard
take-requires-clause-heard g c =
    let t = c.requires.underway in
    let h = c.in-Ok-Some.ensures.tried c.requires.unhalted in
    let k : IsHeard h.0 c.in-Ok-Some.sim.0 c.in-Ok-Some.message (crew_of c.args.crew.now) (crew_of c.try_hear.new.self) × AreOfLinks (IsChannelLink c.args.crew.now.channels) h.0 = subst (λ (o : Option (SimNo × Message)). TriesAs (Ok o) h.0 c.args.crew.now c.try_hear.new.self) c.in-Ok-Some.field-0-is h.2 in
    let fit = λ (a : Arrival) (more : List Arrival) (e : c.args.crew.now.kept ≡ a ∷ more). subst (λ (o : Option (SimNo × Message)). IfSome o (λ (p : SimNo × Message). IsFitSuccess p.1)) c.in-Ok-Some.field-0-is (c.in-Ok-Some.ensures.fit a more e) in (
      t.0,
      t.1 ++ h.0,
      met_it t.0 c.args.core.now t.1 h.0 c.args.crew.now c.try_hear.new.self c.args.waiting.now c.in-Ok-Some.sim c.in-Ok-Some.message t.2 c.requires.waits k.0 k.1 c.in-Ok-Some.ensures.same_sims fit,
    )

pub returns-in-Ok-Some-clause-attended : goal.returns-in-Ok-Some-clause-attended
returns-in-Ok-Some-clause-attended g c =
    let h = c.in-Ok-Some.ensures.tried c.requires.unhalted in
    let k : IsHeard h.0 c.in-Ok-Some.sim.0 c.in-Ok-Some.message (crew_of c.args.crew.now) (crew_of c.try_hear.new.self) × AreOfLinks (IsChannelLink c.args.crew.now.channels) h.0 = subst (λ (o : Option (SimNo × Message)). TriesAs (Ok o) h.0 c.args.crew.now c.try_hear.new.self) c.in-Ok-Some.field-0-is h.2 in
    let fit = λ (a : Arrival) (more : List Arrival) (e : c.args.crew.now.kept ≡ a ∷ more). subst (λ (o : Option (SimNo × Message)). IfSome o (λ (p : SimNo × Message). IsFitSuccess p.1)) c.in-Ok-Some.field-0-is (c.in-Ok-Some.ensures.fit a more e) in (
      h.0,
      h.1,
      heard_attends _ c.args.told c.args.core.now c.take.new.core h.0 c.args.crew.now c.try_hear.new.self c.take.new.crew c.args.waiting.now c.take.new.waiting c.in-Ok-Some.sim c.in-Ok-Some.message c.take.result c.requires.waits k.0 k.1
          c.in-Ok-Some.ensures.same_sims fit c.take.ensures.taken,
    )

pub returns-in-Ok-Some-clause-rising : goal.returns-in-Ok-Some-clause-rising
returns-in-Ok-Some-clause-rising g c =
    let h = c.in-Ok-Some.ensures.tried c.requires.unhalted in
    let k : IsHeard h.0 c.in-Ok-Some.sim.0 c.in-Ok-Some.message (crew_of c.args.crew.now) (crew_of c.try_hear.new.self) × AreOfLinks (IsChannelLink c.args.crew.now.channels) h.0 = subst (λ (o : Option (SimNo × Message)). TriesAs (Ok o) h.0 c.args.crew.now c.try_hear.new.self) c.in-Ok-Some.field-0-is h.2 in
    clockless_rises h.0 _ _ (no_clock (IsChannelLink c.args.crew.now.channels) h.0 k.1) h.1

pub returns-in-Ok-None-clause-attended : goal.returns-in-Ok-None-clause-attended
returns-in-Ok-None-clause-attended g c =
    let h = c.in-Ok-None.ensures.tried c.requires.unhalted in
    let k : TriesAs (Ok None) h.0 c.args.crew.now c.try_hear.new.self = subst (λ (o : Option (SimNo × Message)). TriesAs (Ok o) h.0 c.args.crew.now c.try_hear.new.self) c.in-Ok-None.field-0-is h.2 in
    let n = c.nap.ensures.slept in (
      h.0 ++ n.0,
      adds_more h.0 n.0 _ _ _ h.1 n.1,
      napped _ c.args.told c.args.core.now h.0 c.args.crew.now c.try_hear.new.self c.args.waiting.now c.requires.waits c.requires.early c.requires.going k c.in-Ok-None.ensures.same_sims
          (HasRisen (g.F.Fleet.faults c.try_hear.new.fleet) (g.F.Fleet.faults c.nap.new.fleet)) n.0 c.nap.result
          (λ r. risen_after (g.F.Fleet.faults c.args.fleet.now) (g.F.Fleet.faults c.try_hear.new.fleet) (g.F.Fleet.faults c.nap.new.fleet) c.in-Ok-None.ensures.count r) n.2,
    )

pub returns-in-Ok-None-clause-rising : goal.returns-in-Ok-None-clause-rising
returns-in-Ok-None-clause-rising g c =
    let h = c.in-Ok-None.ensures.tried c.requires.unhalted in
    let k : TriesAs (Ok None) h.0 c.args.crew.now c.try_hear.new.self = subst (λ (o : Option (SimNo × Message)). TriesAs (Ok o) h.0 c.args.crew.now c.try_hear.new.self) c.in-Ok-None.field-0-is h.2 in
    let n = c.nap.ensures.slept in
    rises_on _ _ _ (clockless_rises h.0 _ _ (no_clock (IsChannelLink c.args.crew.now.channels) h.0 k.1) h.1) (napped_rises c.nap.result n.0 _ _ _ n.2 n.1)

pub returns-in-Err-clause-attended : goal.returns-in-Err-clause-attended
returns-in-Err-clause-attended g c =
    let h = c.in-Err.ensures.tried c.requires.unhalted in (
      h.0,
      h.1,
      subst (λ (e : Outcome). AttendsAs (Err e) c.args.told h.0 (HasRisen (g.F.Fleet.faults c.args.fleet.now) (g.F.Fleet.faults c.try_hear.new.fleet)) c.args.core.now c.args.crew.now c.args.waiting.now c.args.core.now c.try_hear.new.self c.args.waiting.now)
          (sym c.from.ensures)
          (unheard_attends _ c.args.told c.args.core.now h.0 c.args.crew.now c.try_hear.new.self c.args.waiting.now c.in-Err.halt c.requires.waits h.2.0 h.2.1 c.in-Err.ensures.same_sims (λ e. c.in-Err.ensures.cause c.requires.unhalted (ap Err e))),
    )

pub returns-in-Err-clause-rising : goal.returns-in-Err-clause-rising
returns-in-Err-clause-rising g c = let h = c.in-Err.ensures.tried c.requires.unhalted in clockless_rises h.0 _ _ (no_clock (IsChannelLink c.args.crew.now.channels) h.0 h.2.1) h.1

pub returns-in-Ok-None-clause-batch : goal.returns-in-Ok-None-clause-batch
returns-in-Ok-None-clause-batch g c = nothing_heard c.args.core.now

pub returns-in-Err-clause-batch : goal.returns-in-Err-clause-batch
returns-in-Err-clause-batch g c = nothing_heard c.args.core.now
