-- Answers to the goals of `pacing::tick` that the prover leaves.
use Rattle.std.proofs.Common.{[], ◌∷◌, ◌++◌, refl, sym, subst}
use Rattle.mk_outside.specs.declared.fleet.LogEntry.TheVariants.{Told}
use Rattle.mk_outside.proofs.OnLogs.{adds_more}
use Rattle.mk_run.specs.inner.Turns.{AreLinksOpen}
use Rattle.mk_pace_loop.proofs.Gaining.{nothing_heard}
use Rattle.mk_pace_loop.proofs.Risen.{clockless_rises, rises_on, told_rises}
use Rattle.mk_pace_loop.proofs.Turning.{told_on, turned, untold_end}
use Rattle.mk_pace_loop.proofs.pacing.tick.Goals as goal
use Rattle.mk_session.proofs.Polling.{risen_after}

pub pass-requires-clause-underway : goal.pass-requires-clause-underway
pass-requires-clause-underway g c =
    let t = c.requires.underway in
    let told = c.in-At.told in (
      t.0,
      t.1 ++ Told told ∷ [],
      told_on t.0 c.args.core.now t.1 c.args.crew.now c.args.waiting.now told t.2,
      (t.1, refl),
      subst (AreLinksOpen t.0) (sym c.in-At.ensures.same_links) t.3,
    )

pub returns-in-At-clause-turned : goal.returns-in-At-clause-turned
returns-in-At-clause-turned g c =
    let p = c.pass.ensures.passed in (
      Told c.in-At.told ∷ [] ++ p.0,
      adds_more (Told c.in-At.told ∷ []) p.0 _ _ _ c.in-At.ensures.logged p.1,
      turned _ _ c.in-At.told c.args.core.now c.pass.new.core p.0 c.args.crew.now c.pass.new.crew c.args.waiting.now c.pass.new.waiting c.pass.result
          (λ r. risen_after (g.F.Fleet.faults c.args.fleet.now) (g.F.Fleet.faults c.now.new.self) (g.F.Fleet.faults c.pass.new.fleet) c.in-At.ensures.count r) p.2,
    )

pub returns-in-At-clause-rising : goal.returns-in-At-clause-rising
returns-in-At-clause-rising g c = rises_on _ _ _ (told_rises c.in-At.told _ _ c.in-At.ensures.rising c.in-At.ensures.logged) c.pass.ensures.rising

pub returns-in-Failed-clause-turned : goal.returns-in-Failed-clause-turned
returns-in-Failed-clause-turned g c = ([], c.in-Failed.ensures.logged, untold_end _ c.args.core.now c.args.crew.now c.args.waiting.now (c.in-Failed.ensures.cause refl) c.requires.waits)

pub returns-in-Failed-clause-batch : goal.returns-in-Failed-clause-batch
returns-in-Failed-clause-batch g c = nothing_heard c.args.core.now

pub returns-in-Failed-clause-rising : goal.returns-in-Failed-clause-rising
returns-in-Failed-clause-rising g c = clockless_rises [] _ _ tt c.in-Failed.ensures.logged
