-- Answers to the goals of `pacing::pace_plan` that the prover leaves.
use Rattle.std.proofs.Common.{List, [], ◌∷◌, arith, refl, subst, sym}
use Rattle.mk_outside.specs.declared.fleet.LogEntry.TheVariants.{Told}
use Rattle.mk_outside.specs.declared.paced.Now.TheVariants.{At, Failed}
use Rattle.mk_base.specs.declared.LinkNo.{LinkNo}
use Rattle.mk_run_links.specs.Places.{AreOpen, IsChannelLink}
use Rattle.mk_run_links.proofs.OnEntries.{on_no_clock}
use Rattle.mk_pace.proofs.Early.{clock_failed}
use Rattle.mk_pace.proofs.Telling.{rising_clockless, rising_more, rising_now}
use Rattle.mk_pace.proofs.pacing.pace_plan.Goals as goal
use Rattle.mk_run_links.proofs.OnStops.{risen_later}

pub returns-in-At-clause-ran : goal.returns-in-At-clause-ran
returns-in-At-clause-ran g c =
    let r = c.pace_from.ensures.ran in (
      Told c.in-At.origin ∷ r.0,
      rising_more (Told c.in-At.origin ∷ []) r.0 _ _ _ (rising_now (At c.in-At.origin) _ _ c.in-At.ensures.logged c.in-At.ensures.rising) r.1,
      (λ A before low s. r.2 A before (omega (arith, low, c.in-At.ensures.count)) s),
    )

pub returns-in-Failed-clause-ran : goal.returns-in-Failed-clause-ran
returns-in-Failed-clause-ran g c =
    let s = c.stop_early.ensures.stopped in (
      s.0,
      rising_more [] s.0 _ _ _ (rising_now Failed _ _ c.in-Failed.ensures.logged c.in-Failed.ensures.rising) (rising_clockless s.0 _ _ s.1 (on_no_clock (IsChannelLink c.args.crew.channels) s.0 s.4)),
      clock_failed c.args.plan c.args.crew c.args.factor c.args.strict s.0 (g.F.Fleet.faults c.args.fleet.now) (g.F.Fleet.faults c.stop_early.new.fleet) _ c.stop_early.result
          (risen_later (g.F.Fleet.faults c.args.fleet.now) (g.F.Fleet.faults c.now.new.self) (g.F.Fleet.faults c.stop_early.new.fleet) c.stop_early.ensures.count (c.in-Failed.ensures.cause refl)) s.2 s.3 s.4 c.stop_early.ensures.ran,
    )

-- looking at the clock closes no link
pub pace_from-requires-clause-open : goal.pace_from-requires-clause-open
pace_from-requires-clause-open g c = subst (λ (links : List LinkNo). AreOpen c.args.crew.channels links) (sym c.in-At.ensures.same_links) c.requires.open

pub stop_early-requires : goal.stop_early-requires
stop_early-requires g c = record { «open» = subst (λ (links : List LinkNo). AreOpen c.args.crew.channels links) (sym c.in-Failed.ensures.same_links) c.requires.open }
