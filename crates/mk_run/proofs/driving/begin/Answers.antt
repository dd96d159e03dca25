-- Answers to the goals of `driving::begin` that the prover leaves.
use Rattle.std.proofs.Common.{sym, subst}
use Rattle.mk_onlooker.specs.Showings.{AreInRange}
use Rattle.mk_run.proofs.Turning.{asked_in_range}
use Rattle.mk_run.proofs.driving.begin.Goals as goal

pub show-requires-clause-in_range : goal.show-requires-clause-in_range
show-requires-clause-in_range g c =
    let t = c.requires.underway in
    subst AreInRange (sym c.journal.ensures.same) (asked_in_range c.args.core.now c.ask_all-result.new.core c.args.crew.now c.ask_all-result.new.crew c.ask_all-result.result t.0 t.1 c.ask_all-result.ensures.asked_all t.2)
