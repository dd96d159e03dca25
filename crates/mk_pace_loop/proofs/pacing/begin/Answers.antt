-- Answers to the goals of `pacing::begin` that the prover leaves.
use Rattle.std.proofs.Common.{sym, subst}
use Rattle.mk_onlooker.specs.Showings.{AreInRange}
use Rattle.mk_pace_loop.proofs.Gaining.{asked_in_range}
use Rattle.mk_pace_loop.proofs.pacing.begin.Goals as goal

pub show-requires-clause-in_range : goal.show-requires-clause-in_range
show-requires-clause-in_range g c =
    let t = c.requires.underway in
    subst AreInRange (sym c.journal.ensures.same)
    (asked_in_range c.ask_all-result.result t.0 c.args.core.now c.ask_all-result.new.core t.1 t.2 c.args.waiting.now c.ask_all-result.new.waiting t.3 c.ask_all-result.ensures.asked)
