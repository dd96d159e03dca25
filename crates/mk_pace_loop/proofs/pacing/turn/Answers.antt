-- Answers to the goals of `pacing::turn` that the prover leaves.
use Rattle.std.proofs.Common.{sym, subst}
use Rattle.mk_onlooker.specs.Showings.{AreInRange}
use Rattle.mk_pace_loop.proofs.Gaining.{turned_in_range}
use Rattle.mk_pace_loop.proofs.pacing.turn.Goals as goal

pub show-requires-clause-in_range : goal.show-requires-clause-in_range
show-requires-clause-in_range g c =
    let t = c.requires.underway in
    let now = c.go_on-result.ensures.turned in
    subst AreInRange (sym c.journal-2.ensures.same)
    (turned_in_range c.go_on-result.result _ now.0 t.0 c.args.core.now c.go_on-result.new.core t.1 c.args.crew.now c.go_on-result.new.crew c.args.waiting.now c.go_on-result.new.waiting t.2 now.2)
