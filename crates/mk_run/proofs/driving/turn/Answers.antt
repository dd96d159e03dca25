-- Answers to the goals of `driving::turn` that the prover leaves.
use Rattle.std.proofs.Common.{sym, subst}
use Rattle.mk_onlooker.specs.Showings.{AreInRange}
use Rattle.mk_run.proofs.Turning.{turned_in_range}
use Rattle.mk_run.proofs.driving.turn.Goals as goal

pub show-requires-clause-in_range : goal.show-requires-clause-in_range
show-requires-clause-in_range g c =
    let t = c.requires.underway in
    let n = c.go_on-result.ensures.turned in
    subst AreInRange (sym c.journal-2.ensures.same) (turned_in_range _ c.args.core.now c.go_on-result.new.core n.0 c.args.crew.now c.go_on-result.new.crew c.go_on-result.result t.0 t.1 n.2 t.2)
