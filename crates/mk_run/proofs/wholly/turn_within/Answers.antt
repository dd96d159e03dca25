-- Answers to the goals of `wholly::turn_within` that the prover leaves.
use Rattle.std.proofs.Common.{[], sym, subst}
use Rattle.mk_onlooker.specs.Showings.{AreInRange}
use Rattle.mk_run.proofs.Turning.{turned_in_range}
use Rattle.mk_run.proofs.wholly.turn_within.Goals as goal

pub show-requires-clause-in_range : goal.show-requires-clause-in_range
show-requires-clause-in_range g c =
    let t = c.requires.underway in
    subst AreInRange (sym c.journal-2.ensures.same)
    (turned_in_range ⊥ c.args.core.now c.go_on_within-result.new.core [] c.args.crew.now c.go_on_within-result.new.crew c.go_on_within-result.result t.0 [] c.go_on_within-result.ensures.turned t.1)
