-- Answers to the goals of `catching::turn` that the prover leaves.
use Rattle.std.proofs.Common.{sym, subst}
use Rattle.mk_onlooker.specs.Showings.{AreInRange}
use Rattle.mk_resume_loop.proofs.Turned.{turned_in_range}
use Rattle.mk_resume_loop.proofs.catching.turn.Goals as goal

pub show-requires-clause-in_range : goal.show-requires-clause-in_range
show-requires-clause-in_range g c =
    let t = c.requires.underway in
    let h = c.hear_and_ask-result.ensures.turned in
    subst AreInRange (sym c.journal-2.ensures.same)
    (turned_in_range h.0 _ c.args.core.now c.hear_and_ask-result.new.core c.args.crew.now c.hear_and_ask-result.new.crew c.args.behind.now c.hear_and_ask-result.new.behind c.hear_and_ask-result.result t.0 t.1 t.2 t.3 t.4 h.2)
