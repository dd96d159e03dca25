-- Answers to the goals of `catching::ask_first` that the prover leaves.
use Rattle.std.proofs.Common.{[], sym, subst}
use Rattle.mk_onlooker.specs.Showings.{AreInRange}
use Rattle.mk_resume_loop.proofs.Turned.{turned_in_range}
use Rattle.mk_resume_loop.proofs.catching.ask_first.Goals as goal

pub show-requires-clause-in_range : goal.show-requires-clause-in_range
show-requires-clause-in_range g c =
    let t = c.requires.underway in
    subst AreInRange (sym c.journal.ensures.same)
    (turned_in_range [] ⊥ c.args.core.now c.ask_on-result.new.core c.args.crew.now c.ask_on-result.new.crew c.args.behind.now c.args.behind.now c.ask_on-result.result t.0 t.1 t.2 t.3 t.4 c.ask_on-result.ensures.asked)
