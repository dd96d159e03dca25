-- Answers to the goals of `places::search_near` that the prover leaves.
use Rattle.std.proofs.Common.{sym}
use Rattle.mk_base.proofs.Guessing.{guessed}
use Rattle.mk_base.proofs.places.search_near.Goals as goal

pub returns-in-Some : goal.returns-in-Some
returns-in-Some g c = guessed c.args.name.now c.in-Some.value.now c.args.entries.now c.args.guess c.requires (sym c.in-Some.ensures)
