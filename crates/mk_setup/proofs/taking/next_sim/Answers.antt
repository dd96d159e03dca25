-- Answers to the goals of `taking::next_sim` that the prover leaves.
use Rattle.std.proofs.Common.{sym, refl}
use Rattle.mk_setup.proofs.Heard.{none_after}
use Rattle.mk_setup.proofs.Stepping.{to_create, to_done, to_init}
use Rattle.mk_setup.proofs.taking.next_sim.Goals as goal

pub returns-in-Init : goal.returns-in-Init
returns-in-Init c = sym (to_init c.args.progress.now.scenario c.args.progress.now.answered c.in-Init.sim c.in-Init.ensures.0 c.in-Init.ensures.1)

pub returns-in-Create : goal.returns-in-Create
returns-in-Create c = sym (to_create c.args.progress.now.scenario c.args.progress.now.answered c.in-Create.group c.at-part.result.now.sim.0 c.in-Create.ensures.0 (c.at-part.result.now, c.at-part.ensures, refl))

pub returns-in-Done : goal.returns-in-Done
returns-in-Done c = sym (to_done c.args.progress.now.scenario c.args.progress.now.answered c.in-Done.sim c.in-Done.ensures.0 c.in-Done.ensures.1)

pub returns-in-Over : goal.returns-in-Over
returns-in-Over c = sym (none_after c.args.progress.now.scenario c.args.progress.now.answered c.in-Over.ensures)
