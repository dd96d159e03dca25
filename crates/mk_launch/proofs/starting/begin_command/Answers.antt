-- Answers to the goals of `starting::begin_command` that the prover leaves.
use Rattle.std.proofs.Common.{[], ◌∷◌, refl, inr}
use Rattle.mk_outside.specs.Asked.{to_listen}
use Rattle.mk_outside.proofs.OnAsked.{asks_more}
use Rattle.mk_launch.specs.inner.Starting.{begun_asks}
use Rattle.mk_launch.proofs.Asking.{asks_command}
use Rattle.mk_launch.proofs.starting.begin_command.Goals as goal

pub returns-in-Ok-clause-asked : goal.returns-in-Ok-clause-asked
returns-in-Ok-clause-asked g c =
    let first = to_listen c.in-At.port ∷ [] in
    let second = begun_asks c.begin_link.result c.in-Ok.start in
    (to_listen c.in-At.port ∷ second, asks_more first second _ _ _ c.in-At.ensures.asks c.begin_link.ensures.asks, asks_command c.begin_link.result c.args.template.now c.in-At.port c.in-Ok.start c.in-Ok.ensures)

pub returns-in-Err-clause-asked : goal.returns-in-Err-clause-asked
returns-in-Err-clause-asked g c = (to_listen c.in-At.port ∷ [], c.in-At.ensures.asks, inr (inr (c.in-At.port, refl, tt)))
