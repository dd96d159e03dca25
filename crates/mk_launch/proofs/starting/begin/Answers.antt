-- Answers to the goals of `starting::begin` that the prover leaves.
use Rattle.std.proofs.Common.{sym, subst}
use Rattle.mk_outside.specs.declared.fleet.Start.TheVariants as start
use Rattle.mk_scenario.specs.declared.parts.Begin.{Begin}
use Rattle.mk_launch.specs.inner.Starting.{BegunAsks, begun_asks}
use Rattle.mk_launch.proofs.Asking.{asks_connect}
use Rattle.mk_launch.proofs.starting.begin.Goals as goal

pub returns-in-Connect-clause-asked : goal.returns-in-Connect-clause-asked
returns-in-Connect-clause-asked g c =
    let asks = begun_asks c.begin_link.result (start.Connect c.in-Connect.port) in
    (asks, c.begin_link.ensures.asks, subst (λ (b : Begin). BegunAsks c.begin_link.result b asks) (sym c.in-Connect.is) (asks_connect c.begin_link.result c.in-Connect.port))
