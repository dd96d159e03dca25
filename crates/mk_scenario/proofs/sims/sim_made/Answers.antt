-- Answers to the goals of `sims::sim_made` that the prover leaves.
use Rattle.std.proofs.Common.{option_map}
use Rattle.mk_scenario.specs.Sims as sims
use Rattle.mk_scenario.proofs.Refusing.{refused_next, refused_second}
use Rattle.mk_scenario.proofs.sims.sim_made.Goals as goal

pub returns-in-Err-begun-clause-refused : goal.returns-in-Err-begun-clause-refused
returns-in-Err-begun-clause-refused c =
    let path = c.args.path.now in
    let params = c.in_ok-params.params in
    let e = c.in-Err-begun.fault in
    let begin = sims.begin_of path (option_map (λ t. t.now) c.args.command) c.args.port (option_map (λ t. t.now) c.args.local) in
    refused_next _ e _ params c.in_ok-params.ensures.ok
    (refused_next _ e _ c.in-Ok.initial c.in-Ok.ensures.ok
    (refused_second begin (sims.own_params path params) _ e c.in-Err-begun.ensures.refused))
