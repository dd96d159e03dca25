-- Answers to the goals of `taking::is_awaited` that the prover leaves.
use Rattle.std.proofs.Common.{◌∙◌, None, ap, sym}
use Rattle.mk_setup.specs.Kept.{state_of}
use Rattle.mk_base.specs.declared.SimNo.{SimNo}
use Rattle.std.specs.Prelude.{option_map}
use Rattle.mk_setup.proofs.Heard.{id_tells, sim_there}
use Rattle.mk_setup.proofs.taking.is_awaited.Goals as goal

pub at-requires : goal.at-requires
at-requires c = sim_there (state_of c.args.progress.now None) c.args.progress.now.ids c.args.progress.now.plan c.in-Some.awaited.0 c.requires (sym c.awaited_sim.ensures ∙ ap (option_map (λ (s : SimNo). s.0)) c.in-Some.is)

pub returns-then-sim-awaited : goal.returns-then-sim-awaited
returns-then-sim-awaited c = id_tells (state_of c.args.progress.now None) c.args.progress.now.ids c.args.progress.now.plan c.in-Some.awaited.0 c.args.sim.0 c.args.id c.at.result.now c.requires (sym c.awaited_sim.ensures ∙ ap (option_map (λ (s : SimNo). s.0)) c.in-Some.is) c.if-sim-awaited.true c.at.ensures
