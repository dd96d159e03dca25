-- Answers to the goals of `servant::Servant::call` that the prover leaves.
use Rattle.std.proofs.Common.{sym, subst}
use Rattle.mk_run_local.specs.inner.Standing.{IsFit}
use Rattle.mk_run_local.proofs.Numbers.{call_fit}
use Rattle.mk_simapi.proofs.Ranges.{call_fits}
use Rattle.mk_simapi.proofs.servant.Servant.call.Goals as goal

pub write-requires : goal.write-requires
write-requires g c = call_fits c.self.inside.sim c.args.id c.args.call.now c.in_ok-reply.reply c.in_ok-reply.ensures.reply

pub invariant_of-self-in_err-write : goal.invariant_of-self-in_err-write
invariant_of-self-in_err-write g c = subst IsFit (sym c.in_ok-reply.ensures.after) (call_fit c.self.inside.sim c.args.call.now c.self.invariant)

pub invariant_of-self-2 : goal.invariant_of-self-2
invariant_of-self-2 g c = subst IsFit (sym c.in_ok-reply.ensures.after) (call_fit c.self.inside.sim c.args.call.now c.self.invariant)
