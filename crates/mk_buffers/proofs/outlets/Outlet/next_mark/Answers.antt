-- Answers to the goals of `outlets::Outlet::next_mark` that the prover leaves.
use Rattle.std.proofs.Common.{subst, List}
use Rattle.mk_base.specs.declared.tier.Via.{Via}
use Rattle.mk_buffers_log.specs.Logs.{IsFew, StaysFew}
use Rattle.mk_buffers.proofs.outlets.Outlet.next_mark.Goals as goal

pub returns : goal.returns
returns c = subst (λ (vs : List Via). IsFew vs c.args.until.now c.args.mark c.args.self.now.log → StaysFew vs c.args.until.now c.args.mark c.next_mark.result c.args.self.now.log) c.as_slice.ensures.value c.next_mark.ensures
