-- Answers to the goals of `buffers::Buffers::deliver_to` that the prover leaves.
use Rattle.std.proofs.Common.{arith}
use Rattle.mk_plan_judge.proofs.Putting.{on_ok}
use Rattle.mk_buffers.proofs.Standing.{stands_delivered, key_below}
use Rattle.mk_buffers.proofs.buffers.Buffers.deliver_to.Goals as goal

pub returns-then-outlet-len-clause-ok : goal.returns-then-outlet-len-clause-ok
returns-then-outlet-len-clause-ok c = λ P S e attr st key text. on_ok c.take_in.result (λ d. stands_delivered P c.args.self.now c.take_in.new.self S e attr c.args.outlet (record { at = c.args.at; value = c.args.value }) st key text d) c.take_in.ensures.ok

pub returns-else-outlet-len-clause-ok : goal.returns-else-outlet-len-clause-ok
returns-else-outlet-len-clause-ok c = λ P S e attr st key text. absurd (omega (arith, key_below c.args.self.now.outlets.items e attr c.args.outlet key, c.if-outlet-len.false, c.len.ensures))
