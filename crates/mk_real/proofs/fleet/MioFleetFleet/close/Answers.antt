-- Answers to the goals of `fleet::MioFleetFleet::close` that the prover leaves.
use Rattle.std.proofs.Common.{arith, refl, ◌∙◌}
use Rattle.mk_real.proofs.Keeping.{same_count}
use Rattle.mk_real.proofs.fleet.MioFleetFleet.close.Goals as goal

pub returns-then-is_err-clause-count : goal.returns-then-is_err-clause-count
returns-then-is_err-clause-count g c = c.count_fault.ensures.count

pub returns-then-is_err-clause-same_count : goal.returns-then-is_err-clause-same_count
returns-then-is_err-clause-same_count g c = c.count_fault.ensures.same_count ∙ same_count c.args.self.now.sockets c.as_mut_slice.result.now c.close_on.new.sockets c.as_mut_slice.ensures.value c.as_mut_slice.ensures.len c.close_on.auto.sockets

pub returns-then-is_err-clause-closed : goal.returns-then-is_err-clause-closed
returns-then-is_err-clause-closed g c = c.count_fault.ensures.same_links ∙ c.leave.ensures

pub returns-then-is_err-clause-same_asked : goal.returns-then-is_err-clause-same_asked
returns-then-is_err-clause-same_asked g c = refl

pub returns-then-is_err-clause-logged : goal.returns-then-is_err-clause-logged
returns-then-is_err-clause-logged g c = tt

pub returns-else-is_err-clause-count : goal.returns-else-is_err-clause-count
returns-else-is_err-clause-count g c = omega arith

pub returns-else-is_err-clause-same_count : goal.returns-else-is_err-clause-same_count
returns-else-is_err-clause-same_count g c = same_count c.args.self.now.sockets c.as_mut_slice.result.now c.close_on.new.sockets c.as_mut_slice.ensures.value c.as_mut_slice.ensures.len c.close_on.auto.sockets

pub returns-else-is_err-clause-closed : goal.returns-else-is_err-clause-closed
returns-else-is_err-clause-closed g c = c.leave.ensures

pub returns-else-is_err-clause-same_asked : goal.returns-else-is_err-clause-same_asked
returns-else-is_err-clause-same_asked g c = refl

pub returns-else-is_err-clause-logged : goal.returns-else-is_err-clause-logged
returns-else-is_err-clause-logged g c = tt
