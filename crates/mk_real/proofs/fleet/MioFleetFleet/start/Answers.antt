-- Answers to the goals of `fleet::MioFleetFleet::start` that the prover leaves.
use Rattle.std.proofs.Common.{ℕ, length, refl, subst, ◌∙◌}
use Rattle.mk_outside.specs.Fleets.{StartedAs}
use Rattle.mk_real.proofs.Keeping.{same_count}
use Rattle.mk_real.proofs.fleet.MioFleetFleet.start.Goals as goal

pub returns-then-is_want_of_memory-clause-starts : goal.returns-then-is_want_of_memory-clause-starts
returns-then-is_want_of_memory-clause-starts g c = (same_count c.args.self.now.sockets c.as_mut_slice-sockets.result.now c.await_children.new.sockets c.as_mut_slice-sockets.ensures.value c.as_mut_slice-sockets.ensures.len c.await_children.auto.sockets, refl)

pub returns-then-is_want_of_memory-clause-asks : goal.returns-then-is_want_of_memory-clause-asks
returns-then-is_want_of_memory-clause-asks g c = tt

pub returns-then-is_want_of_memory-clause-logged : goal.returns-then-is_want_of_memory-clause-logged
returns-then-is_want_of_memory-clause-logged g c = tt

pub returns-in-Err-clause-count : goal.returns-in-Err-clause-count
returns-in-Err-clause-count g c = c.count_fault.ensures.count

pub returns-in-Err-clause-cause : goal.returns-in-Err-clause-cause
returns-in-Err-clause-cause g c = λ e. c.count_fault.ensures.risen

pub returns-in-Err-clause-starts : goal.returns-in-Err-clause-starts
returns-in-Err-clause-starts g c = (c.count_fault.ensures.same_count ∙ same_count c.args.self.now.sockets c.as_mut_slice-sockets.result.now c.await_children.new.sockets c.as_mut_slice-sockets.ensures.value c.as_mut_slice-sockets.ensures.len c.await_children.auto.sockets, c.count_fault.ensures.same_links)

pub returns-in-Err-clause-asks : goal.returns-in-Err-clause-asks
returns-in-Err-clause-asks g c = tt

pub returns-in-Err-clause-logged : goal.returns-in-Err-clause-logged
returns-in-Err-clause-logged g c = tt

pub returns-clause-count : goal.returns-clause-count
returns-clause-count g c = c.begin_link.ensures.count

pub returns-clause-cause : goal.returns-clause-cause
returns-clause-cause g c = c.begin_link.ensures.cause

pub returns-clause-starts : goal.returns-clause-starts
returns-clause-starts g c = subst (λ (n : ℕ). StartedAs c.begin_link.result n (length c.begin_link.new.self.sockets.items) c.args.self.now.links.items c.begin_link.new.self.links.items) (same_count c.args.self.now.sockets c.as_mut_slice-sockets.result.now c.await_children.new.sockets c.as_mut_slice-sockets.ensures.value c.as_mut_slice-sockets.ensures.len c.await_children.auto.sockets) c.begin_link.ensures.starts

pub returns-clause-asks : goal.returns-clause-asks
returns-clause-asks g c = tt

pub returns-clause-logged : goal.returns-clause-logged
returns-clause-logged g c = tt
