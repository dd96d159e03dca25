-- Answers to the goals of `fleet::MioFleetFleet::wait` that the prover leaves.
use Rattle.std.proofs.Common.{arith, refl, ◌∙◌}
use Rattle.mk_real.proofs.Keeping.{same_count}
use Rattle.mk_real.proofs.fleet.MioFleetFleet.wait.Goals as goal

pub mark-requires-clause-found : goal.mark-requires-clause-found
mark-requires-clause-found g c = omega (arith, c.in-Ok.ensures, c.requires.places)

pub mark-requires-clause-places : goal.mark-requires-clause-places
mark-requires-clause-places g c = c.requires.places

pub returns-in-Ok-clause-count : goal.returns-in-Ok-clause-count
returns-in-Ok-clause-count g c = omega arith

pub returns-in-Ok-clause-cause : goal.returns-in-Ok-clause-cause
returns-in-Ok-clause-cause g c = λ e. absurd (cc)

pub returns-in-Ok-clause-same_count : goal.returns-in-Ok-clause-same_count
returns-in-Ok-clause-same_count g c = same_count c.args.self.now.sockets c.as_mut_slice-sockets.result.now c.find_ready.new.sockets c.as_mut_slice-sockets.ensures.value c.as_mut_slice-sockets.ensures.len c.find_ready.auto.sockets

pub returns-in-Ok-clause-same_links : goal.returns-in-Ok-clause-same_links
returns-in-Ok-clause-same_links g c = refl

pub returns-in-Ok-clause-marked : goal.returns-in-Ok-clause-marked
returns-in-Ok-clause-marked g c = c.mark.ensures

pub returns-in-Ok-clause-same_asked : goal.returns-in-Ok-clause-same_asked
returns-in-Ok-clause-same_asked g c = refl

pub returns-in-Ok-clause-logged : goal.returns-in-Ok-clause-logged
returns-in-Ok-clause-logged g c = tt

pub returns-then-is_want_of_memory-clause-count : goal.returns-then-is_want_of_memory-clause-count
returns-then-is_want_of_memory-clause-count g c = omega arith

pub returns-then-is_want_of_memory-clause-cause : goal.returns-then-is_want_of_memory-clause-cause
returns-then-is_want_of_memory-clause-cause g c = λ e. absurd (cc)

pub returns-then-is_want_of_memory-clause-same_count : goal.returns-then-is_want_of_memory-clause-same_count
returns-then-is_want_of_memory-clause-same_count g c = same_count c.args.self.now.sockets c.as_mut_slice-sockets.result.now c.find_ready.new.sockets c.as_mut_slice-sockets.ensures.value c.as_mut_slice-sockets.ensures.len c.find_ready.auto.sockets

pub returns-else-is_want_of_memory-clause-count : goal.returns-else-is_want_of_memory-clause-count
returns-else-is_want_of_memory-clause-count g c = c.count_fault.ensures.count

pub returns-else-is_want_of_memory-clause-cause : goal.returns-else-is_want_of_memory-clause-cause
returns-else-is_want_of_memory-clause-cause g c = λ e. c.count_fault.ensures.risen

pub returns-else-is_want_of_memory-clause-same_count : goal.returns-else-is_want_of_memory-clause-same_count
returns-else-is_want_of_memory-clause-same_count g c = c.count_fault.ensures.same_count ∙ same_count c.args.self.now.sockets c.as_mut_slice-sockets.result.now c.find_ready.new.sockets c.as_mut_slice-sockets.ensures.value c.as_mut_slice-sockets.ensures.len c.find_ready.auto.sockets

pub returns-then-is_want_of_memory-clause-same_links : goal.returns-then-is_want_of_memory-clause-same_links
returns-then-is_want_of_memory-clause-same_links g c = refl

pub returns-then-is_want_of_memory-clause-marked : goal.returns-then-is_want_of_memory-clause-marked
returns-then-is_want_of_memory-clause-marked g c = refl

pub returns-then-is_want_of_memory-clause-same_asked : goal.returns-then-is_want_of_memory-clause-same_asked
returns-then-is_want_of_memory-clause-same_asked g c = refl

pub returns-then-is_want_of_memory-clause-logged : goal.returns-then-is_want_of_memory-clause-logged
returns-then-is_want_of_memory-clause-logged g c = tt

pub returns-else-is_want_of_memory-clause-same_links : goal.returns-else-is_want_of_memory-clause-same_links
returns-else-is_want_of_memory-clause-same_links g c = c.count_fault.ensures.same_links

pub returns-else-is_want_of_memory-clause-marked : goal.returns-else-is_want_of_memory-clause-marked
returns-else-is_want_of_memory-clause-marked g c = refl

pub returns-else-is_want_of_memory-clause-same_asked : goal.returns-else-is_want_of_memory-clause-same_asked
returns-else-is_want_of_memory-clause-same_asked g c = refl

pub returns-else-is_want_of_memory-clause-logged : goal.returns-else-is_want_of_memory-clause-logged
returns-else-is_want_of_memory-clause-logged g c = tt
