-- Answers to the goals of `fleet::MioFleetFleet::read` that the prover leaves.
use Rattle.std.proofs.Common.{arith, refl, ◌∙◌}
use Rattle.mk_real.proofs.Keeping.{same_count}
use Rattle.mk_real.proofs.fleet.MioFleetFleet.read.Goals as goal

pub returns-in-Failed-clause-count : goal.returns-in-Failed-clause-count
returns-in-Failed-clause-count g c = c.count_fault.ensures.count

pub returns-in-Failed-clause-cause : goal.returns-in-Failed-clause-cause
returns-in-Failed-clause-cause g c = λ e. c.count_fault.ensures.risen

pub returns-in-Failed-clause-same_count : goal.returns-in-Failed-clause-same_count
returns-in-Failed-clause-same_count g c = c.count_fault.ensures.same_count ∙ same_count c.args.self.now.sockets c.as_mut_slice-sockets.result.now c.read_on.new.sockets c.as_mut_slice-sockets.ensures.value c.as_mut_slice-sockets.ensures.len c.read_on.auto.sockets

pub returns-in-Failed-clause-same_links : goal.returns-in-Failed-clause-same_links
returns-in-Failed-clause-same_links g c = c.count_fault.ensures.same_links

pub returns-in-Failed-clause-got : goal.returns-in-Failed-clause-got
returns-in-Failed-clause-got g c = c.in-Failed.ensures

pub returns-in-Failed-clause-same_asked : goal.returns-in-Failed-clause-same_asked
returns-in-Failed-clause-same_asked g c = refl

pub returns-in-Failed-clause-logged : goal.returns-in-Failed-clause-logged
returns-in-Failed-clause-logged g c = tt

pub returns-in_default : goal.returns-in_default
returns-in_default g c = record {
  count = omega arith;
  cause = λ e. absurd (c.in_default.not-Failed e);
  same_count = same_count c.args.self.now.sockets c.as_mut_slice-sockets.result.now c.read_on.new.sockets c.as_mut_slice-sockets.ensures.value c.as_mut_slice-sockets.ensures.len c.read_on.auto.sockets;
  same_links = refl;
  got = c.read_on.ensures;
  same_asked = refl;
  logged = tt;
}
