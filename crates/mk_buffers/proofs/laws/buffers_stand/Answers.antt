-- Answers to the goals of `laws::buffers_stand` that the prover leaves.
use Rattle.mk_buffers.proofs.Standing.{stands_new, stands_unchanged, outlet_key, least_low, least_held}
use Rattle.mk_buffers.proofs.laws.buffers_stand.Goals as goal

pub returns-clause-new : goal.returns-clause-new
returns-clause-new c = stands_new

pub returns-clause-unchanged : goal.returns-clause-unchanged
returns-clause-unchanged c = stands_unchanged

pub returns-clause-outlets : goal.returns-clause-outlets
returns-clause-outlets c = λ P b s w i f. (f.outlet.entity, f.sim, f.eid, outlet_key P b s w i f)

pub returns-clause-low : goal.returns-clause-low
returns-clause-low c = least_low

pub returns-clause-held : goal.returns-clause-held
returns-clause-held c = least_held
