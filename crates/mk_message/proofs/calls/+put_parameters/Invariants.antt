-- The invariants and measures of the loops of `calls::+put_parameters`.
use Rattle.std.proofs.Common.{length}
use Rattle.mk_message.proofs.calls.+put_parameters.Given as goal

abbrev pub decreases-put_parameters : goal.decreases-put_parameters
decreases-put_parameters l = length l.members.now
