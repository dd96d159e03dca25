-- Answers to the goals of `written::written_is_read` that the prover leaves.
use Rattle.mk_record_laws.proofs.Whole.{read_again}
use Rattle.mk_record_laws.proofs.written.written_is_read.Goals as goal

pub returns : goal.returns
returns c P J ok = read_again P J ok
