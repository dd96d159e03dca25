-- Answers to the goals of `parsed::parsed_is_sound` that the prover leaves.
use Rattle.mk_record_laws.proofs.Sound.{sound_tree}
use Rattle.mk_record_laws.proofs.parsed.parsed_is_sound.Goals as goal

pub returns : goal.returns
returns c bytes tree is = sound_tree bytes tree is
