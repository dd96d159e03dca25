-- Answers to the goals of `read::take_message` that the prover leaves.
use Rattle.std.proofs.lemmas.Grind.{common_steps}
use Rattle.std.proofs.Common.{arith}
use Rattle.mk_record_read.proofs.Sound.{arrived-sound}
use Rattle.mk_record_read.proofs.read.take_message.Goals as goal

pub returns : goal.returns
returns c = record {
  ok = grind (arith, common_steps);
  err = tt;
  sound = let s = arrived-sound c.args.progress.now c.place-progress.result c.in_ok-arrival.arrival c.place-progress.ensures c.requires.sound c.requires.valid c.in_ok-arrival.ensures.known in rw c.in_ok-push.ensures.ok s;
}
