-- Answers to the goals of `members::Members::put` that the prover leaves.
use Rattle.mk_base.proofs.Putting.{put_keeps}
use Rattle.mk_base.proofs.members.Members.put.Goals as goal

pub invariant_of-self : goal.invariant_of-self
invariant_of-self g c = put_keeps c.args.name c.args.value c.put_entry.result c.self.inside.kept c.put_entry.new.entries c.put_entry.ensures.ok c.put_entry.ensures.err c.self.invariant
