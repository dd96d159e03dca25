-- Answers to the goals of `members::gathered` that the prover leaves.
use Rattle.std.proofs.Common.{refl, sym, ◌∙◌, subst}
use Rattle.mk_json.proofs.Gathering.{Rises, in_order}
use Rattle.mk_json.proofs.members.gathered.Goals as goal

pub returns-then-rises : goal.returns-then-rises
returns-then-rises c = c.in_place.ensures ∙ sym (in_order c.args.all (subst Rises c.as_slice.ensures (c.if-rises.ensures refl)))
