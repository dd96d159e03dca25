-- Answers to the goals of `members::members_of` that the prover leaves.
use Rattle.std.proofs.Common.{◌∙◌}
use Rattle.mk_connect_pairs.proofs.Membership.{members_more}
use Rattle.mk_connect_pairs.proofs.members.members_of.Goals as goal

pub loop-number-preserved : goal.loop-number-preserved
loop-number-preserved c =
    let step = c.in_ok-put_member.ensures in
    (step.count ∙ c.loop-number.invariant.0, members_more c.args.entities.now c.loop-number.number c.index-entities-number.result c.loop-number.members.items c.put_member.new.members.items c.loop-number-test.true c.index-entities-number.is c.loop-number.invariant.1 step)
