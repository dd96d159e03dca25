-- Answers to the goals of `members::no_members` that the prover leaves.
use Rattle.std.proofs.Common.{ap, length, ◌≡◌, ◌∙◌, ◌+◌, length-append, ◌∷◌, []}
use Rattle.mk_connect_pairs.proofs.Membership.{none_more}
use Rattle.mk_connect_pairs.proofs.members.no_members.Goals as goal

pub loop-preserved : goal.loop-preserved
loop-preserved c =
    let more = length-append c.loop.members.items (c.new.result ∷ []) in
    let longer : length c.push.new.self.items ≡ c.loop.counter + 1 = ap length c.in_ok-push.ensures.items ∙ more ∙ ap (λ n. n + 1) c.loop.invariant.0 in
    (longer, none_more c.loop.members.items c.push.new.self.items c.new.result c.loop.invariant.1 c.new.ensures c.in_ok-push.ensures.items)
