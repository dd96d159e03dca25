-- Answers to the goals of `members::put_member` that the prover leaves.
use Rattle.std.proofs.Common.{arith, subst, sym, Some, List, ℕ, slice_set}
use Rattle.mk_connect_pairs.specs.inner.Lookups.{HasMember}
use Rattle.mk_connect_pairs.proofs.Membership.{member_kept, member_put}
use Rattle.mk_connect_pairs.proofs.members.put_member.Goals as goal

pub returns-in_ok-push : goal.returns-in_ok-push
returns-in_ok-push c =
    let old = c.args.members.now.items in
    subst (λ g. HasMember old g c.args.number (slice_set old c.in-Some.group c.push.new.self)) (sym c.in-Some.is)
    (subst (λ (l : List ℕ). HasMember old (Some c.in-Some.group) c.args.number (slice_set old c.in-Some.group l)) (sym c.in_ok-push.ensures.ok)
    (member_put old c.in-Some.group c.args.number c.index_mut.result.now _ (omega arith) c.index_mut.ensures.value))

pub returns-else-place-len : goal.returns-else-place-len
returns-else-place-len c =
    let old = c.args.members.now.items in
    subst (λ g. HasMember old g c.args.number old) (sym c.in-Some.is) (member_kept old c.in-Some.group c.args.number (omega arith))
