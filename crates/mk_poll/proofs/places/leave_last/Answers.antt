-- Answers to the goals of `places::leave_last` that the prover leaves.
use Rattle.std.proofs.Common.{rules, ◌≡◌, ◌≤◌, ◌++◌, [], ◌∷◌, ap, sym, subst, ◌∙◌, List}
use Rattle.mk_base.specs.declared.LinkNo.{LinkNo}
use Rattle.mk_base.specs.Links.{without}
use Rattle.mk_poll.specs.Links.{times_in}
use Rattle.mk_poll.proofs.Apart.{last_left}
use Rattle.mk_poll.proofs.places.leave_last.Goals as goal

pub returns-then-last-link-clause-left : goal.returns-then-last-link-clause-left
returns-then-last-link-clause-left c =
    let is : c.args.links.now.items ≡ c.pop.new.self.items ++ c.args.link ∷ [] = search rules in
    last_left c.args.link c.pop.new.self.items (subst (λ (xs : List LinkNo). times_in c.args.link xs ≤ 1) is c.requires) ∙ sym (ap (without c.args.link) is)
