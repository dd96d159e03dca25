-- Answers to the goals of `holds::Holds::first` that the prover leaves.
use Rattle.std.proofs.Common.{IfSome, List, subst}
use Rattle.mk_pace_held.specs.declared.held.Held.{Held}
use Rattle.mk_pace_held.specs.Firsts.{IsFirst}
use Rattle.mk_pace_held.proofs.Changing.{least_is_first}
use Rattle.mk_pace_held.proofs.holds.Holds.first.Goals as goal

pub returns-clause-some : goal.returns-clause-some
returns-clause-some c = subst (λ (lists : List (List Held)). IfSome c.root.result (λ f. IsFirst f lists)) c.self.view_is (least_is_first c.root.result c.self.inside.firsts c.self.inside.queues.items c.self.invariant c.root.ensures)
