-- Answers to the goals of `turns::OpenTurns::is_any_open` that the prover leaves.
use Rattle.std.proofs.Common.{ap, ◌∙◌, nat_lt, Bool}
use Rattle.std.specs.List.{list_any}
use Rattle.mk_sched_agenda.proofs.Counting.{some_open}
use Rattle.mk_sched_agenda.proofs.turns.OpenTurns.is_any_open.Goals as goal

pub returns : goal.returns
returns c = ap (nat_lt 0) c.self.invariant ∙ some_open c.self.inside.flags.items ∙ ap (list_any (λ (b : Bool). b)) c.self.view_is
