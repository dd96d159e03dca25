-- Answers to the goals of `turns::OpenTurns::push` that the prover leaves.
use Rattle.std.proofs.Common.{ap, sym, ◌∙◌}
use Rattle.mk_sched_agenda.specs.inner.Counts.{open_among}
use Rattle.mk_sched_agenda.proofs.Counting.{none_more}
use Rattle.mk_sched_agenda.proofs.turns.OpenTurns.push.Goals as goal

pub invariant_of-self-2 : goal.invariant_of-self-2
invariant_of-self-2 c = c.self.invariant ∙ sym (ap open_among c.in_ok-push.ensures.items ∙ none_more c.self.inside.flags.items)
