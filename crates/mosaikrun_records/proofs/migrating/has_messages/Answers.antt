-- Answers to the goals of `migrating::has_messages` that the prover leaves.
use Rattle.std.proofs.Common.{List, ℕ, ◌==◌, length, ap, ◌∙◌}
use Rattle.mk_plan.specs.declared.Entry.{Entry}
use Rattle.mk_plan.specs.Journals.{arrivals}
use Rattle.mosaikrun_records.proofs.migrating.has_messages.Goals as goal

pub returns : goal.returns
returns c = ap (λ (n : ℕ). n == c.args.count) (c.message_count.ensures ∙ ap (λ (l : List Entry). length (arrivals l)) c.as_slice.ensures)
