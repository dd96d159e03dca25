-- proofs/record/bytes_of/Answers.antt
use Rattle.std.proofs.Common.{ℕ, ◌<◌, ◌^◌, List, length, ap, ◌∙◌, subst}
use Rattle.mk_plan.specs.declared.Entry.{Entry}
use Rattle.mk_record_read.specs.Entries.{entries_of}
use Rattle.mk_record_write.proofs.record.bytes_of.Goals as goal

pub returns-clause-names : goal.returns-clause-names
returns-clause-names c = c.in_ok-put_plan.ensures.utf8

pub returns-clause-datums : goal.returns-clause-datums
returns-clause-datums c = c.in_ok-put_plan.ensures.datums

pub returns-clause-few : goal.returns-clause-few
returns-clause-few c = subst (λ (n : ℕ). n < 2 ^ 64) (c.line_count.ensures ∙ ap (λ (l : List Entry). length (entries_of l)) c.as_slice-entries.ensures) c.in_ok-put_end.ensures.few
