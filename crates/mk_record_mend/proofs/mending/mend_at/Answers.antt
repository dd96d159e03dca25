-- Answers to the goals of `mending::mend_at` that the prover leaves.
use Rattle.std.proofs.Common.{◌++◌, ◌∙◌, ap, sym, take}
use Rattle.std.specs.Fmt.{decimal}
use Rattle.std.specs.Prelude.{codes}
use Rattle.mk_record_mend.proofs.Ends.{left_at, mended_at}
use Rattle.mk_record_mend.proofs.mending.mend_at.Goals as goal

pub returns-then-not-is_entry : goal.returns-then-not-is_entry
returns-then-not-is_entry c = left_at c.args.bytes.now.items (take c.args.end c.as_slice.result.now) c.args.end c.requires (ap (take c.args.end) c.as_slice.ensures.value) (c.last_line.ensures ∙ sym c.is_entry.ensures ∙ c.if-not-is_entry.true)

pub returns : goal.returns
returns c = mended_at c.args.bytes.now.items (take c.args.end c.as_slice.result.now) c.put-2.new.out.items c.args.end c.entries_in-count.result c.requires (ap (take c.args.end) c.as_slice.ensures.value)
    (c.last_line.ensures ∙ sym c.is_entry.ensures ∙ c.if-not-is_entry.false) c.entries_in-count.ensures
    (c.in_ok-put-2.ensures ∙ ap (λ l. l ++ codes "\n") (c.in_ok-put_unsigned.ensures ∙ ap (λ l. l ++ decimal c.entries_in-count.result) (c.in_ok-put.ensures ∙ ap (λ l. l ++ codes "end ") c.truncate.ensures.items)))
