-- Answers to the goals of `scribe::end` that the prover leaves.
use Rattle.std.proofs.Common.{length, ◌==◌, refl, sym, ap, ◌∙◌}
use Rattle.mk_scribe.proofs.Closing.{all_or_refused, closes, closes_short, none_left, short_refused, some_left}
use Rattle.mk_scribe.proofs.scribe.end.Goals as goal

pub returns-then-is_empty-clause-closes : goal.returns-then-is_empty-clause-closes
returns-then-is_empty-clause-closes g c = closes _ _ _ c.args.sheet.now _ refl c.requires c.hand_over.ensures (none_left c.hand_over.new.lines.items (ap (λ l. length l == 0) (sym c.as_slice.ensures.value) ∙ sym c.is_empty.ensures ∙ c.if-is_empty.true)) _ c.put_end.ensures

pub returns-then-is_empty-clause-all : goal.returns-then-is_empty-clause-all
returns-then-is_empty-clause-all g c = all_or_refused _ _ _ c.args.sheet.now _ refl c.requires c.hand_over.ensures (none_left c.hand_over.new.lines.items (ap (λ l. length l == 0) (sym c.as_slice.ensures.value) ∙ sym c.is_empty.ensures ∙ c.if-is_empty.true)) _ c.put_end.ensures

pub returns-else-is_empty-clause-closes : goal.returns-else-is_empty-clause-closes
returns-else-is_empty-clause-closes g c = closes_short _ _ c.args.sheet.now _ refl c.hand_over.ensures (some_left c.hand_over.new.lines.items (ap (λ l. length l == 0) (sym c.as_slice.ensures.value) ∙ sym c.is_empty.ensures ∙ c.if-is_empty.false))

pub returns-else-is_empty-clause-all : goal.returns-else-is_empty-clause-all
returns-else-is_empty-clause-all g c = short_refused _ _ _ _ c.hand_over.ensures (some_left c.hand_over.new.lines.items (ap (λ l. length l == 0) (sym c.as_slice.ensures.value) ∙ sym c.is_empty.ensures ∙ c.if-is_empty.false))
