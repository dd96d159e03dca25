-- Answers to the goals of `json::+whole` that the prover leaves.
use Rattle.std.proofs.Common.{sym, ap, ◌∙◌}
use Rattle.mk_base.specs.Trees.{is_whole}
use Rattle.mk_base.proofs.Levels.{whole_null, whole_bool, whole_number, whole_odd, whole_text, whole_items, whole_members}
use Rattle.mk_base.proofs.json.+whole.Goals as goal

pub is_whole-returns-in-Null : goal.is_whole-returns-in-Null
is_whole-returns-in-Null t c = sym (ap is_whole c.in-Null.is ∙ whole_null)

pub is_whole-returns-in-Bool : goal.is_whole-returns-in-Bool
is_whole-returns-in-Bool t c = sym (ap is_whole c.in-Bool.is ∙ whole_bool _)

pub is_whole-returns-in-Whole : goal.is_whole-returns-in-Whole
is_whole-returns-in-Whole t c = sym (ap is_whole c.in-Whole.is ∙ whole_number _)

pub is_whole-returns-in-Odd : goal.is_whole-returns-in-Odd
is_whole-returns-in-Odd t c = sym (ap is_whole c.in-Odd.is ∙ whole_odd)

pub is_whole-returns-in-Text : goal.is_whole-returns-in-Text
is_whole-returns-in-Text t c = sym (ap is_whole c.in-Text.is ∙ whole_text _)

pub is_whole-returns-in-List : goal.is_whole-returns-in-List
is_whole-returns-in-List t c = c.are_whole.ensures ∙ sym (ap is_whole c.in-List.is ∙ whole_items _)

pub is_whole-returns-in-Object : goal.is_whole-returns-in-Object
is_whole-returns-in-Object t c = c.have_whole.ensures ∙ sym (ap is_whole c.in-Object.is ∙ whole_members _)
