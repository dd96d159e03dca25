-- The lesser of two times, both ways.
use Rattle.std.proofs.Common.{sym, ◌∙◌}
use Rattle.mk_buffers.proofs.Lesser.{first_lesser, second_lesser}
use Rattle.mk_buffers.proofs.forgetting.lesser_of.Goals as goal

pub returns-then-is_up_to : goal.returns-then-is_up_to
returns-then-is_up_to c = λ m. first_lesser c.args.one c.args.other m (sym c.is_up_to.ensures ∙ c.if-is_up_to.true)

pub returns-else-is_up_to : goal.returns-else-is_up_to
returns-else-is_up_to c = λ m. second_lesser c.args.one c.args.other m (sym c.is_up_to.ensures ∙ c.if-is_up_to.false)
