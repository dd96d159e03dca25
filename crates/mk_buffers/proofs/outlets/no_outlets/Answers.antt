-- Answers to the goals of `outlets::no_outlets` that the prover leaves.
use Rattle.std.proofs.Common.{arith, sym, ap, ◌∙◌, slice_get}
use Rattle.mk_buffers.proofs.Collecting.{outlets_none, replicated}
use Rattle.mk_buffers.proofs.outlets.no_outlets.Goals as goal

pub returns : goal.returns
returns c = outlets_none c.args.plan.now _ c.new.ensures.items (λ e part at. ap (λ p. p.first) (replicated _ _ part e (sym (ap (λ l. slice_get l e) (c.in_ok-of_entity.ensures.items_if_clones_equal (λ y h. h))) ∙ at)))
    (omega (arith, c.in_ok-of_conn.ensures.len, c.len.ensures)) (omega (arith, c.in_ok-of_entity.ensures.len, c.len-2.ensures))
