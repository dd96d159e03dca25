-- Answers to the goals of `log::made_by` that the prover leaves.
use Rattle.std.proofs.Common.{rules, arith, sym, refl, deque_len}
use Rattle.std.proofs.lemmas.Fn.{always_returns_same}
use Rattle.mk_base.specs.Tiers.{up_to}
use Rattle.mk_buffers_log.proofs.Ascending.{all_pass, partitioned, made_downward}
use Rattle.mk_buffers_log.proofs.log.made_by.Goals as goal

pub returns-in-Some-clause-cut : goal.returns-in-Some-clause-cut
returns-in-Some-clause-cut c = all_pass (λ t. up_to t c.args.at) (made_downward c.args.at) c.args.entries.now.items c.in-Some.last.now c.len.result (deque_len c.args.entries.now) c.len.ensures (omega arith) c.requires
    (c.in-Some.ensures.variant.0 refl) c.in-Some.ensures.lookup (rw (← c.at.ensures.same) (sym c.if-is_up_to.ensures))

pub returns-in_default-clause-cut : goal.returns-in_default-clause-cut
returns-in_default-clause-cut c = c.partition_point.ensures.partitioned (λ t. up_to t.at c.args.at) (always_returns_same _ _ _ (λ a r f' k. search rules))
    (partitioned (λ t. up_to t c.args.at) (made_downward c.args.at) c.args.entries.now.items c.requires)
