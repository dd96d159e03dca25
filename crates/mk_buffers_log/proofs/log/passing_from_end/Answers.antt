-- Answers to the goals of `log::passing_from_end` that the prover leaves.
use Rattle.std.proofs.Common.{rules, arith, sym, refl, deque_len}
use Rattle.std.proofs.lemmas.Fn.{always_returns_same}
use Rattle.mk_buffers_log.specs.inner.Logs.{does_come}
use Rattle.mk_buffers_log.proofs.Ascending.{all_pass, partitioned, comes_downward}
use Rattle.mk_buffers_log.proofs.log.passing_from_end.Goals as goal

pub returns-in-Some-clause-cut : goal.returns-in-Some-clause-cut
returns-in-Some-clause-cut c = all_pass (does_come c.args.via c.args.until c.args.at) (comes_downward c.args.via c.args.until c.args.at) c.args.entries.now.items c.in-Some.last.now c.len.result (deque_len c.args.entries.now) c.len.ensures (omega arith) c.requires
    (c.in-Some.ensures.variant.0 refl) c.in-Some.ensures.lookup (rw (← c.at.ensures.same) (sym c.if-is_delivered.ensures))

pub returns-in_default-clause-cut : goal.returns-in_default-clause-cut
returns-in_default-clause-cut c = c.partition_point.ensures.partitioned (λ t. does_come c.args.via c.args.until c.args.at t.at) (always_returns_same _ _ _ (λ a r f' k. search rules))
    (partitioned (does_come c.args.via c.args.until c.args.at) (comes_downward c.args.via c.args.until c.args.at) c.args.entries.now.items c.requires)
