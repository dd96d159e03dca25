-- Answers to the goals of `related::full_id` that the prover leaves.
use Rattle.std.proofs.Common.{length, arith}
use Rattle.mk_plan.specs.Plans.{full_id}
use Rattle.mk_plan_names.proofs.Indexing.{ids_count}
use Rattle.mk_async.proofs.related.full_id.Goals as goal

pub full_id-requires : goal.full_id-requires
full_id-requires c = let count = ids_count (full_id c.args.plan.now) c.args.names.now.ids.keys 0 (length c.args.plan.now.entities) c.requires.names.ids in omega (arith, count, c.requires.inside)
