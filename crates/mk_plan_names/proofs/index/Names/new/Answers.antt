-- Answers to the goals of `index::Names::new` that the prover leaves.
use Rattle.std.proofs.Common.{length, arith}
use Rattle.mk_plan.specs.Plans.{full_id}
use Rattle.mk_plan_names.proofs.Indexing.{ids_count}
use Rattle.mk_plan_names.proofs.index.Names.new.Goals as goal

pub invariant_of-result : goal.invariant_of-result
invariant_of-result c = let count = ids_count (full_id c.args.plan.now) c.in_ok-ids.ids.keys 0 (length c.args.plan.now.entities) c.in_ok-ids.ensures in record { few = omega (arith, count, c.requires.few) }
