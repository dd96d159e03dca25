-- Answers to the goals of `sims::named_so` that the prover leaves.
use Rattle.std.proofs.Common.{arith, codes}
use Rattle.std.specs.Prelude.{option_and_then}
use Rattle.mk_base.specs.Lists.{same_text}
use Rattle.mk_base.specs.Trees.{member, text_in}
use Rattle.mk_scenario.proofs.Naming.{more_named}
use Rattle.mk_scenario.proofs.sims.named_so.Goals as goal
use Rattle.mk_scenario.proofs.sims.named_so.Goals.{then-is_named, else-is_named}

pub loop-table-preserved : goal.loop-table-preserved
loop-table-preserved c =
    let more = more_named (λ t. option_and_then text_in (member (codes "name") t)) (λ n. same_text n c.args.name.now) c.args.tables.now c.loop-table.table-index c.table-item.result c.loop-table-test.true c.table-item.is in
    record {
      told = grind (arith, more);
      few = grind (arith);
    }
