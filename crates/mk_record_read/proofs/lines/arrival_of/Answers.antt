-- Answers to the goals of `lines::arrival_of` that the prover leaves.
use Rattle.std.proofs.Common.{sym, ap, ◌∙◌}
use Rattle.mk_base.specs.Trees.{is_in_range}
use Rattle.mk_json.proofs.LevelTests.{range-List}
use Rattle.mk_record_read.proofs.Sound.{result-known}
use Rattle.mk_record_read.proofs.lines.arrival_of.Goals as goal

pub returns-in-List-clause-known : goal.returns-in-List-clause-known
returns-in-List-clause-known c = λ fits. result-known c.args.plan.now c.in-List.items c.arrival_among.result c.arrival_among.ensures.ok (sym (range-List c.in-List.items) ∙ sym (ap is_in_range c.in-List.is) ∙ fits)
