-- Answers to the goals of `fields::items_of` that the prover leaves.
use Rattle.std.proofs.Common.{◌∙◌, sym, ap}
use Rattle.std.specs.List.{list_all}
use Rattle.mk_base.specs.Trees.{is_in_range}
use Rattle.mk_json.proofs.LevelTests.{range-List}
use Rattle.mk_record_read.proofs.fields.items_of.Goals as goal

pub returns-in-List-clause-in_range : goal.returns-in-List-clause-in_range
returns-in-List-clause-in_range c = λ fits. ap (list_all is_in_range) c.as_slice.ensures ∙ sym (range-List c.in-List.items) ∙ ap is_in_range (sym c.in-List.is) ∙ fits
