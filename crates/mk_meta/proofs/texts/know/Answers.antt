-- A text that is put into the set is in it.
use Rattle.std.proofs.Common.{◌∙◌}
use Rattle.mk_meta.proofs.Sets.{set_grown}
use Rattle.mk_meta.proofs.texts.know.Goals as goal

pub returns : goal.returns
returns c = set_grown c.args.known.now c.insert.new.self c.in_ok-from_str.field-0 c.args.text.now (c.in_ok-from_str.ensures.ok ∙ c.as_str.ensures) c.in_ok-insert.ensures.updates
