-- Answers to the goals of `metadata::put_hybrid` that the prover leaves.
use Rattle.std.proofs.Common.{true, List, ℕ, [], ◌∷◌, option_to_list, codes, ap, ◌∙◌}
use Rattle.std.proofs.lemmas.Result.{on_ok_weaker}
use Rattle.mk_base.specs.declared.json.Json as tree
use Rattle.mk_local.specs.Kinds.{attrs_of, input_of, output_of, setting_of}
use Rattle.mk_local.specs.Metadata.{texts}
use Rattle.mk_local.proofs.Described.{described, with}
use Rattle.mk_local.proofs.metadata.put_hybrid.Goals as goal

pub returns : goal.returns
returns c = on_ok_weaker c.put_trigger.result (λ last. described (texts (attrs_of c.args.turn)) (texts (output_of c.args.turn ∷ [])) (texts (setting_of c.args.turn ∷ [])) (tree.Bool true) (texts (option_to_list (input_of c.args.turn))) c.args.members.now
    c.put_attrs.new.members c.put_one_text.new.members c.put_one_text-2.new.members c.put.new.members c.put_trigger.new.members
    c.requires c.in_ok-put_attrs.ensures
    (c.in_ok-put_one_text.ensures ∙ ap (λ (n : List ℕ). with c.put_attrs.new.members (codes "non-persistent") (texts (n ∷ []))) c.output_of.ensures)
    (c.in_ok-put_one_text-2.ensures ∙ ap (λ (n : List ℕ). with c.put_one_text.new.members (codes "params") (texts (n ∷ []))) c.setting_of.ensures)
    c.in_ok-put.ensures last) c.put_trigger.ensures
