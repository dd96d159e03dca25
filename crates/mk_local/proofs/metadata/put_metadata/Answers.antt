-- The members that are put are those of the description.
use Rattle.std.proofs.Common.{List, ℕ, [], ◌∷◌, codes, ap, ◌∙◌}
use Rattle.std.proofs.lemmas.Result.{on_ok_weaker}
use Rattle.mk_base.specs.declared.json.Json as tree
use Rattle.mk_base.specs.Names.{kind_name}
use Rattle.mk_local.specs.Kinds.{model_of, type_of}
use Rattle.mk_local.specs.Metadata.{description}
use Rattle.mk_local.proofs.Described.{Members, told, with}
use Rattle.mk_local.proofs.metadata.put_metadata.Goals as goal

pub returns : goal.returns
returns c = on_ok_weaker c.put_text-2.result (λ last. ap (λ (ms : Members). tree.Object ms)
    (told (tree.Text (codes "3.0")) (tree.Object ((model_of c.args.turn, tree.Object (description (type_of c.args.turn) c.args.turn)) ∷ [])) (tree.Text (kind_name (type_of c.args.turn))) c.args.members.now
    c.put_text.new.members c.put_models.new.members c.put_text-2.new.members
    c.requires c.in_ok-put_text.ensures c.in_ok-put_models.ensures
    (last ∙ ap (λ (n : List ℕ). with c.put_models.new.members (codes "type") (tree.Text n)) (c.name.ensures ∙ ap kind_name c.type_of.ensures)))) c.put_text-2.ensures
