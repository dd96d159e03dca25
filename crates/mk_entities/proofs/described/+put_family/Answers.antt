-- Answers to the goals of `described::+put_family` that the prover leaves.
use Rattle.std.proofs.Common.{◌∙◌, ◌++◌, ◌∷◌, ap, sym, true, arith, flat_map}
use Rattle.std.proofs.lemmas.List.{take_all}
use Rattle.mk_entities.specs.Descriptions.{described, family}
use Rattle.mk_entities.proofs.Families.{child_nests, family_is, in_children}
use Rattle.mk_entities.proofs.described.+put_family.Goals as goal

pub put_family-requires : goal.put_family-requires
put_family-requires t c = let h = child_nests c.args.tree.now c.child-item.result (in_children c.children_of-children.result.now c.loop-child.child-index c.child-item.result c.args.tree.now c.loop-child-test.true c.child-item.is c.loop-child.invariant.0) in (omega (arith, c.decreases), tt)

pub returns : goal.returns
returns t c = c.loop-child.invariant.1
    ∙ ap (λ l. c.args.into.now ++ described c.args.is_child c.args.tree.now ∷ flat_map (family true) l) (take_all c.loop-child.child-index c.children_of-children.result.now c.loop-child-test.false ∙ c.loop-child.invariant.0)
    ∙ ap (λ l. c.args.into.now ++ l) (sym (family_is c.args.is_child c.args.tree.now))
