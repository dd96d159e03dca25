-- The invariants and measures of the loops of `described::+put_family`.
use Rattle.std.proofs.Common.{◌≡◌, ◌++◌, ◌∷◌, flat_map, take, true}
use Rattle.mk_base.specs.Trees.{nesting}
use Rattle.mk_entities.specs.Descriptions.{children_in, described, family}
use Rattle.mk_entities.proofs.described.+put_family.Given as goal

abbrev pub decreases-put_family : goal.decreases-put_family
decreases-put_family l = nesting l.tree.now

abbrev pub invariant-loop-child : goal.invariant-loop-child
invariant-loop-child l = (l.children ≡ children_in l.tree) × (l.into ≡ l.fn.into ++ described l.is_child l.tree ∷ flat_map (family true) (take l.child-index l.children))
