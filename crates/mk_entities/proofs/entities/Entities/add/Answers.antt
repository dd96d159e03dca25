-- Answers to the goals of `entities::Entities::add` that the prover leaves.
use Rattle.std.proofs.Common.{◌∙◌, subst, sym}
use Rattle.mk_base.specs.Lists.{Each}
use Rattle.mk_entities.proofs.Sounding.{IsNamed, families_named}
use Rattle.mk_entities.proofs.Tying.{tied_again}
use Rattle.mk_entities.proofs.entities.Entities.add.Goals as goal

pub invariant_of-self-2 : goal.invariant_of-self-2
invariant_of-self-2 c = tied_again c.extend.result c.self.inside.kept.items c.extend.new.kept.items c.self.inside.names.items c.grow.new.names.items c.args.sim c.args.group c.args.model.now c.args.meta.now c.as_slice.result.now c.extend.new.names
    c.self.invariant c.grow.ensures.same c.in_ok-grow.ensures.room c.extend.ensures.ok c.extend.ensures.unchanged c.extend.ensures.few c.extend.ensures.tied
    (subst (Each IsNamed) (sym (c.as_slice.ensures ∙ c.in_ok-entities.ensures)) (families_named c.items-outer.result.now))
