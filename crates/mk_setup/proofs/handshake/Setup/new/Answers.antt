-- Answers to the goals of `handshake::Setup::new` that the prover leaves.
use Rattle.std.proofs.Common.{◌∙◌, ℕ, List, None, ap, sym, subst, replicate}
use Rattle.mk_meta.specs.declared.meta.Meta.{Meta}
use Rattle.mk_entities.specs.declared.entities.EntityInfo.{EntityInfo}
use Rattle.mk_setup.specs.Handshakes.{begun}
use Rattle.mk_setup.specs.inner.Standing.{IsSoundSetup}
use Rattle.mk_setup.proofs.Stepping.{begun_stands}
use Rattle.mk_setup.proofs.handshake.Setup.new.Goals as goal

pub invariant_of-result : goal.invariant_of-result
invariant_of-result c =
    subst (λ (ms : List Meta). IsSoundSetup (record (begun c.args.scenario c.args.ranks) { metas = ms; entities = c.new-2.result }) c.in_ok-ids.ids None) (sym c.new.ensures)
    (subst (λ (es : List EntityInfo). IsSoundSetup (record (begun c.args.scenario c.args.ranks) { entities = es }) c.in_ok-ids.ids None) (sym c.new-2.ensures)
    (begun_stands c.args.scenario c.args.ranks c.in_ok-ids.ids c.requires.wellformed c.requires.ranked (c.in_ok-ids.ensures ∙ ap (λ (n : ℕ). replicate n 0) c.len.ensures)))
