-- Answers to the goals of `meta::models_from` that the prover leaves.
use Rattle.std.proofs.Common.{arith, sym, ap, ◌∙◌, ◌≡◌, subst, map, take, IfOk}
use Rattle.std.proofs.lemmas.List.{take_all}
use Rattle.mk_base.specs.Verdicts.{all_well}
use Rattle.mk_meta.specs.declared.meta.ModelMeta.{ModelMeta}
use Rattle.mk_meta.specs.Metadata.{model_in}
use Rattle.mk_meta.proofs.Gathering.{first_fault, more_well, more_named}
use Rattle.mk_meta.proofs.Known.{all_known}
use Rattle.mk_meta.proofs.Names.{models_listed, name_of, described_as}
use Rattle.mk_meta.proofs.meta.models_from.Goals as goal

pub returns-in-Err-clause-told : goal.returns-in-Err-clause-told
returns-in-Err-clause-told c = sym (first_fault c.entries-entries.result.now c.loop-name.name-index c.loop-name-item.result c.loop-name-test.true c.loop-name-item.is (model_in c.args.kind) c.in-Err.fault c.loop-name.models (sym c.in_ok-model.ensures.told ∙ c.in-Err.is) c.loop-name.invariant.told)
    ∙ ap (λ entries. all_well (map (model_in c.args.kind) entries)) c.entries-entries.ensures.items

pub loop-name-preserved : goal.loop-name-preserved
loop-name-preserved c =
    let more = more_well c.entries-entries.result.now c.loop-name.name-index c.loop-name-item.result c.loop-name-test.true c.loop-name-item.is (model_in c.args.kind) c.in-Ok.model c.loop-name.models in
    let same = subst (λ r. IfOk r (λ (m : ModelMeta). m.name ≡ c.loop-name-item.result.0)) c.in-Ok.is c.in_ok-model.ensures.named in
    record {
      told = grind (arith, more);
      named = ap (map name_of) c.in_ok-push-in-Ok.ensures.ok ∙ more_named c.entries-entries.result.now c.loop-name.name-index c.loop-name-item.result c.loop-name-test.true c.loop-name-item.is described_as name_of c.in-Ok.model c.loop-name.models same c.loop-name.invariant.named;
    }

pub returns-clause-listed : goal.returns-clause-listed
returns-clause-listed c = models_listed c.args.described.now c.loop-name.models c.requires c.entries-entries.ensures.sorted
    (c.loop-name.invariant.named ∙ ap (map described_as) (take_all c.loop-name.name-index c.entries-entries.result.now c.loop-name-test.false ∙ c.entries-entries.ensures.items))

pub returns-clause-known : goal.returns-clause-known
returns-clause-known c = all_known c.args.kind (take c.loop-name.name-index c.entries-entries.result.now) c.loop-name.models c.loop-name.invariant.told
