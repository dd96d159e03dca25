-- Answers to the goals of `given::given_values` that the prover leaves.
use Rattle.std.proofs.Common.{◌≡◌, List, Some, All, IsSome, option_map, sym, ap, subst, ◌∙◌}
use Rattle.std.proofs.lemmas.Result.{IfOk-weaker}
use Rattle.mk_plan.specs.declared.SetValue.{SetValue}
use Rattle.mk_plan.specs.Asks.{sets_in}
use Rattle.mk_async.specs.Asked.{IsGivenBy, asked_in, is_asked_in_range}
use Rattle.mk_async.specs.inner.Given.{values_in}
use Rattle.mk_async.specs.declared.request.Asked.{Asked}
use Rattle.mk_async.specs.inner.Known.{knows_asked}
use Rattle.mk_async.proofs.Giving.{gathered, sources_pass}
use Rattle.mk_async.proofs.Judging.{known_asked}
use Rattle.mk_async.proofs.Sourcing.{values_given}
use Rattle.mk_async.proofs.given.given_values.Goals as goal

pub values_in-requires-clause-values : goal.values_in-requires-clause-values
values_in-requires-clause-values c = sources_pass c.in-Set.sources.now (subst (λ (a : Asked). IsSome (asked_in a)) c.in-Set.is c.requires.form) (sym (ap is_asked_in_range c.in-Set.is) ∙ c.requires.range)

pub returns-in-Set-clause-sets : goal.returns-in-Set-clause-sets
returns-in-Set-clause-sets c = IfOk-weaker c.values_in.result (λ (sets : List SetValue). sets ≡ values_in c.args.plan.now c.in-Set.sources.now) (λ (sets : List SetValue). option_map (sets_in c.args.plan.now) (asked_in c.args.asked.now) ≡ Some sets)
    (λ sets is. ap (λ (a : Asked). option_map (sets_in c.args.plan.now) (asked_in a)) c.in-Set.is
    ∙ gathered c.args.plan.now c.in-Set.sources.now sets (subst (λ (a : Asked). IsSome (asked_in a)) c.in-Set.is c.requires.form) is) c.values_in.ensures

pub returns-in-Set-clause-given : goal.returns-in-Set-clause-given
returns-in-Set-clause-given c = λ s known. IfOk-weaker c.values_in.result (λ (sets : List SetValue). sets ≡ values_in c.args.plan.now c.in-Set.sources.now) (λ (sets : List SetValue). All (IsGivenBy c.args.plan.now s) sets)
    (λ sets is. values_given c.args.plan.now s c.in-Set.sources.now
    (sources_pass c.in-Set.sources.now (subst (λ (a : Asked). IsSome (asked_in a)) c.in-Set.is c.requires.form) (sym (ap is_asked_in_range c.in-Set.is) ∙ c.requires.range))
    (ap (knows_asked c.args.plan.now s) (sym c.in-Set.is) ∙ known_asked c.args.plan.now s c.args.asked.now known) sets is) c.values_in.ensures
