-- Answers to the goals of `references::in_group` that the prover leaves.
use Rattle.std.proofs.Common.{◌≡◌, Ok, IfOk, IfErr, List, ℕ, true, false, ap, ◌∙◌, sym, subst}
use Rattle.mk_scenario_keys.specs.Tests.{IsFaultOf}
use Rattle.mk_scenario.specs.References.{but_last, entity_at, whole, has_byte, ends_with}
use Rattle.mk_scenario.specs.inner.References.{IsAround}
use Rattle.mk_scenario.proofs.Referring.{with_index, without_end}
use Rattle.mk_scenario.proofs.references.in_group.Goals as goal

pub returns-then-ends_with_bracket-clause-ok : goal.returns-then-ends_with_bracket-clause-ok
returns-then-ends_with_bracket-clause-ok c =
    let groups = c.args.groups.now in
    let path = c.args.path.now in
    let text = c.args.text.now in
    let id = c.in-Some.id.now in
    let around = subst (λ (t : List ℕ). IsAround 91 t id c.in-Some.rest.now) c.as_str.ensures c.in-Some.ensures in
    let ends : ends_with 93 text ≡ true = ap (ends_with 93) (sym c.bytes.ensures.same) ∙ sym c.ends_with_bracket.ensures ∙ c.if-ends_with_bracket.true in
    let digits : c.but_last.result.now ≡ but_last c.in-Some.rest.now = c.but_last.ensures ∙ ap but_last c.as_bytes.ensures.value in
    subst (λ verdict. IfOk c.entity_at.result (λ place. verdict ≡ Ok place))
    (ap (entity_at groups path text id) digits ∙ sym (with_index groups path text id c.in-Some.rest.now around ends)) c.entity_at.ensures.ok

pub returns-then-ends_with_bracket-clause-refused :
    goal.returns-then-ends_with_bracket-clause-refused
returns-then-ends_with_bracket-clause-refused c =
    let groups = c.args.groups.now in
    let path = c.args.path.now in
    let text = c.args.text.now in
    let id = c.in-Some.id.now in
    let around = subst (λ (t : List ℕ). IsAround 91 t id c.in-Some.rest.now) c.as_str.ensures c.in-Some.ensures in
    let ends : ends_with 93 text ≡ true = ap (ends_with 93) (sym c.bytes.ensures.same) ∙ sym c.ends_with_bracket.ensures ∙ c.if-ends_with_bracket.true in
    let digits : c.but_last.result.now ≡ but_last c.in-Some.rest.now = c.but_last.ensures ∙ ap but_last c.as_bytes.ensures.value in
    subst (λ verdict. IfErr c.entity_at.result (λ e. IsFaultOf verdict e))
    (ap (entity_at groups path text id) digits ∙ sym (with_index groups path text id c.in-Some.rest.now around ends)) c.entity_at.ensures.refused

pub returns-else-ends_with_bracket-clause-ok : goal.returns-else-ends_with_bracket-clause-ok
returns-else-ends_with_bracket-clause-ok c =
    let path = c.args.path.now in
    let text = c.args.text.now in
    let has : has_byte 91 text ≡ true = ap (has_byte 91) (sym c.as_str.ensures) ∙ c.in-Some.ensures.0 in
    let ends : ends_with 93 text ≡ false = ap (ends_with 93) (sym c.bytes.ensures.same) ∙ sym c.ends_with_bracket.ensures ∙ c.if-ends_with_bracket.false in
    subst (λ verdict. IfOk c.whole.result (λ place. verdict ≡ Ok place))
    (ap (λ ids. whole ids path text) c.requires ∙ sym (without_end c.args.groups.now path text has ends)) c.whole.ensures.ok
