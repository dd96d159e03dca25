-- An entity that is found by its full id is one of the plan's.
use Rattle.std.proofs.Common.{◌≡◌, ℕ, zero, suc, ◌+◌, ◌<◌, Bool, true, false, cond, List, length, Option, Some, None, option_map, unwrap_or, refl, sym, ap, ◌∙◌, arith, true≢false}
use Rattle.std.specs.Prelude.{IfSome}
use Rattle.std.specs.List.{find, range_with_len}
use Rattle.mk_base.specs.Lists.{same_text}
use Rattle.mk_base.proofs.Lists.{some_same, none_some}
use Rattle.mk_plan.specs.declared.Plan.{Plan}
use Rattle.mk_plan.specs.Plans.{full_id}
use Rattle.mk_plan.specs.Asks.{entity_of, of_entity}
use Rattle.mk_base.proofs.Guessing.{text_is}
use Rattle.mk_base.proofs.Items.{found_below}

pub entity_inside : (P : Plan) (id : List ℕ) (found : Option ℕ) → found ≡ entity_of P id → IfSome found (λ e. e < length P.entities)
entity_inside P id None is = tt
entity_inside P id (Some e) is = let within : e < 0 + length P.entities = found_below (λ e. same_text (full_id P e) id) 0 (length P.entities) e (sym is) in omega (arith, within)

found_passes : (test : ℕ → Bool) (a n e : ℕ) → find test (range_with_len a n) ≡ Some e → test e ≡ true
found_passes test a zero e h = absurd (none_some h)
found_passes test a (suc n) e h = by (found_passes test (a + 1) n e) (test a) refl h
  where
    by : (find test (range_with_len (a + 1) n) ≡ Some e → test e ≡ true) → (b : Bool) → test a ≡ b → cond b (Some a) (find test (range_with_len (a + 1) n)) ≡ Some e → test e ≡ true
    by rest true is h = ap test (sym (some_same h)) ∙ is
    by rest false is h = rest h

-- an entity that passes a test, under its full id
pub entity_named : (P : Plan) (id : List ℕ) (test : ℕ → Bool) → of_entity P id test ≡ true → (e : ℕ) × (e < length P.entities) × (test e ≡ true) × (id ≡ full_id P e)
entity_named P id test h = by (entity_of P id) refl h
  where
    by : (o : Option ℕ) → entity_of P id ≡ o → unwrap_or (option_map test o) false ≡ true → (e : ℕ) × (e < length P.entities) × (test e ≡ true) × (id ≡ full_id P e)
    by None is h = absurd (true≢false (sym h))
    by (Some e) is h = (e, entity_inside P id (Some e) (sym is), h, sym (text_is (full_id P e) id (found_passes (λ e. same_text (full_id P e) id) 0 (length P.entities) e is)))
