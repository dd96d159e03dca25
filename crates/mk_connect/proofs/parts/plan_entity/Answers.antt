-- An entity's model and those that it is related to stand at its number.
use Rattle.std.proofs.Common.{ap, arith, sym, ◌+◌, length, map, ◌∙◌, ◌≡◌, ◌<◌, ℕ, List, [], Some, unwrap_or}
use Rattle.std.specs.List.{range_with_len}
use Rattle.std.specs.Prelude.{option_and_then, slice_get}
use Rattle.mk_base.proofs.Lists.{get_is}
use Rattle.mk_connect_pairs.specs.Models.{model_number}
use Rattle.mk_connect.specs.Related.{pairs_of, related}
use Rattle.mk_connect.proofs.ByPlaces.{range_get}
use Rattle.mk_connect_pairs.proofs.Modelled.{number_there}
use Rattle.mk_connect.proofs.parts.plan_entity.Goals as goal

zero_more : (n : ℕ) → 0 + n ≡ n
zero_more n = omega arith

placed : (count : ℕ) (pairs : List (ℕ × ℕ)) (relations : List (List ℕ)) (i : ℕ) → relations ≡ map (related count pairs) (range_with_len 0 count) → i < count → slice_get relations i ≡ Some (related count pairs i)
placed count pairs relations i are below = ap (λ l. slice_get l i) are ∙ range_get (related count pairs) 0 count i below ∙ ap (λ n. Some (related count pairs n)) (zero_more i)

pub related_at-requires : goal.related_at-requires
related_at-requires c =
    let es = c.args.study.now.entities.now in
    (get_is c.args.relations.now c.args.i _ (placed (length es) (pairs_of es c.args.blocks.now) c.args.relations.now c.args.i c.requires.related (get_is es c.args.i c.args.entity.now c.requires.there).0)).0

pub returns : goal.returns
returns c =
    let es = c.args.study.now.entities.now in
    let models = c.args.study.now.models.now in
    let pairs = pairs_of es c.args.blocks.now in
    let i = c.args.i in
    let e = c.args.entity.now in
    let number : c.model_at.result ≡ unwrap_or (model_number models e) 0 =
    c.model_at.ensures ∙ ap (λ o. unwrap_or o 0) (sym (number_there models es c.args.study.now.numbers.now c.args.study.now.numbered i) ∙ ap (option_and_then (model_number models)) c.requires.there) in
    let relations : c.in_ok-related.related ≡ related (length es) pairs i =
    c.in_ok-related.ensures ∙ ap (λ o. unwrap_or o []) (placed (length es) pairs c.args.relations.now i c.requires.related (get_is es i e c.requires.there).0) in
    (λ k. record { model = number k; eid = c.in_ok-eid.ensures k; related = relations k })
