-- How what is shown to two onlookers is shown to each.
use Rattle.std.proofs.Common.{Bool, List, [], ◌∷◌, ap}
use Rattle.mk_plan.specs.declared.Plan.{Plan}
use Rattle.mk_plan.specs.declared.Entry.{Entry}
use Rattle.mk_onlooker.specs.Showings.{IsShown, Saw}
use Rattle.mk_progress.specs.declared.both.Both.{Both}
use Rattle.mk_progress.specs.Both.{looks_of_both}

module _ {A B : Type 0} (first : A → Plan → List Entry → Bool → A → Type 0) (second : B → Plan → List Entry → Bool → B → Type 0) (P : Plan) (pause : Bool) where
  first_saw : (batches : List (List Entry)) (old new : Both A B) → Saw (looks_of_both first second) P pause batches old new → Saw first P pause batches old.first new.first
  first_saw [] old new saw = ap (λ (b : Both A B). b.first) saw
  first_saw (batch ∷ batches) old new saw = (saw.0.first, saw.1.0, first_saw batches saw.0 new saw.2)

  second_saw : (batches : List (List Entry)) (old new : Both A B) → Saw (looks_of_both first second) P pause batches old new → Saw second P pause batches old.second new.second
  second_saw [] old new saw = ap (λ (b : Both A B). b.second) saw
  second_saw (batch ∷ batches) old new saw = (saw.0.second, saw.1.1, second_saw batches saw.0 new saw.2)

  pub first_shown : (had J : List Entry) (old new : Both A B) → IsShown (looks_of_both first second) P pause had J old new → IsShown first P pause had J old.first new.first
  first_shown had J old new is = record {
    items = is.items;
    unheard = is.unheard;
    batches = is.batches;
    each = is.each;
    all = is.all;
    saw = first_saw (_ ∷ is.batches) old new is.saw;
  }

  pub second_shown : (had J : List Entry) (old new : Both A B) → IsShown (looks_of_both first second) P pause had J old new → IsShown second P pause had J old.second new.second
  second_shown had J old new is = record {
    items = is.items;
    unheard = is.unheard;
    batches = is.batches;
    each = is.each;
    all = is.all;
    saw = second_saw (_ ∷ is.batches) old new is.saw;
  }
