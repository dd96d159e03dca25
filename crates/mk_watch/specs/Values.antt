-- The values of an attribute in the inputs of a Step.
use Rattle.std.specs.Prelude.{ℕ, ℤ, Bool, ◌&&◌, List, filter_map, fold, Option, Some, None, option_map, if◌then◌else◌}
use Rattle.mk_base.specs.Lists.{same_text}
use Rattle.mk_plan.specs.declared.Input.{Input}
use Rattle.mk_plan.specs.declared.Item.{Item}
use Rattle.mk_plan.specs.declared.Item.TheVariants.{Step, GetData, Answer, Refuse}
use Rattle.mk_local.specs.Inputs.{number_in}
use Rattle.mk_watch_read.specs.declared.rule.Fold.{Fold}
use Rattle.mk_watch.specs.declared.rows.Row.{Row}
use Rattle.mk_watch_read.specs.Folds.{value_of}

-- the input is one of this entity's at this attribute
abbrev pub is_watched : List ℕ → List ℕ → Input → Bool
is_watched eid attr i = same_text i.eid eid && same_text i.attr attr

-- its number, if it is such an input; what isn't a whole number within 64 bits counts as 0
abbrev pub number_at : List ℕ → List ℕ → Input → Option ℤ
number_at eid attr i = if is_watched eid attr i then Some (number_in i.value) else None

-- the numbers of the entity at the attribute, in order
abbrev pub numbers_at : List ℕ → List ℕ → List Input → List ℤ
numbers_at eid attr inputs = filter_map (number_at eid attr) inputs

-- the value so far, and one more number
abbrev pub with_number : Fold → Option ℤ → ℤ → Option ℤ
with_number f None n = Some n
with_number f (Some v) n = Some (value_of f v n)

-- the value of these numbers, from the first on; none where there is no number
abbrev pub folded : Fold → List ℤ → Option ℤ
folded f numbers = fold (with_number f) None numbers

-- the row of an item: of a Step whose inputs have some of the entity at the attribute
abbrev pub row_of : Fold → List ℕ → List ℕ → Item → Option Row
row_of f eid attr (Step at inputs advance) =
    option_map (λ v. let r : Row = record { at = at; value = v } in r)
    (folded f (numbers_at eid attr inputs))
row_of f eid attr (GetData wants) = None
row_of f eid attr (Answer id content) = None
row_of f eid attr (Refuse id reason) = None

-- the rows of what a simulator was sent
abbrev pub rows_of : Fold → List ℕ → List ℕ → List Item → List Row
rows_of f eid attr items = filter_map (row_of f eid attr) items
