-- How tests follow one another, the first that fails naming the fault, and the paths of keys.
use Rattle.std.specs.Prelude.{ℕ, List, ◌++◌, map, take, codes, Option, Some, None, Result, Ok, Err}
use Rattle.std.specs.Fmt.{decimal}
use Rattle.std.specs.List.{enumerate_from}
use Rattle.mk_base.specs.Verdicts.{all_well, IsFaultOrWant}
use Rattle.mk_scenario_keys.specs.declared.fault.ScenarioFault.{ScenarioFault}
use Rattle.mk_scenario_keys.specs.declared.fault.ScenarioFault.TheVariants.{Mem}

-- the fault is the verdict's, or want of memory
abbrev pub IsFaultOf : {A : Type 0} → Result A ScenarioFault → ScenarioFault → Type 0
IsFaultOf = IsFaultOrWant Mem

-- what was found, and the fault where nothing was
abbrev pub found : {A : Type 0} → ScenarioFault → Option A → Result A ScenarioFault
found fault (Some x) = Ok x
found fault None = Err fault

-- what the items give, each by its place
abbrev pub each_at : {X A : Type 0} → (ℕ → X → Result A ScenarioFault) → List X
    → Result (List A) ScenarioFault
each_at {X} test items = all_well (map (λ (p : ℕ × X). test p.0 p.1) (enumerate_from 0 items))

-- the test of an item at a place of these, by those before it
abbrev pub by_earlier : {X A : Type 0} → (List X → ℕ → X → Result A ScenarioFault) → List X → ℕ → X
    → Result A ScenarioFault
by_earlier test items i item = test (take i items) i item

-- what the items give, each by those before it
abbrev pub each_after : {X A : Type 0} → (List X → ℕ → X → Result A ScenarioFault) → List X
    → Result (List A) ScenarioFault
each_after test items = each_at (by_earlier test items) items

-- the path of a key in the table of that path
abbrev pub key_in : List ℕ → List ℕ → List ℕ
key_in path key = path ++ (codes "." ++ key)

-- the path of the item at a place of the list of that path
abbrev pub item_in : List ℕ → ℕ → List ℕ
item_in path i = path ++ (codes "[" ++ (decimal i ++ codes "]"))
