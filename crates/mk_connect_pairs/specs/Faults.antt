-- What it is to go through items until one fails, and which fault a call may answer then.
use Rattle.std.specs.Prelude.{List, [], ◌∷◌, Result, Ok}
use Rattle.mk_base.specs.Verdicts.{passed, IsFaultOrWant}
use Rattle.mk_connect_pairs.specs.declared.fault.ConnectFault.{ConnectFault}
use Rattle.mk_connect_pairs.specs.declared.fault.ConnectFault.TheVariants.{Mem}

-- going through the items, each of which changes what is made or fails
abbrev pub through : {A X : Type 0} → (A → X → Result A ConnectFault) → A → List X
    → Result A ConnectFault
through step made [] = Ok made
through step made (x ∷ xs) = passed (step made x) (λ next. through step next xs)

-- the fault is the verdict's, or want of memory
abbrev pub IsFaultOf : {A : Type 0} → Result A ConnectFault → ConnectFault → Type 0
IsFaultOf = IsFaultOrWant Mem
