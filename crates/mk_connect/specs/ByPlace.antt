-- What is made of items by their places.
use Rattle.std.specs.Prelude.{ℕ, suc, List, [], ◌∷◌}

-- what is made of each item and its place, the first at place n
abbrev pub by_place : {X Y : Type 0} → (ℕ → X → Y) → ℕ → List X → List Y
by_place make n [] = []
by_place make n (x ∷ xs) = make n x ∷ by_place make (suc n) xs
