-- Words that may be values, and the spellings of positional words and options.
use Rattle.std.specs.Prelude.{ℕ, ◌==◌, Bool, false, not, List, [], ◌∷◌, ◌++◌, map, flat_map, fold, codes}

abbrev pub Text : Type 0
Text = List ℕ

-- a word that may name a file or be a value: it isn't empty, and doesn't begin with `-`
abbrev pub is_value : Text → Bool
is_value [] = false
is_value (b ∷ bs) = not (b == 45)

-- an option's name and its value
abbrev pub Given : Type 0
Given = Text × Text

-- an option is spelled as two words, `--NAME VALUE`, or as one, `--NAME=VALUE`
abbrev pub forms : Given → List (List Text)
forms g = ((codes "--" ++ g.0) ∷ g.1 ∷ []) ∷ (((codes "--" ++ g.0) ++ codes "=" ++ g.1) ∷ []) ∷ []

-- x put at each place of a list
abbrev pub placings : {X : Type 0} → X → List X → List (List X)
placings x [] = (x ∷ []) ∷ []
placings x (y ∷ ys) = (x ∷ y ∷ ys) ∷ map (λ l. y ∷ l) (placings x ys)

-- the option, in each of its forms, put at each place of each of these
abbrev pub with_option : List (List (List Text)) → Given → List (List (List Text))
with_option all g = flat_map (λ form. flat_map (placings form) all) (forms g)

-- all spellings of the words after the command: the positional words in order, and each option in
-- one of its forms anywhere among them
abbrev pub spellings : List Text → List Given → List (List Text)
spellings plain given = map (flat_map (λ form. form))
    (fold with_option (map (λ p. p ∷ []) plain ∷ []) given)
