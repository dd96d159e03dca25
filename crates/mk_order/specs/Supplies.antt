-- What acts and open turns have given, and which supplies are alike to every simulator.
use Rattle.std.specs.Prelude.{◌≡◌, ℕ, ◌<◌, true, false, List, [], ◌∷◌, ◌++◌, length, Option, Some, None}
use Rattle.mk_plan.specs.declared.Plan.{Plan}
use Rattle.mk_plan.specs.Acts.{Act, Family}
use Rattle.mk_plan.specs.Asks.{gives_attr}
use Rattle.mk_plan.specs.Deliveries.{Supply, supply}
use Rattle.mk_plan.specs.Journals.{OpenTurn, View}

-- the acts of A, followed by those of U
abbrev pub followed : Family → Family → Family
followed A U i = A i ++ U i

-- an open turn as one that was cut
abbrev pub cut_turn : OpenTurn → Act
cut_turn T = record { at = T.at; messages = T.messages; ended = false; talk = T.talk }

-- the same of an open turn, if there is one
abbrev pub cut_turns : Option OpenTurn → List Act
cut_turns None = []
cut_turns (Some T) = cut_turn T ∷ []

-- the open turns of a view
abbrev pub opened : View → Family
opened V i = cut_turns (V.open_at i)

-- what acts and open turns have given
abbrev pub given_so_far : Plan → View → Supply
given_so_far P V = supply P (followed V.acts (opened V))

-- two supplies have the same outputs of what connections take, and the same set values
pub record SameSupply (P : Plan) (S T : Supply) : Type 0 where
  pub outputs : (e : ℕ) (attr : List ℕ) → gives_attr P e attr ≡ true
      → S.outputs e attr ≡ T.outputs e attr
  pub gifts : (e : ℕ) → e < length P.entities → S.gifts e ≡ T.gifts e
