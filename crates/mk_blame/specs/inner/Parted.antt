-- For proofs alone. How the talks of a simulator in two journals stand to each other, and what is
-- kept while they are gone through.
use Rattle.std.specs.Prelude.{◌≡◌, ◌⊎◌, ℕ, ◌<◌, Bool, true, false, List, [], ◌∷◌, ◌++◌, length, filter, slice_get, Option, Some, None}
use Rattle.mk_base.specs.declared.tier.Tier.{Tier}
use Rattle.mk_base.specs.Lists.{IsIn}
use Rattle.mk_plan.specs.declared.Message.{Message}
use Rattle.mk_plan.specs.declared.Entry.{Entry}
use Rattle.mk_plan.specs.Acts.{Said, Told, Heard}
use Rattle.mk_blame.specs.declared.parting.Parting.{Parting}
use Rattle.mk_blame.specs.declared.parting.Parting.TheVariants as partings
use Rattle.mk_blame.specs.declared.verdict.Blamed.{Blamed}
use Rattle.mk_blame.specs.Talks.{is_with, talk, messages, last_step, step_after}
use Rattle.mk_blame.specs.Verdicts.{IsBlamedBy, IsBlamed, AreEqual, SomeDiffer, AreInOrder}

-- it is a message
abbrev pub is_message : Said → Bool
is_message (Told item) = false
is_message (Heard m) = true

-- for each of so many simulators the entries with it, in order
pub record AreTalks (count : ℕ) (J : List Entry) (talks : List (List Entry)) : Type 0 where
  pub all : length talks ≡ count
  pub each : (i : ℕ) (t : List Entry) → slice_get talks i ≡ Some t → t ≡ filter (is_with i) J

-- the first that is said, if there is anything, is a Step
abbrev pub BeginsWithStep : List Said → Type 0
BeginsWithStep xs = (x : Said) (more : List Said) → xs ≡ x ∷ more → (at : Tier)
    × (step_after None x ≡ Some at)

-- two talks are equal up to place number, where they have different things; place messages came
-- before, and at is the time of the last Step before
pub record PartAt (xs ys : List Said) (number place : ℕ) (at : Option Tier) : Type 0 where
  pub before : List Said
  pub one : Said
  pub other : Said
  pub more : List Said
  pub more_other : List Said
  pub first : xs ≡ before ++ one ∷ more
  pub second : ys ≡ before ++ other ∷ more_other
  pub differ : one ≡ other → ⊥
  pub number_is : number ≡ length before
  pub place_is : place ≡ length (messages before)
  pub at_is : at ≡ last_step before

-- one talk is the beginning of the other, and not all of it
abbrev pub OneEnds : List Said → List Said → Type 0
OneEnds xs ys = (x : Said) × (more : List Said) × ((xs ≡ ys ++ x ∷ more) ⊎ (ys ≡ xs ++ x ∷ more))

-- how two talks stand to each other
abbrev pub PartingOf : List Said → List Said → Parting → Type 0
PartingOf xs ys partings.Never = xs ≡ ys
PartingOf xs ys partings.End = OneEnds xs ys
PartingOf xs ys (partings.Entry number place at) = PartAt xs ys number place at

-- wherever two talks are equal up to a message of each, these messages are equal
abbrev pub MessagesAlike : List Said → List Said → Type 0
MessagesAlike xs ys = (before more other : List Said) (m n : Message)
    → xs ≡ before ++ Heard m ∷ more
    → ys ≡ before ++ Heard n ∷ other → m ≡ n

-- whether two talks of simulator i are equal, and what becomes of the list of those to blame
abbrev pub JudgedOf : List Said → List Said → ℕ → List Blamed → Bool → List Blamed → Type 0
JudgedOf xs ys i old true new = (xs ≡ ys) × (new ≡ old)
JudgedOf xs ys i old false new = (xs ≡ ys → ⊥)
    × (((new ≡ old) × MessagesAlike xs ys)
    ⊎ ((b : Blamed) × (new ≡ old ++ b ∷ []) × (b.sim.0 ≡ i) × IsBlamedBy xs ys b))

-- what stands when the first so many simulators were judged
pub record IsJudged (J K : List Entry) (count : ℕ) (equal : Bool) (bs : List Blamed) : Type 0 where
  pub same : equal ≡ true → AreEqual J K count
  pub differ : equal ≡ false → SomeDiffer J K count
  pub each : (b : Blamed) → IsIn b bs → (b.sim.0 < count) × IsBlamed J K b
  pub alike : (i : ℕ) → i < count → MessagesAlike (talk J i) (talk K i)
      ⊎ ((b : Blamed) × IsIn b bs × (b.sim.0 ≡ i))
  pub in_order : AreInOrder bs
