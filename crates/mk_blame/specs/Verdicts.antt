-- Which simulators are to blame that two journals of one plan differ.
use Rattle.std.specs.Prelude.{◌≡◌, ℕ, ◌<◌, ⊤, List, [], ◌∷◌, length, Some}
use Rattle.mk_base.specs.Lists.{IsIn, Each}
use Rattle.mk_plan.specs.declared.Plan.{Plan}
use Rattle.mk_plan.specs.declared.Message.{Message}
use Rattle.mk_plan.specs.declared.Entry.{Entry}
use Rattle.mk_plan.specs.Plans.{sim_count}
use Rattle.mk_plan.specs.Acts.{Said}
use Rattle.mk_blame.specs.declared.verdict.Blamed.{Blamed}
use Rattle.mk_blame.specs.declared.verdict.Verdict.{Verdict}
use Rattle.mk_blame.specs.declared.verdict.Verdict.TheVariants as verdicts
use Rattle.mk_blame.specs.Talks.{talk, messages, last_step, PartByMessages}

-- simulator i answered the same differently: its talks are equal up to a place at which both have a
-- message, and these differ
pub record IsToBlame (J K : List Entry) (i : ℕ) : Type 0 where
  pub before : List Said
  pub message : Message
  pub other : Message
  pub parts : PartByMessages (talk J i) (talk K i) before message other

-- b tells where two talks part by messages: how many messages came before, the time of the last
-- Step before, and both messages
pub record IsBlamedBy (xs ys : List Said) (b : Blamed) : Type 0 where
  pub before : List Said
  pub parts : PartByMessages xs ys before b.first b.second
  pub place : b.place ≡ length (messages before)
  pub step : last_step before ≡ Some b.at

-- b tells of a simulator that is to blame
abbrev pub IsBlamed : List Entry → List Entry → Blamed → Type 0
IsBlamed J K b = IsBlamedBy (talk J b.sim.0) (talk K b.sim.0) b

-- the simulators' numbers rise
abbrev pub AreInOrder : List Blamed → Type 0
AreInOrder [] = ⊤
AreInOrder (b ∷ bs) = Each (λ c. b.sim.0 < c.sim.0) bs × AreInOrder bs

-- these are the simulators to blame of the first so many, each once, in the order of the plan
pub record AreBlamed (J K : List Entry) (count : ℕ) (bs : List Blamed) : Type 0 where
  pub each : (b : Blamed) → IsIn b bs → (b.sim.0 < count) × IsBlamed J K b
  pub all : (i : ℕ) → i < count → IsToBlame J K i → (b : Blamed) × IsIn b bs × (b.sim.0 ≡ i)
  pub in_order : AreInOrder bs

-- the talks of each of the first so many simulators are equal
abbrev pub AreEqual : List Entry → List Entry → ℕ → Type 0
AreEqual J K count = (i : ℕ) → i < count → talk J i ≡ talk K i

-- and those of some simulator aren't
abbrev pub SomeDiffer : List Entry → List Entry → ℕ → Type 0
SomeDiffer J K count = (i : ℕ) × (i < count) × (talk J i ≡ talk K i → ⊥)

-- what comes of two journals of a plan: all talks are equal; or some differ, and these are the
-- simulators to blame, of which there is one at least
abbrev pub IsVerdict : Plan → List Entry → List Entry → Verdict → Type 0
IsVerdict P J K verdicts.Equal = AreEqual J K (sim_count P)
IsVerdict P J K (verdicts.Blamed bs) = SomeDiffer J K (sim_count P) × AreBlamed J K (sim_count P) bs
    × (bs ≡ [] → ⊥)
