-- What is not known yet, and from when on it may start.
use Rattle.std.specs.Prelude.{◌≡◌, ℕ, Bool, true, false, ◌++◌, List}
use Rattle.mk_base.specs.declared.tier.Tier.{Tier}
use Rattle.mk_base.specs.declared.tier.Via.{Via}
use Rattle.mk_base.specs.Lists.{IsIn}
use Rattle.mk_base.specs.Tiers.{delayed, IsUpTo, IsBefore}
use Rattle.mk_plan.specs.declared.Plan.{Plan}
use Rattle.mk_plan.specs.declared.Message.{Message}
use Rattle.mk_plan.specs.declared.Entry.{Entry}
use Rattle.mk_plan.specs.declared.Place.{Place}
use Rattle.mk_plan.specs.Acts.{Act}
use Rattle.mk_plan.specs.Deliveries.{supply, triggers}
use Rattle.mk_plan.specs.Sequential.{Messages, sequential, next_step, response}
use Rattle.mk_plan.specs.Journals.{View, view, got}
use Rattle.mk_plan.specs.Walks.{IsLink, Reach}
use Rattle.mk_plan.specs.Ready.{start}
use Rattle.mk_plan.specs.Agreement.{Continues}

-- u is a turn of i in sequential execution over R that is not among the acts so far
pub record IsUnknown (P : Plan) (V : View) (R : Messages) (i : ℕ) (u : Act) : Type 0 where
  pub later : List Act
  pub parts : sequential P R i ≡ V.acts i ++ later
  pub there : IsIn u later

-- where the lists of the simulators of Z end with what J has of them, an unknown turn of another
-- simulator starts at or after the end of a walk to it that touches no simulator of Z
abbrev pub IsBounded : Plan → List Entry → Type 0
IsBounded P J = (R : Messages) (Z : ℕ → Bool) → Continues P J R
    → ((i : ℕ) → Z i ≡ true → R i ≡ got J i) → (i : ℕ) (u : Act) → Z i ≡ false
    → IsUnknown P (view P J) R i u
    → (y : Tier) × Reach P (start P (view P J)) (λ j. Z j ≡ true) i y × IsUpTo y u.at

-- over R nothing new comes to s at x or before: no unknown turn over any link, no trigger, and
-- neither its Step nor an answer in it changes
pub record HasAll (P : Plan) (V : View) (R : Messages) (s : ℕ) (x : Tier) : Type 0 where
  pub turns : (i : ℕ) (u : Act) → IsUnknown P V R i u → (v : Via) → IsLink P i v s
      → IsBefore x (delayed u.at v)
  pub triggered : (d : Tier) → IsIn d (triggers P (supply P (sequential P R)) s) → IsUpTo d x
      → IsIn d (triggers P (supply P V.acts) s)
  pub step : (acts : List Act)
      → next_step P (supply P (sequential P R)) s x acts ≡ next_step P (supply P V.acts) s x acts
  pub answers : (o : Place) (m : Message)
      → response P (supply P (sequential P R)) s x o m ≡ response P (supply P V.acts) s x o m
