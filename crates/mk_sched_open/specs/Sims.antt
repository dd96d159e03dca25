-- What is kept of each simulator is what the journal's view has of it.
use Rattle.std.specs.Prelude.{◌≡◌, ℕ, ◌+◌, ◌≤◌, List, ◌++◌, length, Option, Some, None, slice_get}
use Rattle.mk_plan.specs.declared.Plan.{Plan}
use Rattle.mk_plan.specs.declared.Place.TheVariants.{Idle}
use Rattle.mk_plan.specs.Plans.{sim_count, first_id}
use Rattle.mk_plan.specs.Acts.{Act}
use Rattle.mk_plan.specs.Sequential.{ids_used, messages_in}
use Rattle.mk_plan.specs.Journals.{View, OpenTurn, messages_of}
use Rattle.mk_sched_open.specs.declared.sims.Sim.{Sim}
use Rattle.mk_sched_open.specs.Turns.{IsOpenBy}
use Rattle.mk_base.specs.Limits.{most_requests}

-- nothing is open, and the next id is the first that is free, in a journal of n entries
pub record IsClosed (free n : ℕ) (s : Sim) : Type 0 where
  pub place : s.place ≡ Idle
  pub id : s.next_id ≡ free
  pub few : s.next_id ≤ most_requests + n

-- this turn is open
pub record IsOpened (free n : ℕ) (s : Sim) (T : OpenTurn) : Type 0 where
  pub place : T.place ≡ s.place
  pub open_at : IsOpenBy free n s.next s.place T

-- what is open, or nothing
abbrev pub IsTurn : ℕ → ℕ → Sim → Option OpenTurn → Type 0
IsTurn free n s None = IsClosed free n s
IsTurn free n s (Some T) = IsOpened free n s T

-- the first id that is free after these acts of simulator i
abbrev pub free_id : Plan → ℕ → List Act → ℕ
free_id P i acts = first_id P i + ids_used acts

-- what is kept of simulator i, in a journal of n entries, is what follows from its acts and from
-- what is open at it
pub record IsSimOf (P : Plan) (acts : List Act) (o : Option OpenTurn) (n i : ℕ)
    (s : Sim) : Type 0 where
  pub turn : IsTurn (free_id P i acts) n s o
  pub heard : s.heard ≡ length (messages_in acts ++ messages_of o)
  pub few : s.heard ≤ n

-- the same of each simulator
pub record AreSimsOf (P : Plan) (V : View) (n : ℕ) (sims : List Sim) : Type 0 where
  pub count : length sims ≡ sim_count P
  pub each : (i : ℕ) (s : Sim) → slice_get sims i ≡ Some s
      → IsSimOf P (V.acts i) (V.open_at i) n i s
