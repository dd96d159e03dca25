-- What an agenda is told as a turn ends, and what it answers.
use Rattle.std.specs.Prelude.{◌≡◌, ℕ, ◌≤◌, ℤ, pos, ◌≤ℤ◌, Bool, List, map, Option, Some, None, is_some}
use Rattle.mk_base.specs.declared.SimNo.{SimNo}
use Rattle.mk_base.specs.declared.tier.Tier.{Tier}
use Rattle.mk_base.specs.Tiers.{latest_time}
use Rattle.mk_plan.specs.declared.Plan.{Plan}
use Rattle.mk_plan.specs.declared.Message.{Message}
use Rattle.mk_plan.specs.declared.Entry.{Entry}
use Rattle.mk_plan.specs.declared.Entry.TheVariants.{Got}
use Rattle.mk_plan.specs.Plans.{IsValidPlan}
use Rattle.mk_plan.specs.Turns.{wrong, next_place}
use Rattle.mk_plan.specs.Acts.{Act, made, next_time, output}
use Rattle.mk_plan.specs.Journals.{OpenTurn, Fault, LoopLimit, view, note, ended_turn, loop_fault}
use Rattle.mk_plan.specs.Ready.{IsReady}
use Rattle.mk_plan.specs.Advance.{IsAdvance}
use Rattle.mk_plan.specs.Orderly.{IsAllowed, IsOrderlySoFar}
use Rattle.mk_sched_agenda.specs.declared.outlets.Beyond.{Beyond}
use Rattle.mk_plan.specs.Deliveries.{triggering_from}
use Rattle.mk_sched_agenda.specs.Mirrors.{AgendaState, Mirrors}
use Rattle.mk_base.specs.Limits.{greatest_tier}

-- of each of the act's triggering connections, whether the act gives it an output
abbrev pub given_by : Plan → ℕ → Act → List Bool
given_by P s f = map (λ c. is_some (output P f c.from c.from_attr)) (triggering_from P s)

-- the message may come next in the orderly journal J of a valid plan; it is right, and the last of
-- the turn T of s, whose outputs are made at x and go to the flagged ones of its triggering
-- connections, and which returned the next time n
pub record IsLast (P : Plan) (J : List Entry) (s : SimNo) (T : OpenTurn) (m : Message) (x : Tier)
    (n : Option ℤ) (flags : List Bool) : Type 0 where
  pub valid : IsValidPlan P
  pub orderly : IsOrderlySoFar IsReady IsAdvance P J
  pub allowed : IsAllowed IsReady IsAdvance P (view P J) (Got s m)
  pub opened : (view P J).open_at s.0 ≡ Some T
  pub right : wrong P s.0 T.place m ≡ None
  pub over : next_place P s.0 T.place m ≡ None
  pub made : x ≡ made (ended_turn T m)
  pub next : n ≡ next_time (ended_turn T m)
  pub given : flags ≡ given_by P s.0 (ended_turn T m)

-- an output may be made at this time: from 0 to 10^18, with a tier of at most 1,000,000
pub record CanBeMade (x : Tier) : Type 0 where
  pub early : pos 0 ≤ℤ x.time
  pub late : x.time ≤ℤ latest_time
  pub low : x.tier ≤ greatest_tier

-- the fault of a trigger beyond the loop limit
abbrev pub fault_of : Beyond → Fault
fault_of b = LoopLimit b.sim.0 b.time

-- after the last message of a turn: either something is triggered beyond the loop limit, and the
-- agenda is as before; or it mirrors what the view has become
abbrev pub EndOf : Plan → List Entry → SimNo → OpenTurn → Message → AgendaState → Option Beyond
    → AgendaState → Type 0
EndOf P J s T m A (Some b) B = (loop_fault P s.0 (ended_turn T m) ≡ Some (fault_of b)) × (B ≡ A)
EndOf P J s T m A None B = (loop_fault P s.0 (ended_turn T m) ≡ None)
    × Mirrors P (note P (view P J) (Got s m)) B
