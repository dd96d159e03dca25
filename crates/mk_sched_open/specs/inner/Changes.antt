-- For proofs alone. What a simulator becomes where its turn begins, goes on and ends.
use Rattle.std.specs.Prelude.{ℕ, ◌+◌, ℤ, Option, None}
use Rattle.mk_base.specs.declared.tier.Tier.{Tier}
use Rattle.mk_plan.specs.declared.Place.{Place}
use Rattle.mk_plan.specs.declared.Place.TheVariants.{Idle, Stepping, Fetching}
use Rattle.mk_sched_open.specs.declared.sims.Sim.{Sim}

-- a simulator before its first step
abbrev pub new_sim : ℕ → Sim
new_sim first_id = record { place = Idle; next = None; next_id = first_id; heard = 0 }

-- its step begins
abbrev pub begun_sim : Sim → Tier → Sim
begun_sim s at = record s { place = Stepping at s.next_id 0 }

-- its turn goes on after a message
abbrev pub gone_on : Sim → Place → Option ℤ → Sim
gone_on s place next = record s { place = place; next = next; heard = s.heard + 1 }

-- the id of what is open, or the other where nothing is
abbrev pub open_id : Place → ℕ → ℕ
open_id Idle otherwise = otherwise
open_id (Stepping at id asks) otherwise = id
open_id (Fetching at id) otherwise = id

-- its turn ends
abbrev pub ended_sim : Sim → Sim
ended_sim s = record s {
  place = Idle;
  next_id = open_id s.place s.next_id + 1;
  heard = s.heard + 1;
}
