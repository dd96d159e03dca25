-- For proofs alone. Beside `Holding`, which has what a reader needs.
use Rattle.std.specs.Prelude.{◌≡◌, ℕ, ◌<◌, false, List, Option, None, unwrap_or}
use Rattle.mk_base.specs.declared.tier.Tier.{Tier}
use Rattle.mk_base.specs.Tiers.{IsUpTo, moment}
use Rattle.mk_plan.specs.declared.Plan.{Plan}
use Rattle.mk_plan.specs.declared.Entry.{Entry}
use Rattle.mk_plan.specs.Plans.{sim_count}
use Rattle.mk_tiers.specs.declared.bits.Bits.{Bits}
use Rattle.mk_tiers.specs.Noted.{HasNoted}
use Rattle.mk_tiers.specs.Seen.{Seen, IsEarliestIn}
use Rattle.mk_tiers.specs.Sets.{has}
use Rattle.mk_buffers.specs.Standing.{mark_of}
use Rattle.mk_sched_supply.specs.declared.stock.Stock.{Stock}
use Rattle.mk_sched.specs.declared.derived.Derived.{Derived}
use Rattle.mk_sched.specs.declared.faults.Ended.{Ended}
use Rattle.mk_sched.specs.Answers.{SomeReady}

-- the mark is at or after the time from which on s may step, or the run's end where it never may
abbrev pub IsToldTo : Plan → Seen → ℕ → Tier → Type 0
IsToldTo P B s m = (e : Option Tier) × IsEarliestIn P B s e
    × IsUpTo (unwrap_or e (moment P.until)) m

-- the stock was told this of all
abbrev pub AllAreTold : Plan → Seen → Stock → Type 0
AllAreTold P B k = (s : ℕ) → s < sim_count P → s < 256 → IsToldTo P B s (mark_of k.buffers s)

-- and this of all but those in the set
abbrev pub AreToldBut : Plan → Seen → Stock → Bits → Type 0
AreToldBut P B k untold = (s : ℕ) → s < sim_count P → s < 256 → has untold s ≡ false
    → IsToldTo P B s (mark_of k.buffers s)

-- where the core has not ended, the stock was told of all who aren't noted
abbrev pub HasToldRest : Plan → Derived → Option Ended → Type 0
HasToldRest P K end = end ≡ None → AreToldBut P K.agenda.bounds K.stock K.untold

-- where the core has not ended, and nobody is ready, the stock was told of all
abbrev pub HasGivenUp : Plan → List Entry → Derived → Option Ended → Type 0
HasGivenUp P J K end = end ≡ None → (SomeReady P J → ⊥) → AllAreTold P K.agenda.bounds K.stock

-- who may step from another time on is noted
abbrev pub Notes : Derived → Derived → Type 0
Notes K L = HasNoted K.agenda.bounds L.agenda.bounds K.untold L.untold
