-- For proofs alone. What is kept of simulators as the first of them are added.
use Rattle.std.specs.Prelude.{◌≡◌, ℕ, ◌<◌, ◌≤◌, Bool, false, List, length, map, take, Option, None}
use Rattle.mk_base.specs.declared.tier.Tier.{Tier}
use Rattle.mk_plan.specs.declared.Plan.{Plan}
use Rattle.mk_nextstep.specs.declared.queue.Due.{Due}
use Rattle.mk_nextstep.specs.Queues.{least}
use Rattle.mk_tiers.specs.Seen.{Seen, AreOfPlan, start_in, is_busy_in}
use Rattle.mk_sched_agenda.specs.Dues.{limits_of, queue_in, last_in}
use Rattle.mk_sched_agenda.specs.inner.Dues.{first_queue, is_open}

-- no step yet, of k simulators
pub record AreNone (k : ℕ) (lasts : List (Option Tier)) : Type 0 where
  pub count : length lasts ≡ k
  pub none : (i : ℕ) → last_in lasts i ≡ None

-- the first k simulators have the steps that they begin with, and starts by them; no turn is open
pub record AreBegun (P : Plan) (k : ℕ) (Q : List (List Due)) (opened : List Bool)
    (B : Seen) : Type 0 where
  pub plan : AreOfPlan P B
  pub queues : Q ≡ map (first_queue (limits_of P)) (take k P.sims)
  pub opens : length opened ≡ k
  pub none_open : (i : ℕ) → is_open opened i ≡ false
  pub none_busy : (i : ℕ) → is_busy_in B i ≡ false
  pub starts : (i : ℕ) → i < k → start_in B i ≡ least (queue_in Q i)
  pub later : (i : ℕ) → k ≤ i → start_in B i ≡ None
