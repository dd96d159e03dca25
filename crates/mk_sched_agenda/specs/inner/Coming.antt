-- For proofs alone. While a turn ends: what of its act has come about, and the search for a trigger
-- beyond the loop limit.
use Rattle.std.specs.Prelude.{◌≡◌, ℕ, ◌+◌, ◌<◌, Bool, true, not, ◌&&◌, List, [], ◌∷◌, length, Option, Some, None, is_some, int_lt, ◌==◌, if◌then◌else◌}
use Rattle.mk_base.specs.declared.tier.Tier.{Tier}
use Rattle.mk_base.specs.Tiers.{delayed}
use Rattle.mk_plan.specs.declared.Plan.{Plan}
use Rattle.mk_plan.specs.declared.Conn.{Conn}
use Rattle.mk_plan.specs.Plans.{sim_count}
use Rattle.mk_plan.specs.Acts.{Act, made}
use Rattle.mk_plan.specs.Journals.{View}
use Rattle.mk_plan.specs.Ready.{start}
use Rattle.mk_nextstep.specs.declared.queue.Due.{Due}
use Rattle.mk_nextstep.specs.Queues.{time_of}
use Rattle.mk_tiers.specs.Seen.{Seen, AreOfPlan, start_in, is_busy_in}
use Rattle.mk_order.proofs.Limits.{IsInLimit}
use Rattle.mk_order.proofs.Pends.{PendsWith}
use Rattle.mk_sched_agenda.specs.declared.limits.Limits.{Limits}
use Rattle.mk_sched_agenda.specs.declared.outlets.Outlet.{Outlet}
use Rattle.mk_sched_agenda.specs.declared.outlets.Beyond.{Beyond}
use Rattle.mk_sched_agenda.specs.Outlets.{AreOutletsOf}
use Rattle.mk_plan.specs.Deliveries.{triggering_from}
use Rattle.mk_sched_agenda.specs.Dues.{limits_of, queue_in}
use Rattle.mk_sched_agenda.specs.Mirrors.{flag_of}
use Rattle.mk_sched_agenda.specs.Endings.{given_by}

-- the act of s, which stays within the loop limit, is told by these
pub record IsEnding (P : Plan) (s : ℕ) (f : Act) (L : Limits) (os : List Outlet) (flags : List Bool)
    (x : Tier) : Type 0 where
  pub limits : L ≡ limits_of P
  pub outlets : AreOutletsOf P (triggering_from P s) os
  pub given : flags ≡ given_by P s f
  pub made : x ≡ made f
  pub kept : IsInLimit P s f

-- what these connections bring by the act of s has come; where its turn has closed, so has its next
-- time; starts are outstanding where a turn is open, that of s until it closes
pub record HasCome (P : Plan) (V : View) (s : ℕ) (f : Act) (closed : Bool) (cs : List Conn)
    (Q : List (List Due)) (B : Seen) : Type 0 where
  pub plan : AreOfPlan P B
  pub count : length Q ≡ sim_count P
  pub queues : (j : ℕ) → j < sim_count P
      → PendsWith P time_of flag_of V s f closed cs j (queue_in Q j)
  pub busy : is_busy_in B s ≡ not closed
  pub others : (j : ℕ) → (j ≡ s → ⊥) → is_busy_in B j ≡ is_some (V.open_at j)
  pub kept : (j : ℕ) → (j ≡ s → ⊥) → is_busy_in B j ≡ true → start_in B j ≡ start P V j

-- ---- the search for a trigger beyond the loop limit

-- a step then is before the run's end, and just beyond the loop limit
abbrev pub is_beyond : Limits → Tier → Bool
is_beyond L x = int_lt x.time L.until && (x.tier == L.loops + 1)

-- what an output made at x triggers over the outlet beyond the loop limit, if it is given
abbrev pub beyond_over : Limits → Tier → Outlet → Bool → Option Beyond
beyond_over L x o g = if g && is_beyond L (delayed x o.via)
    then Some (let b : Beyond = record { sim = o.to; time = (delayed x o.via).time } in b) else None

-- the first one, or else the other
abbrev pub either : Option Beyond → Option Beyond → Option Beyond
either None other = other
either (Some b) other = Some b

-- the first of these
abbrev pub first_beyond : Limits → Tier → List Outlet → List Bool → Option Beyond
first_beyond L x [] gs = None
first_beyond L x (o ∷ os) [] = None
first_beyond L x (o ∷ os) (g ∷ gs) = either (beyond_over L x o g) (first_beyond L x os gs)
