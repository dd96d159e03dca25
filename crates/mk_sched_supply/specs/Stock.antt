-- When a stock is a plan's, and when it is that of a journal's view.
use Rattle.std.specs.Prelude.{◌≡◌, ℕ, ◌<◌, List, length, map, Some, slice_get}
use Rattle.mk_plan.specs.declared.Plan.{Plan}
use Rattle.mk_plan.specs.declared.Conn.{Conn}
use Rattle.mk_plan.specs.declared.Entry.{Entry}
use Rattle.mk_plan.specs.Plans.{IsValidPlan, sim_count}
use Rattle.mk_plan.specs.Turns.{wanted, want_of}
use Rattle.mk_plan.specs.Deliveries.{Supply, triggering_from}
use Rattle.mk_plan.specs.Journals.{View, view}
use Rattle.mk_plan.specs.Ready.{IsReady}
use Rattle.mk_plan.specs.Advance.{IsAdvance}
use Rattle.mk_plan.specs.Orderly.{IsAllowed, IsOrderlySoFar}
use Rattle.mk_order.specs.Supplies.{SameSupply, given_so_far}
use Rattle.mk_order.specs.Pending.{IsMarkOf}
use Rattle.mk_plan_names.specs.Names.{AreNamesOf}
use Rattle.mk_buffers.specs.Standing.{StandFor, mark_of}
use Rattle.mk_sched_supply.specs.declared.feeds.Feed.{Feed}
use Rattle.mk_sched_supply.specs.declared.stock.Stock.{Stock}

-- these are the places, among the wants of s, of what each of these connections takes
abbrev pub ArePlaces : Plan → ℕ → List Conn → List ℕ → Type 0
ArePlaces P s cs places = map (λ p. slice_get (wanted P s) p) places
    ≡ map (λ c. Some (want_of P c)) cs

-- what s is wanted to give, and where the triggering connections find it
pub record IsFeedOf (P : Plan) (s : ℕ) (f : Feed) : Type 0 where
  pub wants : f.wants ≡ wanted P s
  pub places : ArePlaces P s (triggering_from P s) f.triggers.items

-- what doesn't change in a run: the names are the plan's, and each simulator has its feed
pub record IsStockFor (P : Plan) (k : Stock) : Type 0 where
  pub names : AreNamesOf P k.names
  pub count : length k.feeds.items ≡ sim_count P
  pub feeds : (s : ℕ) (f : Feed) → slice_get k.feeds.items s ≡ Some f → IsFeedOf P s f

-- the stock is the plan's, its buffers stand for what acts and open turns have given so far, and
-- nothing is asked before a simulator's mark
pub record IsStockOf (P : Plan) (V : View) (k : Stock) : Type 0 where
  pub plan : IsStockFor P k
  pub supplied : (S : Supply) × StandFor P k.buffers S × SameSupply P S (given_so_far P V)
  pub marks : (s : ℕ) → s < sim_count P → IsMarkOf P V s (mark_of k.buffers s)

-- e may come next in the orderly journal J of the valid plan
pub record MayComeNext (P : Plan) (J : List Entry) (e : Entry) : Type 0 where
  pub valid : IsValidPlan P
  pub orderly : IsOrderlySoFar IsReady IsAdvance P J
  pub allowed : IsAllowed IsReady IsAdvance P (view P J) e
