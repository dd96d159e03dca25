-- Times before which nothing comes any more, the marks of simulators, and what is held.
use Rattle.std.specs.Prelude.{◌≡◌, ℕ, ◌<◌, ◌≤◌, ◌≤ℤ◌, true, int_lt, min, List}
use Rattle.mk_base.specs.declared.tier.Tier.{Tier}
use Rattle.mk_base.specs.Tiers.{IsUpTo, moment}
use Rattle.mk_plan.specs.declared.Plan.{Plan}
use Rattle.mk_plan.specs.declared.Entry.{Entry}
use Rattle.mk_plan.specs.Plans.{sim_count}
use Rattle.mk_plan.specs.Deliveries.{Supply, supply}
use Rattle.mk_plan.specs.Journals.{View, view}
use Rattle.mk_plan.specs.Ready.{start}
use Rattle.mk_plan.specs.Walks.{Reach, nobody, IsEarliest}
use Rattle.mk_plan.specs.Asks.{gives_attr}
use Rattle.mk_buffers.specs.Bounds.{most_kept}
use Rattle.mk_buffers.specs.Standing.{StandFor, least_mark, mark_of, outputs_held}
use Rattle.mk_buffers.specs.declared.buffers.Buffers.{Buffers}

-- neither the run's end, nor an outstanding step, nor a step that may still come, is before this
-- time
pub record IsFloor (P : Plan) (V : View) (m : Tier) : Type 0 where
  pub walks : (s : ℕ) (y : Tier) → s < sim_count P → Reach P (start P V) nobody s y → IsUpTo m y
  pub end : IsUpTo m (moment P.until)

-- the mark of s is the earliest time at which it may still step, if that is before the run's end; if
-- it isn't, or there is none, the mark is at or after the run's end
pub record IsMarked (P : Plan) (V : View) (s : ℕ) (m : Tier) : Type 0 where
  pub here : (e : Tier) → IsEarliest P (start P V) s e → int_lt e.time P.until ≡ true → m ≡ e
  pub past : ((e : Tier) → IsEarliest P (start P V) s e → P.until ≤ℤ e.time)
      → IsUpTo (moment P.until) m

-- so many outputs are held, by buffers that stand for additions whose outputs are those of the acts
-- in order, and in which each simulator has its mark; they are at most `most_kept` at the least mark
pub record IsHeld (P : Plan) (J : List Entry) (n : ℕ) : Type 0 where
  pub buffers : Buffers
  pub added : Supply
  pub stands : StandFor P buffers added
  pub outputs : (e : ℕ) (attr : List ℕ) → gives_attr P e attr ≡ true
      → added.outputs e attr ≡ (supply P (view P J).acts).outputs e attr
  pub marks : (s : ℕ) → s < sim_count P → IsMarked P (view P J) s (mark_of buffers s)
  pub count : n ≡ min (outputs_held buffers) 18446744073709551615
  pub few : n ≤ most_kept P (supply P (view P J).acts) (least_mark buffers)
