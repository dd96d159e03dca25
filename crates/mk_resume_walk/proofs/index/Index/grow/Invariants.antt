-- How far the index has grown.
use Rattle.std.proofs.Common.{◌≡◌, ◌-◌, ◌≤◌, List, length, take}
use Rattle.mk_base.specs.Lists.{BeginsWith}
use Rattle.mk_plan.specs.declared.Entry.{Entry}
use Rattle.mk_resume_walk.specs.Index.{IsIndexOf}
use Rattle.mk_resume_walk.proofs.index.Index.grow.Given as goal

abbrev pub invariant-loop-self : goal.invariant-loop-self
invariant-loop-self l = record {
  sims : length l.self.own ≡ length l.fn.self.own;
  grown : (J : List Entry) → BeginsWith l.entries J → IsIndexOf J l.fn.self → (length J ≤ l.self.count) × (l.self.count ≤ length l.entries) × IsIndexOf (take l.self.count l.entries) l.self;
}

abbrev pub decreases-loop-self : goal.decreases-loop-self
decreases-loop-self l = length l.entries - l.self.count
