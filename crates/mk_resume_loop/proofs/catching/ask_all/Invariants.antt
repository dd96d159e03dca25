-- The invariants and measures of the loops of `catching::ask_all`.
use Rattle.std.proofs.Common.{◌≡◌, ◌-◌, None, List, length}
use Rattle.mk_plan.specs.declared.Entry.{Entry}
use Rattle.mk_outside.specs.declared.fleet.LogEntry.{LogEntry}
use Rattle.mk_local.specs.Registries.{rows_in}
use Rattle.mk_run_local.specs.Seen.{AreOf}
use Rattle.mk_run_crew.specs.Seen.{within_of}
use Rattle.mk_run.specs.inner.Underway.{Setting}
use Rattle.mk_run.specs.inner.Turns.{IsStill}
use Rattle.mk_resume_links.specs.Rests.{Counts}
use Rattle.mk_onlooker.specs.Showings.{AddsItems}
use Rattle.mk_resume_loop.specs.inner.Turns.{GoesOn}
use Rattle.mk_resume_loop.proofs.catching.ask_all.Given as goal

-- whoever was asked so far and has caught up was sent a Step
abbrev pub invariant-asking : goal.invariant-asking
invariant-asking g l = record {
  going : l.core.ended ≡ None;
  known : AreOf (rows_in l.kinds) (within_of l.crew);
  still : IsStill l.fn.crew l.crew;
  same_halt : l.crew.halt ≡ l.fn.crew.halt;
  goes : (T : Setting) (first : List Entry) (heard : Counts) (log : List LogEntry) → GoesOn T first heard l.fn.core log l.fn.crew l.fn.behind → GoesOn T first heard l.core log l.crew l.behind;
  items : AddsItems l.fn.core.entries l.core.entries;
  same_plan : l.core.plan ≡ l.fn.core.plan;
}

abbrev pub decreases-asking : goal.decreases-asking
decreases-asking g l = l.core.plan.entries - length l.core.entries
