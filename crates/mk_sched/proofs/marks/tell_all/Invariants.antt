-- The invariants and measures of the loops of `marks::tell_all`.
use Rattle.std.proofs.Common.{◌≡◌}
use Rattle.mk_plan.specs.Journals.{View}
use Rattle.mk_tiers.proofs.Counting.{count_below}
use Rattle.mk_sched_agenda.specs.Mirrors.{Mirrors}
use Rattle.mk_sched_supply.specs.Stock.{IsStockOf}
use Rattle.mk_sched.specs.inner.Holding.{AreToldBut}
use Rattle.mk_sched.proofs.marks.tell_all.Given as goal

abbrev pub decreases-telling : goal.decreases-telling
decreases-telling l = count_below l.untold 256

abbrev pub invariant-telling : goal.invariant-telling
invariant-telling l = record {
  plan : l.plan ≡ l.fn.plan;
  agenda : l.agenda ≡ l.fn.agenda;
  stock : (V : View) → Mirrors l.fn.plan V l.fn.agenda → IsStockOf l.fn.plan V l.fn.stock → IsStockOf l.fn.plan V l.stock;
  told : (V : View) → Mirrors l.fn.plan V l.fn.agenda → IsStockOf l.fn.plan V l.fn.stock → AreToldBut l.fn.plan l.fn.agenda.bounds l.fn.stock l.fn.untold → AreToldBut l.fn.plan l.fn.agenda.bounds l.stock l.untold;
}
