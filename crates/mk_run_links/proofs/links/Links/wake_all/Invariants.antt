-- The invariants and measures of the loops of `links::Links::wake_all`.
use Rattle.std.proofs.Common.{◌≡◌}
use Rattle.mk_run_links.proofs.Looking.{Waking}
use Rattle.mk_run_links.proofs.links.Links.wake_all.Given as goal

abbrev pub invariant-loop-i : goal.invariant-loop-i
invariant-loop-i l = (l.self.halt ≡ l.fn.self.halt) × Waking l.i l.fn.self.channels l.self.channels
