-- The invariants and measures of the loops of `watches::watches_in`.
use Rattle.mk_plan.specs.declared.Plan.{Plan}
use Rattle.mk_plan_names.specs.Names.{AreNamesOf}
use Rattle.mk_watch_read.specs.Rules.{names_in}
use Rattle.mk_watch_read.proofs.Gathered.{IsGathered}
use Rattle.mk_watch_read.proofs.watches.watches_in.Given as goal

abbrev pub invariant-loop-i : goal.invariant-loop-i
invariant-loop-i g l = (P : Plan) → AreNamesOf P l.names → IsGathered P (names_in l.rules) l.tables l.i l.found
