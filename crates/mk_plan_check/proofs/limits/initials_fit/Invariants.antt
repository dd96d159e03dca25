-- The invariants and measures of the loops of `limits::initials_fit`.
use Rattle.std.proofs.Common.{◌≡◌, true, take, All, IfSome}
use Rattle.std.specs.List.{list_all}
use Rattle.mk_base.specs.Data.{IsDatumText}
use Rattle.mk_plan_check.specs.Tests.{initial_fits}
use Rattle.mk_plan_check.proofs.limits.initials_fit.Given as goal

abbrev pub invariant-loop-conn : goal.invariant-loop-conn
invariant-loop-conn l = (list_all (λ c. initial_fits c.initial) (take l.conn-index l.plan.conns) ≡ true) × All (λ c. IfSome c.initial IsDatumText) (take l.conn-index l.plan.conns)
