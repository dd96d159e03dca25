-- Answers to the goals of `outlets::no_rows` that the prover leaves.
use Rattle.std.proofs.Common.{List, [], ◌∷◌, ◌++◌, length, length-append, ap, ◌∙◌, arith}
use Rattle.mk_sched_agenda.specs.declared.outlets.Outlet.{Outlet}
use Rattle.mk_sched_agenda.specs.Outlets.{outlets_in}
use Rattle.mk_sched_agenda.proofs.Rows.{none_more}
use Rattle.mk_sched_agenda.proofs.outlets.no_rows.Goals as goal

pub loop-sim-init : goal.loop-sim-init
loop-sim-init c = (c.as_slice-sim-items.ensures, ap length c.in_ok-rows.ensures.items, λ i. ap (λ (R : List (List Outlet)). outlets_in R i) c.in_ok-rows.ensures.items)

pub loop-sim-preserved : goal.loop-sim-preserved
loop-sim-preserved c = (
  c.as_slice-sim-items.ensures,
  ap length c.in_ok-push.ensures.items ∙ length-append c.loop-sim.rows.items (c.new.result ∷ []) ∙ omega (arith, c.loop-sim.invariant.1),
  λ i. ap (λ (R : List (List Outlet)). outlets_in R i) (c.in_ok-push.ensures.items ∙ ap (λ (r : List Outlet). c.loop-sim.rows.items ++ r ∷ []) c.new.ensures) ∙ none_more c.loop-sim.rows.items c.loop-sim.invariant.2 i,
)

pub returns-clause-count : goal.returns-clause-count
returns-clause-count c = c.loop-sim.invariant.1 ∙ omega (arith, ap length c.loop-sim.invariant.0)
