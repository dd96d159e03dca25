-- The invariants and measures of the loops of `sims::Sims::new`.
use Rattle.std.proofs.Common.{◌≡◌, map, take}
use Rattle.mk_sched_open.proofs.Every.{sim_of}
use Rattle.mk_sched_open.proofs.sims.Sims.new.Given as goal

abbrev pub invariant-loop-sim : goal.invariant-loop-sim
invariant-loop-sim l = (l.sim-items ≡ l.plan.sims) × (l.kept ≡ map sim_of (take l.sim-index l.plan.sims))
