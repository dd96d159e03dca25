-- Answers to the goals of `laws::ends_of_turns` that the prover leaves.
use Rattle.mk_sched_open.specs.Sims.{free_id}
use Rattle.mk_sched_open.proofs.OneSim.{fetched_outputs, stepped_contents}
use Rattle.mk_sched_open.proofs.Every.{opened_turn}
use Rattle.mk_sched_open.proofs.laws.ends_of_turns.Goals as goal

pub returns-clause-fetched : goal.returns-clause-fetched
returns-clause-fetched c = λ P V n sims s T x id m content h low is at has.
    let t = opened_turn P V n sims h s low T is in
    fetched_outputs (free_id P s (V.acts s)) n t.0 T x id m content t.1 at has

pub returns-clause-stepped : goal.returns-clause-stepped
returns-clause-stepped c = λ P V n sims s T x id asks m content h low is at has.
    let t = opened_turn P V n sims h s low T is in
    stepped_contents (free_id P s (V.acts s)) n t.0 T x id asks m content t.1 at has
