-- Answers to the goals of `checking::checked` that the prover leaves.
use Rattle.std.proofs.Common.{◌∙◌, ap}
use Rattle.mosaikrun_check.specs.CheckText.{check_text}
use Rattle.mosaikrun_check.proofs.checking.checked.Goals as goal

pub returns-in-Ok-clause-checked : goal.returns-in-Ok-clause-checked
returns-in-Ok-clause-checked c =
    let can = c.in-Ok.ensures.runnable in
    record {
      scenario = c.in_ok-scenario.scenario;
      ranks = c.in-Ok.ranks;
      read = c.in_ok-scenario.ensures.read;
      ranked = can.ranked;
      prepared = can.prepared;
      is = c.in_ok-check_text-in-Ok.ensures ∙ ap (check_text c.in_ok-scenario.scenario) c.as_slice.ensures;
    }
