-- What a setup keeps, as its contracts see it.
use Rattle.std.specs.Prelude.{Option}
use Rattle.mk_setup.specs.declared.fault.SetupFault.{SetupFault}
use Rattle.mk_setup.specs.declared.progress.Progress.{Progress}
use Rattle.mk_setup.specs.Seen.{SetupState}

-- the state of what is kept, with the fault that was met
abbrev pub state_of : Progress → Option SetupFault → SetupState
state_of p fault = record {
  scenario = p.scenario;
  ranks = p.ranks;
  metas = p.metas;
  entities = p.entities;
  answered = p.answered;
  asked = p.asked;
  fault = fault;
}
