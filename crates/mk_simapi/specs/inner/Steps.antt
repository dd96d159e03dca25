-- For proofs alone. What a round of a serving gives.
use Rattle.std.specs.Prelude.{Option, Some, None}
use Rattle.mk_simapi.specs.declared.served.Served.{Served}
use Rattle.mk_simapi.specs.declared.serving.Step.{Step}
use Rattle.mk_simapi.specs.declared.serving.Step.TheVariants as step

-- the end, if the serving has ended
abbrev pub end_of : Step → Option Served
end_of step.Again = None
end_of (step.Ended end) = Some end
