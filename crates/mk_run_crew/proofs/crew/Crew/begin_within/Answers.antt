-- Answers to the goals of `crew::Crew::begin_within` that the prover leaves.
use Rattle.std.proofs.Common.{[], inl, refl, sym, subst, ap, ◌∙◌}
use Rattle.mk_launch.specs.Starts.{links_in}
use Rattle.mk_run_crew.specs.Attempts.{attempt}
use Rattle.mk_local.specs.Registries.{rows_in}
use Rattle.mk_outside.specs.Counts.{HasRisen}
use Rattle.mk_setup.specs.Seen.{SetupState}
use Rattle.mk_run_links.specs.Places.{Channels, at, new_channels}
use Rattle.mk_run_crew.specs.Begun.{HasBegun}
use Rattle.mk_run_crew.specs.Halted.{HasHalted}
use Rattle.mk_run_crew.proofs.Ending.{halted_silently}
use Rattle.mk_run_crew.proofs.Unlinked.{no_channels, linkless_places, unplaced}
use Rattle.mk_run_crew.proofs.crew.Crew.begin_within.Goals as goal

pub new_crew-requires-clause-placed : goal.new_crew-requires-clause-placed
new_crew-requires-clause-placed g c = (0, c.in-Ok.ensures ∙ unplaced 0 c.args.scenario c.requires.wholly)

pub shake_within-requires-clause-new : goal.shake_within-requires-clause-new
shake_within-requires-clause-new g c started = c.in-Ok-new_crew.ensures.new started [] [] (c.in-Ok.ensures ∙ unplaced started c.args.scenario c.requires.wholly) (sym (ap links_in c.in-Ok.ensures ∙ linkless_places c.args.scenario.sims))

pub shake_within-requires-clause-linkless : goal.shake_within-requires-clause-linkless
shake_within-requires-clause-linkless g c i = ap (λ (L : Channels). at L i) (c.in-Ok-new_crew.ensures.channels ∙ ap new_channels c.in-Ok.ensures) ∙ no_channels c.args.scenario.sims i

pub returns-in-Err-clause-halted : goal.returns-in-Err-clause-halted
returns-in-Err-clause-halted g c started faults new_faults = halted_silently started c.args.scenario c.args.ranks (rows_in c.args.kinds.now) _ _ (inl refl)

pub returns-in-Err-new_crew-clause-halted : goal.returns-in-Err-new_crew-clause-halted
returns-in-Err-new_crew-clause-halted g c started faults new_faults = halted_silently started c.args.scenario c.args.ranks (rows_in c.args.kinds.now) _ _ (inl refl)

pub returns-in-Ok-shake_within-clause-begun : goal.returns-in-Ok-shake_within-clause-begun
returns-in-Ok-shake_within-clause-begun g c started =
    subst (λ (U : SetupState). HasBegun (attempt started U.scenario U.ranks (rows_in c.args.kinds.now) []) (c.in-Ok-shake_within.begun).0 (c.in-Ok-shake_within.begun).1) c.in-Ok-new_crew.ensures.begun (c.in-Ok-shake_within.ensures.begun started)

pub returns-in-Err-shake_within-clause-halted : goal.returns-in-Err-shake_within-clause-halted
returns-in-Err-shake_within-clause-halted g c started faults new_faults =
    subst (λ (U : SetupState). HasHalted (attempt started U.scenario U.ranks (rows_in c.args.kinds.now) []) (HasRisen faults new_faults) c.in-Err-shake_within.halt) c.in-Ok-new_crew.ensures.begun (c.in-Err-shake_within.ensures.halted started faults new_faults)
