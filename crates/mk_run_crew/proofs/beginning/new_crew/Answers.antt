-- Answers to the goals of `beginning::new_crew` that the prover leaves.
use Rattle.std.proofs.Common.{sym, subst, ap, ◌∙◌}
use Rattle.mk_local.specs.Registries.{rows_in}
use Rattle.mk_setup.specs.Seen.{SetupState}
use Rattle.mk_run_links.specs.Places.{AreDistinct}
use Rattle.mk_run_crew.proofs.Composing.{crew_is_new, few_places, places_channelled}
use Rattle.mk_run_crew.proofs.beginning.new_crew.Goals as goal

pub make_links-requires-clause-few : goal.make_links-requires-clause-few
make_links-requires-clause-few g c = few_places c.requires.placed.0 c.args.scenario.sims c.args.places c.as_slice.result.now c.requires.placed.1 c.as_slice.ensures c.requires.wellformed.sim_count.1

pub make_links-requires-clause-distinct : goal.make_links-requires-clause-distinct
make_links-requires-clause-distinct g c = subst AreDistinct (sym (c.as_slice.ensures ∙ c.requires.placed.1)) (c.places_are_distinct.ensures c.requires.placed.0 c.args.scenario.sims)

pub invariant_of-crew-in-Err-new : goal.invariant_of-crew-in-Err-new
invariant_of-crew-in-Err-new g c = places_channelled c.requires.placed.0 c.args.scenario.sims c.args.places c.as_slice.result.now c.in-Ok.made.0 c.places_are_distinct.ensures c.requires.placed.1 c.as_slice.ensures c.in-Ok.ensures.links

pub invariant_of-crew : goal.invariant_of-crew
invariant_of-crew g c = places_channelled c.requires.placed.0 c.args.scenario.sims c.args.places c.as_slice.result.now c.in-Ok.made.0 c.places_are_distinct.ensures c.requires.placed.1 c.as_slice.ensures c.in-Ok.ensures.links

pub returns-in-Ok-new-clause-new : goal.returns-in-Ok-new-clause-new
returns-in-Ok-new-clause-new g c started old open_links is all =
    crew_is_new started (rows_in c.args.kinds.now) c.args.scenario c.in-Ok-new.setup c.args.places c.as_slice.result.now old open_links c.in-Ok.made.0 c.in-Ok.made.1 is c.as_slice.ensures all c.in-Ok.ensures.links c.in-Ok.ensures.within c.in-Ok.ensures.known
    (ap (λ (U : SetupState). U.scenario) c.in-Ok-new.ensures)
