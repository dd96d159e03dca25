-- Answers to the goals of `crew::Crew::begin` that the prover leaves.
use Rattle.std.proofs.Common.{◌+◌, List, [], ◌++◌, length, Option, inl, refl, sym, subst, ap, ◌∙◌}
use Rattle.mk_base.specs.declared.LinkNo.{LinkNo}
use Rattle.mk_base.specs.Lists.{Each, IsIn}
use Rattle.mk_outside.specs.Counts.{HasRisen}
use Rattle.mk_outside.proofs.OnLogs.{adds_more}
use Rattle.mk_launch.specs.Starts.{links_in}
use Rattle.mk_run_crew.specs.Attempts.{attempt}
use Rattle.mk_local.specs.Registries.{rows_in}
use Rattle.mk_setup.specs.Seen.{SetupState}
use Rattle.mk_run_links.specs.Places.{AreDistinct, without_all}
use Rattle.mk_run_crew.specs.Begun.{HasBegun}
use Rattle.mk_run_crew.specs.Halted.{HasHalted}
use Rattle.mk_run_crew.proofs.Ending.{halted_silently}
use Rattle.mk_run_crew.proofs.Placing.{adds_no_more}
use Rattle.mk_run_crew.proofs.Started.{all_started, fewer_started}
use Rattle.mk_run_crew.proofs.Starting.{others_stay, put_open}
use Rattle.mk_run_crew.proofs.crew.Crew.begin.Goals as goal

pub returns-in-Err-clause-halted : goal.returns-in-Err-clause-halted
returns-in-Err-clause-halted g c = (
  [],
  c.in-Err.ensures.logged,
  halted_silently (g.F.Fleet.started c.args.fleet.now) c.args.scenario c.args.ranks (rows_in c.args.kinds.now) (HasRisen (g.F.Fleet.faults c.args.fleet.now) (g.F.Fleet.faults c.start.new.fleet)) c.in-Err.halt c.in-Err.ensures.cause,
  tt,
  fewer_started c.args.scenario c.in-Err.halt _ _ _ c.in-Err.ensures.cause c.in-Err.ensures.most,
)

pub new_crew-requires-clause-placed : goal.new_crew-requires-clause-placed
new_crew-requires-clause-placed g c = (g.F.Fleet.started c.args.fleet.now, c.in-Ok.ensures.started.places)

pub close_all-requires-clause-open : goal.close_all-requires-clause-open
close_all-requires-clause-open g c =
    subst (λ (ps : List _). Each (λ (link : LinkNo). IsIn link (g.F.Fleet.open_links c.start.new.fleet)) (links_in ps)) (sym (c.as_slice.ensures ∙ c.in-Err-new_crew.ensures.back))
    (put_open c.in-Ok.places (g.F.Fleet.open_links c.args.fleet.now) (g.F.Fleet.open_links c.start.new.fleet) c.in-Ok.ensures.started.links)

pub close_all-requires-clause-distinct : goal.close_all-requires-clause-distinct
close_all-requires-clause-distinct g c =
    subst AreDistinct (sym (c.as_slice.ensures ∙ c.in-Err-new_crew.ensures.back ∙ c.in-Ok.ensures.started.places)) (c.places_are_distinct.ensures (g.F.Fleet.started c.args.fleet.now) c.args.scenario.sims)

pub returns-in-Err-new_crew-clause-halted : goal.returns-in-Err-new_crew-clause-halted
returns-in-Err-new_crew-clause-halted g c = (
  [],
  adds_no_more [] _ _ _ c.in-Ok.ensures.logged c.close_all.ensures.logged,
  halted_silently (g.F.Fleet.started c.args.fleet.now) c.args.scenario c.args.ranks (rows_in c.args.kinds.now) (HasRisen (g.F.Fleet.faults c.args.fleet.now) (g.F.Fleet.faults c.close_all.new.fleet)) _ (inl refl),
  tt,
  all_started c.args.scenario _ _ c.in-Ok.places _ c.in-Ok.ensures.started.places (c.close_all.ensures.same_count ∙ c.in-Ok.ensures.started.started),
)

pub returns-in-Err-new_crew-clause-closed : goal.returns-in-Err-new_crew-clause-closed
returns-in-Err-new_crew-clause-closed g c = λ low_ones.
    c.close_all.ensures.closed ∙ ap (λ (ps : List _). without_all (links_in ps) (g.F.Fleet.open_links c.start.new.fleet)) (c.as_slice.ensures ∙ c.in-Err-new_crew.ensures.back)
    ∙ others_stay (g.F.Fleet.started c.args.fleet.now) c.args.scenario.sims c.in-Ok.places (g.F.Fleet.open_links c.args.fleet.now) _ c.in-Ok.ensures.started.places low_ones c.in-Ok.ensures.started.links

pub shake-requires-clause-new : goal.shake-requires-clause-new
shake-requires-clause-new g c = (
  g.F.Fleet.started c.args.fleet.now,
  c.in-Ok-new_crew.ensures.new (g.F.Fleet.started c.args.fleet.now) (g.F.Fleet.open_links c.args.fleet.now) _ c.in-Ok.ensures.started.places c.in-Ok.ensures.started.links,
)

pub returns-in-Ok-shake-clause-begun : goal.returns-in-Ok-shake-clause-begun
returns-in-Ok-shake-clause-begun g c =
    let n = g.F.Fleet.started c.args.fleet.now in
    let b = c.in-Ok-shake.ensures.ok n (c.in-Ok-new_crew.ensures.new n (g.F.Fleet.open_links c.args.fleet.now) _ c.in-Ok.ensures.started.places c.in-Ok.ensures.started.links) in (
      b.0,
      adds_more [] b.0 _ _ _ c.in-Ok.ensures.logged b.1,
      subst (λ (U : SetupState). HasBegun (attempt n U.scenario U.ranks (rows_in c.args.kinds.now) b.0) (c.in-Ok-shake.begun).0 (c.in-Ok-shake.begun).1) c.in-Ok-new_crew.ensures.begun b.2,
    )

pub returns-in-Ok-shake-clause-started : goal.returns-in-Ok-shake-clause-started
returns-in-Ok-shake-clause-started g c =
    let s = c.in-Ok.ensures.started in
    let same = c.in-Ok-shake.ensures.same_places ∙ c.in-Ok-new_crew.ensures.places in
    record {
      places = same ∙ s.places;
      started = c.in-Ok-shake.ensures.same_count ∙ s.started ∙ ap (λ (ps : List (Option LinkNo)). g.F.Fleet.started c.args.fleet.now + length (links_in ps)) (sym same);
      links = c.in-Ok-shake.ensures.same_links ∙ s.links ∙ ap (λ (ps : List (Option LinkNo)). g.F.Fleet.open_links c.args.fleet.now ++ links_in ps) (sym same);
    }

pub returns-in-Ok-shake-clause-others : goal.returns-in-Ok-shake-clause-others
returns-in-Ok-shake-clause-others g c = λ low_ones.
    ap (λ (ps : List _). without_all (links_in ps) (g.F.Fleet.open_links c.shake.new.fleet)) (c.in-Ok-shake.ensures.same_places ∙ c.in-Ok-new_crew.ensures.places)
    ∙ others_stay (g.F.Fleet.started c.args.fleet.now) c.args.scenario.sims c.in-Ok.places (g.F.Fleet.open_links c.args.fleet.now) _ c.in-Ok.ensures.started.places low_ones (c.in-Ok-shake.ensures.same_links ∙ c.in-Ok.ensures.started.links)

pub returns-in-Err-shake-clause-halted : goal.returns-in-Err-shake-clause-halted
returns-in-Err-shake-clause-halted g c =
    let n = g.F.Fleet.started c.args.fleet.now in
    let f0 = g.F.Fleet.faults c.args.fleet.now in
    let f2 = g.F.Fleet.faults c.shake.new.fleet in
    let b = c.in-Err-shake.ensures.err n f0 c.in-Ok.ensures.count (c.in-Ok-new_crew.ensures.new n (g.F.Fleet.open_links c.args.fleet.now) _ c.in-Ok.ensures.started.places c.in-Ok.ensures.started.links) in (
      b.0,
      adds_more [] b.0 _ _ _ c.in-Ok.ensures.logged b.1,
      subst (λ (U : SetupState). HasHalted (attempt n U.scenario U.ranks (rows_in c.args.kinds.now) b.0) (HasRisen f0 f2) c.in-Err-shake.halt) c.in-Ok-new_crew.ensures.begun b.2,
      b.3,
      all_started c.args.scenario _ _ c.in-Ok.places _ c.in-Ok.ensures.started.places (c.in-Err-shake.ensures.same_count ∙ c.in-Ok.ensures.started.started),
    )

pub returns-in-Err-shake-clause-closed : goal.returns-in-Err-shake-clause-closed
returns-in-Err-shake-clause-closed g c = λ low_ones.
    c.in-Err-shake.ensures.closed ∙ ap (λ (ps : List _). without_all (links_in ps) (g.F.Fleet.open_links c.start.new.fleet)) c.in-Ok-new_crew.ensures.places
    ∙ others_stay (g.F.Fleet.started c.args.fleet.now) c.args.scenario.sims c.in-Ok.places (g.F.Fleet.open_links c.args.fleet.now) _ c.in-Ok.ensures.started.places low_ones c.in-Ok.ensures.started.links
