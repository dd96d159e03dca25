-- Answers to the goals of `crew::Crew::stop` that the prover leaves.
use Rattle.std.proofs.Common.{List, sym, subst}
use Rattle.mk_base.specs.declared.LinkNo.{LinkNo}
use Rattle.mk_base.specs.Lists.{Each, IsIn}
use Rattle.mk_launch.specs.Starts.{links_in}
use Rattle.mk_run_laws.specs.Crews.{AreStopped}
use Rattle.mk_outside.specs.Counts.{HasRisen}
use Rattle.mk_run_links.specs.Entries.{AreOn}
use Rattle.mk_run_links.specs.Places.{AreOpen, IsChannelLink, crew}
use Rattle.mk_run_crew.specs.Seen.{CrewSeen, crew_of}
use Rattle.mk_run_crew.proofs.Placing.{adds_no_more, places_open, stopped_later}
use Rattle.mk_run_crew.proofs.crew.Crew.stop.Goals as goal

pub stop-requires : goal.stop-requires
stop-requires g c = subst (λ (x : CrewSeen). AreOpen x.channels (g.F.Fleet.open_links c.args.fleet.now)) (sym c.self.view_is) c.requires

pub close_all-requires-clause-open : goal.close_all-requires-clause-open
close_all-requires-clause-open g c =
    subst (λ (ps : List _). Each (λ (link : LinkNo). IsIn link (g.F.Fleet.open_links c.stop.new.fleet)) (links_in ps)) (sym c.as_slice.ensures)
    (places_open c.self.inside.places c.self.inside.links.channels (g.F.Fleet.open_links c.stop.new.fleet) c.self.invariant
    (subst (λ (ls : List LinkNo). AreOpen c.self.inside.links.channels ls) (sym c.stop.ensures.same_links) (subst (λ (x : CrewSeen). AreOpen x.channels (g.F.Fleet.open_links c.args.fleet.now)) (sym c.self.view_is) c.requires)))

pub returns-clause-stopped : goal.returns-clause-stopped
returns-clause-stopped g c =
    let s = c.stop.ensures.stopped in
    let f0 = g.F.Fleet.faults c.args.fleet.now in
    let f2 = g.F.Fleet.faults c.close_all.new.fleet in (
      s.0,
      adds_no_more s.0 _ _ _ s.1 c.close_all.ensures.logged,
      subst (λ (x : CrewSeen). AreStopped s.0 (HasRisen f0 f2) (crew_of x)) c.self.view_is (stopped_later s.0 f0 (g.F.Fleet.faults c.stop.new.fleet) f2 (crew c.self.inside.links.channels) c.close_all.ensures.count s.2.0),
      s.2.1,
      subst (λ (x : CrewSeen). AreOn (IsChannelLink x.channels) s.0) c.self.view_is s.2.2,
    )
