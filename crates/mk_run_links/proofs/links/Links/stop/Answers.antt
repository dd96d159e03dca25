-- Answers to the goals of `links::Links::stop` that the prover leaves.
use Rattle.std.proofs.Common.{refl, subst, ◌∙◌, ap, arith, length}
use Rattle.mk_outside.specs.Counts.{HasRisen}
use Rattle.mk_outside.proofs.OnLogs.{adds_none}
use Rattle.mk_run_links.specs.inner.OneChannel.{StopsAt}
use Rattle.mk_run_links.specs.Seen.{Seen}
use Rattle.mk_run_links.specs.inner.Standing.{AreApart}
use Rattle.mk_run_links.proofs.OnStops.{all_stopped, none_stopped, risen_later, risen_on, stops_one_more}
use Rattle.mk_run_links.proofs.links.Links.stop.Goals as goal

pub loop-i-init : goal.loop-i-init
loop-i-init g c = record {
  counted = omega arith;
  same_count = refl;
  same_links = refl;
  stopping = none_stopped c.args.self.now.channels _ _ (adds_none _);
}

pub loop-i-preserved : goal.loop-i-preserved
loop-i-preserved g c =
    let so_far = c.loop-i.invariant in
    let s = c.stop.ensures.stopped in
    let f0 = g.F.Fleet.faults c.args.fleet.now in
    let f1 = g.F.Fleet.faults c.loop-i.fleet in
    let f2 = g.F.Fleet.faults c.stop.new.fleet in
    record {
      counted = omega (arith, so_far.counted, c.stop.ensures.count);
      same_count = c.stop.ensures.same_count ∙ so_far.same_count;
      same_links = c.stop.ensures.same_links ∙ so_far.same_links;
      stopping = stops_one_more c.loop-i.i c.args.self.now.channels (HasRisen f0 f1) (HasRisen f1 f2) (HasRisen f0 f2) _ _ _ s.0
          (subst (λ (x : Seen). AreApart x.channels) c.self.view_is c.self.invariant.apart)
          (risen_later f0 f1 f2 c.stop.ensures.count) (risen_on f0 f1 f2 so_far.counted c.stop.ensures.count)
          so_far.stopping s.1 (subst (λ (x : Seen). StopsAt c.loop-i.i x.channels (HasRisen f1 f2) s.0) c.self.view_is s.2);
    }

pub returns-clause-stopped : goal.returns-clause-stopped
returns-clause-stopped g c = all_stopped c.loop-i.i c.len-i-end.result c.args.self.now.channels _ _ _ c.loop-i.invariant.stopping (c.len-i-end.ensures.count ∙ ap (λ (x : Seen). length x.channels) c.self.view_is) (omega (arith, c.loop-i-test.false))
