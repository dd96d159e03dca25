-- Answers to the goals of `starting::start_all` that the prover leaves.
use Rattle.std.proofs.Common.{◌≡◌, ◌<◌, [], ◌++◌, List, length, get_or, arith, sym, subst, inl}
use Rattle.mk_scenario.specs.declared.parts.SimPart.{SimPart}
use Rattle.mk_outside.proofs.OnLogs.{adds_more}
use Rattle.mk_outside.proofs.OnAsked.{asks_more, asks_still}
use Rattle.mk_launch.specs.Starts.{AreStarted}
use Rattle.mk_launch.proofs.Asking.{for_one_more, up_to}
use Rattle.mk_launch.proofs.Placing.{given_is_open, one_dropped, one_more, take_one_more}
use Rattle.mk_launch.proofs.starting.start_all.Goals as goal

pub put_place-requires : goal.put_place-requires
put_place-requires g c = given_is_open c.in-Place.place _ _ c.in-Place.ensures.begun.1

pub returns-in-Err-clause-started : goal.returns-in-Err-clause-started
returns-in-Err-clause-started g c =
    let within = subst (λ (xs : List SimPart). c.loop-i.i < length xs) c.as_slice-sim-items.ensures c.loop-i-test.true in
    let begun = c.in-Place.ensures.begun in
    let closed = c.in-Err.ensures.closed in
    (c.loop-i.i, within, one_dropped _ c.sim-item.result.begin c.in-Place.place _ _ _ _ c.loop-i.links c.put_place.new.links c.loop-i.invariant.so_far begun.0 begun.1 closed.0 c.in-Err.ensures.same_count closed.1)

pub returns-in-Err-clause-asked : goal.returns-in-Err-clause-asked
returns-in-Err-clause-asked g c =
    let within = subst (λ (xs : List SimPart). c.loop-i.i < length xs) c.as_slice-sim-items.ensures c.loop-i-test.true in
    let is = subst (λ (xs : List SimPart). c.sim-item.result ≡ get_or xs c.loop-i.i c.sim-item.result) c.as_slice-sim-items.ensures c.sim-item.is in
    let a = c.loop-i.invariant.asked in
    let b = c.in-Place.ensures.asked in
    (a.0 ++ b.0, asks_still (a.0 ++ b.0) _ _ _ (asks_more a.0 b.0 _ _ _ a.1 b.1) c.in-Err.ensures.same_asked, (c.loop-i.i, up_to c.args.scenario.now.sims c.loop-i.i c.sim-item.result a.0 b.0 within is a.2 (inl b.2)))

pub returns-in-Failed-clause-asked : goal.returns-in-Failed-clause-asked
returns-in-Failed-clause-asked g c =
    let within = subst (λ (xs : List SimPart). c.loop-i.i < length xs) c.as_slice-sim-items.ensures c.loop-i-test.true in
    let is = subst (λ (xs : List SimPart). c.sim-item.result ≡ get_or xs c.loop-i.i c.sim-item.result) c.as_slice-sim-items.ensures c.sim-item.is in
    let a = c.loop-i.invariant.asked in
    let b = c.in-Failed.ensures.asked in
    (a.0 ++ b.0, asks_more a.0 b.0 _ _ _ a.1 b.1, up_to c.args.scenario.now.sims c.loop-i.i c.sim-item.result a.0 b.0 within is a.2 b.2)

pub returns-in-Mem-clause-asked : goal.returns-in-Mem-clause-asked
returns-in-Mem-clause-asked g c =
    let within = subst (λ (xs : List SimPart). c.loop-i.i < length xs) c.as_slice-sim-items.ensures c.loop-i-test.true in
    let is = subst (λ (xs : List SimPart). c.sim-item.result ≡ get_or xs c.loop-i.i c.sim-item.result) c.as_slice-sim-items.ensures c.sim-item.is in
    let a = c.loop-i.invariant.asked in
    let b = c.in-Mem.ensures.asked in
    (a.0 ++ b.0, asks_more a.0 b.0 _ _ _ a.1 b.1, (c.loop-i.i, up_to c.args.scenario.now.sims c.loop-i.i c.sim-item.result a.0 b.0 within is a.2 b.2))

pub loop-i-preserved : goal.loop-i-preserved
loop-i-preserved g c =
    let within = subst (λ (xs : List SimPart). c.loop-i.i < length xs) c.as_slice-sim-items.ensures c.loop-i-test.true in
    let is = subst (λ (xs : List SimPart). c.sim-item.result ≡ get_or xs c.loop-i.i c.sim-item.result) c.as_slice-sim-items.ensures c.sim-item.is in
    let begun = c.in-Place.ensures.begun in
    let put = c.in-Ok.ensures.put in
    let a = c.loop-i.invariant.asked in
    let b = c.in-Place.ensures.asked in
    record {
      so_far = subst (λ (xs : List SimPart). AreStarted xs (record { started = g.F.Fleet.started c.args.fleet.now; links = g.F.Fleet.open_links c.args.fleet.now })
          (record { started = g.F.Fleet.started c.put_place.new.fleet; links = g.F.Fleet.open_links c.put_place.new.fleet }) c.put_place.new.links)
          (sym (take_one_more c.args.scenario.now.sims c.loop-i.i c.sim-item.result within is))
          (one_more _ c.sim-item.result c.in-Place.place _ _ _ _ c.loop-i.links c.put_place.new.links c.loop-i.invariant.so_far begun.0 begun.1 put.0 c.in-Ok.ensures.same_count put.1);
      asked = (a.0 ++ b.0, asks_still (a.0 ++ b.0) _ _ _ (asks_more a.0 b.0 _ _ _ a.1 b.1) c.in-Ok.ensures.same_asked, for_one_more c.args.scenario.now.sims c.loop-i.i c.sim-item.result a.0 b.0 within is a.2 b.2);
      counted = omega (arith, c.loop-i.invariant.counted, c.in-Place.ensures.count, c.in-Ok.ensures.count);
      logged = adds_more [] [] _ _ _ (adds_more [] [] _ _ _ c.loop-i.invariant.logged c.in-Place.ensures.logged) c.in-Ok.ensures.logged;
    }
