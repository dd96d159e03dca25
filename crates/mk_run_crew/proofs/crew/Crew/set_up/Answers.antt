-- Answers to the goals of `crew::Crew::set_up` that the prover leaves.
use Rattle.std.proofs.Common.{[], ◌++◌, refl, sym, subst, ◌∙◌, arith}
use Rattle.mk_outside.specs.Counts.{HasRisen}
use Rattle.mk_outside.proofs.OnLogs.{adds_more, adds_none}
use Rattle.mk_local.specs.Registries.{rows_in}
use Rattle.mk_run_links.specs.Places.{AreOpen, Channels}
use Rattle.mk_run_crew.specs.declared.asking.Stage.{Stage}
use Rattle.mk_run_crew.specs.Attempts.{attempt}
use Rattle.mk_run_crew.specs.inner.Asking.{ComesTo}
use Rattle.mk_run_crew.proofs.Looping.{goes_on, halting_anyhow, halts, new_open, starts}
use Rattle.mk_run_crew.proofs.crew.Crew.set_up.Goals as goal
use Rattle.mk_session.proofs.Polling.{risen_after}

pub loop-init : goal.loop-init
loop-init g c = record {
  counted = omega arith;
  same_count = refl;
  same_links = refl;
  same_places = refl;
  are_open = new_open c.requires.new.0 (rows_in c.args.kinds.now) c.args.setup.now.scenario (g.F.Fleet.open_links c.args.fleet.now) c.args.self.now c.requires.new.1;
  so_far = λ started new. (
    [],
    adds_none _,
    starts c.replies_make.ensures started c.args.setup.now.scenario c.args.setup.now.ranks (rows_in c.args.kinds.now) (g.F.Fleet.open_links c.args.fleet.now) c.args.self.now c.args.setup.now c.requires.prepared new c.requires.begun,
  );
}

pub set_up_within-requires : goal.set_up_within-requires
set_up_within-requires g c = let t = c.loop.invariant.so_far c.requires.new.0 c.requires.new.1 in (attempt c.requires.new.0 c.args.setup.now.scenario c.args.setup.now.ranks (rows_in c.args.kinds.now) t.0, t.2)

pub returns-in-Ok-Planned-clause-ok : goal.returns-in-Ok-Planned-clause-ok
returns-in-Ok-Planned-clause-ok g c started new =
    let t = c.loop.invariant.so_far started new in
    let A = attempt started c.args.setup.now.scenario c.args.setup.now.ranks (rows_in c.args.kinds.now) t.0 in
    (t.0, t.1, subst (λ (x : Stage). ComesTo A x c.set_up_within.new.self c.set_up_within.new.setup) c.in-Ok-Planned.field-0-is (c.in-Ok-Planned.ensures.ok A t.2))

pub returns-in-Err-clause-err : goal.returns-in-Err-clause-err
returns-in-Err-clause-err g c started new =
    let t = c.loop.invariant.so_far started new in
    let A = attempt started c.args.setup.now.scenario c.args.setup.now.ranks (rows_in c.args.kinds.now) t.0 in
    (t.0, t.1, halting_anyhow A (HasRisen (g.F.Fleet.faults c.args.fleet.now) (g.F.Fleet.faults c.loop.fleet)) c.in-Err.halt c.set_up_within.new.self (c.in-Err.ensures.err A t.2))

-- ---- the next request goes to a link

pub make_request-requires-clause-next : goal.make_request-requires-clause-next
make_request-requires-clause-next g c =
    let t = c.loop.invariant.so_far c.requires.new.0 c.requires.new.1 in
    let A = attempt c.requires.new.0 c.args.setup.now.scenario c.args.setup.now.ranks (rows_in c.args.kinds.now) t.0 in
    (A, subst (λ (x : Stage). ComesTo A x c.set_up_within.new.self c.set_up_within.new.setup) c.in-Ok-Linked.field-0-is (c.in-Ok-Linked.ensures.ok A t.2))

pub make_request-requires-clause-open : goal.make_request-requires-clause-open
make_request-requires-clause-open g c = subst (λ (X : Channels). AreOpen X (g.F.Fleet.open_links c.loop.fleet)) (sym c.in-Ok-Linked.ensures.same_channels) c.loop.invariant.are_open

pub loop-preserved : goal.loop-preserved
loop-preserved g c =
    let so_far = c.loop.invariant in
    let all = c.in_default.ensures in
    record {
      counted = omega (arith, so_far.counted, all.count);
      same_count = all.same_count ∙ so_far.same_count;
      same_links = all.same_links ∙ so_far.same_links;
      same_places = all.same_places ∙ c.in-Ok-Linked.ensures.same_places ∙ so_far.same_places;
      are_open = all.open;
      so_far = λ started new.
          let t = so_far.so_far started new in
          let A = attempt started c.args.setup.now.scenario c.args.setup.now.ranks (rows_in c.args.kinds.now) t.0 in
          let n = subst (λ (x : Stage). ComesTo A x c.set_up_within.new.self c.set_up_within.new.setup) c.in-Ok-Linked.field-0-is (c.in-Ok-Linked.ensures.ok A t.2) in
          let made = all.ok in (
            t.0 ++ made.0,
            adds_more t.0 made.0 _ _ _ t.1 made.1,
            goes_on c.replies_make.ensures A c.set_up_within.new.self n.state n.so_far c.set_up_within.new.setup c.in-Ok-Linked.sim c.in-Ok-Linked.call c.in-Ok-Linked.id n.requested made.0 c.make_request.new.self c.make_request.new.setup made.2 all.same_places,
          );
    }

pub returns-in-Err-make_request-clause-err : goal.returns-in-Err-make_request-clause-err
returns-in-Err-make_request-clause-err g c started new =
    let t = c.loop.invariant.so_far started new in
    let A = attempt started c.args.setup.now.scenario c.args.setup.now.ranks (rows_in c.args.kinds.now) t.0 in
    let n = subst (λ (x : Stage). ComesTo A x c.set_up_within.new.self c.set_up_within.new.setup) c.in-Ok-Linked.field-0-is (c.in-Ok-Linked.ensures.ok A t.2) in
    let all = c.in-Err-make_request.ensures in
    let made = all.err in
    let f0 = g.F.Fleet.faults c.args.fleet.now in
    let f1 = g.F.Fleet.faults c.loop.fleet in
    let f2 = g.F.Fleet.faults c.make_request.new.fleet in (
      t.0 ++ made.0,
      adds_more t.0 made.0 _ _ _ t.1 made.1,
      halts c.replies_make.ensures A c.set_up_within.new.self n.state n.so_far c.set_up_within.new.setup c.in-Ok-Linked.sim c.in-Ok-Linked.call c.in-Ok-Linked.id n.requested made.0 (HasRisen f1 f2) (HasRisen f0 f2) c.in-Err-make_request.halt c.make_request.new.self
          (risen_after f0 f1 f2 c.loop.invariant.counted) made.2 all.same_places,
    )
