-- Answers to the goals of `beginning::start` that the prover leaves.
use Rattle.std.proofs.Common.{ℕ, ◌+◌, ◌≤◌, List, length, subst, sym, ap, ◌∙◌, inl, inr}
use Rattle.mk_base.specs.declared.LinkNo.{LinkNo}
use Rattle.mk_base.specs.Lists.{Each, IsIn}
use Rattle.mk_outside.specs.Counts.{HasRisen}
use Rattle.mk_launch.specs.Starts.{links_in}
use Rattle.mk_run_links.specs.Places.{without_all, AreDistinct}
use Rattle.mk_run_crew.proofs.Started.{few_started}
use Rattle.mk_run_crew.proofs.Starting.{leaves, others_stay, started_not}
use Rattle.mk_run_crew.proofs.beginning.start.Goals as goal
use Rattle.mk_run_links.proofs.OnStops.{risen_later}

pub close_all-requires-clause-open : goal.close_all-requires-clause-open
close_all-requires-clause-open g c =
    let l = leaves c.in-Err.fault _ _ _ _ c.in-Err.ensures.started in
    subst (λ (ps : List _). Each (λ (link : LinkNo). IsIn link (g.F.Fleet.open_links c.start_all.new.fleet)) (links_in ps)) (sym c.as_slice.ensures) l.open_ones

pub close_all-requires-clause-distinct : goal.close_all-requires-clause-distinct
close_all-requires-clause-distinct g c =
    let l = leaves c.in-Err.fault _ _ _ _ c.in-Err.ensures.started in
    subst AreDistinct (sym (c.as_slice.ensures ∙ l.places)) (c.places_are_distinct.ensures (g.F.Fleet.started c.args.fleet.now) l.first)

pub returns-in-Err-clause-cause : goal.returns-in-Err-clause-cause
returns-in-Err-clause-cause g c =
    let f0 = g.F.Fleet.faults c.args.fleet.now in
    let f1 = g.F.Fleet.faults c.start_all.new.fleet in
    let f2 = g.F.Fleet.faults c.close_all.new.fleet in
    rw c.start_halt.ensures
    (started_not c.in-Err.fault (HasRisen f0 f2) (elim c.in-Err.ensures.cause [ inl e ↦ inl e | inr r ↦ inr (risen_later f0 f1 f2 c.close_all.ensures.count r) ]))

pub returns-in-Err-clause-most : goal.returns-in-Err-clause-most
returns-in-Err-clause-most g c =
    let n = g.F.Fleet.started c.args.fleet.now in
    subst (λ (k : ℕ). (n ≤ k) × (k ≤ n + length c.args.scenario.now.sims)) (sym c.close_all.ensures.same_count) (few_started c.in-Err.fault _ _ _ _ c.in-Err.ensures.started)

pub returns-in-Err-clause-closed : goal.returns-in-Err-clause-closed
returns-in-Err-clause-closed g c =
    λ low_ones.
    let l = leaves c.in-Err.fault _ _ _ _ c.in-Err.ensures.started in
    c.close_all.ensures.closed ∙ ap (λ (ps : List _). without_all (links_in ps) (g.F.Fleet.open_links c.start_all.new.fleet)) c.as_slice.ensures ∙ others_stay _ l.first c.start_all.new.links _ _ l.places low_ones (l.links low_ones)
