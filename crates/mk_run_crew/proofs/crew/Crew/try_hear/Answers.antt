-- Answers to the goals of `crew::Crew::try_hear` that the prover leaves.
use Rattle.std.proofs.Common.{Ok, Err, sym, subst, ap, ◌∙◌}
use Rattle.mk_run_links.specs.Places.{AreOpen}
use Rattle.mk_run_local.specs.Seen.{WithinState}
use Rattle.mk_run_crew.specs.declared.halt.Halt.{Halt}
use Rattle.mk_run_crew.specs.Calls.{TriesAs, halt_of}
use Rattle.mk_run_crew.specs.Seen.{CrewSeen}
use Rattle.mk_run_crew.proofs.Trying.{tried_links, untried_links}
use Rattle.mk_run_crew.proofs.crew.Crew.try_hear.Goals.{in-Ok, in-Err}
use Rattle.mk_run_crew.proofs.crew.Crew.try_hear.Goals as goal

pub try_hear-requires : goal.try_hear-requires
try_hear-requires g c = record { «open» = subst (λ (x : CrewSeen). AreOpen x.channels (g.F.Fleet.open_links c.args.fleet.now)) (sym c.self.view_is) c.requires }

pub returns-clause-tried : goal.returns-clause-tried
returns-clause-tried g c going =
    let old : CrewSeen = record { places = c.self.inside.places; channels = c.self.inside.links.channels; sims = (c.self.inside.within).sims; kept = (c.self.inside.within).kept; halt = c.self.inside.links.halt } in
    let new : CrewSeen = record { places = c.self.inside.places; channels = c.try_hear.new.self.channels; sims = c.take.new.self.sims; kept = c.take.new.self.kept; halt = c.try_hear.new.self.halt } in
    let on = ap (λ (x : CrewSeen). x.halt) c.self.view_is ∙ going in
    let none = c.in_default-take.ensures.taken in
    let after = ap (λ (x : WithinState). x.kept) none.1 ∙ none.0 in
    elim c.match-try_hear.branch [
      | in-Ok w ↦ let t = w.in-Ok.ensures.tried on in
          rw w.result-is (t.0, t.1, subst (λ (x : CrewSeen). TriesAs (Ok w.in-Ok.heard) t.0 x new) c.self.view_is (tried_links t.0 old new none.0 after w.in-Ok.heard t.2))
      | in-Err w ↦ let t = w.in-Err.ensures.tried on in
          rw w.result-is (
            t.0,
            t.1,
            subst (λ (h : Halt). TriesAs (Err h) t.0 c.args.self.now new) (sym w.from-in-Err.ensures)
                (subst (λ (x : CrewSeen). TriesAs (Err (halt_of w.in-Err.why)) t.0 x new) c.self.view_is (untried_links t.0 old new none.0 after w.in-Err.why t.2)),
          )
    ]
