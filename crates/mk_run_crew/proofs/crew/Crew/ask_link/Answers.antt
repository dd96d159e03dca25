-- Answers to the goals of `crew::Crew::ask_link` that the prover leaves.
use Rattle.std.proofs.Common.{[], ap, refl, ◌∙◌}
use Rattle.mk_outside.proofs.OnLogs.{adds_none}
use Rattle.mk_run_links.specs.Seen.{Seen}
use Rattle.mk_run_crew.specs.Seen.{CrewSeen}
use Rattle.mk_run_crew.proofs.Asked.{asked_not, asked_on_link}
use Rattle.mk_run_crew.proofs.crew.Crew.ask_link.Goals.{in-Ok, in-Err-hear}
use Rattle.mk_run_crew.proofs.crew.Crew.ask_link.Goals as goal

pub returns-in-Err-clause-err : goal.returns-in-Err-clause-err
returns-in-Err-clause-err g c =
    let crew : Seen → CrewSeen = λ s. record { places = c.self.inside.places; channels = s.channels; sims = (c.self.inside.within).sims; kept = (c.self.inside.within).kept; halt = s.halt } in (
      [],
      adds_none _,
      asked_not c.in-Err.halt c.args.sim.0 c.args.call.now c.args.id c.args.self.now _ c.requires.away (ap crew c.in-Err.ensures.err ∙ c.self.view_is) c.in-Err.ensures.why,
    )

pub returns-clause-ok : goal.returns-clause-ok
returns-clause-ok g c =
    let going = c.in_default.ensures.same_halt ∙ ap (λ (x : CrewSeen). x.halt) c.self.view_is ∙ c.requires.going in
    elim c.match-hear.branch [
      | in-Ok w ↦
          let h = w.in-Ok.ensures.heard going in
          rw w.result-is (
            h.0,
            h.1,
            asked_on_link c.args.sim.0 c.args.call.now c.args.id (w.in-Ok.heard).0.0 (w.in-Ok.heard).1 h.0 _ c.args.self.now _ c.queue_call.new.links.channels c.self.view_is c.requires.away c.in_default.ensures.ok c.in_default.ensures.framed h.2 refl refl (w.in-Ok.ensures.lasts going) h.3,
          )
      | in-Err-hear w ↦ rw w.result-is tt
    ]
