-- Answers to the goals of `wholly::take_next` that the prover leaves.
use Rattle.std.proofs.Common.{[]}
use Rattle.mk_run_crew.specs.Seen.{crew_of}
use Rattle.mk_run.proofs.Hearing.{heard_low, heard_in_range}
use Rattle.mk_run.proofs.Turning.{heard_turn, past_it}
use Rattle.mk_run.proofs.Linkless.{kept_there}
use Rattle.mk_run.proofs.wholly.take_next.Goals as goal

pub unreachable-requires : goal.unreachable-requires
unreachable-requires g c = let t = c.requires.underway in kept_there t.0 t.2 c.args.core.now [] c.args.crew.now t.1 c.requires.waits c.in-None.ensures.taken.0

pub take-requires-clause-there : goal.take-requires-clause-there
take-requires-clause-there g c =
    let t = c.requires.underway in
    heard_low t.0 c.args.core.now.plan c.args.core.now.entries [] c.in-Some.sim c.in-Some.message (crew_of c.take_kept.new.self) c.take_kept.new.self.sims
    (past_it t.0 c.args.core.now [] [] c.args.crew.now c.take_kept.new.self c.in-Some.sim c.in-Some.message t.1 c.requires.waits c.in-Some.ensures.taken tt c.in-Some.ensures.same_sims (λ k more e. c.in-Some.ensures.fit))

pub take-requires-clause-form : goal.take-requires-clause-form
take-requires-clause-form g c =
    let t = c.requires.underway in
    heard_in_range t.0 c.args.core.now.plan c.args.core.now.entries [] c.in-Some.sim c.in-Some.message (crew_of c.take_kept.new.self) c.take_kept.new.self.sims
    (past_it t.0 c.args.core.now [] [] c.args.crew.now c.take_kept.new.self c.in-Some.sim c.in-Some.message t.1 c.requires.waits c.in-Some.ensures.taken tt c.in-Some.ensures.same_sims (λ k more e. c.in-Some.ensures.fit))

pub take-requires-clause-heard : goal.take-requires-clause-heard
take-requires-clause-heard g c =
    let t = c.requires.underway in (
      t.0,
      [],
      past_it t.0 c.args.core.now [] [] c.args.crew.now c.take_kept.new.self c.in-Some.sim c.in-Some.message t.1 c.requires.waits c.in-Some.ensures.taken tt c.in-Some.ensures.same_sims (λ k more e. c.in-Some.ensures.fit),
    )

pub returns-clause-turned : goal.returns-clause-turned
returns-clause-turned g c =
    heard_turn ⊥ c.args.core.now c.take.new.core [] c.args.crew.now c.take_kept.new.self c.take.new.crew c.in-Some.sim c.in-Some.message c.take.result c.requires.waits c.in-Some.ensures.taken tt c.in-Some.ensures.same_sims (λ k more e. c.in-Some.ensures.fit)
    c.take.ensures.taken
