-- Answers to the goals of `crew::Crew::make_request` that the prover leaves.
use Rattle.mk_run_crew.proofs.Asked.{not_taken}
use Rattle.mk_run_crew.proofs.crew.Crew.make_request.Goals as goal

pub ask_link-requires-clause-away : goal.ask_link-requires-clause-away
ask_link-requires-clause-away g c = (c.requires.next).1.away

pub ask_link-requires-clause-linked : goal.ask_link-requires-clause-linked
ask_link-requires-clause-linked g c = (c.requires.next).1.channel

pub ask_link-requires-clause-range : goal.ask_link-requires-clause-range
ask_link-requires-clause-range g c = ((c.requires.next).1.requested).in_range

pub ask_link-requires-clause-few : goal.ask_link-requires-clause-few
ask_link-requires-clause-few g c = ((c.requires.next).1.requested).few

pub ask_link-requires-clause-going : goal.ask_link-requires-clause-going
ask_link-requires-clause-going g c = (((c.requires.next).1.so_far).answered).halt

pub returns-clause-err : goal.returns-clause-err
returns-clause-err g c = not_taken c.take_answer.result _ c.args.sim.0 c.args.call c.args.id c.in_ok-from.from c.in_ok-from.message _ _ c.args.self.now c.ask_link.new.self c.args.setup.now c.in_ok-from.ensures.ok c.take_answer.ensures.err
