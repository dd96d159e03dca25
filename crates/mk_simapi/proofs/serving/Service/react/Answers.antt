-- Answers to the goals of `serving::Service::react` that the prover leaves.
use Rattle.std.proofs.Common.{◌∙◌}
use Rattle.mk_simapi.proofs.Steps.{answered_memory, said_on_link}
use Rattle.mk_simapi.proofs.serving.Service.react.Goals as goal

pub returns-in-Ok-clause-reacts : goal.returns-in-Ok-clause-reacts
returns-in-Ok-clause-reacts g c = λ L log before at. said_on_link L c.args.self.now.session.link log before c.args.message.now c.args.self.now.servant c.say.new.self.servant c.args.self.now.session c.say.new.self.session at
    (c.say.ensures.same ∙ c.in-Ok.ensures.after) c.in-Ok.answer c.say.result c.in-Ok.ensures.answer c.say.ensures.says

pub returns-in-Err-clause-reacts : goal.returns-in-Err-clause-reacts
returns-in-Err-clause-reacts g c = λ L log before at. answered_memory L c.args.self.now.session.link log before c.args.message.now c.args.self.now.servant c.answer.new.self c.args.self.now.session at c.args.self.now.session
