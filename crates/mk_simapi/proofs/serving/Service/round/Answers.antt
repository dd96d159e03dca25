-- The answers of `round`.
use Rattle.std.proofs.Common.{◌++◌, ap, subst}
use Rattle.mk_outside.proofs.OnLogs.{adds_more}
use Rattle.mk_message.proofs.Ranges.{read_in_range}
use Rattle.mk_session.specs.declared.answers.Heard.{Heard}
use Rattle.mk_session.specs.declared.answers.Polled.TheVariants as polled
use Rattle.mk_session.specs.Answers.{Polls}
use Rattle.mk_simapi.proofs.Steps.{pending_rest}
use Rattle.mk_simapi.proofs.serving.Service.round.Goals as goal

pub take-requires-clause-range : goal.take-requires-clause-range
take-requires-clause-range g c = λ m e.
    let p = c.in-Ready.ensures.polled in
    let found = (subst (λ (h : Heard). Polls (polled.Ready h) c.args.self.now.session p.0 c.poll.new.self) e p.2).found in
    read_in_range found.0 m found.1

pub returns-in-Pending-clause-went : goal.returns-in-Pending-clause-went
returns-in-Pending-clause-went g c =
    let p = c.in-Pending.ensures.polled in
    let r = c.rest.ensures.rested in
    (p.0 ++ r.0, adds_more p.0 r.0 _ _ _ p.1 r.1, λ L log before at. pending_rest L c.args.self.now.session.link log p.0 before c.args.self.now.servant c.args.self.now.session c.poll.new.self at p.2 c.rest.result r.0 r.2)

pub returns-in-Ready-clause-went : goal.returns-in-Ready-clause-went
returns-in-Ready-clause-went g c =
    let p = c.in-Ready.ensures.polled in
    (p.0, p.1, λ L log before at. c.take.ensures.takes L log p.0 before c.args.self.now.session at p.2)

pub returns-in-Ready-clause-cause : goal.returns-in-Ready-clause-cause
returns-in-Ready-clause-cause g c = λ e. c.in-Ready.ensures.cause (ap polled.Ready (c.take.ensures.failed e))
