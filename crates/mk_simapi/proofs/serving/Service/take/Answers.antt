-- Answers to the goals of `serving::Service::take` that the prover leaves.
use Rattle.std.proofs.Common.{◌++◌, sym, subst}
use Rattle.mk_base.specs.declared.LinkNo.{LinkNo}
use Rattle.mk_session.specs.declared.answers.Heard.{Heard}
use Rattle.mk_session.specs.declared.answers.Polled.TheVariants as polled
use Rattle.mk_session.specs.Answers.{Polls}
use Rattle.mk_simapi.specs.inner.Standing.{GoesOn, IsAsked}
use Rattle.mk_simapi.proofs.Steps.{polled_closed, polled_failed, polled_garbled, polled_long, polled_memory, polled_message}
use Rattle.mk_simapi.proofs.serving.Service.take.Goals as goal

pub react-requires-clause-range : goal.react-requires-clause-range
react-requires-clause-range g c = c.requires.range c.in-Message.message c.in-Message.is

pub returns-in-Message-clause-takes : goal.returns-in-Message-clause-takes
returns-in-Message-clause-takes g c = λ L log entries before s at p.
    let t = c.args.self.now.session in
    let asked = polled_message L s.link log entries before c.args.self.now.servant s t at c.in-Message.message (subst (λ (h : Heard). Polls (polled.Ready h) s entries t) c.in-Message.is p) in
    subst (λ (l : LinkNo). GoesOn L l (log ++ entries) c.react.result c.react.new.self.servant c.react.new.self.session) p.same_link
    (c.react.ensures.reacts L (log ++ entries) before (subst (λ (l : LinkNo). IsAsked L l (log ++ entries) before c.in-Message.message c.args.self.now.servant t) (sym p.same_link) asked))

pub returns-in-Garbled-clause-takes : goal.returns-in-Garbled-clause-takes
returns-in-Garbled-clause-takes g c = λ L log entries before s at p. polled_garbled L s.link log entries before c.args.self.now.servant s c.args.self.now.session at c.in-Garbled.test (subst (λ (h : Heard). Polls (polled.Ready h) s entries c.args.self.now.session) c.in-Garbled.is p)

pub returns-in-TooLong-clause-takes : goal.returns-in-TooLong-clause-takes
returns-in-TooLong-clause-takes g c = λ L log entries before s at p. polled_long L s.link log entries before c.args.self.now.servant s c.args.self.now.session at c.in-TooLong.n (subst (λ (h : Heard). Polls (polled.Ready h) s entries c.args.self.now.session) c.in-TooLong.is p)

pub returns-in-Closed-clause-takes : goal.returns-in-Closed-clause-takes
returns-in-Closed-clause-takes g c = λ L log entries before s at p. polled_closed L s.link log entries before c.args.self.now.servant s c.args.self.now.session at (subst (λ (h : Heard). Polls (polled.Ready h) s entries c.args.self.now.session) c.in-Closed.is p)

pub returns-in-Failed-clause-takes : goal.returns-in-Failed-clause-takes
returns-in-Failed-clause-takes g c = λ L log entries before s at p. polled_failed L s.link log entries before c.args.self.now.servant s c.args.self.now.session at (subst (λ (h : Heard). Polls (polled.Ready h) s entries c.args.self.now.session) c.in-Failed.is p)

pub returns-in-Mem-clause-takes : goal.returns-in-Mem-clause-takes
returns-in-Mem-clause-takes g c = λ L log entries before s at p. polled_memory L s.link log entries before c.args.self.now.servant s c.args.self.now.session at (subst (λ (h : Heard). Polls (polled.Ready h) s entries c.args.self.now.session) c.in-Mem.is p)
