-- What looks at all links come to.
use Rattle.mk_run_links.proofs.Hearing.{open_woken, tried_halted, tried_heard, tried_none}
use Rattle.mk_run_links.proofs.links.Links.try_next.Goals as goal

pub listen-requires : goal.listen-requires
listen-requires g c = open_woken c.args.self.now.channels c.wake_all.new.self.channels _ c.wake_all.ensures.woken c.requires.open

pub returns-in-Message-clause-tried : goal.returns-in-Message-clause-tried
returns-in-Message-clause-tried g c =
    let l = c.in-Message.ensures.listened in
    (l.0, l.1, tried_heard c.args.self.now.channels c.wake_all.new.self.channels c.listen.new.self.channels c.wake_all.ensures.woken l.0 c.in-Message.sim c.in-Message.message l.2)

pub returns-in-Halted-clause-tried : goal.returns-in-Halted-clause-tried
returns-in-Halted-clause-tried g c =
    let l = c.in-Halted.ensures.listened in
    (l.0, l.1, tried_halted c.args.self.now.channels c.wake_all.new.self.channels c.listen.new.self.channels c.wake_all.ensures.woken l.0 c.in-Halted.halt l.2)

pub returns-in-Quiet-clause-tried : goal.returns-in-Quiet-clause-tried
returns-in-Quiet-clause-tried g c =
    let l = c.in-Quiet.ensures.listened in
    (l.0, l.1, tried_none c.args.self.now.channels c.wake_all.new.self.channels c.listen.new.self.channels c.wake_all.ensures.woken l.0 l.2)
