-- Answers to the goals of `links::Links::hear_next` that the prover leaves.
use Rattle.std.proofs.Common.{refl, ◌∙◌, arith}
use Rattle.mk_outside.proofs.OnLogs.{adds_none}
use Rattle.mk_run_links.proofs.Hearing.{no_sound, silence_goes_on, silence_halted, silence_heard, silence_unrested}
use Rattle.mk_run_links.proofs.links.Links.hear_next.Goals as goal

pub loop-init : goal.loop-init
loop-init g c = record {
  counted = omega arith;
  same_count = refl;
  same_links = refl;
  same_halt = refl;
  silence = no_sound c.args.self.now.channels _ (adds_none _);
}

pub loop-preserved : goal.loop-preserved
loop-preserved g c =
    let so_far = c.loop.invariant in
    let quiet = c.in-Quiet.ensures in
    let rested = c.in-Ok.ensures in
    record {
      counted = omega (arith, so_far.counted, quiet.count, rested.count);
      same_count = rested.same_count ∙ quiet.same_count ∙ so_far.same_count;
      same_links = rested.same_links ∙ quiet.same_links ∙ so_far.same_links;
      same_halt = rested.same_halt ∙ quiet.same_halt ∙ so_far.same_halt;
      silence = silence_goes_on c.args.self.now.channels c.loop.self.channels c.listen.new.self.channels c.rest.new.self.channels _ _ _ _ quiet.listened.0 rested.rested.0 so_far.silence quiet.listened.1 quiet.listened.2 rested.rested.1 rested.rested.2;
    }

pub returns-in-Message-clause-heard : goal.returns-in-Message-clause-heard
returns-in-Message-clause-heard g c =
    let l = c.in-Message.ensures.listened in
    silence_heard c.args.self.now.channels c.loop.self.channels c.listen.new.self.channels _ _ _ l.0 c.in-Message.sim c.in-Message.message c.loop.invariant.silence l.1 l.2

pub returns-in-Halted-clause-heard : goal.returns-in-Halted-clause-heard
returns-in-Halted-clause-heard g c =
    let l = c.in-Halted.ensures.listened in
    silence_halted c.args.self.now.channels c.loop.self.channels c.listen.new.self.channels _ _ _ l.0 c.in-Halted.halt c.loop.invariant.silence l.1 l.2

pub returns-in-Err-clause-heard : goal.returns-in-Err-clause-heard
returns-in-Err-clause-heard g c =
    let quiet = c.in-Quiet.ensures.listened in
    let rested = c.in-Err.ensures.rested in
    silence_unrested c.args.self.now.channels c.loop.self.channels c.listen.new.self.channels c.rest.new.self.channels _ _ _ _ quiet.0 rested.0 c.in-Err.halt c.loop.invariant.silence quiet.1 quiet.2 rested.1 rested.2
