-- proofs/ordering/split/Answers.antt
use Rattle.std.proofs.Common.{◌∷◌}
use Rattle.mk_record_replay.proofs.Waiting.{parts_put, waits_put, fits_put}
use Rattle.mk_record_replay.proofs.ordering.split.Goals as goal

pub loop-arrival-preserved : goal.loop-arrival-preserved
loop-arrival-preserved c =
    let l = c.loop-arrival.invariant in
    let a = c.in-Some.arrival in record {
      done = a ∷ l.done;
      parts = parts_put c.args.count c.args.arrivals c.loop-arrival.left c.pop.new.self l.done a c.loop-arrival.waiting.items c.push_message.new.waiting.items l.parts c.in-Some.ensures;
      waiting = waits_put c.args.count c.args.arrivals c.loop-arrival.left c.pop.new.self l.done a c.loop-arrival.waiting.items c.push_message.new.waiting.items c.requires l.parts c.in-Some.ensures l.fit c.in_ok-push_message.ensures l.waiting;
      fit = fits_put c.args.count c.args.arrivals c.loop-arrival.left c.pop.new.self l.done a c.loop-arrival.waiting.items c.push_message.new.waiting.items c.requires l.parts c.in-Some.ensures l.fit c.in_ok-push_message.ensures;
    }
