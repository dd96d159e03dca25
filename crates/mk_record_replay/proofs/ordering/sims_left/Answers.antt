-- proofs/ordering/sims_left/Answers.antt
use Rattle.mk_record_replay.proofs.Drawing.{among_more}
use Rattle.mk_record_replay.proofs.ordering.sims_left.Goals as goal
use Rattle.mk_base.proofs.Items.{get_at_place}

pub loop-place-preserved : goal.loop-place-preserved
loop-place-preserved c = among_more c.args.any c.args.core.now c.args.waiting.now c.loop-place.place c.index-waiting-place.result c.loop-place.sims.items c.note_sim.new.sims.items
    (get_at_place c.args.waiting.now c.loop-place.place c.index-waiting-place.result c.loop-place-test.true c.index-waiting-place.is) c.loop-place.invariant c.in_ok-note_sim.ensures
