-- Answers to the goals of `blaming::verdict_text` that the prover leaves.
use Rattle.mosaikrun_blame.proofs.Limit.{whole_of_same}
use Rattle.mosaikrun_blame.proofs.Writable.{writable}
use Rattle.mosaikrun_blame.proofs.blaming.verdict_text.Goals as goal

pub blame-requires : goal.blame-requires
blame-requires c =
    let other = whole_of_same c.args.one.now.plan c.args.other.now.plan c.args.other.now.journal.entries c.requires.same c.requires.other_whole in
    record {
      valid = c.requires.valid;
      first_orderly = c.requires.whole.orderly;
      first_finished = c.requires.whole.finished;
      second_orderly = other.orderly;
      second_finished = other.finished;
    }

pub write_verdict-requires : goal.write_verdict-requires
write_verdict-requires c = writable c.args.one.now.plan c.args.other.now.plan c.args.one.now.journal.entries c.args.other.now.journal.entries c.requires.known c.requires.other_known c.in_ok-verdict.verdict c.in_ok-verdict.ensures
