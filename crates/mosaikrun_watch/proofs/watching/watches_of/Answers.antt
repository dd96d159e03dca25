-- Answers to the goals of `watching::watches_of` that the prover leaves.
use Rattle.std.proofs.Common.{map}
use Rattle.mk_record.specs.Seen.{came}
use Rattle.mk_watch_read.specs.Rules.{folds_in, names_in}
use Rattle.mosaikrun_watch.proofs.Outcomes.{on_err, refused}
use Rattle.mosaikrun_watch.proofs.watching.watches_of.Goals as goal

pub returns-clause-unread : goal.returns-clause-unread
returns-clause-unread g c = λ recorded read.
    on_err c.plan_watches.result (refused (names_in c.args.rules.now) (folds_in c.args.rules.now) recorded c.args.bytes.now c.args.saved.now.plan (map came c.args.saved.now.arrivals) c.args.saved.now.asks read) c.plan_watches.ensures.unread
