-- Answers to the goals of `watching::tabled` that the prover leaves.
use Rattle.std.proofs.Common.{map}
use Rattle.mk_record.specs.Seen.{came}
use Rattle.mk_watch_read.specs.Rules.{folds_in, names_in}
use Rattle.mosaikrun_watch.proofs.Outcomes.{tabled}
use Rattle.mosaikrun_watch.proofs.watching.tabled.Goals as goal

pub returns-clause-text : goal.returns-clause-text
returns-clause-text g c = λ recorded spec read said.
    tabled (names_in c.args.rules.now) (folds_in c.args.rules.now) recorded spec c.args.saved.plan (map came c.args.saved.arrivals) c.args.saved.asks read c.requires.valid c.in_ok-replayed.replayed.plan c.in_ok-replayed.replayed.journal.entries c.args.watches c.in_ok-text.text.items
    said c.requires.inside c.in_ok-replayed.ensures.done c.in_ok-replayed.ensures.plan c.in_ok-text.ensures
