-- Answers to the goals of `blaming::blamed` that the prover leaves.
use Rattle.std.proofs.Common.{map}
use Rattle.mk_record.specs.Seen.{came}
use Rattle.mosaikrun_blame.proofs.Comparing.{known_here, replays_here, valid_here, whole_here}
use Rattle.mosaikrun_blame.proofs.blaming.blamed.Goals as goal

pub compared_with-requires : goal.compared_with-requires
compared_with-requires c =
    let first = c.in_ok-replayed.ensures in
    let P = c.args.first.plan in
    let Q = c.in_ok-replayed.replayed.plan in
    let A = map came c.args.first.arrivals in
    let J = c.in_ok-replayed.replayed.journal.entries in
    record {
      valid = valid_here P Q A c.args.first.asks J first.plan c.requires.first_valid first.done;
      known = known_here P Q A c.args.first.asks J first.plan c.requires.first_valid first.done c.requires.first_known;
      whole = whole_here P Q A c.args.first.asks J first.plan c.requires.first_valid first.done;
      second_valid = c.requires.second_valid;
      second_known = c.requires.second_known;
    }

pub returns-clause-text : goal.returns-clause-text
returns-clause-text c bytes others read reads =
    let first = c.in_ok-replayed.ensures in
    c.compared_with.ensures.text bytes others
    (replays_here c.args.first.plan c.in_ok-replayed.replayed.plan (map came c.args.first.arrivals) c.args.first.asks c.in_ok-replayed.replayed.journal.entries first.plan c.requires.first_valid first.done bytes read) reads

pub returns-clause-none : goal.returns-clause-none
returns-clause-none c bytes others read reads =
    let first = c.in_ok-replayed.ensures in
    c.compared_with.ensures.none bytes others
    (replays_here c.args.first.plan c.in_ok-replayed.replayed.plan (map came c.args.first.arrivals) c.args.first.asks c.in_ok-replayed.replayed.journal.entries first.plan c.requires.first_valid first.done bytes read) reads
