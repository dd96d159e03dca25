-- Answers to the goals of `blaming::compared_with` that the prover leaves.
use Rattle.std.proofs.Common.{map, Ok, Err, ap, ◌∙◌}
use Rattle.std.proofs.lemmas.Result.{err_from_is_err_and, IfErr-weaker, IfOk-weaker}
use Rattle.mk_record.specs.Seen.{came}
use Rattle.mosaikrun_records.proofs.WholeRuns.{if_err}
use Rattle.mosaikrun_blame.specs.Blames.{IsBlameText, IsUnblamed}
use Rattle.mosaikrun_blame.specs.inner.Pairs.{IsComparison}
use Rattle.mosaikrun_blame.proofs.Comparing.{compared_ending, compared_text, known_here, replays_here, second_unfinished, whole_here}
use Rattle.mosaikrun_blame.proofs.blaming.compared_with.Goals as goal

pub compared-requires : goal.compared-requires
compared-requires c =
    let second = c.in_ok-other.ensures in
    let P = c.args.second.plan in
    let Q = c.in_ok-other.other.plan in
    let A = map came c.args.second.arrivals in
    let J = c.in_ok-other.other.journal.entries in
    record {
      valid = c.requires.valid;
      known = c.requires.known;
      other_known = known_here P Q A c.args.second.asks J second.plan c.requires.second_valid second.done c.requires.second_known;
      whole = c.requires.whole;
      other_whole = whole_here P Q A c.args.second.asks J second.plan c.requires.second_valid second.done;
    }

pub returns-in_err-other-clause-none : goal.returns-in_err-other-clause-none
returns-in_err-other-clause-none c bytes others replays reads =
    let why = second_unfinished bytes others c.args.one.now.plan c.args.one.now.journal.entries c.in_err-other.field-0.0 replays (c.in_err-other.ensures.unfinished others reads) in
    let e = err_from_is_err_and c.from_residual.result c.from_residual.ensures.1 in
    if_err c.from_residual.result c.in_err-other.field-0.0 (IsUnblamed bytes others) (e.1 ∙ ap Err e.2) why

pub returns-clause-text : goal.returns-clause-text
returns-clause-text c bytes others replays reads =
    let second = c.in_ok-other.ensures in
    let P = c.args.one.now.plan in
    let J = c.args.one.now.journal.entries in
    let Q = c.in_ok-other.other.plan in
    let K = c.in_ok-other.other.journal.entries in
    let other = replays_here c.args.second.plan Q (map came c.args.second.arrivals) c.args.second.asks K second.plan c.requires.second_valid second.done others reads in
    IfOk-weaker c.compared.result (λ text. IsComparison P J Q K (Ok text.items)) (λ text. IsBlameText bytes others text.items)
    (λ text is. compared_text bytes others P Q J K replays other text.items is) c.compared.ensures.text

pub returns-clause-none : goal.returns-clause-none
returns-clause-none c bytes others replays reads =
    let second = c.in_ok-other.ensures in
    let P = c.args.one.now.plan in
    let J = c.args.one.now.journal.entries in
    let Q = c.in_ok-other.other.plan in
    let K = c.in_ok-other.other.journal.entries in
    let other = replays_here c.args.second.plan Q (map came c.args.second.arrivals) c.args.second.asks K second.plan c.requires.second_valid second.done others reads in
    IfErr-weaker c.compared.result (λ e. IsComparison P J Q K (Err e)) (IsUnblamed bytes others)
    (compared_ending bytes others P Q J K replays other) c.compared.ensures.none
