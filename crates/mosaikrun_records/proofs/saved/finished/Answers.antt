-- Answers to the goals of `saved::finished` that the prover leaves.
use Rattle.std.proofs.Common.{map, Err, ap, ◌∙◌}
use Rattle.std.proofs.lemmas.Result.{err_from_is_err_and}
use Rattle.mk_record.specs.Seen.{came}
use Rattle.mosaikrun_records.specs.Saved.{IsNotDone}
use Rattle.mosaikrun_records.proofs.WholeRuns.{done_by, if_err, unfinished}
use Rattle.mosaikrun_records.proofs.saved.finished.Goals as goal

pub returns-clause-done : goal.returns-clause-done
returns-clause-done c =
    done_by c.args.saved.plan (map came c.args.saved.arrivals) c.args.saved.asks c.args.order c.in_ok-replayed.replayed.journal.entries c.in_ok-replayed.replayed.end c.in_ok-replayed.ensures.replay c.in_ok-all_done.ensures.done

pub returns-in_err-all_done-clause-unfinished : goal.returns-in_err-all_done-clause-unfinished
returns-in_err-all_done-clause-unfinished c bytes read =
    let replayed = c.in_ok-replayed.ensures in
    let why = unfinished c.args.saved.plan c.in_ok-replayed.replayed.plan (map came c.args.saved.arrivals) c.args.saved.asks c.args.order c.in_ok-replayed.replayed.journal.entries c.in_ok-replayed.replayed.end
    c.in_err-all_done.field-0.0 c.requires.valid replayed.plan replayed.replay c.in_err-all_done.ensures.said bytes read in
    let e = err_from_is_err_and c.from_residual-in_err-all_done.result c.from_residual-in_err-all_done.ensures.1 in
    if_err c.from_residual-in_err-all_done.result c.in_err-all_done.field-0.0 (IsNotDone bytes c.args.order) (e.1 ∙ ap Err e.2) why
