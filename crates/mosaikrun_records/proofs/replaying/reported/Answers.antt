-- Answers to the goals of `replaying::reported` that the prover leaves.
use Rattle.std.proofs.Common.{map, arith}
use Rattle.mk_record.specs.Seen.{came}
use Rattle.mosaikrun_records.proofs.WholeRuns.{report_done, unfinished_unreported, unread_unreported}
use Rattle.mosaikrun_records.proofs.replaying.reported.Goals as goal

pub returns-in_err-saved-clause-none : goal.returns-in_err-saved-clause-none
returns-in_err-saved-clause-none c = let why = unread_unreported c.args.bytes.now c.args.order c.in_err-saved.field-0.0 c.in_err-saved.ensures.unread in grind (arith, why)

pub returns-in_err-replayed-clause-none : goal.returns-in_err-replayed-clause-none
returns-in_err-replayed-clause-none c = let why = unfinished_unreported c.args.bytes.now c.args.order c.in_err-replayed.field-0.0 (c.in_err-replayed.ensures.unfinished c.args.bytes.now c.in_ok-saved.ensures.read) in grind (arith, why)

pub returns-clause-report : goal.returns-clause-report
returns-clause-report c =
    let said = c.in_ok-saved.ensures in
    let replayed = c.in_ok-replayed.ensures in
    report_done c.args.bytes.now _ c.in_ok-saved.saved.plan c.in_ok-replayed.replayed.plan (map came c.in_ok-saved.saved.arrivals) c.in_ok-saved.saved.asks c.args.order c.in_ok-replayed.replayed.journal.entries
    said.read said.valid replayed.plan replayed.done c.in_ok-write_report.ensures
