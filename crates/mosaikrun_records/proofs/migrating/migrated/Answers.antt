-- Answers to the goals of `migrating::migrated` that the prover leaves.
use Rattle.std.proofs.Common.{map, arith}
use Rattle.mk_record.specs.Seen.{came}
use Rattle.mosaikrun_records.proofs.Keeping.{all_came, all_writable, differs, record_done, record_fault, record_short, some_missing, stopped_early, unread_unmigrated}
use Rattle.mosaikrun_records.proofs.migrating.migrated.Goals as goal

pub returns-in_err-saved-clause-none : goal.returns-in_err-saved-clause-none
returns-in_err-saved-clause-none c = let why = unread_unmigrated c.args.bytes.now c.in_err-saved.field-0.0 c.in_err-saved.ensures.unread in grind (arith, why)

pub rewritten-requires : goal.rewritten-requires
rewritten-requires c = all_writable c.in_ok-saved.saved.plan c.in_ok-replayed.replayed.journal.entries (map came c.in_ok-saved.saved.arrivals) c.in_ok-saved.ensures.known c.in_ok-replayed.ensures.replay.0.given

pub returns-in-Done-clause-record : goal.returns-in-Done-clause-record
returns-in-Done-clause-record c =
    let replayed = c.in_ok-replayed.ensures in
    record_done c.in_ok-saved.saved.plan (map came c.in_ok-saved.saved.arrivals) c.in_ok-saved.saved.asks c.in_ok-replayed.replayed.journal.entries c.args.bytes.now c.in_ok-replayed.replayed.plan c.in_ok-replayed.replayed.end
    c.in_ok-saved.ensures.read c.in_ok-saved.ensures.valid replayed.plan replayed.replay c.in_ok-rewritten-in-Done.field-0.items c.in-Done.is c.in_ok-rewritten-in-Done.ensures

pub rewritten-requires-in-Short : goal.rewritten-requires-in-Short
rewritten-requires-in-Short c = all_writable c.in_ok-saved.saved.plan c.in_ok-replayed.replayed.journal.entries (map came c.in_ok-saved.saved.arrivals) c.in_ok-saved.ensures.known c.in_ok-replayed.ensures.replay.0.given

pub returns-in-Short-clause-record : goal.returns-in-Short-clause-record
returns-in-Short-clause-record c =
    let replayed = c.in_ok-replayed.ensures in
    record_short c.in_ok-saved.saved.plan (map came c.in_ok-saved.saved.arrivals) c.in_ok-saved.saved.asks c.in_ok-replayed.replayed.journal.entries c.args.bytes.now c.in_ok-replayed.replayed.plan c.in_ok-replayed.replayed.end
    c.in_ok-saved.ensures.read c.in_ok-saved.ensures.valid replayed.plan replayed.replay c.in_ok-rewritten-in-Short.field-0.items c.in-Short.field-0 c.in-Short.is c.in_ok-rewritten-in-Short.ensures

pub returns-in-Other-clause-none : goal.returns-in-Other-clause-none
returns-in-Other-clause-none c =
    let replayed = c.in_ok-replayed.ensures in
    differs c.in_ok-saved.saved.plan (map came c.in_ok-saved.saved.arrivals) c.in_ok-saved.saved.asks c.in_ok-replayed.replayed.journal.entries c.args.bytes.now c.in_ok-replayed.replayed.plan c.in_ok-replayed.replayed.end
    c.in_ok-saved.ensures.read c.in_ok-saved.ensures.valid replayed.plan replayed.replay c.in-Other.entry c.in-Other.is

pub rewritten-requires-then-all : goal.rewritten-requires-then-all
rewritten-requires-then-all c = all_writable c.in_ok-saved.saved.plan c.in_ok-replayed.replayed.journal.entries (map came c.in_ok-saved.saved.arrivals) c.in_ok-saved.ensures.known c.in_ok-replayed.ensures.replay.0.given

-- the fault came after all messages
pub returns-then-all-clause-record : goal.returns-then-all-clause-record
returns-then-all-clause-record c =
    let replayed = c.in_ok-replayed.ensures in
    record_fault c.in_ok-saved.saved.plan (map came c.in_ok-saved.saved.arrivals) c.in_ok-saved.saved.asks c.in_ok-replayed.replayed.journal.entries c.args.bytes.now c.in_ok-replayed.replayed.plan c.in_ok-replayed.replayed.end
    c.in_ok-saved.ensures.read c.in_ok-saved.ensures.valid replayed.plan replayed.replay c.in_ok-rewritten-in-Core.field-0.items c.in-Core.fault c.in-Core.is
    (all_came c.in_ok-replayed.replayed.journal.entries c.in_ok-saved.saved.arrivals c.len-count.result c.has_messages-all.result c.has_messages-all.ensures c.len-count.ensures c.if-all.true) c.in_ok-rewritten-in-Core.ensures

-- and here before
pub returns-clause-none : goal.returns-clause-none
returns-clause-none c =
    let replayed = c.in_ok-replayed.ensures in
    stopped_early c.in_ok-saved.saved.plan (map came c.in_ok-saved.saved.arrivals) c.in_ok-saved.saved.asks c.in_ok-replayed.replayed.journal.entries c.args.bytes.now c.in_ok-replayed.replayed.plan c.in_ok-replayed.replayed.end
    c.in_ok-saved.ensures.read c.in_ok-saved.ensures.valid replayed.plan replayed.replay c.in_ok-stopped-in-Core.field-0 c.in-Core.fault c.in-Core.is
    (some_missing c.in_ok-replayed.replayed.journal.entries c.in_ok-saved.saved.arrivals c.len-count.result c.has_messages-all.result c.has_messages-all.ensures c.len-count.ensures c.if-all.false) c.in_ok-stopped-in-Core.ensures
