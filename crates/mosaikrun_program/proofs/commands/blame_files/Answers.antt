-- Answers to the goals of `commands::blame_files` that the prover leaves.
use Rattle.std.proofs.Common.{◌≡◌, ℕ, List, inl, inr, map, sym, ap, ◌∙◌, subst, Option, Ok, Err}
use Rattle.std.proofs.lemmas.Result.{err_from_is_err_and}
use Rattle.mk_outside.specs.Counts.{HasRisen}
use Rattle.mk_outside.specs.Folders.{Files}
use Rattle.mk_record.specs.Reading.{reading, Said}
use Rattle.mk_record.specs.Seen.{came}
use Rattle.mosaikrun_records.specs.Saved.{IsUnread}
use Rattle.mosaikrun_blame.specs.Blames.{IsBlameOutcome}
use Rattle.mosaikrun_words.specs.declared.request.FileCommand.{FileCommand}
use Rattle.mosaikrun_words.specs.declared.request.FileCommand.TheVariants.{Pair}
use Rattle.mosaikrun_words.specs.declared.request.PairCommand.{PairCommand}
use Rattle.mosaikrun_program.specs.Commands.{HasBytes, IsOutcomeOf, read_by}
use Rattle.mosaikrun_program.specs.inner.Making.{IsUnmade}
use Rattle.mosaikrun_program.proofs.Making.{both_made, first_refused, first_unread, if_err, is_record, on_err, on_ok, second_unread, unreadable_later}
use Rattle.mosaikrun_program.proofs.commands.blame_files.Goals as goal
use Rattle.mk_session.proofs.Polling.{risen_after}

-- the first isn't read
pub returns-in_err-record-clause-none : goal.returns-in_err-record-clause-none
returns-in_err-record-clause-none g c = λ command is kinds rules.
    let F = g.D.Folder.files c.args.folder.now in
    let risen = HasRisen (g.D.Folder.faults c.args.folder.now) (g.D.Folder.faults c.file_bytes.new.folder) in
    let made : FileCommand = Pair command c.args.first.now c.args.second.now in
    let e = err_from_is_err_and c.from_residual.result c.from_residual.ensures.1 in
    let ending = c.in_err-record.field-0.0 in
    if_err c.from_residual.result ending (λ x. IsUnmade F kinds rules made risen x) (e.1 ∙ ap (λ x. Err x) e.2)
    (first_unread F kinds rules command c.args.first.now c.args.second.now risen ending (ap (λ (x : PairCommand). read_by (Pair x c.args.first.now c.args.second.now)) is) c.in_err-record.ensures.unread)

-- the first is no record
pub returns-in_err-one-clause-none : goal.returns-in_err-one-clause-none
returns-in_err-one-clause-none g c = λ command is kinds rules.
    let F = g.D.Folder.files c.args.folder.now in
    let risen = HasRisen (g.D.Folder.faults c.args.folder.now) (g.D.Folder.faults c.file_bytes.new.folder) in
    let made : FileCommand = Pair command c.args.first.now c.args.second.now in
    let e = err_from_is_err_and c.from_residual-in_err-one.result c.from_residual-in_err-one.ensures.1 in
    let ending = c.in_err-one.field-0.0 in
    let unread = subst (λ (b : List ℕ). IsUnread b ending) c.as_slice.ensures.value c.in_err-one.ensures.unread in
    if_err c.from_residual-in_err-one.result ending (λ x. IsUnmade F kinds rules made risen x) (e.1 ∙ ap (λ x. Err x) e.2)
    (first_refused F kinds rules command c.args.first.now c.args.second.now IsBlameOutcome (ap (λ (x : PairCommand). read_by (Pair x c.args.first.now c.args.second.now)) is) (λ read o h. subst (λ (x : PairCommand). IsOutcomeOf kinds rules (Pair x c.args.first.now c.args.second.now) read o) (sym is) h) c.in_ok-record.record.items c.in_ok-record.ensures.read risen ending (λ other h. inl h) unread)

-- the second isn't read
pub returns-in_err-record-2-clause-none : goal.returns-in_err-record-2-clause-none
returns-in_err-record-2-clause-none g c = λ command is kinds rules.
    let F = g.D.Folder.files c.args.folder.now in
    let risen = HasRisen (g.D.Folder.faults c.args.folder.now) (g.D.Folder.faults c.file_bytes-2.new.folder) in
    let made : FileCommand = Pair command c.args.first.now c.args.second.now in
    let e = err_from_is_err_and c.from_residual-in_err-record-2.result c.from_residual-in_err-record-2.ensures.1 in
    let ending = c.in_err-record-2.field-0.0 in
    let cause = unreadable_later (g.D.Folder.files c.file_bytes.new.folder) F c.args.second.now _ risen ending c.file_bytes.ensures.kept
    (risen_after (g.D.Folder.faults c.args.folder.now) (g.D.Folder.faults c.file_bytes.new.folder) (g.D.Folder.faults c.file_bytes-2.new.folder) c.file_bytes.ensures.count) c.in_err-record-2.ensures.unread in
    let read = subst (λ (b : List ℕ). reading b ≡ Said c.in_ok-one.one.plan (map came c.in_ok-one.one.arrivals) c.in_ok-one.one.asks) c.as_slice.ensures.value c.in_ok-one.ensures.read in
    if_err c.from_residual-in_err-record-2.result ending (λ x. IsUnmade F kinds rules made risen x) (e.1 ∙ ap (λ x. Err x) e.2)
    (second_unread F kinds rules command c.args.first.now c.args.second.now IsBlameOutcome (ap (λ (x : PairCommand). read_by (Pair x c.args.first.now c.args.second.now)) is) (λ read o h. subst (λ (x : PairCommand). IsOutcomeOf kinds rules (Pair x c.args.first.now c.args.second.now) read o) (sym is) h) c.in_ok-record.record.items c.in_ok-record.ensures.read risen ending (is_record c.in_ok-record.record.items _ _ _ read) cause)

-- the second is no record
pub returns-in_err-other-clause-none : goal.returns-in_err-other-clause-none
returns-in_err-other-clause-none g c = λ command is kinds rules.
    let F = g.D.Folder.files c.args.folder.now in
    let risen = HasRisen (g.D.Folder.faults c.args.folder.now) (g.D.Folder.faults c.file_bytes-2.new.folder) in
    let made : FileCommand = Pair command c.args.first.now c.args.second.now in
    let one = c.in_ok-record.record.items in
    let other = c.in_ok-record-2.record.items in
    let held = c.in_ok-record.ensures.read in
    let too = subst (λ (f : Option Files). HasBytes f c.args.second.now other) c.file_bytes.ensures.kept c.in_ok-record-2.ensures.read in
    let read = subst (λ (b : List ℕ). reading b ≡ Said c.in_ok-one.one.plan (map came c.in_ok-one.one.arrivals) c.in_ok-one.one.asks) c.as_slice.ensures.value c.in_ok-one.ensures.read in
    let e = err_from_is_err_and c.from_residual-in_err-other.result c.from_residual-in_err-other.ensures.1 in
    let ending = c.in_err-other.field-0.0 in
    let unread = subst (λ (b : List ℕ). IsUnread b ending) c.as_slice-2.ensures.value c.in_err-other.ensures.unread in
    if_err c.from_residual-in_err-other.result ending (λ x. IsUnmade F kinds rules made risen x) (e.1 ∙ ap (λ x. Err x) e.2)
    (inr (both_made F kinds rules command c.args.first.now c.args.second.now IsBlameOutcome (ap (λ (x : PairCommand). read_by (Pair x c.args.first.now c.args.second.now)) is) (λ read o h. subst (λ (x : PairCommand). IsOutcomeOf kinds rules (Pair x c.args.first.now c.args.second.now) read o) (sym is) h) one held other (Err ending) too (inr (inl (is_record one _ _ _ read, unread)))))

-- both are records
pub returns-clause-text : goal.returns-clause-text
returns-clause-text g c = λ command is kinds rules.
    let F = g.D.Folder.files c.args.folder.now in
    let one = c.in_ok-record.record.items in
    let other = c.in_ok-record-2.record.items in
    let held = c.in_ok-record.ensures.read in
    let too = subst (λ (f : Option Files). HasBytes f c.args.second.now other) c.file_bytes.ensures.kept c.in_ok-record-2.ensures.read in
    let read = subst (λ (b : List ℕ). reading b ≡ Said c.in_ok-one.one.plan (map came c.in_ok-one.one.arrivals) c.in_ok-one.one.asks) c.as_slice.ensures.value c.in_ok-one.ensures.read in
    let reads = subst (λ (b : List ℕ). reading b ≡ Said c.in_ok-other.other.plan (map came c.in_ok-other.other.arrivals) c.in_ok-other.other.asks) c.as_slice-2.ensures.value c.in_ok-other.ensures.read in
    on_ok c.blamed.result (λ text h. both_made F kinds rules command c.args.first.now c.args.second.now IsBlameOutcome (ap (λ (x : PairCommand). read_by (Pair x c.args.first.now c.args.second.now)) is) (λ read o h. subst (λ (x : PairCommand). IsOutcomeOf kinds rules (Pair x c.args.first.now c.args.second.now) read o) (sym is) h) one held other (Ok text.items) too h) (c.blamed.ensures.text one other read reads)

pub returns-clause-none : goal.returns-clause-none
returns-clause-none g c = λ command is kinds rules.
    let F = g.D.Folder.files c.args.folder.now in
    let one = c.in_ok-record.record.items in
    let other = c.in_ok-record-2.record.items in
    let held = c.in_ok-record.ensures.read in
    let too = subst (λ (f : Option Files). HasBytes f c.args.second.now other) c.file_bytes.ensures.kept c.in_ok-record-2.ensures.read in
    let read = subst (λ (b : List ℕ). reading b ≡ Said c.in_ok-one.one.plan (map came c.in_ok-one.one.arrivals) c.in_ok-one.one.asks) c.as_slice.ensures.value c.in_ok-one.ensures.read in
    let reads = subst (λ (b : List ℕ). reading b ≡ Said c.in_ok-other.other.plan (map came c.in_ok-other.other.arrivals) c.in_ok-other.other.asks) c.as_slice-2.ensures.value c.in_ok-other.ensures.read in
    on_err c.blamed.result (λ ending h. inr (both_made F kinds rules command c.args.first.now c.args.second.now IsBlameOutcome (ap (λ (x : PairCommand). read_by (Pair x c.args.first.now c.args.second.now)) is) (λ read o h. subst (λ (x : PairCommand). IsOutcomeOf kinds rules (Pair x c.args.first.now c.args.second.now) read o) (sym is) h) one held other (Err ending) too h)) (c.blamed.ensures.none one other read reads)
