-- Answers to the goals of `commands::watch_files` that the prover leaves.
use Rattle.std.proofs.Common.{◌≡◌, ℕ, List, inl, inr, map, sym, ap, ◌∙◌, subst, Option, Ok, Err}
use Rattle.std.proofs.lemmas.Result.{err_from_is_err_and}
use Rattle.mk_outside.specs.Counts.{HasRisen}
use Rattle.mk_outside.specs.Folders.{Files}
use Rattle.mk_record.specs.Reading.{reading, Said}
use Rattle.mk_record.specs.Seen.{came}
use Rattle.mosaikrun_records.specs.Saved.{IsUnread}
use Rattle.mk_watch_read.specs.Rules.{folds_in, names_in}
use Rattle.mk_watch_read.specs.Watches.{watches_of}
use Rattle.mosaikrun_watch.specs.Watched.{IsWatchOutcome}
use Rattle.mosaikrun_program.specs.Around.{rules_seen}
use Rattle.mosaikrun_words.specs.declared.request.FileCommand.{FileCommand}
use Rattle.mosaikrun_words.specs.declared.request.FileCommand.TheVariants.{Pair}
use Rattle.mosaikrun_words.specs.declared.request.PairCommand.{PairCommand}
use Rattle.mosaikrun_program.specs.Commands.{HasBytes, IsOutcomeOf, read_by}
use Rattle.mosaikrun_program.specs.inner.Making.{IsUnmade}
use Rattle.mosaikrun_program.proofs.Making.{both_made, first_refused, first_unread, if_err, is_record, on_err, on_ok, second_unread, unreadable_later}
use Rattle.mosaikrun_program.proofs.commands.watch_files.Goals as goal
use Rattle.mk_session.proofs.Polling.{risen_after}

-- the first isn't read
pub returns-in_err-record-clause-none : goal.returns-in_err-record-clause-none
returns-in_err-record-clause-none g c = λ command is kinds.
    let F = g.D.Folder.files c.args.folder.now in
    let risen = HasRisen (g.D.Folder.faults c.args.folder.now) (g.D.Folder.faults c.file_bytes.new.folder) in
    let made : FileCommand = Pair command c.args.first.now c.args.second.now in
    let e = err_from_is_err_and c.from_residual.result c.from_residual.ensures.1 in
    let ending = c.in_err-record.field-0.0 in
    if_err c.from_residual.result ending (λ x. IsUnmade F kinds (rules_seen c.args.rules.now) made risen x) (e.1 ∙ ap (λ x. Err x) e.2)
    (first_unread F kinds (rules_seen c.args.rules.now) command c.args.first.now c.args.second.now risen ending (ap (λ (x : PairCommand). read_by (Pair x c.args.first.now c.args.second.now)) is) c.in_err-record.ensures.unread)

-- the first is no record
pub returns-in_err-saved-clause-none : goal.returns-in_err-saved-clause-none
returns-in_err-saved-clause-none g c = λ command is kinds.
    let F = g.D.Folder.files c.args.folder.now in
    let risen = HasRisen (g.D.Folder.faults c.args.folder.now) (g.D.Folder.faults c.file_bytes.new.folder) in
    let made : FileCommand = Pair command c.args.first.now c.args.second.now in
    let e = err_from_is_err_and c.from_residual-in_err-saved.result c.from_residual-in_err-saved.ensures.1 in
    let ending = c.in_err-saved.field-0.0 in
    let unread = subst (λ (b : List ℕ). IsUnread b ending) c.as_slice.ensures.value c.in_err-saved.ensures.unread in
    if_err c.from_residual-in_err-saved.result ending (λ x. IsUnmade F kinds (rules_seen c.args.rules.now) made risen x) (e.1 ∙ ap (λ x. Err x) e.2)
    (first_refused F kinds (rules_seen c.args.rules.now) command c.args.first.now c.args.second.now (IsWatchOutcome (names_in c.args.rules.now) (folds_in c.args.rules.now)) (ap (λ (x : PairCommand). read_by (Pair x c.args.first.now c.args.second.now)) is) (λ read o h. subst (λ (x : PairCommand). IsOutcomeOf kinds (rules_seen c.args.rules.now) (Pair x c.args.first.now c.args.second.now) read o) (sym is) h) c.in_ok-record.record.items c.in_ok-record.ensures.read risen ending (λ other h. inl h) unread)

-- the second isn't read
pub returns-in_err-spec-clause-none : goal.returns-in_err-spec-clause-none
returns-in_err-spec-clause-none g c = λ command is kinds.
    let F = g.D.Folder.files c.args.folder.now in
    let risen = HasRisen (g.D.Folder.faults c.args.folder.now) (g.D.Folder.faults c.file_bytes-2.new.folder) in
    let made : FileCommand = Pair command c.args.first.now c.args.second.now in
    let e = err_from_is_err_and c.from_residual-in_err-spec.result c.from_residual-in_err-spec.ensures.1 in
    let ending = c.in_err-spec.field-0.0 in
    let cause = unreadable_later (g.D.Folder.files c.file_bytes.new.folder) F c.args.second.now _ risen ending c.file_bytes.ensures.kept
    (risen_after (g.D.Folder.faults c.args.folder.now) (g.D.Folder.faults c.file_bytes.new.folder) (g.D.Folder.faults c.file_bytes-2.new.folder) c.file_bytes.ensures.count) c.in_err-spec.ensures.unread in
    let read = subst (λ (b : List ℕ). reading b ≡ Said c.in_ok-saved.saved.plan (map came c.in_ok-saved.saved.arrivals) c.in_ok-saved.saved.asks) c.as_slice.ensures.value c.in_ok-saved.ensures.read in
    if_err c.from_residual-in_err-spec.result ending (λ x. IsUnmade F kinds (rules_seen c.args.rules.now) made risen x) (e.1 ∙ ap (λ x. Err x) e.2)
    (second_unread F kinds (rules_seen c.args.rules.now) command c.args.first.now c.args.second.now (IsWatchOutcome (names_in c.args.rules.now) (folds_in c.args.rules.now)) (ap (λ (x : PairCommand). read_by (Pair x c.args.first.now c.args.second.now)) is) (λ read o h. subst (λ (x : PairCommand). IsOutcomeOf kinds (rules_seen c.args.rules.now) (Pair x c.args.first.now c.args.second.now) read o) (sym is) h) c.in_ok-record.record.items c.in_ok-record.ensures.read risen ending (is_record c.in_ok-record.record.items _ _ _ read) cause)

-- the second says no watches
pub returns-in_err-watches-clause-none : goal.returns-in_err-watches-clause-none
returns-in_err-watches-clause-none g c = λ command is kinds.
    let F = g.D.Folder.files c.args.folder.now in
    let risen = HasRisen (g.D.Folder.faults c.args.folder.now) (g.D.Folder.faults c.file_bytes-2.new.folder) in
    let made : FileCommand = Pair command c.args.first.now c.args.second.now in
    let one = c.in_ok-record.record.items in
    let other = c.in_ok-spec.spec.items in
    let held = c.in_ok-record.ensures.read in
    let too = subst (λ (f : Option Files). HasBytes f c.args.second.now other) c.file_bytes.ensures.kept c.in_ok-spec.ensures.read in
    let read = subst (λ (b : List ℕ). reading b ≡ Said c.in_ok-saved.saved.plan (map came c.in_ok-saved.saved.arrivals) c.in_ok-saved.saved.asks) c.as_slice.ensures.value c.in_ok-saved.ensures.read in
    let e = err_from_is_err_and c.from_residual-in_err-watches.result c.from_residual-in_err-watches.ensures.1 in
    let ending = c.in_err-watches.field-0.0 in
    let told = subst (λ (b : List ℕ). IsWatchOutcome (names_in c.args.rules.now) (folds_in c.args.rules.now) one b (Err ending)) c.as_slice-2.ensures.value (c.in_err-watches.ensures.unread one read) in
    if_err c.from_residual-in_err-watches.result ending (λ x. IsUnmade F kinds (rules_seen c.args.rules.now) made risen x) (e.1 ∙ ap (λ x. Err x) e.2)
    (inr (both_made F kinds (rules_seen c.args.rules.now) command c.args.first.now c.args.second.now (IsWatchOutcome (names_in c.args.rules.now) (folds_in c.args.rules.now)) (ap (λ (x : PairCommand). read_by (Pair x c.args.first.now c.args.second.now)) is) (λ read o h. subst (λ (x : PairCommand). IsOutcomeOf kinds (rules_seen c.args.rules.now) (Pair x c.args.first.now c.args.second.now) read o) (sym is) h) one held other (Err ending) too told))

-- it says watches
pub returns-clause-text : goal.returns-clause-text
returns-clause-text g c = λ command is kinds.
    let F = g.D.Folder.files c.args.folder.now in
    let one = c.in_ok-record.record.items in
    let other = c.in_ok-spec.spec.items in
    let held = c.in_ok-record.ensures.read in
    let too = subst (λ (f : Option Files). HasBytes f c.args.second.now other) c.file_bytes.ensures.kept c.in_ok-spec.ensures.read in
    let read = subst (λ (b : List ℕ). reading b ≡ Said c.in_ok-saved.saved.plan (map came c.in_ok-saved.saved.arrivals) c.in_ok-saved.saved.asks) c.as_slice.ensures.value c.in_ok-saved.ensures.read in
    let says = subst (λ (b : List ℕ). watches_of c.in_ok-saved.saved.plan (names_in c.args.rules.now) b ≡ Ok c.in_ok-watches.watches) c.as_slice-2.ensures.value c.in_ok-watches.ensures.read in
    on_ok c.tabled.result (λ text h. both_made F kinds (rules_seen c.args.rules.now) command c.args.first.now c.args.second.now (IsWatchOutcome (names_in c.args.rules.now) (folds_in c.args.rules.now)) (ap (λ (x : PairCommand). read_by (Pair x c.args.first.now c.args.second.now)) is) (λ read o h. subst (λ (x : PairCommand). IsOutcomeOf kinds (rules_seen c.args.rules.now) (Pair x c.args.first.now c.args.second.now) read o) (sym is) h) one held other (Ok text.items) too h) (c.tabled.ensures.text one other read says)

pub returns-clause-none : goal.returns-clause-none
returns-clause-none g c = λ command is kinds.
    let F = g.D.Folder.files c.args.folder.now in
    let one = c.in_ok-record.record.items in
    let other = c.in_ok-spec.spec.items in
    let held = c.in_ok-record.ensures.read in
    let too = subst (λ (f : Option Files). HasBytes f c.args.second.now other) c.file_bytes.ensures.kept c.in_ok-spec.ensures.read in
    let read = subst (λ (b : List ℕ). reading b ≡ Said c.in_ok-saved.saved.plan (map came c.in_ok-saved.saved.arrivals) c.in_ok-saved.saved.asks) c.as_slice.ensures.value c.in_ok-saved.ensures.read in
    let says = subst (λ (b : List ℕ). watches_of c.in_ok-saved.saved.plan (names_in c.args.rules.now) b ≡ Ok c.in_ok-watches.watches) c.as_slice-2.ensures.value c.in_ok-watches.ensures.read in
    on_err c.tabled.result (λ ending h. inr (both_made F kinds (rules_seen c.args.rules.now) command c.args.first.now c.args.second.now (IsWatchOutcome (names_in c.args.rules.now) (folds_in c.args.rules.now)) (ap (λ (x : PairCommand). read_by (Pair x c.args.first.now c.args.second.now)) is) (λ read o h. subst (λ (x : PairCommand). IsOutcomeOf kinds (rules_seen c.args.rules.now) (Pair x c.args.first.now c.args.second.now) read o) (sym is) h) one held other (Err ending) too h)) (c.tabled.ensures.none one other read says)
