-- Answers to the goals of `commands::made` that the prover leaves.
use Rattle.std.proofs.Common.{◌≡◌, inl, inr, sym, subst, Ok, Err}
use Rattle.std.specs.Prelude.{IfOk, IfErr}
use Rattle.mk_local.specs.Registries.{rows_in}
use Rattle.mk_outside.specs.Counts.{HasRisen}
use Rattle.mosaikrun_words.specs.declared.request.FileCommand.{FileCommand}
use Rattle.mosaikrun_words.specs.declared.request.FileCommand.TheVariants.{Replay, Check, Pair}
use Rattle.mosaikrun_program.specs.Around.{rules_seen}
use Rattle.mosaikrun_program.specs.Commands.{ComesOfFiles}
use Rattle.mosaikrun_program.specs.inner.Making.{IsUnmade}
use Rattle.mosaikrun_program.proofs.Making.{check_made, on_err, on_ok, replay_made}
use Rattle.mosaikrun_program.proofs.commands.made.Goals as goal

pub returns-in-Replay-clause-text : goal.returns-in-Replay-clause-text
returns-in-Replay-clause-text g c =
    let F = g.D.Folder.files c.args.folder.now in
    let K = rows_in c.args.kinds.now in
    let R = rules_seen c.args.rules.now in
    let same : c.args.command.now ≡ Replay c.as_str.result.now c.in-Replay.order = cc (c.in-Replay.is, c.as_str.ensures) in
    on_ok c.replay_file.result (λ text h. subst (λ (x : FileCommand). ComesOfFiles F K R x (Ok text.items)) (sym same) (replay_made F K R c.as_str.result.now (Ok text.items) c.in-Replay.order h)) c.replay_file.ensures.text

pub returns-in-Replay-clause-none : goal.returns-in-Replay-clause-none
returns-in-Replay-clause-none g c =
    let F = g.D.Folder.files c.args.folder.now in
    let K = rows_in c.args.kinds.now in
    let R = rules_seen c.args.rules.now in
    let risen = HasRisen (g.D.Folder.faults c.args.folder.now) (g.D.Folder.faults c.replay_file.new.folder) in
    let same : c.args.command.now ≡ Replay c.as_str.result.now c.in-Replay.order = cc (c.in-Replay.is, c.as_str.ensures) in
    on_err c.replay_file.result (λ e h. subst (λ (x : FileCommand). IsUnmade F K R x risen e) (sym same) (elim h [ inl stuck ↦ inl stuck | inr m ↦ inr (replay_made F K R c.as_str.result.now (Err e) c.in-Replay.order m) ])) c.replay_file.ensures.none

pub returns-in-Check-clause-text : goal.returns-in-Check-clause-text
returns-in-Check-clause-text g c =
    let F = g.D.Folder.files c.args.folder.now in
    let K = rows_in c.args.kinds.now in
    let R = rules_seen c.args.rules.now in
    let same : c.args.command.now ≡ Check c.as_str-in-Check.result.now = cc (c.in-Check.is, c.as_str-in-Check.ensures) in
    on_ok c.check_file.result (λ text h. subst (λ (x : FileCommand). ComesOfFiles F K R x (Ok text.items)) (sym same) (check_made F K R c.as_str-in-Check.result.now (Ok text.items) h)) c.check_file.ensures.text

pub returns-in-Check-clause-none : goal.returns-in-Check-clause-none
returns-in-Check-clause-none g c =
    let F = g.D.Folder.files c.args.folder.now in
    let K = rows_in c.args.kinds.now in
    let R = rules_seen c.args.rules.now in
    let risen = HasRisen (g.D.Folder.faults c.args.folder.now) (g.D.Folder.faults c.check_file.new.folder) in
    let same : c.args.command.now ≡ Check c.as_str-in-Check.result.now = cc (c.in-Check.is, c.as_str-in-Check.ensures) in
    on_err c.check_file.result (λ e h. subst (λ (x : FileCommand). IsUnmade F K R x risen e) (sym same) (elim h [ inl stuck ↦ inl stuck | inr m ↦ inr (check_made F K R c.as_str-in-Check.result.now (Err e) m) ])) c.check_file.ensures.none

pub returns-in-Pair-clause-text : goal.returns-in-Pair-clause-text
returns-in-Pair-clause-text g c =
    let F = g.D.Folder.files c.args.folder.now in
    let K = rows_in c.args.kinds.now in
    let R = rules_seen c.args.rules.now in
    let same : c.args.command.now ≡ Pair c.in-Pair.command c.as_str-in-Pair.result.now c.as_str-in-Pair-2.result.now = cc (c.in-Pair.is, c.as_str-in-Pair.ensures, c.as_str-in-Pair-2.ensures) in
    subst (λ (x : FileCommand). IfOk c.pair_made.result (λ text. ComesOfFiles F K R x (Ok text.items))) (sym same) (c.pair_made.ensures.text K)

pub returns-in-Pair-clause-none : goal.returns-in-Pair-clause-none
returns-in-Pair-clause-none g c =
    let F = g.D.Folder.files c.args.folder.now in
    let K = rows_in c.args.kinds.now in
    let R = rules_seen c.args.rules.now in
    let risen = HasRisen (g.D.Folder.faults c.args.folder.now) (g.D.Folder.faults c.pair_made.new.folder) in
    let same : c.args.command.now ≡ Pair c.in-Pair.command c.as_str-in-Pair.result.now c.as_str-in-Pair-2.result.now = cc (c.in-Pair.is, c.as_str-in-Pair.ensures, c.as_str-in-Pair-2.ensures) in
    subst (λ (x : FileCommand). IfErr c.pair_made.result (λ e. IsUnmade F K R x risen e)) (sym same) (c.pair_made.ensures.none K)
