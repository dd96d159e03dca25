-- Answers to the goals of `commands::pair_made` that the prover leaves.
use Rattle.std.proofs.Common.{inl, inr, sym, subst, Ok, Err}
use Rattle.mk_outside.specs.Counts.{HasRisen}
use Rattle.mosaikrun_words.specs.declared.request.FileCommand.TheVariants.{Pair}
use Rattle.mosaikrun_words.specs.declared.request.PairCommand.{PairCommand}
use Rattle.mosaikrun_program.specs.Around.{rules_seen}
use Rattle.mosaikrun_program.specs.Commands.{ComesOfFiles}
use Rattle.mosaikrun_program.specs.inner.Making.{IsUnmade}
use Rattle.mosaikrun_program.proofs.Making.{migrate_made, on_err, on_ok}
use Rattle.mosaikrun_program.proofs.commands.pair_made.Goals as goal

pub returns-in-Migrate-clause-text : goal.returns-in-Migrate-clause-text
returns-in-Migrate-clause-text g c = λ kinds.
    let F = g.D.Folder.files c.args.folder.now in
    on_ok c.migrate_file.result (λ text h. subst (λ (x : PairCommand). ComesOfFiles F kinds (rules_seen c.args.rules.now) (Pair x c.args.first.now c.args.second.now) (Ok text.items)) (sym c.in-Migrate.is) (migrate_made F kinds (rules_seen c.args.rules.now) c.args.first.now (Ok text.items) c.args.second.now h)) c.migrate_file.ensures.text

pub returns-in-Migrate-clause-none : goal.returns-in-Migrate-clause-none
returns-in-Migrate-clause-none g c = λ kinds.
    let F = g.D.Folder.files c.args.folder.now in
    let risen = HasRisen (g.D.Folder.faults c.args.folder.now) (g.D.Folder.faults c.migrate_file.new.folder) in
    on_err c.migrate_file.result (λ e h. subst (λ (x : PairCommand). IsUnmade F kinds (rules_seen c.args.rules.now) (Pair x c.args.first.now c.args.second.now) risen e) (sym c.in-Migrate.is)
    (elim h [ inl stuck ↦ inl stuck | inr m ↦ inr (migrate_made F kinds (rules_seen c.args.rules.now) c.args.first.now (Err e) c.args.second.now m) ])) c.migrate_file.ensures.none

-- of the others their functions say it

pub returns-in-Watch-clause-text : goal.returns-in-Watch-clause-text
returns-in-Watch-clause-text g c = c.watch_files.ensures.text c.args.command c.in-Watch.is

pub returns-in-Watch-clause-none : goal.returns-in-Watch-clause-none
returns-in-Watch-clause-none g c = c.watch_files.ensures.none c.args.command c.in-Watch.is

pub returns-in-Blame-clause-text : goal.returns-in-Blame-clause-text
returns-in-Blame-clause-text g c = λ kinds. c.blame_files.ensures.text c.args.command c.in-Blame.is kinds (rules_seen c.args.rules.now)

pub returns-in-Blame-clause-none : goal.returns-in-Blame-clause-none
returns-in-Blame-clause-none g c = λ kinds. c.blame_files.ensures.none c.args.command c.in-Blame.is kinds (rules_seen c.args.rules.now)
