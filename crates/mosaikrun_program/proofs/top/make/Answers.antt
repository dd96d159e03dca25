-- Answers to the goals of `top::make` that the prover leaves.
use Rattle.std.proofs.Common.{◌≡◌, List, ℕ, None, Option, Ok, refl, subst}
use Rattle.mk_local.specs.Registries.{rows_in}
use Rattle.mosaikrun_program.specs.Answers.{PrintAnswer, TextAnswer}
use Rattle.mosaikrun_program.specs.Around.{Around, folder_seen, output_seen, rules_seen}
use Rattle.mosaikrun_program.specs.Commands.{target_of}
use Rattle.mosaikrun_program.specs.inner.Around.{unused}
use Rattle.mosaikrun_program.proofs.Making.{has_made}
use Rattle.mosaikrun_program.proofs.top.make.Goals as goal

-- the text is printed
pub returns-clause-made : goal.returns-clause-made
returns-clause-made g c = λ words started faults asked.
    let S : Around = record {
      words = words;
      outside = unused (rows_in c.args.kinds.now) started faults;
      rules = rules_seen c.args.rules.now;
      folder = folder_seen g.D.Folder.files g.D.Folder.faults c.args.folder.now c.made.new.folder;
      output = output_seen g.K.Sink.written g.K.Sink.faults g.K.Sink.shortages c.args.out.now c.print.new.out;
    } in
    let text : List ℕ = c.in_ok-text.text.items in
    let out = S.output in
    let put = subst (λ (t : List ℕ). PrintAnswer out (Ok t) c.print.result) c.as_slice-in-None.ensures.value c.print.ensures.put in
    let target : None ≡ target_of c.args.command.now = cc (c.target_of.ensures, c.in-None.is) in
    has_made S c.args.command.now (Ok text) c.print.result asked c.in_ok-text.ensures.text
    (subst (λ (n : Option (List ℕ)). TextAnswer S n (Ok text) c.print.result) target (put, c.made.ensures.kept)) refl refl
