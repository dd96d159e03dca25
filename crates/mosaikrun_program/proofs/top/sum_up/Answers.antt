-- Answers to the goals of `top::sum_up` that the prover leaves.
use Rattle.std.proofs.Common.{[], inl, refl, sym, ap, ◌∙◌, subst, None, Result, Ok, Err}
use Rattle.std.proofs.lemmas.Result.{err_from_is_err_and}
use Rattle.mk_local.specs.Registries.{rows_in}
use Rattle.mosaikrun_words.specs.declared.request.Request.TheVariants.{Demo}
use Rattle.mosaikrun_endings.specs.declared.ending.Ending.{Ending}
use Rattle.mosaikrun_run.specs.Outcomes.{outside}
use Rattle.mosaikrun_program.specs.Answers.{PrintAnswer}
use Rattle.mosaikrun_program.specs.Around.{Around, output_seen}
use Rattle.mosaikrun_program.specs.Running.{IsDoneOver}
use Rattle.mosaikrun_program.proofs.Playing.{reported}
use Rattle.mosaikrun_program.proofs.top.sum_up.Goals as goal

-- there is no summary
pub returns-in_err-summary-clause-summed : goal.returns-in_err-summary-clause-summed
returns-in_err-summary-clause-summed g c = λ words rules folder unsaved.
    let came = c.in_err-summary.ensures.none in
    let S : Around = record {
      words = words;
      outside = outside g.F.Fleet.started g.F.Fleet.faults (rows_in c.args.kinds.now) c.args.fleet.now c.summed-summary.new.fleet came.0;
      rules = rules;
      folder = folder;
      output = output_seen g.K.Sink.written g.K.Sink.faults g.K.Sink.shortages c.args.out.now c.args.out.now;
    } in
    let e = err_from_is_err_and c.from_residual.result c.from_residual.ensures.1 in (
      came.0,
      came.1,
      subst (λ (r : Result (Unit {0}) Ending). IsDoneOver S (Demo c.args.size) r) (sym (e.1 ∙ ap (λ x. Err x) e.2)) (record {
        read = [];
        held = tt;
        text = Err c.in_err-summary.field-0.0;
        kept = None;
        outcome = (came.2, refl);
        ended = (refl, inl refl, inl unsaved);
      }),
    )

-- the summary is put
pub returns-clause-summed : goal.returns-clause-summed
returns-clause-summed g c = λ words rules folder unsaved.
    let came = c.in_ok-summary.ensures.text in
    let out = output_seen g.K.Sink.written g.K.Sink.faults g.K.Sink.shortages c.args.out.now c.print.new.out in (
      came.0,
      came.1,
      record {
        read = [];
        held = tt;
        text = Ok c.in_ok-summary.field-0.items;
        kept = None;
        outcome = (came.2, refl);
        ended = reported folder out None None c.in_ok-summary.field-0.items c.print.result unsaved (subst (λ t. PrintAnswer out (Ok t) c.print.result) c.as_slice.ensures.value c.print.ensures.put);
      },
    )
