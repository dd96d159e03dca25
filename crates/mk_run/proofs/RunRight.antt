-- Every run is right.
use Rattle.std.proofs.Common.{◌≡◌, subst}
use Rattle.mk_plan.specs.Ready.{IsDone}
use Rattle.mk_plan.specs.Journals.{view}
use Rattle.mk_order.proofs.Headlines.{orderly_agrees, orderly_finished}
use Rattle.mk_outside.specs.Counts.{HasRisen}
use Rattle.mk_run_laws.specs.Handshake.{is_within}
use Rattle.mk_run_laws.specs.Laws.{IsJournalOf}
use Rattle.mk_run_laws.proofs.Answering.{done_answers}
use Rattle.mk_run_laws.proofs.Clauses.{run_says}
use Rattle.mk_run_laws.proofs.Saying.{items_all, step_promised}
use Rattle.mk_run.specs.declared.outcome.Outcome.TheVariants.{Done}
use Rattle.mk_run.specs.Ends.{ShownBy}
use Rattle.mk_run.specs.Laws.{RunsAreRight}

pub runs_right : RunsAreRight
runs_right X P J faults new_faults end run = record {
  agrees = orderly_agrees P run.valid J run.eager.0;
  links = λ i l linked. let t = run.links i l linked in record {
    items = t.0;
    right = run_says P run.valid X.started X.scenario j.sims X.reply X.log J j.orderly j.kinds j.links run.replies (HasRisen faults new_faults) i l t.0 t.1;
    whole = t.1.whole;
    all = t.2;
  };
  done = λ e. record {
    all = λ R may i. items_all P run.valid X.started X.scenario j.sims X.reply X.log J j.orderly j.kinds j.links R may (over e) i;
    answers = λ R goes. done_answers P X.reply (is_within X.scenario) run.valid J j.orderly j.kinds (over e) R goes;
    finished = orderly_finished P run.valid J run.eager.0 (over e);
  };
  promised = λ H s x inputs advance more parts low R may. step_promised P run.valid X.started X.scenario j.sims X.reply X.log J j.orderly j.kinds j.links H s x inputs advance more parts low R may;
  rests = run.rests;
}
  where
    j : IsJournalOf X P J
    j = run.journal

    over : end ≡ Done → IsDone P (view P J)
    over e = subst (ShownBy X P J faults new_faults) e run.shown
