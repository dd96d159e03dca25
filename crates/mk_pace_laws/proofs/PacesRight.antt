-- Every paced run is right.
use Rattle.std.proofs.Common.{◌≡◌, subst}
use Rattle.mk_plan.specs.Ready.{IsDone}
use Rattle.mk_plan.specs.Journals.{view}
use Rattle.mk_order.proofs.Headlines.{orderly_agrees, orderly_finished}
use Rattle.mk_outside.specs.Counts.{HasRisen}
use Rattle.mk_run_laws.specs.Handshake.{is_within}
use Rattle.mk_run_laws.specs.Laws.{IsJournalOf}
use Rattle.mk_run_laws.proofs.Answering.{done_answers}
use Rattle.mk_run_laws.proofs.Clauses.{run_says}
use Rattle.mk_run_laws.proofs.Saying.{items_all, step_promised}
use Rattle.mk_run.specs.declared.outcome.Outcome.TheVariants.{Done}
use Rattle.mk_pace_laws.specs.declared.end.PaceEnd.TheVariants.{Outcome}
use Rattle.mk_pace_laws.specs.Ends.{Shows}
use Rattle.mk_pace_laws.specs.Laws.{PacesAreRight}

pub paces_right : PacesAreRight
paces_right X P J T faults new_faults end run = record {
  agrees = orderly_agrees P run.valid J run.eager.0;
  links = λ i l linked. let t = run.links i l linked in record {
    items = t.items;
    right = run_says P run.valid X.started X.scenario j.sims X.reply X.log J j.orderly j.kinds j.links run.replies (HasRisen faults new_faults) i l t.items t.run;
    whole = t.run.whole;
    all = t.queued;
  };
  done = λ e. record {
    all = λ R may i. items_all P run.valid X.started X.scenario j.sims X.reply X.log J j.orderly j.kinds j.links R may (over e) i;
    answers = λ R goes. done_answers P X.reply (is_within X.scenario) run.valid J j.orderly j.kinds (over e) R goes;
    finished = orderly_finished P run.valid J run.eager.0 (over e);
  };
  promised = λ H s x inputs advance more parts low R may. step_promised P run.valid X.started X.scenario j.sims X.reply X.log J j.orderly j.kinds j.links H s x inputs advance more parts low R may;
}
  where
    j : IsJournalOf X P J
    j = run.journal

    over : end ≡ Outcome Done → IsDone P (view P J)
    over e = subst (Shows X P J T faults new_faults) e run.shown
