-- proofs/ordering/empty_lists/Answers.antt
use Rattle.std.proofs.Common.{◌∷◌, ◌++◌, ◌+◌, [], List, subst, sym, ap, ◌∙◌}
use Rattle.mk_plan.specs.declared.Message.{Message}
use Rattle.mk_record_replay.specs.inner.Rounds.{AreWaiting, AreFit}
use Rattle.mk_record_replay.proofs.Waiting.{waiting_first, fit_first, waiting_more, fit_more}
use Rattle.mk_record_replay.proofs.ordering.empty_lists.Goals as goal

pub loop-init : goal.loop-init
loop-init c = record {
  waiting = subst (λ (l : List (List Message)). AreWaiting 0 [] [] l) (sym c.new-lists.ensures.items) waiting_first;
  fit = subst (AreFit 0) (sym c.new-lists.ensures.items) fit_first;
}

pub loop-preserved : goal.loop-preserved
loop-preserved c =
    let same = sym (c.in_ok-push.ensures.items ∙ ap (λ (l : List Message). c.loop.lists.items ++ l ∷ []) c.new.ensures) in record {
      waiting = subst (λ (l : List (List Message)). AreWaiting (c.loop.counter + 1) [] [] l) same (waiting_more c.loop.counter c.loop.lists.items c.loop.invariant.waiting);
      fit = subst (AreFit (c.loop.counter + 1)) same (fit_more c.loop.counter c.loop.lists.items c.loop.invariant.fit);
    }
