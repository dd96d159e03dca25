-- A run and a resumed run that took the same messages.
use Rattle.std.proofs.Common.{◌≤◌, List, [], length, refl, sym, ◌∙◌}
use Rattle.mk_base.proofs.Lists.{append_nil}
use Rattle.mk_plan.specs.declared.Entry.{Entry}
use Rattle.mk_plan.specs.declared.Plan.{Plan}
use Rattle.mk_plan.specs.Plans.{IsValidPlan}
use Rattle.mk_plan.specs.Journals.{arrivals, got, view}
use Rattle.mk_plan.specs.Orderly.{IsEager}
use Rattle.mk_plan.specs.Ready.{IsDone}
use Rattle.mk_order.proofs.SameEnd.{done_is_end, replay_is_one}
use Rattle.mk_run_laws.proofs.Following.{all_done}
use Rattle.mk_run.proofs.ChannelsStopped.{begins_itself}
use Rattle.mk_resume.specs.Laws.{AreAlike, RunsAndResumedRunsAreAlike}

alike : (P : Plan) → IsValidPlan P → (J K : List Entry) → IsEager P J → IsEager P K → length J ≤ P.entries → length K ≤ P.entries → IsDone P (view P J) → IsDone P (view P K) → AreAlike P J K
alike P valid J K eager_j eager_k within_j within_k done_j done_k = record {
  one_order = λ same. replay_is_one P (arrivals K) J K eager_j eager_k ([], sym same ∙ sym (append_nil (arrivals J))) (begins_itself (arrivals K)) within_j within_k (done_is_end P (arrivals K) J eager_j same done_j) (done_is_end P (arrivals K) K eager_k refl done_k);
  any_order = λ same i low. (all_done P valid J eager_j.0.0 done_j (got K) (λ k lower. ([], sym (same k lower) ∙ sym (append_nil (got J k)))) i).items ∙ sym (all_done P valid K eager_k.0.0 done_k (got K) (λ k lower. begins_itself (got K k)) i).items;
}

pub runs_alike : RunsAndResumedRunsAreAlike
runs_alike X P J faults new_faults run Y saved K faults' new_faults' r = alike P run.valid J K run.eager r.eager run.within r.within run.shown r.shown.0
