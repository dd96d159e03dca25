-- What holds of every orderly journal.
use Rattle.std.proofs.Common.{◌≡◌, ℕ, ℤ, ◌<◌, List, None, sym, ◌∙◌}
use Rattle.mk_base.specs.declared.tier.Tier.{Tier}
use Rattle.mk_plan.specs.declared.Plan.{Plan}
use Rattle.mk_plan.specs.declared.Entry.{Entry}
use Rattle.mk_plan.specs.Plans.{sim_count, IsValidPlan}
use Rattle.mk_plan.specs.Journals.{view, got}
use Rattle.mk_plan.specs.Sequential.{Messages}
use Rattle.mk_plan.specs.Ready.{IsReady, IsDone}
use Rattle.mk_plan.specs.Advance.{IsAdvance, IsPromised}
use Rattle.mk_plan.specs.Orderly.{IsOrderly, IsOrderlySoFar}
use Rattle.mk_plan.specs.Agreement.{Continues, Agrees, IsFinished}
use Rattle.mk_order.proofs.Agreeing.{agreeing, finished, goes_on}
use Rattle.mk_order.proofs.Going.{promised}
use Rattle.mk_order.proofs.Seen.{reached}
use Rattle.mk_order.proofs.Told.{heard_seen, got_is}

module _ (P : Plan) (valid : IsValidPlan P) where
  -- with many requests outstanding
  pub orderly_agrees : (J : List Entry) → IsOrderly P J → Agrees P J
  orderly_agrees J orderly = agreeing IsReady IsAdvance P (λ V s x r. r) valid J orderly.0

  pub orderly_finished : (J : List Entry) → IsOrderly P J → IsDone P (view P J) → IsFinished P J
  orderly_finished J orderly done = finished IsReady IsAdvance P (λ V s x r. r) valid J orderly.0 done.no_fault done.closed done.none_pending

  -- the max_advance of the next Step of s is a promise over all messages that may come, where s
  -- sends none until its reply
  pub advance_promised : (J : List Entry) → IsOrderlySoFar IsReady IsAdvance P J → (view P J).fault ≡ None → (s : ℕ) (x : Tier) (m : ℤ) → s < sim_count P → IsReady P (view P J) s x → IsAdvance P (view P J) s x m
      → (R : Messages) → Continues P J R → R s ≡ got J s → IsPromised P R s x.time m
  advance_promised J orderly fine s x m low ready number R on over = promised P valid (view P J) (reached IsReady IsAdvance P (λ V s x r. r) J orderly) s x ready R
      (goes_on IsReady IsAdvance P (λ V s x r. r) valid J orderly R on) (over ∙ got_is IsReady IsAdvance P (λ V s x r. r) J orderly fine s ∙ sym (heard_seen P (view P J) s)) m number
