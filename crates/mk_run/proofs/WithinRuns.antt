-- A run whose simulators are all within the program meets no fault of a message: its replies are
-- its kinds', and these are right.
use Rattle.std.proofs.Common.{◌≡◌, ℕ, ◌<◌, Bool, true, false, List, [], ◌∷◌, Option, Some, None, refl, sym, ap, ◌∙◌, subst, true≢false}
use Rattle.mk_base.specs.declared.SimNo.{SimNo}
use Rattle.mk_plan.specs.declared.Plan.{Plan}
use Rattle.mk_plan.specs.declared.Item.{Item}
use Rattle.mk_plan.specs.declared.Message.{Message}
use Rattle.mk_plan.specs.declared.Entry.{Entry}
use Rattle.mk_plan.specs.declared.Entry.TheVariants.{Got, Sent}
use Rattle.mk_plan.specs.Plans.{IsValidPlan, sim_count}
use Rattle.mk_plan.specs.Sequential.{Messages}
use Rattle.mk_plan.specs.Journals as journals
use Rattle.mk_plan.specs.Journals.{OpenTurn, Owed, view}
use Rattle.mk_plan.specs.Ready.{IsReady}
use Rattle.mk_plan.specs.Advance.{IsAdvance}
use Rattle.mk_plan.specs.Orderly.{IsAllowed, IsNext, IsOrderlySoFar}
use Rattle.mk_plan.specs.Agreement.{Continues}
use Rattle.mk_order.proofs.Pushing.{orderly_front}
use Rattle.mk_sched.specs.declared.faults.CoreFault.{CoreFault}
use Rattle.mk_sched.specs.declared.faults.CoreFault.TheVariants.{Failed, LoopLimit, TooLong, Wrong}
use Rattle.mk_sched.specs.Answers.{IsLastFaulty, fault_in}
use Rattle.mk_run_laws.specs.Kinds.{AnswersByKind, IsKindReply, KeepsToKinds, RepliesAreRight, Replies}
use Rattle.mk_run_laws.proofs.Existing.{there_are}
use Rattle.mk_run_laws.proofs.Following.{followed}
use Rattle.mk_run.specs.Laws.{IsLimit}
use Rattle.mk_run.proofs.LimitFaults.{IsLoopLimit, fault_is_limit}
use Rattle.mk_run.proofs.NextRight.{message_right}

not_wrong : (i n k : ℕ) → IsLoopLimit (journals.WrongMessage i n k) → ⊥
not_wrong i n k t = let e = t.2 in cc

not_failed : (i n : ℕ) → IsLoopLimit (journals.FailedSim i n) → ⊥
not_failed i n t = let e = t.2 in cc

-- a message comes from a simulator that is there
got_low : (P : Plan) (V : journals.View) (s : SimNo) (m : Message) → IsAllowed IsReady IsAdvance P V (Got s m) → s.0 < sim_count P
got_low P V s m allowed = go V.owed allowed.1
  where
    apart : (t s : SimNo) (item : Item) (m : Message) → Got s m ≡ Sent t item → ⊥
    apart t s item m e = cc

    go : (o : Option Owed) → IsNext IsReady IsAdvance P V o (Got s m) → s.0 < sim_count P
    go None next = next
    go (Some o) next = absurd (apart (record { 0 = o.sim }) s o.item m next)

module _ (P : Plan) (valid : IsValidPlan P) (reply : Replies) (inside : ℕ → Bool) (right : RepliesAreRight reply inside P) (all : (i : ℕ) → i < sim_count P → inside i ≡ true) (J : List Entry) (orderly : IsOrderlySoFar IsReady IsAdvance P J)
    (kinds : KeepsToKinds reply inside P J) where
  -- the messages that answer by kind
  there : (R : Messages) × AnswersByKind reply inside P R × ((i : ℕ) → inside i ≡ false → R i ≡ [])
  there = there_are P reply inside right (λ i. [])

  goes_on : Continues P J there.0
  goes_on = followed P valid reply inside there.0 there.1 J orderly kinds (λ i low out. absurd (true≢false (sym (all i low) ∙ out)))

  -- the last message makes no fault but that of the loop limit
  pub only_limits : (f : CoreFault) → IsLastFaulty P J f → IsLimit f
  only_limits f l = by_fault f l.fault
    where
      H : List Entry
      H = l.before

      s : SimNo
      s = l.sim

      m : Message
      m = l.message

      front : IsOrderlySoFar IsReady IsAdvance P H × IsAllowed IsReady IsAdvance P (view P H) (Got s m)
      front = let t = orderly_front IsReady IsAdvance P H (Got s m ∷ []) (subst (λ (K : List Entry). IsOrderlySoFar IsReady IsAdvance P K) l.is orderly) in (t.0, t.1.0)

      low : s.0 < sim_count P
      low = got_low P (view P H) s m front.1

      keeps : IsKindReply reply P H s.0 m
      keeps = kinds H s m [] l.is (all s.0 low)

      limit_by : (o : Option OpenTurn) → (view P H).open_at s.0 ≡ o → (x : journals.Fault) → (view P J).fault ≡ Some x → IsLoopLimit x
      limit_by None shut x e = absurd (keeps.open_there shut)
      limit_by (Some T) is x e = fault_is_limit P H s m T x l.right_before is
          (message_right P valid there.0 H s m T front.0 l.right_before (subst (λ (K : List Entry). Continues P K there.0) l.is goes_on) low is ((there.1).uncut s.0 low (all s.0 low)))
          (ap (λ (K : List Entry). (view P K).fault) (sym l.is) ∙ e)

      limit : (x : journals.Fault) → (view P J).fault ≡ Some x → IsLoopLimit x
      limit = limit_by ((view P H).open_at s.0) refl

      by_fault : (f : CoreFault) → (view P J).fault ≡ fault_in f → IsLimit f
      by_fault (Wrong sim place cause) e = not_wrong sim.0 place cause (limit (journals.WrongMessage sim.0 place cause) e)
      by_fault (Failed sim place) e = not_failed sim.0 place (limit (journals.FailedSim sim.0 place) e)
      by_fault (LoopLimit sim time) e = tt
      by_fault (TooLong entries) e = tt
