-- One thing comes of the messages and the steps of a record.
use Rattle.std.proofs.Common.{◌≡◌, ◌⊎◌, ℕ, List, Option, Some, None, sym, ap, ◌∙◌, subst, inl, inr}
use Rattle.mk_base.proofs.Lists.{none_some, some_same}
use Rattle.mk_plan.specs.declared.Plan.{Plan}
use Rattle.mk_plan.specs.declared.Entry.{Entry}
use Rattle.mk_plan.specs.Journals.{Arrival}
use Rattle.mk_plan.specs.Ready.{IsReady}
use Rattle.mk_plan.specs.Advance.{IsAdvance}
use Rattle.mk_order.proofs.SameEnd.{IsAtEnd, waits_is_end, replay_is_one}
use Rattle.mk_record_read.specs.declared.saved.Asked.{Asked}
use Rattle.mk_record_compare.specs.Differences.{IsOther}
use Rattle.mk_record_compare.proofs.Places.{one_other}
use Rattle.mk_sched.specs.declared.faults.CoreFault.{CoreFault}
use Rattle.mk_sched.specs.Answers.{IsLastFaulty}
use Rattle.mk_sched.specs.Cores.{CoreState}
use Rattle.mk_record_replay.specs.declared.replaying.ReplayEnd.TheVariants as replay_end
use Rattle.mk_record_replay.specs.Replays.{IsReplay, IsFull}
use Rattle.mk_record_replay.proofs.OneEnd.{at_end, faultless, nothing_more, one_fault}
use Rattle.mk_record_restored.specs.declared.restoring.Restored.{Restored}
use Rattle.mk_record_restored.specs.declared.restoring.Restored.TheVariants as restored
use Rattle.mk_record_restored.specs.Restored.{IsFaulted, IsRestored, RestoredIsOne, RestoresAs}

module _ (P : Plan) (A : List Arrival) where
  restored_end : (J : List Entry) → IsRestored P A J → IsAtEnd IsReady IsAdvance P A J
  restored_end J r = waits_is_end IsReady IsAdvance P A J r.replay.eager r.given (λ i x ready. r.nobody (i, x, ready))

  faulted_end : (J : List Entry) (f : CoreFault) → IsFaulted P A J f → IsAtEnd IsReady IsAdvance P A J
  faulted_end J f r = at_end P A J (replay_end.Core f) r.replay r.cause

  -- two journals that have come to an end are one
  one_journal : (J K : List Entry) → IsReplay P A J → IsReplay P A K → IsAtEnd IsReady IsAdvance P A J → IsAtEnd IsReady IsAdvance P A K → J ≡ K
  one_journal J K r q = replay_is_one P A J K r.eager q.eager r.given q.given r.within q.within

  one_restored : (J K : List Entry) → IsRestored P A J → IsRestored P A K → J ≡ K
  one_restored J K r q = one_journal J K r.replay q.replay (restored_end J r) (restored_end K q)

  -- none is both without a fault and with one
  not_both : (J K : List Entry) (f : CoreFault) → IsRestored P A J → IsFaulted P A K f → ⊥
  not_both J K f r q = by_cause (subst (λ (L : List Entry). IsFaulted P A L f) (sym (one_journal J K r.replay q.replay (restored_end J r) (faulted_end K f q))) q).cause
    where
      by_cause : IsLastFaulty P J f ⊎ IsFull P A J f → ⊥
      by_cause (inl l) = faultless P J f r.no_fault l
      by_cause (inr t) = nothing_more P A J r.given r.paid r.nobody t.more

  one_faulted : (J K : List Entry) (f g : CoreFault) → IsFaulted P A J f → IsFaulted P A K g → (J ≡ K) × (f ≡ g)
  one_faulted J K f g r q =
      let same : J ≡ K = one_journal J K r.replay q.replay (faulted_end J f r) (faulted_end K g q) in
      (same, one_fault P A J f g r.cause (subst (λ (L : List Entry). IsFaulted P A L g) (sym same) q).cause)

  module _ (asks : Option (List Asked)) where
    one_compared : (J K : List Entry) (m n : Option ℕ) → IsRestored P A J → IsRestored P A K → IsOther A asks J m → IsOther A asks K n → m ≡ n
    one_compared J K m n r q a b = one_other A asks J m n a (subst (λ (L : List Entry). IsOther A asks L n) (sym (one_restored J K r q)) b)

    core_is : (c d : CoreState) → c.plan ≡ d.plan → c.entries ≡ d.entries → c.ended ≡ d.ended → c ≡ d
    core_is c d p e f = λ i. record { plan = p i; entries = e i; ended = f i }

    pub one : (r s : Restored) → RestoresAs P A asks r → RestoresAs P A asks s → r ≡ s
    one (restored.Onward c) (restored.Onward d) a b = ap restored.Onward (core_is c d (a.plan ∙ sym b.plan) (one_restored c.entries d.entries a.restored b.restored) (a.going ∙ sym b.going))
    one (restored.Onward c) (restored.Other n) a b = absurd (none_some (one_compared c.entries b.journal None (Some n) a.restored b.restored a.same b.other))
    one (restored.Onward c) (restored.Faulted f Q J) a b = absurd (not_both c.entries J.entries f a.restored b.1)
    one (restored.Other n) (restored.Onward d) a b = absurd (none_some (one_compared d.entries a.journal None (Some n) b.restored a.restored b.same a.other))
    one (restored.Other m) (restored.Other n) a b = ap restored.Other (some_same (one_compared a.journal b.journal (Some m) (Some n) a.restored b.restored a.other b.other))
    one (restored.Other n) (restored.Faulted f Q J) a b = absurd (not_both a.journal J.entries f a.restored b.1)
    one (restored.Faulted f Q J) (restored.Onward d) a b = absurd (not_both d.entries J.entries f b.restored a.1)
    one (restored.Faulted f Q J) (restored.Other n) a b = absurd (not_both b.journal J.entries f b.restored a.1)
    one (restored.Faulted f Q J) (restored.Faulted g R K) a b = let t = one_faulted J.entries K.entries f g a.1 b.1 in let plans : Q ≡ R = a.0 ∙ sym b.0 in λ i. restored.Faulted (t.1 i) (plans i) (record { entries = t.0 i })

pub restored_one : RestoredIsOne
restored_one P A asks r s a b = one P A asks r s a b
