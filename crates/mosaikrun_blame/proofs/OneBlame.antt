-- Of two records comes one outcome.
use Rattle.std.proofs.Common.{◌≡◌, ℕ, List, Some, None, Result, Ok, Err, ◌⊎◌, inl, inr, refl, sym, ap, ◌∙◌, subst}
use Rattle.mk_plan.specs.declared.Plan.{Plan}
use Rattle.mk_plan.specs.declared.Entry.{Entry}
use Rattle.mk_record.specs.Reading.{reading, Faulty}
use Rattle.mk_plan_same.specs.Parts.{IsFirstOther}
use Rattle.mk_blame.specs.Verdicts.{IsVerdict}
use Rattle.mk_blame.specs.Written.{verdict_text}
use Rattle.mk_blame.proofs.Judging.{one_verdict}
use Rattle.mosaikrun_endings.specs.declared.ending.Ending.{Ending}
use Rattle.mosaikrun_endings.specs.declared.ending.Ending.TheVariants.{Record, OtherPlan, Mem}
use Rattle.mosaikrun_records.specs.Saved.{IsRecord, ReplaysTo}
use Rattle.mosaikrun_records.proofs.OneOutcome.{one_stop, record_stops}
use Rattle.mosaikrun_records.proofs.OneReplay.{faulty_once, record_or_faulty, record_replays, replays_once, replays_or_stops}
use Rattle.mosaikrun_blame.specs.Blames.{BothReplay, IsBlameOutcome, IsBlameText, IsFirstStopped, IsSecondStopped, IsUnblamed}
use Rattle.mosaikrun_blame.proofs.Parts.{one_part, same_or_other}

module _ (first second : List ℕ) where
  one_text : (t u : List ℕ) → IsBlameText first second t → IsBlameText first second u → t ≡ u
  one_text t u a b =
      let one = replays_once first a.both.plan b.both.plan a.both.journal b.both.journal a.both.first_replays b.both.first_replays in
      let other = replays_once second a.both.other_plan b.both.other_plan a.both.other_journal b.both.other_journal a.both.second_replays b.both.second_replays in
      let v = subst (λ (X : Plan). IsVerdict X a.both.journal a.both.other_journal a.verdict) one.0 a.judged in
      let w = subst (λ (J : List Entry). IsVerdict b.both.plan J a.both.other_journal a.verdict) one.1 v in
      let x = subst (λ (K : List Entry). IsVerdict b.both.plan b.both.journal K a.verdict) other.1 w in
      a.is ∙ ap (λ (X : Plan). verdict_text X a.verdict) one.0
      ∙ ap (verdict_text b.both.plan) (one_verdict b.both.plan b.both.journal b.both.other_journal a.verdict b.verdict x b.judged) ∙ sym b.is

  -- why there is no text, in five kinds
  data Cause : Ending → Type 0 where
    first_faulty : (line fault : ℕ) → reading first ≡ Faulty line fault → Cause (Record line fault)
    second_faulty : (line fault : ℕ) → IsRecord first → reading second ≡ Faulty line fault → Cause (Record line fault)
    first_stopped : (e : Ending) → IsFirstStopped first second e → Cause e
    second_stopped : (e : Ending) → IsSecondStopped first second e → Cause e
    another_plan : (part : ℕ) → (both : BothReplay first second) → IsFirstOther both.plan both.other_plan (Some part) → Cause (OtherPlan part)

  cause_of : (e : Ending) → IsUnblamed first second e → (e ≡ Mem) ⊎ Cause e
  cause_of e (inl (inl wanting)) = inl wanting
  cause_of e (inl (inr fault)) = inr (subst Cause (sym fault.2) (first_faulty fault.0 fault.1 fault.3))
  cause_of e (inr (inl (is, inl wanting))) = inl wanting
  cause_of e (inr (inl (is, inr fault))) = inr (subst Cause (sym fault.2) (second_faulty fault.0 fault.1 is fault.3))
  cause_of e (inr (inr (inl stopped))) = inr (first_stopped e stopped)
  cause_of e (inr (inr (inr (inl stopped)))) = inr (second_stopped e stopped)
  cause_of e (inr (inr (inr (inr other)))) = inr (subst Cause (sym other.is) (another_plan other.part other.both other.differs))

  -- ---- two causes exclude each other

  second_record : (both : BothReplay first second) → IsRecord second
  second_record both = record_replays second both.other_plan both.other_journal both.second_replays

  first_record : (both : BothReplay first second) → IsRecord first
  first_record both = record_replays first both.plan both.journal both.first_replays

  not_first_stopped : (P : Plan) (J : List Entry) (e : Ending) → ReplaysTo first P J → IsFirstStopped first second e → ⊥
  not_first_stopped P J e replays is = replays_or_stops first P J e replays is.stopped

  not_second_stopped : (both : BothReplay first second) (e : Ending) → IsSecondStopped first second e → ⊥
  not_second_stopped both e is = replays_or_stops second both.other_plan both.other_journal e both.second_replays is.stopped

  -- each cause is the only one
  first_fault : (line fault : ℕ) → reading first ≡ Faulty line fault → (e : Ending) → Cause e → Record line fault ≡ e
  first_fault line fault h _ (first_faulty l f g) = faulty_once first line fault l f h g
  first_fault line fault h _ (second_faulty l f is g) = absurd (record_or_faulty first line fault is h)
  first_fault line fault h _ (first_stopped e a) = absurd (record_or_faulty first line fault (record_stops first None e a.stopped) h)
  first_fault line fault h _ (second_stopped e a) = absurd (record_or_faulty first line fault (record_replays first a.plan a.journal a.first_replays) h)
  first_fault line fault h _ (another_plan n both d) = absurd (record_or_faulty first line fault (first_record both) h)

  second_fault : (line fault : ℕ) → IsRecord first → reading second ≡ Faulty line fault → (e : Ending) → Cause e → Record line fault ≡ e
  second_fault line fault is h _ (first_faulty l f g) = absurd (record_or_faulty first l f is g)
  second_fault line fault is h _ (second_faulty l f _ g) = faulty_once second line fault l f h g
  second_fault line fault is h _ (first_stopped e a) = absurd (record_or_faulty second line fault a.record_is h)
  second_fault line fault is h _ (second_stopped e a) = absurd (record_or_faulty second line fault (record_stops second None e a.stopped) h)
  second_fault line fault is h _ (another_plan n both d) = absurd (record_or_faulty second line fault (second_record both) h)

  first_stop : (e : Ending) → IsFirstStopped first second e → (f : Ending) → Cause f → e ≡ f
  first_stop e a _ (first_faulty l f g) = absurd (record_or_faulty first l f (record_stops first None e a.stopped) g)
  first_stop e a _ (second_faulty l f is g) = absurd (record_or_faulty second l f a.record_is g)
  first_stop e a _ (first_stopped f b) = one_stop first None e f a.stopped b.stopped
  first_stop e a _ (second_stopped f b) = absurd (not_first_stopped b.plan b.journal e b.first_replays a)
  first_stop e a _ (another_plan n both d) = absurd (not_first_stopped both.plan both.journal e both.first_replays a)

  second_stop : (e : Ending) → IsSecondStopped first second e → (f : Ending) → Cause f → e ≡ f
  second_stop e a _ (first_faulty l f g) = absurd (record_or_faulty first l f (record_replays first a.plan a.journal a.first_replays) g)
  second_stop e a _ (second_faulty l f is g) = absurd (record_or_faulty second l f (record_stops second None e a.stopped) g)
  second_stop e a _ (first_stopped f b) = absurd (not_first_stopped a.plan a.journal f a.first_replays b)
  second_stop e a _ (second_stopped f b) = one_stop second None e f a.stopped b.stopped
  second_stop e a _ (another_plan n both d) = absurd (not_second_stopped both e a)

  -- where both replays are done, the one cause is that the plans differ
  only_another_plan : (both : BothReplay first second) (e : Ending) → Cause e → (part : ℕ) × (e ≡ OtherPlan part) × IsFirstOther both.plan both.other_plan (Some part)
  only_another_plan both _ (first_faulty l f g) = absurd (record_or_faulty first l f (first_record both) g)
  only_another_plan both _ (second_faulty l f is g) = absurd (record_or_faulty second l f (second_record both) g)
  only_another_plan both _ (first_stopped e a) = absurd (not_first_stopped both.plan both.journal e both.first_replays a)
  only_another_plan both _ (second_stopped e a) = absurd (not_second_stopped both e a)
  only_another_plan both _ (another_plan n b d) =
      let one = replays_once first b.plan both.plan b.journal both.journal b.first_replays both.first_replays in
      let other = replays_once second b.other_plan both.other_plan b.other_journal both.other_journal b.second_replays both.second_replays in
      let v = subst (λ (P : Plan). IsFirstOther P b.other_plan (Some n)) one.0 d in
      (n, refl, subst (λ (Q : Plan). IsFirstOther both.plan Q (Some n)) other.0 v)

  one_cause : (e f : Ending) → Cause e → Cause f → e ≡ f
  one_cause _ f (first_faulty line fault h) c = first_fault line fault h f c
  one_cause _ f (second_faulty line fault is h) c = second_fault line fault is h f c
  one_cause _ f (first_stopped e a) c = first_stop e a f c
  one_cause _ f (second_stopped e a) c = second_stop e a f c
  one_cause _ f (another_plan n both d) c =
      let t = only_another_plan both f c in
      ap OtherPlan (one_part both.plan both.other_plan n t.0 d t.2) ∙ sym t.1

  text_or_cause : (t : List ℕ) (e : Ending) → IsBlameText first second t → Cause e → ⊥
  text_or_cause t e a c =
      let other = only_another_plan a.both e c in
      same_or_other a.both.plan a.both.other_plan other.0 a.same other.2

  -- want of memory aside, what comes of two records is one
  pub one_blame : (o p : Result (List ℕ) Ending) → IsBlameOutcome first second o → IsBlameOutcome first second p → (o ≡ Err Mem → ⊥) → (p ≡ Err Mem → ⊥) → o ≡ p
  one_blame (Ok t) (Ok u) a b m n = ap Ok (one_text t u a b)
  one_blame (Ok t) (Err f) a b m n = elim (cause_of f b) [ inl wanting ↦ absurd (n (ap Err wanting)) | inr cause ↦ absurd (text_or_cause t f a cause) ]
  one_blame (Err e) (Ok u) a b m n = elim (cause_of e a) [ inl wanting ↦ absurd (m (ap Err wanting)) | inr cause ↦ absurd (text_or_cause u e b cause) ]
  one_blame (Err e) (Err f) a b m n = elim (cause_of e a) [
    | inl wanting ↦ absurd (m (ap Err wanting))
    | inr cause ↦ elim (cause_of f b) [ inl wanting ↦ absurd (n (ap Err wanting)) | inr other ↦ ap Err (one_cause e f cause other) ]
  ]
