-- A record and a file of watches have one outcome, want of memory aside.
use Rattle.std.proofs.Common.{◌≡◌, ℕ, List, None, Result, Ok, Err, ◌⊎◌, inl, inr, sym, ap, ◌∙◌, subst}
use Rattle.mk_plan.specs.declared.Plan.{Plan}
use Rattle.mk_plan.specs.Journals.{Arrival}
use Rattle.mk_plan.specs.Sequential.{run_items}
use Rattle.mk_record.specs.Reading.{reading, Faulty}
use Rattle.mk_record.specs.Replays.{messages_from}
use Rattle.mk_watch_read.specs.declared.fault.WatchFault.{WatchFault}
use Rattle.mk_watch_read.specs.declared.rule.Fold.{Fold}
use Rattle.mk_watch_read.specs.declared.watches.Watch.{Watch}
use Rattle.mk_watch_read.specs.Watches.{watches_of}
use Rattle.mk_watch.specs.Tables.{tables_text}
use Rattle.mosaikrun_endings.specs.declared.ending.Ending.{Ending}
use Rattle.mosaikrun_endings.specs.declared.ending.Ending.TheVariants.{Mem, Record, Watches}
use Rattle.mosaikrun_records.proofs.OneOutcome.{faulty_not, one_stop, same_arrivals, same_fault, same_plan}
use Rattle.mosaikrun_records.proofs.OneReplay.{replays_or_stops}
use Rattle.mosaikrun_watch.specs.Watched.{IsTabled, SaysNoWatches, IsUndone, IsUntabled, IsWatchOutcome}

ok_same : (x y : List Watch) → ◌≡◌ {A = Result (List Watch) WatchFault} (Ok x) (Ok y) → x ≡ y
ok_same x y e = cc

err_same : (x y : WatchFault) → ◌≡◌ {A = Result (List Watch) WatchFault} (Err x) (Err y) → x ≡ y
err_same x y e = cc

ok_err : (x : List Watch) (y : WatchFault) → ◌≡◌ {A = Result (List Watch) WatchFault} (Ok x) (Err y) → ⊥
ok_err x y e = cc

module _ (names : List (List ℕ)) (folds : List Fold) (bytes spec : List ℕ) where
  -- what two plans of the same bytes say
  said_same : (P Q : Plan) → P ≡ Q → (r s : Result (List Watch) WatchFault) → watches_of P names spec ≡ r → watches_of Q names spec ≡ s → r ≡ s
  said_same P Q same r s a b = sym a ∙ ap (λ (X : Plan). watches_of X names spec) same ∙ b

  one_text : (t u : List ℕ) → IsTabled names folds bytes spec t → IsTabled names folds bytes spec u → t ≡ u
  one_text t u r q =
      let a = r.replayed in
      let b = q.replayed in
      let same = sym a.read ∙ b.read in
      let plan = same_plan r.plan q.plan a.arrivals b.arrivals a.steps b.steps same in
      let came = same_arrivals r.plan q.plan a.arrivals b.arrivals a.steps b.steps same in
      let watches = ok_same r.watches q.watches (said_same r.plan q.plan plan (Ok r.watches) (Ok q.watches) r.read q.read) in
      r.is ∙ ap (λ (P : Plan). tables_text P names folds (run_items P (messages_from a.arrivals)) r.watches) plan
      ∙ ap (λ (A : List Arrival). tables_text q.plan names folds (run_items q.plan (messages_from A)) r.watches) came
      ∙ ap (tables_text q.plan names folds (run_items q.plan (messages_from b.arrivals))) watches ∙ sym q.is

  -- why there are no tables, want of memory aside, in three kinds
  data Cause : Ending → Type 0 where
    faulty : (line fault : ℕ) → reading bytes ≡ Faulty line fault → Cause (Record line fault)
    refused : (e : Ending) → SaysNoWatches names bytes spec e → Cause e
    undone : (e : Ending) → IsUndone names bytes spec e → Cause e

  cause_of : (e : Ending) → IsUntabled names bytes spec e → (e ≡ Mem) ⊎ Cause e
  cause_of e (inl (inl mem)) = inl mem
  cause_of e (inl (inr (line, fault, is, read))) = inr (subst Cause (sym is) (faulty line fault read))
  cause_of e (inr (inl r)) = inr (refused e r)
  cause_of e (inr (inr u)) = inr (undone e u)

  one_cause : (e f : Ending) → Cause e → Cause f → e ≡ f
  one_cause _ _ (faulty line fault a) (faulty l f b) = same_fault line fault l f (sym a ∙ b)
  one_cause _ _ (faulty line fault a) (refused f b) = absurd (faulty_not b.plan b.arrivals b.steps line fault (sym b.record_is ∙ a))
  one_cause _ _ (faulty line fault a) (undone f b) = absurd (faulty_not b.plan b.arrivals b.steps line fault (sym b.record_is ∙ a))
  one_cause _ _ (refused e a) (faulty l f b) = absurd (faulty_not a.plan a.arrivals a.steps l f (sym a.record_is ∙ b))
  one_cause _ _ (refused e a) (refused f b) =
      let plan = same_plan a.plan b.plan a.arrivals b.arrivals a.steps b.steps (sym a.record_is ∙ b.record_is) in
      a.is ∙ ap Watches (err_same a.fault b.fault (said_same a.plan b.plan plan (Err a.fault) (Err b.fault) a.refused b.refused)) ∙ sym b.is
  one_cause _ _ (refused e a) (undone f b) =
      let plan = same_plan b.plan a.plan b.arrivals a.arrivals b.steps a.steps (sym b.record_is ∙ a.record_is) in
      absurd (ok_err b.watches a.fault (said_same b.plan a.plan plan (Ok b.watches) (Err a.fault) b.read a.refused))
  one_cause _ _ (undone e a) (faulty l f b) = absurd (faulty_not a.plan a.arrivals a.steps l f (sym a.record_is ∙ b))
  one_cause _ _ (undone e a) (refused f b) =
      let plan = same_plan a.plan b.plan a.arrivals b.arrivals a.steps b.steps (sym a.record_is ∙ b.record_is) in
      absurd (ok_err a.watches b.fault (said_same a.plan b.plan plan (Ok a.watches) (Err b.fault) a.read b.refused))
  one_cause _ _ (undone e a) (undone f b) = one_stop bytes None e f a.stopped b.stopped

  text_or_cause : (t : List ℕ) (e : Ending) → IsTabled names folds bytes spec t → Cause e → ⊥
  text_or_cause t _ r (faulty line fault b) = let a = r.replayed in faulty_not r.plan a.arrivals a.steps line fault (sym a.read ∙ b)
  text_or_cause t _ r (refused e b) =
      let a = r.replayed in
      let plan = same_plan r.plan b.plan a.arrivals b.arrivals a.steps b.steps (sym a.read ∙ b.record_is) in
      ok_err r.watches b.fault (said_same r.plan b.plan plan (Ok r.watches) (Err b.fault) r.read b.refused)
  text_or_cause t _ r (undone e b) = replays_or_stops bytes r.plan r.journal e r.replayed b.stopped

  -- want of memory aside, what comes of the bytes is one
  pub one_outcome : (o p : Result (List ℕ) Ending) → IsWatchOutcome names folds bytes spec o → IsWatchOutcome names folds bytes spec p → (o ≡ Err Mem → ⊥) → (p ≡ Err Mem → ⊥) → o ≡ p
  one_outcome (Ok t) (Ok u) a b m n = ap Ok (one_text t u a b)
  one_outcome (Ok t) (Err f) a b m n = elim (cause_of f b) [ inl mem ↦ absurd (n (ap Err mem)) | inr cause ↦ absurd (text_or_cause t f a cause) ]
  one_outcome (Err e) (Ok u) a b m n = elim (cause_of e a) [ inl mem ↦ absurd (m (ap Err mem)) | inr cause ↦ absurd (text_or_cause u e b cause) ]
  one_outcome (Err e) (Err f) a b m n = elim (cause_of e a) [ inl mem ↦ absurd (m (ap Err mem)) | inr cause ↦ elim (cause_of f b) [ inl mem ↦ absurd (n (ap Err mem)) | inr other ↦ ap Err (one_cause e f cause other) ] ]
