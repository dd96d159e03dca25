-- One record has one outcome.
use Rattle.std.proofs.Common.{◌≡◌, ℕ, List, Option, Some, None, Result, Ok, Err, ◌⊎◌, inl, inr, refl, sym, ap, ◌∙◌, subst}
use Rattle.mk_plan.specs.declared.Plan.{Plan}
use Rattle.mk_plan.specs.declared.Entry.{Entry}
use Rattle.mk_plan.specs.Journals.{Arrival}
use Rattle.mk_plan.specs.Sequential.{run_items}
use Rattle.mk_plan.specs.Report.{report}
use Rattle.mk_record.specs.Reading.{Said, Faulty}
use Rattle.mk_record.specs.Asked.{Asked}
use Rattle.mk_record.specs.Replays.{messages_from}
use Rattle.mk_record.specs.Orders.{IsReplayBy}
use Rattle.mk_record.specs.ReplayEnd.{ReplayEnd}
use Rattle.mk_record.specs.ReplayEnd.TheVariants as ends
use Rattle.mk_record_replay.proofs.OneOrder.{one_replay_by}
use Rattle.mosaikrun_endings.specs.declared.ending.Ending.{Ending}
use Rattle.mosaikrun_endings.specs.declared.ending.Ending.TheVariants.{Record, Mem}
use Rattle.mosaikrun_records.specs.Reports.{IsReportOf, IsOutcome, Unreported}
use Rattle.mosaikrun_records.specs.Saved.{EndsEarly, IsDoneBy, IsRecord, IsSaidOf, IsUnread}

-- the record of bytes that are read as two is one
module _ (P Q : Plan) (A B : List Arrival) (s z : Option (List Asked)) (same : Said P A s ≡ Said Q B z) where
  pub same_plan : P ≡ Q
  same_plan = cc

  pub same_arrivals : A ≡ B
  same_arrivals = cc

  pub same_steps : s ≡ z
  same_steps = cc

  -- and so is its end
  pub same_end : (order : Option ℕ) (J K : List Entry) (e f : ReplayEnd) → IsReplayBy P A s order J e → IsReplayBy Q B z order K f → (J ≡ K) × (e ≡ f)
  same_end order J K e f r q =
      let q1 = subst (λ (X : Plan). IsReplayBy X B z order K f) (sym same_plan) q in
      let q2 = subst (λ (X : List Arrival). IsReplayBy P X z order K f) (sym same_arrivals) q1 in
      let q3 = subst (λ (X : Option (List Asked)). IsReplayBy P A X order K f) (sym same_steps) q2 in
      one_replay_by P A s order J K e f r q3

-- of an end one thing is said
pub said_once : (P : Plan) (J : List Entry) (end : ReplayEnd) (e f : Ending) → IsSaidOf P J end e → IsSaidOf P J end f → e ≡ f
said_once P J ends.Done e f a b = absurd a
said_once P J (ends.Short n) e f a b = a ∙ sym b
said_once P J (ends.Other n) e f a b = a ∙ sym b
said_once P J (ends.Core fault) e f a b = a ∙ sym b

pub one_text : (bytes : List ℕ) (order other : Option ℕ) (t u : List ℕ) → IsReportOf bytes order t → IsReportOf bytes other u → t ≡ u
one_text bytes order other t u r q =
    let same = sym r.read ∙ q.read in
    let plan = same_plan r.plan q.plan r.arrivals q.arrivals r.steps q.steps same in
    let came = same_arrivals r.plan q.plan r.arrivals q.arrivals r.steps q.steps same in
    r.reported ∙ ap (λ (P : Plan). report P (run_items P (messages_from r.arrivals))) plan
    ∙ ap (λ (A : List Arrival). report q.plan (run_items q.plan (messages_from A))) came ∙ sym q.reported

-- all done is an end
pub done_is : (P : Plan) (A : List Arrival) (steps : Option (List Asked)) (order : Option ℕ) (J : List Entry) → IsDoneBy P A steps order J → IsReplayBy P A steps order J ends.Done
done_is P A steps None J done = (done.0, record { messages_end = ends.Done; other = None; ends = done.2; compared = done.1; is = refl })
done_is P A steps (Some N) J done = done

-- a record that is reported doesn't stop
not_both : (bytes : List ℕ) (order : Option ℕ) (t : List ℕ) (e : Ending) → IsReportOf bytes order t → EndsEarly bytes order e → ⊥
not_both bytes order t e r q =
    let done = done_is r.plan r.arrivals r.steps order r.journal r.done in
    let one = same_end r.plan q.plan r.arrivals q.arrivals r.steps q.steps (sym r.read ∙ q.read) order r.journal q.journal ends.Done q.end done q.replayed in
    let said : IsSaidOf q.plan q.journal ends.Done e = subst (λ (x : ReplayEnd). IsSaidOf q.plan q.journal x e) (sym one.1) q.said in
    said

pub one_stop : (bytes : List ℕ) (order : Option ℕ) (e f : Ending) → EndsEarly bytes order e → EndsEarly bytes order f → e ≡ f
one_stop bytes order e f r q =
    let same = sym r.read ∙ q.read in
    let plan = same_plan r.plan q.plan r.arrivals q.arrivals r.steps q.steps same in
    let one = same_end r.plan q.plan r.arrivals q.arrivals r.steps q.steps same order r.journal q.journal r.end q.end r.replayed q.replayed in
    let a = subst (λ (X : Plan). IsSaidOf X r.journal r.end e) plan r.said in
    let b = subst (λ (L : List Entry). IsSaidOf q.plan L r.end e) one.0 a in
    let c = subst (λ (x : ReplayEnd). IsSaidOf q.plan q.journal x e) one.1 b in
    said_once q.plan q.journal q.end e f c q.said

-- a record with a fault is none that is said
pub faulty_not : (P : Plan) (A : List Arrival) (s : Option (List Asked)) (line fault : ℕ) → Said P A s ≡ Faulty line fault → ⊥
faulty_not P A s line fault same = cc

pub same_fault : (line fault l f : ℕ) → Faulty line fault ≡ Faulty l f → Record line fault ≡ Record l f
same_fault line fault l f same =
    let lines : line ≡ l = cc in
    let faults : fault ≡ f = cc in
    ap (λ x. Record x fault) lines ∙ ap (λ x. Record l x) faults

-- what stops is a record
pub record_stops : (bytes : List ℕ) (order : Option ℕ) (e : Ending) → EndsEarly bytes order e → IsRecord bytes
record_stops bytes order e a = record { plan = a.plan; arrivals = a.arrivals; steps = a.steps; read = a.read }

-- a record isn't unread, but for want of memory
record_or_unread : (bytes : List ℕ) (e : Ending) → IsRecord bytes → IsUnread bytes e → (e ≡ Mem → ⊥) → ⊥
record_or_unread bytes e a (inl mem) not = not mem
record_or_unread bytes e a (inr fault) not = faulty_not a.plan a.arrivals a.steps fault.0 fault.1 (sym a.read ∙ fault.3)

unread_once : (bytes : List ℕ) (e f : Ending) → IsUnread bytes e → IsUnread bytes f → (e ≡ Mem → ⊥) → (f ≡ Mem → ⊥) → e ≡ f
unread_once bytes e f (inl mem) b m n = absurd (m mem)
unread_once bytes e f (inr x) (inl mem) m n = absurd (n mem)
unread_once bytes e f (inr x) (inr y) m n = x.2 ∙ same_fault x.0 x.1 y.0 y.1 (sym x.3 ∙ y.3) ∙ sym y.2

-- want of memory aside, of bytes that are no record, or whose replay stops, one thing is said
module _ (bytes : List ℕ) (Stops : Ending → Type 0) (is_record : (e : Ending) → Stops e → IsRecord bytes) (once : (e f : Ending) → Stops e → Stops f → e ≡ f) where
  pub one_ending : (e f : Ending) → IsUnread bytes e ⊎ Stops e → IsUnread bytes f ⊎ Stops f → (e ≡ Mem → ⊥) → (f ≡ Mem → ⊥) → e ≡ f
  one_ending e f (inl a) (inl b) m n = unread_once bytes e f a b m n
  one_ending e f (inl a) (inr t) m n = absurd (record_or_unread bytes e (is_record f t) a m)
  one_ending e f (inr s) (inl b) m n = absurd (record_or_unread bytes f (is_record e s) b n)
  one_ending e f (inr s) (inr t) m n = once e f s t

-- and none of these of a record that doesn't stop
pub no_ending : (bytes : List ℕ) (e : Ending) (Stops : Type 0) → IsRecord bytes → (Stops → ⊥) → IsUnread bytes e ⊎ Stops → (e ≡ Mem → ⊥) → ⊥
no_ending bytes e Stops a not (inl unread) m = record_or_unread bytes e a unread m
no_ending bytes e Stops a not (inr stops) m = not stops

text_or_ending : (bytes : List ℕ) (order : Option ℕ) (t : List ℕ) (e : Ending) → IsReportOf bytes order t → Unreported bytes order e → (e ≡ Mem → ⊥) → ⊥
text_or_ending bytes order t e r a m = no_ending bytes e (EndsEarly bytes order e) (record { plan = r.plan; arrivals = r.arrivals; steps = r.steps; read = r.read }) (not_both bytes order t e r) a m

-- want of memory aside, what comes of one record is one
pub one_outcome : (bytes : List ℕ) (order : Option ℕ) (o p : Result (List ℕ) Ending) → IsOutcome bytes order o → IsOutcome bytes order p → (o ≡ Err Mem → ⊥) → (p ≡ Err Mem → ⊥) → o ≡ p
one_outcome bytes order (Ok t) (Ok u) a b m n = ap Ok (one_text bytes order order t u a b)
one_outcome bytes order (Ok t) (Err f) a b m n = absurd (text_or_ending bytes order t f a b (λ mem. n (ap Err mem)))
one_outcome bytes order (Err e) (Ok u) a b m n = absurd (text_or_ending bytes order u e b a (λ mem. m (ap Err mem)))
one_outcome bytes order (Err e) (Err f) a b m n = ap Err (one_ending bytes (EndsEarly bytes order) (record_stops bytes order) (one_stop bytes order) e f a b (λ mem. m (ap Err mem)) (λ mem. n (ap Err mem)))
