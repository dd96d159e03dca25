-- A whole replay sends what sequential execution over the arrivals sends, line for line.
use Rattle.std.proofs.Common.{◌≡◌, ℕ, ◌<◌, Bool, true, false, List, [], ◌∷◌, map, refl, sym, ap, ◌∙◌, subst, Option, Some, None, inl, inr, Result, Err, IfErr}
use Rattle.std.proofs.Math.Path.{fun_ext}
use Rattle.std.specs.Prelude.{◌==◌, if◌then◌else◌}
use Rattle.std.specs.List.{cons_option}
use Rattle.mk_plan.specs.declared.Plan.{Plan}
use Rattle.mk_plan.specs.declared.Message.{Message}
use Rattle.mk_plan.specs.declared.Entry.{Entry}
use Rattle.mk_plan.specs.declared.Entry.TheVariants.{Sent, Got}
use Rattle.mk_plan.specs.Plans.{IsValidPlan, sim_count}
use Rattle.mk_plan.specs.Journals.{Arrival, arrivals, bare, got, sent}
use Rattle.mk_plan.specs.Sequential.{Messages, run_items, sequential, all_ended, messages_in}
use Rattle.mk_plan.specs.Report.{report}
use Rattle.mk_record.specs.Reading.{reading, Said}
use Rattle.mk_record.specs.Asked.{Asked}
use Rattle.mk_record.specs.Differences.{IsOther}
use Rattle.mk_plan.specs.Agreement.{IsFinished}
use Rattle.mk_record.specs.Replays.{EndsBy, end_with, IsWhole, messages_from}
use Rattle.mk_record.specs.Orders.{IsReplayBy, IsReplayInOrder}
use Rattle.mk_record.specs.ReplayEnd.{ReplayEnd}
use Rattle.mk_record.specs.ReplayEnd.TheVariants.{Done, Core, Short, Other}
use Rattle.mk_record_report.proofs.Bare.{report_bare}
use Rattle.mosaikrun_records.specs.Reports.{IsReportOf, Unreported}
use Rattle.mosaikrun_records.specs.Saved.{IsDoneBy, IsNotDone, IsSaidOf, IsUnread}
use Rattle.mosaikrun_records.specs.inner.Saved.{IsSaidOrMemory}
use Rattle.mosaikrun_endings.specs.declared.ending.Ending.{Ending}
use Rattle.mosaikrun_endings.specs.declared.ending.Ending.TheVariants.{Short as ShortEnding, Differs}

-- one more message, if it is the simulator's
one_more : (b : Bool) (a : Arrival) (ms : List Message) (came : List Arrival) → ms ≡ map (λ (x : Arrival). x.message) came
    → cons_option (if b then Some a.message else None) ms ≡ map (λ (x : Arrival). x.message) (if b then a ∷ came else came)
one_more true a ms came e = ap (λ xs. a.message ∷ xs) e
one_more false a ms came e = e

-- a journal's messages of a simulator are those among all that came
pub got_is : (J : List Entry) (i : ℕ) → got J i ≡ messages_from (arrivals J) i
got_is [] i = refl
got_is (Sent s item ∷ J) i = got_is J i
got_is (Got s m ∷ J) i = one_more (s.0 == i) (record { sim = s.0; message = m }) _ _ (got_is J i)

-- a replay that ends with all done is one of messages that ends so, and whose entries are those of
-- the record
done_ends : (e : ReplayEnd) (other : Option ℕ) → Done ≡ end_with e other → (e ≡ Done) × (other ≡ None)
done_ends Done None is = (refl, refl)
done_ends Done (Some n) is = cc
done_ends (Core f) other is = cc
done_ends (Other k) other is = cc
done_ends (Short k) None is = cc
done_ends (Short k) (Some n) is = cc

-- a replay that has come to its end with all done is done
pub done_by : (P : Plan) (A : List Arrival) (steps : Option (List Asked)) (order : Option ℕ) (J : List Entry) (end : ReplayEnd) → IsReplayBy P A steps order J end → end ≡ Done → IsDoneBy P A steps order J
done_by P A steps None J end r done =
    let so = done_ends r.1.messages_end r.1.other (sym done ∙ r.1.is) in
    (r.0, subst (λ (n : Option ℕ). IsOther A steps J n) so.1 r.1.compared, subst (λ e. EndsBy P A J e) so.0 r.1.ends)
done_by P A steps (Some N) J end r done = subst (IsReplayInOrder P A N J) done r

-- where all messages were given in some order, each simulator was sent what sequential execution
-- over the messages sends it
record IsAllSent (P : Plan) (A : List Arrival) (J : List Entry) : Type 0 where
  heard : got J ≡ messages_from A
  finished : IsFinished P J
  sent : (i : ℕ) → i < sim_count P → map bare (sent J i) ≡ run_items P (messages_from A) i

whole_sent : (P : Plan) (A B : List Arrival) (J : List Entry) → ((i : ℕ) → messages_from B i ≡ messages_from A i) → IsWhole P B J → IsAllSent P A J
whole_sent P A B J same whole =
    let one : messages_from B ≡ messages_from A = fun_ext same in record {
      heard = fun_ext (got_is J) ∙ ap messages_from whole.given ∙ one;
      finished = whole.finished;
      sent = λ i within. whole.sent i within ∙ ap (λ (R : Messages). run_items P R i) one;
    }

all_sent : (P : Plan) (A : List Arrival) (steps : Option (List Asked)) (order : Option ℕ) (J : List Entry) → IsDoneBy P A steps order J → IsAllSent P A J
all_sent P A steps None J done = whole_sent P A A J (λ i. refl) done.2
all_sent P A steps (Some N) J done = whole_sent P A done.order J done.same done.ends

-- the report of a replay that ends with all done is that of the sequential execution of its plan
-- over the messages that came
pub report_done : (bytes text : List ℕ) (P Q : Plan) (A : List Arrival) (steps : Option (List Asked)) (order : Option ℕ) (J : List Entry)
    → reading bytes ≡ Said P A steps → IsValidPlan P → Q ≡ P → IsDoneBy P A steps order J → text ≡ report Q (sent J) → IsReportOf bytes order text
report_done bytes text P Q A steps order J read valid same by reported =
    let all : IsAllSent P A J = all_sent P A steps order J by in
    record {
      plan = P;
      arrivals = A;
      journal = J;
      steps = steps;
      read = read;
      valid = valid;
      done = by;
      used = λ i within. subst (λ (R : Messages). messages_in (sequential P R i) ≡ R i) all.heard (all.finished i within).used;
      uncut = λ i within. subst (λ (R : Messages). all_ended (sequential P R i) ≡ true) all.heard (all.finished i within).ended;
      reported = reported ∙ ap (λ S. report S (sent J)) same ∙ report_bare P (sent J) (run_items P (messages_from A)) all.sent;
    }

-- ---- a replay that isn't done

-- what is said of its end
module _ (P : Plan) (J : List Entry) (end : ReplayEnd) where
  pub said_short : (n : ℕ) → end ≡ Short n → IsSaidOrMemory P J end (ShortEnding n)
  said_short n is = inr (subst (λ (x : ReplayEnd). IsSaidOf P J x (ShortEnding n)) (sym is) refl)

  pub said_other : (n : ℕ) → end ≡ Other n → IsSaidOrMemory P J end (Differs n)
  said_other n is = inr (subst (λ (x : ReplayEnd). IsSaidOf P J x (Differs n)) (sym is) refl)

-- it ends as is said
pub unfinished : (P Q : Plan) (A : List Arrival) (steps : Option (List Asked)) (order : Option ℕ) (J : List Entry) (end : ReplayEnd) (e : Ending)
    → IsValidPlan P → Q ≡ P → IsReplayBy P A steps order J end → IsSaidOrMemory Q J end e → (bytes : List ℕ) → reading bytes ≡ Said P A steps → IsNotDone bytes order e
unfinished P Q A steps order J end e valid same replayed (inl wanting) bytes read = inl wanting
unfinished P Q A steps order J end e valid same replayed (inr said) bytes read = inr (record {
  plan = P;
  arrivals = A;
  journal = J;
  end = end;
  steps = steps;
  read = read;
  valid = valid;
  replayed = replayed;
  said = subst (λ (X : Plan). IsSaidOf X J end e) same said;
})

-- what answers an ending
pub if_err : {A E : Type 0} (r : Result A E) (e : E) (F : E → Type 0) → r ≡ Err e → F e → IfErr r F
if_err {A} {E} r e F is holds = subst (λ (x : Result A E). IfErr x F) (sym is) holds

-- and has no report; nor has what is no record
module _ (bytes : List ℕ) (order : Option ℕ) where
  pub unfinished_unreported : (e : Ending) → IsNotDone bytes order e → Unreported bytes order e
  unfinished_unreported e (inl wanting) = inl (inl wanting)
  unfinished_unreported e (inr stopped) = inr stopped

  pub unread_unreported : (e : Ending) → IsUnread bytes e → Unreported bytes order e
  unread_unreported e unread = inl unread
