-- What one more entry changes.
use Rattle.std.proofs.Common.{◌≡◌, ℕ, true, false, cond, ◌==◌, List, [], ◌∷◌, ◌++◌, map, filter, Some, None, refl, ap, ◌∙◌}
use Rattle.std.specs.List.{cons_option}
use Rattle.mk_base.specs.declared.SimNo.{SimNo}
use Rattle.mk_base.proofs.Lists.{filter_map_append, append_nil}
use Rattle.mk_plan.specs.declared.Plan.{Plan}
use Rattle.mk_plan.specs.declared.Item.{Item}
use Rattle.mk_plan.specs.declared.Message.{Message}
use Rattle.mk_plan.specs.declared.Entry.{Entry}
use Rattle.mk_plan.specs.declared.Entry.TheVariants.{Sent, Got}
use Rattle.mk_plan.specs.Journals.{Arrival, arrival_of, arrivals, view, got}
use Rattle.mk_order.proofs.Pushing.{view_push}
use Rattle.mk_sched.specs.Answers.{SomeReady}
use Rattle.mk_sched.proofs.Pushed.{fault_after_sent, patient_got, patient_sent}
use Rattle.mk_record_replay.specs.Replays.{messages_from}
use Rattle.mk_record_replay.specs.inner.Loops.{IsGiven, IsOnWay}
use Rattle.mk_base.proofs.Items.{not_empty}

pub arrivals_after_sent : (J : List Entry) (s : SimNo) (item : Item) → arrivals (J ++ Sent s item ∷ []) ≡ arrivals J
arrivals_after_sent J s item = filter_map_append arrival_of J (Sent s item ∷ []) ∙ append_nil (arrivals J)

pub arrivals_after_got : (J : List Entry) (s : SimNo) (m : Message) → arrivals (J ++ Got s m ∷ []) ≡ arrivals J ++ record { sim = s.0; message = m } ∷ []
arrivals_after_got J s m = filter_map_append arrival_of J (Got s m ∷ [])

-- before any message
pub on_way_first : (P : Plan) → IsOnWay P [] []
on_way_first P = record { given = refl; no_fault = refl; patient = λ H s m more q i x ready. not_empty H more (Got s m) q; paid = refl }

pub given_of : (P : Plan) (A : List Arrival) (J : List Entry) → IsOnWay P A J → IsGiven P A J
given_of P A J h = record { given = h.given; no_fault = h.no_fault; patient = h.patient }

pub on_way_sent : (P : Plan) (A : List Arrival) (J : List Entry) (s : SimNo) (item : Item) → IsGiven P A J → IsOnWay P A (J ++ Sent s item ∷ [])
on_way_sent P A J s item h = record { given = arrivals_after_sent J s item ∙ h.given; no_fault = fault_after_sent P J s item h.no_fault; patient = patient_sent P J s item h.patient; paid = ap (λ V. V.owed) (view_push P J (Sent s item)) }

pub given_got : (P : Plan) (A : List Arrival) (J : List Entry) (s : SimNo) (m : Message) → IsOnWay P A J → (SomeReady P J → ⊥) → (view P (J ++ Got s m ∷ [])).fault ≡ None
    → IsGiven P (A ++ record { sim = s.0; message = m } ∷ []) (J ++ Got s m ∷ [])
given_got P A J s m h nobody right = record { given = arrivals_after_got J s m ∙ ap (λ (B : List Arrival). B ++ record { sim = s.0; message = m } ∷ []) h.given; no_fault = right; patient = patient_got P J s m h.patient nobody }

pub on_way_got : (P : Plan) (A : List Arrival) (J : List Entry) (s : SimNo) (m : Message) → IsOnWay P A J → (SomeReady P J → ⊥) → (view P (J ++ Got s m ∷ [])).fault ≡ None → (view P (J ++ Got s m ∷ [])).owed ≡ None
    → IsOnWay P (A ++ record { sim = s.0; message = m } ∷ []) (J ++ Got s m ∷ [])
on_way_got P A J s m h nobody right paid = let g = given_got P A J s m h nobody right in record { given = g.given; no_fault = g.no_fault; patient = g.patient; paid = paid }

-- the messages that came from a simulator are its messages among those that came
pub got_is : (J : List Entry) (i : ℕ) → got J i ≡ messages_from (arrivals J) i
got_is [] i = refl
got_is (Sent s item ∷ J) i = got_is J i
got_is (Got s m ∷ J) i = elim (s.0 == i) as (λ b. cons_option (cond b (Some m) None) (got J i) ≡ map (λ a. a.message) (cond b (record { sim = s.0; message = m } ∷ filter (λ a. a.sim == i) (arrivals J)) (filter (λ a. a.sim == i) (arrivals J)))) [
  | true ↦ ap (λ (ms : List Message). m ∷ ms) (got_is J i)
  | false ↦ got_is J i
]
