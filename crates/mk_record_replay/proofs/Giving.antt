-- What the answers of a core make of a replay that is on its way.
use Rattle.std.proofs.Common.{◌≡◌, ℕ, ◌<◌, ◌≤◌, List, [], ◌∷◌, ◌++◌, length, map, reverse, Option, Some, None, option_map, unwrap_or, slice_get, refl, sym, ap, ◌∙◌, subst, ◌⊎◌, inl, inr, append_assoc, filter, All, Result, Ok, Err, IfOk}
use Rattle.std.proofs.lemmas.List.{reverse-append}
use Rattle.mk_base.specs.declared.SimNo.{SimNo}
use Rattle.mk_base.specs.declared.tier.Tier.{Tier}
use Rattle.mk_base.specs.Lists.{BeginsWith, IsIn}
use Rattle.mk_record_read.specs.declared.saved.Arrival as saved
use Rattle.mk_record_read.specs.Seen.{came}
use Rattle.mk_base.proofs.Lists.{append_nil, map_append, none_some, get_is, all_in, in_back}
use Rattle.mk_plan.specs.declared.Plan.{Plan}
use Rattle.mk_plan.specs.declared.PlanSim.{PlanSim}
use Rattle.mk_plan.specs.declared.Item.TheVariants.{Step}
use Rattle.mk_plan.specs.declared.Message.{Message}
use Rattle.mk_plan.specs.declared.Entry.{Entry}
use Rattle.mk_plan.specs.declared.Entry.TheVariants.{Sent}
use Rattle.mk_plan.specs.Plans.{sim_count}
use Rattle.mk_plan.specs.Due.{is_in_run, first_times, own_times}
use Rattle.mk_plan.specs.Deliveries.{supply, triggers}
use Rattle.mk_plan.specs.Inputs.{is_since}
use Rattle.mk_plan.specs.Sequential.{Messages, last_time, run_items}
use Rattle.mk_plan.specs.Journals.{Arrival, arrivals, view, View, open_count}
use Rattle.mk_plan.specs.Ready.{IsDone, pending, least}
use Rattle.mk_plan.specs.Agreement.{IsFinished}
use Rattle.mk_sched.specs.declared.faults.CoreFault.{CoreFault}
use Rattle.mk_sched.specs.declared.faults.CoreFault.TheVariants.{TooLong}
use Rattle.mk_sched.specs.declared.faults.Next.TheVariants as next
use Rattle.mk_sched.specs.declared.faults.Taken.TheVariants as taken
use Rattle.mk_sched.specs.Cores.{CoreState, Stands}
use Rattle.mk_sched.specs.Answers.{NextOf, ArriveOf, IsAsked, IsQuiet, IsAnswered, IsLastFaulty, WasFaulty, SomeReady, with_message}
use Rattle.mk_record_replay.specs.declared.asking.Standstill.TheVariants as standstills
use Rattle.mk_record_replay.specs.declared.replaying.ReplayEnd.{ReplayEnd}
use Rattle.mk_record_replay.specs.declared.replaying.ReplayEnd.TheVariants.{Done, Core, Short}
use Rattle.mk_record_replay.specs.Replays.{messages_from, IsReplay, IsFull}
use Rattle.mk_record_replay.specs.Runs.{CanArrive, HasReplayed}
use Rattle.mk_sched.specs.inner.Patient.{IsPatient}
use Rattle.mk_record_replay.specs.inner.Loops.{IsOnWay, GoesOn, IsUnready, HasAskedAll, IsCutShort, GivenBy}
use Rattle.mk_sched.proofs.Pushed.{patient_got}
use Rattle.mk_record_replay.proofs.Pushing.{given_of, given_got, on_way_sent, on_way_got, arrivals_after_got, arrivals_after_sent, got_is}
use Rattle.mk_record_replay.proofs.Counting.{some_are_open}

-- ---- whoever is ready is asked

pub goes_on_asked : (first old new : CoreState) (s : SimNo) → GoesOn first old → IsAsked old s new → GoesOn first new
goes_on_asked first old new s g a = record {
  plan = ap (λ (c : CoreState). c.plan) a.moved ∙ g.plan;
  more = g.more ++ Sent s (Step a.at a.inputs a.advance) ∷ [];
  longer = ap (λ (c : CoreState). c.entries) a.moved ∙ ap (λ (J : List Entry). J ++ Sent s (Step a.at a.inputs a.advance) ∷ []) g.longer ∙ append_assoc first.entries g.more (Sent s (Step a.at a.inputs a.advance) ∷ []);
  sent_only = arrivals_after_sent g.more s (Step a.at a.inputs a.advance) ∙ g.sent_only;
  on_way = λ A h. subst (λ (c : CoreState). IsOnWay first.plan A c.entries) (sym a.moved) (on_way_sent first.plan A old.entries s (Step a.at a.inputs a.advance) (given_of first.plan A old.entries (g.on_way A h)));
}

pub asked_goes : (old new : CoreState) (s : SimNo) → IsAsked old s new → new.ended ≡ None
asked_goes old new s a = ap (λ (c : CoreState). c.ended) a.moved

not_before : {X : Type 0} (old new : CoreState) (f : CoreFault) → old.ended ≡ None → WasFaulty old f new → X
not_before old new f going was = absurd (none_some (sym going ∙ was.0))

pub asked_full : (first old new : CoreState) (f : CoreFault) → GoesOn first old → old.ended ≡ None → NextOf old (next.Fault f) new → Stands new.plan new.entries → HasAskedAll first (standstills.Full f) new
asked_full first old new f g going (inl was) stands = not_before old new f going was
asked_full first old new f g going (inr full) stands = record {
  goes = record { plan = ap (λ (c : CoreState). c.plan) full.ended ∙ g.plan; more = g.more; longer = ap (λ (c : CoreState). c.entries) full.ended ∙ g.longer; sent_only = g.sent_only; on_way = λ A h. subst (λ (c : CoreState). IsOnWay first.plan A c.entries) (sym full.ended) (g.on_way A h) };
  stands = stands;
  by = subst (λ (c : CoreState). (f ≡ TooLong c.plan.entries) × (length c.entries ≡ c.plan.entries) × SomeReady c.plan c.entries) (sym full.ended) (full.named, full.full, full.ready);
}

-- ---- nobody is ready where nothing is pending

ready_is_there : (P : Plan) (V : View) (s : ℕ) (x : Tier) → pending P V.acts s ≡ Some x → s < sim_count P
ready_is_there P V s x e = elim (slice_get P.sims s) as (λ o. slice_get P.sims s ≡ o → least (filter (is_since (last_time (V.acts s))) (unwrap_or (option_map (λ (sim : PlanSim). filter (is_in_run P) (first_times sim ++ own_times (V.acts s) ++ triggers P (supply P V.acts) s)) o) [])) ≡ Some x → s < sim_count P) [
  | None ↦ λ q h. absurd (none_some h)
  | Some sim ↦ λ q h. (get_is P.sims s sim q).0
] refl e

pub nobody_at_end : (P : Plan) (J : List Entry) → IsDone P (view P J) → SomeReady P J → ⊥
nobody_at_end P J done ready = let r = ready.2 in none_some (sym (done.none_pending ready.0 (ready_is_there P (view P J) ready.0 ready.1 r.at_pending)) ∙ r.at_pending)

-- ---- a fault ends the replay

stop : (P : Plan) (A : List Arrival) (f : CoreFault) (new : CoreState) (K : List Entry) → new.plan ≡ P → new.entries ≡ K → Stands new.plan new.entries → IsPatient P K → BeginsWith A (arrivals K) → IsLastFaulty P K f ⊎ IsFull P A K f → IsCutShort P A f new
stop P A f new K plan entries stands patient given by = let here : Stands P K = subst (λ (J : List Entry). Stands P J) entries (subst (λ (Q : Plan). Stands Q new.entries) plan stands) in
    subst (λ (J : List Entry). IsReplay P A J × (IsLastFaulty P J f ⊎ IsFull P A J f) → IsCutShort P A f new) entries (λ t. record { plan = plan; replay = t.0; by = t.1 })
    (record { agrees = here.agrees; eager = (here.orderly, patient); given = given; within = here.within }, by)

-- the messages given so far, one more, and the rest
pub with_rest : (A : List Arrival) (a : Arrival) (more : List Arrival) → A ++ a ∷ more ≡ (A ++ a ∷ []) ++ more
with_rest A a more = sym (append_assoc A (a ∷ []) more)

module _ (old new : CoreState) (sim : SimNo) (m : Message) where
  -- the message as one that came
  abbrev a : Arrival
  a = record { sim = sim.0; message = m }

  abbrev J : List Entry
  J = with_message old sim m

  given_with : (A more : List Arrival) → IsOnWay old.plan A old.entries → BeginsWith (A ++ a ∷ more) (arrivals J)
  given_with A more way = (more, with_rest A a more ∙ ap (λ (B : List Arrival). B ++ more) (sym (arrivals_after_got old.entries sim m ∙ ap (λ (B : List Arrival). B ++ a ∷ []) way.given)))

  pub taken_quiet : IsUnready old → IsQuiet old sim m new → GivenBy old a None new
  taken_quiet nobody q = (ap (λ (c : CoreState). c.ended) q.moved, ap (λ (c : CoreState). c.plan) q.moved, λ A way. subst (λ (c : CoreState). IsOnWay old.plan (A ++ a ∷ []) c.entries) (sym q.moved) (on_way_got old.plan A old.entries sim m way nobody q.no_fault q.none_owed))

  pub taken_send : IsUnready old → IsAnswered old sim m new → GivenBy old a None new
  taken_send nobody q = (
    ap (λ (c : CoreState). c.ended) q.moved,
    ap (λ (c : CoreState). c.plan) q.moved,
    λ A way. subst (λ (c : CoreState). IsOnWay old.plan (A ++ a ∷ []) c.entries) (sym q.moved)
        (on_way_sent old.plan (A ++ a ∷ []) J sim q.item (given_got old.plan A old.entries sim m way nobody q.no_fault)),
  )

  pub taken_fault : (f : CoreFault) → old.ended ≡ None → IsUnready old → ArriveOf old sim m (taken.Fault f) new → Stands new.plan new.entries → GivenBy old a (Some f) new
  taken_fault f going nobody (inl was) stands = not_before old new f going was
  taken_fault f going nobody (inr (inl untaken)) stands = λ A more way. stop old.plan (A ++ a ∷ more) f new old.entries (ap (λ (c : CoreState). c.plan) untaken.ended) (ap (λ (c : CoreState). c.entries) untaken.ended) stands way.patient
      (a ∷ more, ap (λ (B : List Arrival). B ++ a ∷ more) (sym way.given))
      (inr (record { named = untaken.named; full = untaken.full; no_fault = way.no_fault; more = inr (inr (a, more, ap (λ (B : List Arrival). B ++ a ∷ more) (sym way.given))) }))
  taken_fault f going nobody (inr (inr (inl faulty))) stands = λ A more way. stop old.plan (A ++ a ∷ more) f new J (ap (λ (c : CoreState). c.plan) faulty.ended) (ap (λ (c : CoreState). c.entries) faulty.ended) stands
      (patient_got old.plan old.entries sim m way.patient nobody) (given_with A more way)
      (inl (record { before = old.entries; sim = sim; message = m; is = refl; right_before = way.no_fault; named = faulty.named; fault = faulty.made }))
  taken_fault f going nobody (inr (inr (inr full))) stands = λ A more way. stop old.plan (A ++ a ∷ more) f new J (ap (λ (c : CoreState). c.plan) full.ended) (ap (λ (c : CoreState). c.entries) full.ended) stands
      (patient_got old.plan old.entries sim m way.patient nobody) (given_with A more way)
      (inr (record { named = full.named; full = full.full; no_fault = full.no_fault; more = inl full.owed }))

-- no room for a Step, while these messages are left
pub stopped_before : (old new : CoreState) (f : CoreFault) (A more : List Arrival) → HasAskedAll old (standstills.Full f) new → IsOnWay old.plan A old.entries → IsCutShort old.plan (A ++ more) f new
stopped_before old new f A more s way = let after = s.goes.on_way A way in let plan : new.plan ≡ old.plan = s.goes.plan in
    stop old.plan (A ++ more) f new new.entries plan refl s.stands after.patient (more, ap (λ (B : List Arrival). B ++ more) (sym after.given))
    (inr (record { named = s.by.0 ∙ ap (λ (P : Plan). TooLong P.entries) plan; full = s.by.1 ∙ ap (λ (P : Plan). P.entries) plan; no_fault = after.no_fault; more = inr (inl (subst (λ (P : Plan). SomeReady P new.entries) plan s.by.2)) }))

-- what follows a message, after whoever was ready was asked
pub given_after : (old mid new : CoreState) (b : Arrival) (o : Option CoreFault) → GoesOn old mid → GivenBy mid b o new → GivenBy old b o new
given_after old mid new b None g h = (h.0, h.1 ∙ g.plan, λ A way. let there : IsOnWay mid.plan A mid.entries = subst (λ (P : Plan). IsOnWay P A mid.entries) (sym g.plan) (g.on_way A way) in subst (λ (P : Plan). IsOnWay P (A ++ b ∷ []) new.entries) g.plan (h.2 A there))
given_after old mid new b (Some f) g h = λ A more way. let there : IsOnWay mid.plan A mid.entries = subst (λ (P : Plan). IsOnWay P A mid.entries) (sym g.plan) (g.on_way A way) in subst (λ (P : Plan). IsCutShort P (A ++ b ∷ more) f new) g.plan (h A more there)

-- ---- the end

run_of_stop : (P : Plan) (A : List Arrival) (f : CoreFault) (new : CoreState) → IsCutShort P A f new → HasReplayed P A (Core f) new
run_of_stop P A f new s = record { plan = s.plan; replay = s.replay; ends = s.by; going = tt }

-- a fault after the first messages
pub stopped_within : (P : Plan) (A B : List Arrival) (f : CoreFault) (new : CoreState) → IsCutShort P A f new → A ≡ B → HasReplayed P B (Core f) new
stopped_within P A B f new s e = subst (λ (C : List Arrival). HasReplayed P C (Core f) new) e (run_of_stop P A f new s)

module _ (old new : CoreState) where
  -- the replay as far as all messages were given
  whole_replay : (A : List Arrival) → GoesOn old new → Stands new.plan new.entries → IsOnWay old.plan A old.entries → IsReplay old.plan A new.entries
  whole_replay A g stands way = let after = g.on_way A way in let here : Stands old.plan new.entries = subst (λ (P : Plan). Stands P new.entries) g.plan stands in
      record { agrees = here.agrees; eager = (here.orderly, after.patient); given = ([], sym after.given ∙ sym (append_nil (arrivals new.entries))); within = here.within }

  pub ends_faulty : (f : CoreFault) (A : List Arrival) → HasAskedAll old (standstills.Full f) new → IsOnWay old.plan A old.entries → HasReplayed old.plan A (Core f) new
  ends_faulty f A s way = stopped_within old.plan (A ++ []) A f new (stopped_before old new f A [] s way) (append_nil A)

  pub ends_done : (A : List Arrival) → HasAskedAll old standstills.Over new → IsOnWay old.plan A old.entries → HasReplayed old.plan A Done new
  ends_done A s way = let after = s.goes.on_way A way in let finished : IsFinished old.plan new.entries = subst (λ (P : Plan). IsFinished P new.entries) s.goes.plan s.by.2 in record {
    plan = s.goes.plan;
    replay = whole_replay A s.goes s.stands way;
    ends = record {
      given = after.given;
      done = subst (λ (P : Plan). IsDone P (view P new.entries)) s.goes.plan s.by.1;
      paid = after.paid;
      finished = finished;
      sent = λ i h. (finished i h).sent ∙ ap (λ (R : Messages). run_items old.plan R i) (λ k j. (got_is new.entries j ∙ ap (λ (B : List Arrival). messages_from B j) after.given) k);
    };
    going = s.by.0;
  }

  pub ends_short : (n : ℕ) (A : List Arrival) → HasAskedAll old standstills.Waiting new → n ≡ open_count new.plan (view new.plan new.entries) → IsOnWay old.plan A old.entries → HasReplayed old.plan A (Short n) new
  ends_short n A s e way = let after = s.goes.on_way A way in let count : n ≡ open_count old.plan (view old.plan new.entries) = subst (λ (P : Plan). n ≡ open_count P (view P new.entries)) s.goes.plan e in record {
    plan = s.goes.plan;
    replay = whole_replay A s.goes s.stands way;
    ends = record {
      given = after.given;
      no_fault = after.no_fault;
      paid = after.paid;
      nobody = subst (λ (P : Plan). SomeReady P new.entries → ⊥) s.goes.plan s.by.1;
      count = count;
      some = let one : 1 ≤ open_count new.plan (view new.plan new.entries) = some_are_open new.plan new.entries s.by.2 in subst (λ (k : ℕ). 1 ≤ k) (sym e) one;
    };
    going = s.by.0;
  }

-- what follows from a fact on success
pub on_ok : {T E : Type 0} {P Q : T → Type 0} (r : Result T E) → ((x : T) → P x → Q x) → IfOk r P → IfOk r Q
on_ok (Ok x) f h = f x h
on_ok (Err e) f h = tt

module _ (all given left less : List saved.Arrival) (a : saved.Arrival) (parts : all ≡ given ++ reverse left) (taken : left ≡ less ++ a ∷ []) where
  -- the messages that were given, the one that is taken off, and those that are left
  next_part : all ≡ given ++ a ∷ reverse less
  next_part = parts ∙ ap (λ (l : List saved.Arrival). given ++ l) (ap reverse taken ∙ reverse-append less (a ∷ []))

  pub next_parts : all ≡ (given ++ a ∷ []) ++ reverse less
  next_parts = next_part ∙ sym (append_assoc given (a ∷ []) (reverse less))

  -- the core takes it, as it takes all
  pub next_arrives : (P : Plan) (core : CoreState) → core.plan ≡ P → All (CanArrive P) all → CanArrive core.plan a
  next_arrives P core plan known = subst (λ (Q : Plan). CanArrive Q a) (sym plan) (all_in (CanArrive P) all a known (subst (IsIn a) (sym next_part) (in_back a given (a ∷ reverse less) (inl refl))))

  -- a fault after the first of the messages
  pub ends_within : (P : Plan) (core new : CoreState) (o : Option CoreFault) (f : CoreFault) → core.plan ≡ P → IsOnWay P (map came given) core.entries → o ≡ Some f → GivenBy core (came a) o new → HasReplayed P (map came all) (Core f) new
  ends_within P core new o f plan way fault by = stopped_within P (map came given ++ map came (a ∷ reverse less)) (map came all) f new
      (subst (λ (Q : Plan). IsCutShort Q (map came given ++ map came (a ∷ reverse less)) f new) plan
      (subst (λ (p : Option CoreFault). GivenBy core (came a) p new) fault by (map came given) (map came (reverse less)) (subst (λ (Q : Plan). IsOnWay Q (map came given) core.entries) (sym plan) way)))
      (sym (map_append came given (a ∷ reverse less)) ∙ ap (map came) (sym next_part))

  -- one message more was given
  pub more_given : (P : Plan) (core new : CoreState) (o : Option CoreFault) → core.plan ≡ P → IsOnWay P (map came given) core.entries → o ≡ None → GivenBy core (came a) o new
      → (new.ended ≡ None) × (new.plan ≡ P) × IsOnWay P (map came (given ++ a ∷ [])) new.entries
  more_given P core new o plan way none by =
      let by_none : GivenBy core (came a) None new = subst (λ (p : Option CoreFault). GivenBy core (came a) p new) none by in
      let there : IsOnWay core.plan (map came given) core.entries = subst (λ (Q : Plan). IsOnWay Q (map came given) core.entries) (sym plan) way in (
        by_none.0,
        by_none.1 ∙ plan,
        subst (λ (l : List Arrival). IsOnWay P l new.entries) (sym (map_append came given (a ∷ []))) (subst (λ (Q : Plan). IsOnWay Q (map came given ++ came a ∷ []) new.entries) plan (by_none.2 (map came given) there)),
      )

-- the end, where all were given
pub ends_after : {E : Type 0} (all given left : List saved.Arrival) (P : Plan) (core new : CoreState) (r : Result ReplayEnd E) → all ≡ given ++ reverse left → left ≡ [] → core.plan ≡ P → IsOnWay P (map came given) core.entries
    → ((A : List Arrival) → IsOnWay core.plan A core.entries → IfOk r (λ end. HasReplayed core.plan A end new)) → IfOk r (λ end. HasReplayed P (map came all) end new)
ends_after all given left P core new r parts none plan way ends =
    let whole : given ≡ all = sym (parts ∙ ap (λ (l : List saved.Arrival). given ++ reverse l) none ∙ append_nil given) in
    subst (λ (l : List saved.Arrival). IfOk r (λ end. HasReplayed P (map came l) end new)) whole
    (subst (λ (Q : Plan). IfOk r (λ end. HasReplayed Q (map came given) end new)) plan
    (ends (map came given) (subst (λ (Q : Plan). IsOnWay Q (map came given) core.entries) (sym plan) way)))
