-- A turn of a run's loop: what the core answered and what the crew did keep crew and journal together.
use Rattle.std.proofs.Common.{◌≡◌, ◌⊎◌, inl, inr, ℕ, ◌+◌, ◌<◌, Bool, true, false, ◌&&◌, List, [], ◌∷◌, ◌++◌, length, map, Option, Some, None, is_some, option_map, if◌then◌else◌, refl, sym, ap, ◌∙◌, subst, arith, true≢false}
use Rattle.mk_base.specs.declared.LinkNo.{LinkNo}
use Rattle.mk_base.specs.declared.SimNo.{SimNo}
use Rattle.mk_base.specs.declared.json.Json.{Json}
use Rattle.mk_base.proofs.Lists.{some_same, none_some}
use Rattle.mk_plan.specs.declared.Plan.{Plan}
use Rattle.mk_plan.specs.declared.Item.{Item}
use Rattle.mk_plan.specs.declared.Item.TheVariants.{Step, GetData}
use Rattle.mk_plan.specs.declared.Message.{Message}
use Rattle.mk_plan.specs.declared.Message.TheVariants.{Ask, Success, Failure}
use Rattle.mk_plan.specs.declared.Entry.{Entry}
use Rattle.mk_plan.specs.declared.Entry.TheVariants.{Sent, Got}
use Rattle.mk_plan.specs.declared.Place.{Place}
use Rattle.mk_plan.specs.declared.Place.TheVariants.{Idle, Stepping, Fetching}
use Rattle.mk_plan.specs.declared.Cause.{Cause}
use Rattle.mk_plan.specs.Acts.{Heard}
use Rattle.mk_plan.specs.Deliveries.{supply}
use Rattle.mk_plan.specs.Sequential.{Messages, response, takes_id, id_after}
use Rattle.mk_plan.specs.Turns.{wrong, next_place, wanted}
use Rattle.mk_plan.specs.Plans.{first_id, sim_count, has_outputs}
use Rattle.mk_plan.specs.Journals.{View, OpenTurn, Owed, view, sent, bare, place_at, open_after, told_more, note_got, note_right}
use Rattle.mk_plan.specs.Ready.{IsReady}
use Rattle.mk_plan.specs.Advance.{IsAdvance}
use Rattle.mk_plan.specs.Report.{is_step}
use Rattle.mk_plan.specs.Orderly.{IsNext, IsAllowed, IsOrderlySoFar}
use Rattle.mk_scenario.specs.declared.parts.Scenario.{Scenario}
use Rattle.mk_outside.specs.declared.fleet.LogEntry.{LogEntry}
use Rattle.mk_sched.specs.Cores.{CoreState, Stands}
use Rattle.mk_sched.specs.Answers.{SomeReady, SomeOpen, IsAsked, IsQuiet, IsAnswered, open_id, id_at, with_message}
use Rattle.mk_order.proofs.Seen.{reached_sound, open_after_is}
use Rattle.mk_order.proofs.Pushing.{view_push}
use Rattle.mk_run_laws.specs.Handshake.{setup_count, sim_link, is_within}
use Rattle.mk_run_laws.specs.Channels.{Channel}
use Rattle.mk_run_laws.specs.Kinds.{Replies}
use Rattle.mk_run_laws.specs.Crews.{CrewState, channel_at, kept_of, IsHeard, IsSentOnLink, IsSentWithin}
use Rattle.mk_run_laws.specs.inner.Running.{IsRunningWith, IsRunning, awaited}
use Rattle.mk_run_laws.proofs.Stepping.{but, heard, asked_on_link, asked_within, heard_quiet, answered_on_link, answered_within, after_message}
use Rattle.mk_run_laws.proofs.Saying.{link_there}
use Rattle.mk_run_laws.proofs.Numbering.{HasId, step_id, owed_id}
use Rattle.mk_base.proofs.Counts.{same_self}

-- a Step is never owed
next_alone : (P : Plan) (J : List Entry) (s : SimNo) (item : Item) → IsOrderlySoFar IsReady IsAdvance P J → is_step item ≡ true → IsAllowed IsReady IsAdvance P (view P J) (Sent s item) → IsNext IsReady IsAdvance P (view P J) None (Sent s item)
next_alone P J s item orderly step allowed = go (view P J).owed refl allowed.1
  where
    is_step_entry : Entry → Bool
    is_step_entry (Sent t it) = is_step it
    is_step_entry (Got t m) = false

    go : (o : Option Owed) → (view P J).owed ≡ o → IsNext IsReady IsAdvance P (view P J) o (Sent s item) → IsNext IsReady IsAdvance P (view P J) None (Sent s item)
    go None e next = next
    go (Some o) e next = absurd (true≢false (sym step ∙ ap is_step_entry next ∙ (reached_sound IsReady IsAdvance P (λ V t x r. r) J orderly).later o e))

-- nothing is owed where a journal that stands has room
pub none_owed : (P : Plan) (J : List Entry) → Stands P J → length J < P.entries → (view P J).owed ≡ None
none_owed P J stands room = elim stands.orderly.1 [ inl none ↦ none | inr full ↦ absurd (omega (arith, full)) ]

-- the id that is open after a Step was asked is the next one
pub asked_opens : (old new : CoreState) (s : SimNo) → Stands old.plan old.entries → (a : IsAsked old s new) → open_id new s.0 ≡ Some (id_after (first_id old.plan s.0) (sent old.entries s.0))
asked_opens old new s stands a = ap (λ (c : CoreState). open_id c s.0) a.moved ∙ ap id_at place
  where
    P : Plan
    P = old.plan

    J : List Entry
    J = old.entries

    item : Item
    item = Step a.at a.inputs a.advance

    shut : (view P J).open_at s.0 ≡ None
    shut = (next_alone P J s item stands.orderly.0 refl a.allowed).0.0.closed

    place : place_at ((view P (J ++ Sent s item ∷ [])).open_at s.0) ≡ Stepping a.at (id_after (first_id P s.0) (sent J s.0)) 0
    place = ap (λ (V : View). place_at (V.open_at s.0)) (view_push P J (Sent s item)) ∙ ap (λ (b : Bool). place_at (if b then open_after P (view P J) s.0 item else (view P J).open_at s.0)) (same_self s.0) ∙ step_id P J stands.orderly.0 s.0 a.at shut

pub asked_id : (old new : CoreState) (s : SimNo) (id : ℕ) → Stands old.plan old.entries → (a : IsAsked old s new) → open_id new s.0 ≡ Some id → id ≡ id_after (first_id old.plan s.0) (sent old.entries s.0)
asked_id old new s id stands a open_there = sym (some_same (sym (asked_opens old new s stands a) ∙ open_there))

-- the simulator that is asked is ready
pub asked_ready : (old new : CoreState) (s : SimNo) → Stands old.plan old.entries → (a : IsAsked old s new) → IsReady old.plan (view old.plan old.entries) s.0 a.at
asked_ready old new s stands a = (next_alone old.plan old.entries s (Step a.at a.inputs a.advance) stands.orderly.0 refl a.allowed).0.0

-- and so is the id that is open after an item was sent that takes one
pub answered_id : (core new : CoreState) (s : SimNo) (m : Message) (id : ℕ) → Stands core.plan core.entries → IsOrderlySoFar IsReady IsAdvance core.plan (with_message core s m) → (a : IsAnswered core s m new) → open_id new s.0 ≡ Some id → takes_id a.item ≡ true
    → id ≡ id_after (first_id core.plan s.0) (sent (with_message core s m) s.0)
answered_id core new s m id stands standing a open_there takes = go ((view P K).open_at s.0) refl
  where
    P : Plan
    P = core.plan

    K : List Entry
    K = core.entries ++ Got s m ∷ []

    by_id : (p : Place) → id_at p ≡ Some id → HasId P p (id_after (first_id P s.0) (sent K s.0)) → id ≡ id_after (first_id P s.0) (sent K s.0)
    by_id Idle q has = absurd has
    by_id (Stepping at n asks) q has = sym (some_same q) ∙ has
    by_id (Fetching at n) q has = sym (some_same q) ∙ has

    late : is_step a.item ≡ false
    late = (reached_sound IsReady IsAdvance P (λ V t x r. r) K standing).later (record { sim = s.0; item = a.item }) a.owed

    go : (o : Option OpenTurn) → (view P K).open_at s.0 ≡ o → id ≡ id_after (first_id P s.0) (sent K s.0)
    go None e = absurd (true≢false (sym ((after_message P core.entries s m (none_owed P core.entries stands a.room.room) a.no_fault).1 (record { sim = s.0; item = a.item }) a.owed) ∙ ap (λ (o : Option OpenTurn). is_some o) e))
    go (Some T) e = by_id T.place
        (ap (λ (o : Option OpenTurn). id_at (place_at o)) (sym (ap (λ (V : View). V.open_at s.0) (view_push P K (Sent s a.item)) ∙ ap (λ (b : Bool). if b then open_after P (view P K) s.0 a.item else (view P K).open_at s.0) (same_self s.0)
        ∙ open_after_is P (view P K) s.0 a.item late ∙ ap (option_map (told_more a.item)) e)) ∙ ap (λ (c : CoreState). open_id c s.0) (sym a.moved) ∙ open_there)
        (owed_id P K standing s.0 T a.item e a.owed takes T.place refl)

-- the place after a right message that the turn goes on with has an id
next_has_id : (P : Plan) (i : ℕ) (o : Place) (m : Message) (q : Place) → next_place P i o m ≡ Some q → (id : ℕ) × (id_at q ≡ Some id)
next_has_id P i Idle m q e = absurd (none_some e)
next_has_id P i (Stepping at id asks) (Ask n name args named) q e = (id, ap id_at (sym (some_same e)))
next_has_id P i (Stepping at id asks) (Success n content) q e = go (has_outputs P i) e
  where
    go : (b : Bool) → (if b then Some (Fetching at (id + 1)) else None) ≡ Some q → (n : ℕ) × (id_at q ≡ Some n)
    go true e = (id + 1, ap id_at (sym (some_same e)))
    go false e = absurd (none_some e)
next_has_id P i (Stepping at id asks) (Failure n text) q e = absurd (none_some e)
next_has_id P i (Fetching at id) m q e = absurd (none_some e)

-- what is owed after a message: an id is open, and after a success it is a GetData
pub record IsOwedAfter (P : Plan) (V : View) (s : ℕ) (m : Message) (item : Item) : Type 0 where
  pub id : ℕ
  pub opened : id_at (place_at (V.open_at s)) ≡ Some id
  pub after_success : (n : ℕ) (content : Json) → m ≡ Success n content → item ≡ GetData (wanted P s)

pub owed_after : (P : Plan) (J : List Entry) (s : SimNo) (m : Message) (item : Item) → (view P J).owed ≡ None → (view P (J ++ Got s m ∷ [])).owed ≡ Some (record { sim = s.0; item = item }) → IsOwedAfter P (view P (J ++ Got s m ∷ [])) s.0 m item
owed_after P J s m item owes owed = subst (λ (W : View). IsOwedAfter P W s.0 m item) (sym (view_push P J (Got s m)))
    (by_open (V.open_at s.0) (wrong P s.0 (place_at (V.open_at s.0)) m) (ap (λ (W : View). W.owed) (sym (view_push P J (Got s m))) ∙ owed))
  where
    V : View
    V = view P J

    item_is : (i j : Item) → (let o : Option Owed = Some (record { sim = s.0; item = i }) in o) ≡ (let o : Option Owed = Some (record { sim = s.0; item = j }) in o) → i ≡ j
    item_is i j e = ap (λ (x : Owed). x.item) (some_same e)

    by_place : (T : OpenTurn) (q : Option Place) → next_place P s.0 T.place m ≡ q → (note_right P V s.0 m T q).owed ≡ Some (record { sim = s.0; item = item }) → IsOwedAfter P (note_right P V s.0 m T q) s.0 m item
    by_place T None is e = absurd (none_some (sym owes ∙ e))
    by_place T (Some q) is e =
        let t = next_has_id P s.0 T.place m q is in
        record {
          id = t.0;
          opened = ap (λ (b : Bool). id_at (place_at (if b then Some (record { at = T.at; messages = T.messages ++ m ∷ []; place = q; talk = T.talk ++ Heard m ∷ [] }) else V.open_at s.0))) (same_self s.0) ∙ t.1;
          after_success = λ n content same. sym (item_is (response P (supply P V.acts) s.0 T.at T.place m) item e) ∙ ap (response P (supply P V.acts) s.0 T.at T.place) same;
        }

    by_open : (o : Option OpenTurn) (c : Option Cause) → (note_got P V s.0 m o c).owed ≡ Some (record { sim = s.0; item = item }) → IsOwedAfter P (note_got P V s.0 m o c) s.0 m item
    by_open o (Some c) e = absurd (none_some (sym owes ∙ e))
    by_open None None e = absurd (none_some (sym owes ∙ e))
    by_open (Some T) None e = by_place T (next_place P s.0 T.place m) refl e

-- what the core answers a message with goes with an id that is open
pub answered_opens : (core new : CoreState) (s : SimNo) (m : Message) → Stands core.plan core.entries → IsOrderlySoFar IsReady IsAdvance core.plan (with_message core s m) → (a : IsAnswered core s m new) → (id : ℕ) × (open_id new s.0 ≡ Some id)
answered_opens core new s m stands standing a =
    let t = owed_after core.plan core.entries s m a.item (none_owed core.plan core.entries stands a.room.room) a.owed in
    (t.id, ap (λ (c : CoreState). open_id c s.0) a.moved ∙ same_place ∙ t.opened)
  where
    P : Plan
    P = core.plan

    K : List Entry
    K = core.entries ++ Got s m ∷ []

    late : is_step a.item ≡ false
    late = (reached_sound IsReady IsAdvance P (λ V t x r. r) K standing).later (record { sim = s.0; item = a.item }) a.owed

    told_place : (o : Option OpenTurn) → id_at (place_at (option_map (told_more a.item) o)) ≡ id_at (place_at o)
    told_place None = refl
    told_place (Some T) = refl

    same_place : id_at (place_at ((view P (K ++ Sent s a.item ∷ [])).open_at s.0)) ≡ id_at (place_at ((view P K).open_at s.0))
    same_place = ap (λ (V : View). id_at (place_at (V.open_at s.0))) (view_push P K (Sent s a.item)) ∙ ap (λ (b : Bool). id_at (place_at (if b then open_after P (view P K) s.0 a.item else (view P K).open_at s.0))) (same_self s.0)
        ∙ ap (λ (o : Option OpenTurn). id_at (place_at o)) (open_after_is P (view P K) s.0 a.item late) ∙ told_place ((view P K).open_at s.0)

module _ (started : ℕ) (S : Scenario) (replies : Messages) (reply : Replies) where
  -- the core asked simulator s with a link, and its Step was queued with the id that is open
  pub asked_link : (old new : CoreState) (log : List LogEntry) (C D : CrewState) (s : SimNo) (id : ℕ) (l : LinkNo) → Stands old.plan old.entries → IsRunning started S replies reply old.plan old.entries log C → (a : IsAsked old s new)
      → sim_link started S s.0 ≡ Some l → first_id old.plan s.0 ≡ setup_count S s.0 → open_id new s.0 ≡ Some id → IsSentOnLink s.0 (Step a.at a.inputs a.advance) id C D → IsRunning started S replies reply new.plan new.entries log D
  asked_link old new log C D s id l stands run a linked first open_there sent_so =
      subst (λ (c : CoreState). IsRunning started S replies reply c.plan c.entries log D) (sym a.moved)
      (asked_on_link started S replies reply P J log C D s item id l run linked sent_so (λ w there takes. right w there))
    where
      P : Plan
      P = old.plan

      J : List Entry
      J = old.entries

      item : Item
      item = Step a.at a.inputs a.advance

      right : (w : Channel) → channel_at C s.0 ≡ Some w → id ≡ w.next
      right w there =
          let one : id ≡ id_after (first_id P s.0) (sent J s.0) = asked_id old new s id stands a open_there in
          let h = run.channels s.0 l linked in
          let same : h.channel ≡ w = some_same (sym h.there ∙ there) in
          one ∙ ap (λ (n : ℕ). id_after n (sent J s.0)) first ∙ sym h.in_step.next_id ∙ ap (λ (v : Channel). v.next) same

  -- the core asked simulator s within the program, and its reply was kept
  pub asked_inside : (old new : CoreState) (log : List LogEntry) (C D : CrewState) (s : SimNo) → Stands old.plan old.entries → IsRunning started S replies reply old.plan old.entries log C → (a : IsAsked old s new)
      → is_within S s.0 ≡ true → IsSentWithin s.0 (reply s.0 (map bare (sent new.entries s.0))) C D → IsRunning started S replies reply new.plan new.entries log D
  asked_inside old new log C D s stands run a inside sent_so =
      subst (λ (c : CoreState). IsRunning started S replies reply c.plan c.entries log D) (sym a.moved)
      (asked_within started S replies reply old.plan old.entries log C D s a.at a.inputs a.advance run inside
      (next_alone old.plan old.entries s (Step a.at a.inputs a.advance) stands.orderly.0 refl a.allowed).0.0.closed
      (subst (λ (c : CoreState). IsSentWithin s.0 (reply s.0 (map bare (sent c.entries s.0))) C D) a.moved sent_so))

  -- nobody was ready, a message was heard, and the core took it without an answer
  pub taken_quietly : (core new : CoreState) (log entries : List LogEntry) (C D : CrewState) (s : SimNo) (m : Message) → Stands core.plan core.entries → IsRunning started S replies reply core.plan core.entries log C → (SomeReady core.plan core.entries → ⊥)
      → IsHeard entries s.0 m C D → ((w : Channel) → channel_at C s.0 ≡ Some w → (l : LinkNo) × (sim_link started S s.0 ≡ Some l)) → IsQuiet core s m new → IsRunning started S replies reply new.plan new.entries (log ++ entries) D
  taken_quietly core new log entries C D s m stands run nobody h back q =
      subst (λ (c : CoreState). IsRunning started S replies reply c.plan c.entries (log ++ entries) D) (sym q.moved)
      (heard_quiet started S replies reply core.plan core.entries log entries C D s m run (λ i x r. nobody (i, x, r)) h back (none_owed core.plan core.entries stands q.room.room) q.no_fault q.none_owed)

  -- the core answered it, and the answer was queued with the id that is open
  pub taken_on_link : (core new : CoreState) (log entries : List LogEntry) (C D E : CrewState) (s : SimNo) (m : Message) (id : ℕ) (l : LinkNo) → Stands core.plan core.entries → IsOrderlySoFar IsReady IsAdvance core.plan (with_message core s m) → IsRunning started S replies reply core.plan core.entries log C
      → (SomeReady core.plan core.entries → ⊥) → IsHeard entries s.0 m C D → ((w : Channel) → channel_at C s.0 ≡ Some w → (l : LinkNo) × (sim_link started S s.0 ≡ Some l)) → (a : IsAnswered core s m new)
      → sim_link started S s.0 ≡ Some l → first_id core.plan s.0 ≡ setup_count S s.0 → open_id new s.0 ≡ Some id → IsSentOnLink s.0 a.item id D E → IsRunning started S replies reply new.plan new.entries (log ++ entries) E
  taken_on_link core new log entries C D E s m id l stands standing run nobody h back a linked first open_there sent_so =
      subst (λ (c : CoreState). IsRunning started S replies reply c.plan c.entries (log ++ entries) E) (sym a.moved)
      (answered_on_link started S replies reply P J (log ++ entries) D E s m a.item id l mid linked sent_so right)
    where
      P : Plan
      P = core.plan

      J : List Entry
      J = core.entries

      K : List Entry
      K = J ++ Got s m ∷ []

      mid : IsRunningWith (but started S replies reply P s.0 (awaited S reply P J)) started S replies reply P K (log ++ entries) D
      mid = heard started S replies reply P J log entries C D s m run (λ i x r. nobody (i, x, r)) h back

      right : (w : Channel) → channel_at D s.0 ≡ Some w → takes_id a.item ≡ true → id ≡ w.next
      right w there takes =
          let hl = mid.channels s.0 l linked in
          let same : hl.channel ≡ w = some_same (sym hl.there ∙ there) in
          answered_id core new s m id stands standing a open_there takes ∙ ap (λ (n : ℕ). id_after n (sent K s.0)) first ∙ sym hl.in_step.next_id ∙ ap (λ (v : Channel). v.next) same

  -- or its reply was kept
  pub taken_inside : (core new : CoreState) (log entries : List LogEntry) (C D E : CrewState) (s : SimNo) (m : Message) → Stands core.plan core.entries → IsRunning started S replies reply core.plan core.entries log C
      → (SomeReady core.plan core.entries → ⊥) → IsHeard entries s.0 m C D → ((w : Channel) → channel_at C s.0 ≡ Some w → (l : LinkNo) × (sim_link started S s.0 ≡ Some l)) → (a : IsAnswered core s m new)
      → is_within S s.0 ≡ true → IsSentWithin s.0 (reply s.0 (map bare (sent new.entries s.0))) D E → IsRunning started S replies reply new.plan new.entries (log ++ entries) E
  taken_inside core new log entries C D E s m stands run nobody h back a inside sent_so =
      subst (λ (c : CoreState). IsRunning started S replies reply c.plan c.entries (log ++ entries) E) (sym a.moved)
      (answered_within started S replies reply core.plan core.entries (log ++ entries) D E s m a.item (record { sim = s.0; item = a.item })
      (heard started S replies reply core.plan core.entries log entries C D s m run (λ i x r. nobody (i, x, r)) h back) inside (none_owed core.plan core.entries stands a.room.room) a.no_fault a.owed
      (subst (λ (c : CoreState). IsSentWithin s.0 (reply s.0 (map bare (sent c.entries s.0))) D E) a.moved sent_so))

  -- where a request is open there is something to hear: a reply that is kept, or a link
  pub can_hear : (P : Plan) (J : List Entry) (log : List LogEntry) (C : CrewState) → sim_count P ≡ length S.sims → IsRunning started S replies reply P J log C → SomeOpen P J → (C.kept ≡ [] → ⊥) ⊎ ((i : ℕ) × (l : LinkNo) × (sim_link started S i ≡ Some l))
  can_hear P J log C sims run (i, (low, opened)) = go (is_within S i) refl
    where
      there : (o : Option OpenTurn) → (o ≡ None → ⊥) → is_some o ≡ true
      there None h = absurd (h refl)
      there (Some T) h = refl

      not_nil : {X : Type 0} {x : X} → x ∷ [] ≡ [] → ⊥
      not_nil e = cc

      go : (b : Bool) → is_within S i ≡ b → (C.kept ≡ [] → ⊥) ⊎ ((i : ℕ) × (l : LinkNo) × (sim_link started S i ≡ Some l))
      go true inside = inl (λ none. not_nil (sym (sym (ap (kept_of i) none) ∙ run.kept i ∙ ap (λ (b : Bool). if b && is_some ((view P J).open_at i) then reply i (map bare (sent J i)) ∷ [] else []) inside
          ∙ ap (λ (b : Bool). if b then reply i (map bare (sent J i)) ∷ [] else []) (there ((view P J).open_at i) opened))))
      go false outside = let t = link_there started S i (subst (λ (n : ℕ). i < n) sims low) outside in inr (i, t.0, t.1)
