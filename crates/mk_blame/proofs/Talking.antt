-- The talk of a simulator in a finished journal is its talk in sequential execution.
use Rattle.std.proofs.Common.{◌≡◌, ℕ, ◌<◌, Bool, true, false, cond, List, [], ◌∷◌, ◌++◌, map, filter, fold, Option, Some, None, ◌⊎◌, inl, inr, refl, sym, ap, ◌∙◌, subst, ◌==◌, if◌then◌else◌, pos, append_assoc, option_map}
use Rattle.std.specs.List.{cons_option}
use Rattle.mk_base.specs.declared.SimNo.{SimNo}
use Rattle.mk_base.specs.declared.tier.Tier.{Tier}
use Rattle.mk_base.specs.Lists.{BeginsWith}
use Rattle.mk_base.proofs.Lists.{append_nil, map_append, filter_append, flat_map_append, filter_map_append}
use Rattle.mk_plan.specs.declared.Plan.{Plan}
use Rattle.mk_plan.specs.declared.Item.{Item}
use Rattle.mk_plan.specs.declared.Item.TheVariants.{Step, GetData, Answer, Refuse}
use Rattle.mk_plan.specs.declared.Message.{Message}
use Rattle.mk_plan.specs.declared.Entry.{Entry}
use Rattle.mk_plan.specs.declared.Entry.TheVariants.{Sent, Got}
use Rattle.mk_plan.specs.declared.Place.{Place}
use Rattle.mk_plan.specs.declared.Cause.{Cause}
use Rattle.mk_plan.specs.Plans.{sim_count, IsValidPlan}
use Rattle.mk_plan.specs.Turns.{wrong, is_wrong, next_place}
use Rattle.mk_plan.specs.Readings.{then_on}
use Rattle.mk_plan.specs.Acts.{Said, Told, Heard, Act}
use Rattle.mk_plan.specs.Deliveries.{Supply, supply}
use Rattle.mk_plan.specs.Sequential.{Messages, sequential, run_talk, grown, messages_in, talk_of, items, told as told_item, turn_talk, used, response, opening, rest}
use Rattle.mk_plan.specs.Journals.{OpenTurn, Owed, View, view, empty_view, with_open, talk_at, place_at, open_after, note_sent, told_more, ended_turn, note_right, note_got, note, said as said_so_far, sent, got, bare}
use Rattle.mk_plan.specs.Ready.{IsReady}
use Rattle.mk_plan.specs.Advance.{IsAdvance}
use Rattle.mk_plan.specs.Report.{is_step}
use Rattle.mk_plan.specs.Orderly.{IsNext, IsAllowed, IsOrderlyFrom, IsOrderlySoFar, IsOrderly}
use Rattle.mk_plan.specs.Agreement.{IsFinished}
use Rattle.mk_order.proofs.Seen.{IsSound, at_self, open_after_is, follows, seen, reached}
use Rattle.mk_order.proofs.Told.{said_is, said_seen, bare_itself}
use Rattle.mk_order_any.specs.Parts as theory
use Rattle.mk_order_any.proofs.Talks.{agrees}
use Rattle.mk_order.proofs.Theory.{parts, laws}
use Rattle.mk_order.proofs.Agreeing.{goes_on}
use Rattle.mk_order.proofs.SequentialLaws.{act_is}
use Rattle.mk_blame.specs.Talks.{said, is_with, talk, message_in, messages, step_after}
use Rattle.mk_blame.specs.inner.Parted.{BeginsWithStep}
use Rattle.mk_base.proofs.Counts.{same_or_not, not_same, same_self}
use Rattle.mk_base.proofs.Items.{nothing_behind}

-- ---- one entry

talk_here : (s : SimNo) (item : Item) → talk (Sent s item ∷ []) s.0 ≡ Told (bare item) ∷ []
talk_here s item = ap (λ (b : Bool). map said (cond b (Sent s item ∷ []) [])) (same_self s.0)

talk_away : (s : SimNo) (item : Item) (i : ℕ) → (i ≡ s.0 → ⊥) → talk (Sent s item ∷ []) i ≡ []
talk_away s item i n = ap (λ (b : Bool). map said (cond b (Sent s item ∷ []) [])) (not_same s.0 i (λ e. n (sym e)))

heard_here : (s : SimNo) (m : Message) → talk (Got s m ∷ []) s.0 ≡ Heard m ∷ []
heard_here s m = ap (λ (b : Bool). map said (cond b (Got s m ∷ []) [])) (same_self s.0)

heard_away : (s : SimNo) (m : Message) (i : ℕ) → (i ≡ s.0 → ⊥) → talk (Got s m ∷ []) i ≡ []
heard_away s m i n = ap (λ (b : Bool). map said (cond b (Got s m ∷ []) [])) (not_same s.0 i (λ e. n (sym e)))

pub talk_append : (J K : List Entry) (i : ℕ) → talk (J ++ K) i ≡ talk J i ++ talk K i
talk_append J K i = ap (map said) (filter_append (is_with i) J K) ∙ map_append said (filter (is_with i) J) (filter (is_with i) K)

module _ (P : Plan) (V : View) where
  open_away : (s : ℕ) (o : Option OpenTurn) (i : ℕ) → (i ≡ s → ⊥) → with_open V s o i ≡ V.open_at i
  open_away s o i n = ap (λ (b : Bool). if b then o else V.open_at i) (not_same i s n)

  acts_here : (i : ℕ) (a : Act) → grown V.acts i a i ≡ V.acts i ++ a ∷ []
  acts_here i a = ap (λ (b : Bool). if b then V.acts i ++ a ∷ [] else V.acts i) (same_self i)

  acts_away : (s : ℕ) (a : Act) (i : ℕ) → (i ≡ s → ⊥) → grown V.acts s a i ≡ V.acts i
  acts_away s a i n = ap (λ (b : Bool). if b then V.acts i ++ a ∷ [] else V.acts i) (not_same i s n)

  -- all that was said has grown by what the entry says; or it makes a fault, and nothing more comes
  SaidAfter : View → Entry → ℕ → Type 0
  SaidAfter W e i = (said_so_far W i ≡ said_so_far V i ++ talk (e ∷ []) i) ⊎ ((W.fault ≡ None → ⊥) × (said_so_far W i ≡ said_so_far V i))

  said_more : (s : SimNo) (item : Item) → talk_at (open_after P V s.0 item) ≡ talk_at (V.open_at s.0) ++ Told (bare item) ∷ [] → (i : ℕ) → SaidAfter (note_sent P V s.0 item) (Sent s item) i
  unfolding SaidAfter
  said_more s item more i = inl (elim (same_or_not i s.0) [
    | inl e ↦ subst (λ (j : ℕ). talk_of (V.acts j) ++ talk_at (with_open V s.0 (open_after P V s.0 item) j) ≡ said_so_far V j ++ talk (Sent s item ∷ []) j) (sym e)
        (ap (λ (o : Option OpenTurn). talk_of (V.acts s.0) ++ talk_at o) (at_self P V s.0 (open_after P V s.0 item))
        ∙ ap (λ (l : List Said). talk_of (V.acts s.0) ++ l) more
        ∙ sym (append_assoc (talk_of (V.acts s.0)) (talk_at (V.open_at s.0)) (Told (bare item) ∷ []))
        ∙ ap (λ (l : List Said). said_so_far V s.0 ++ l) (sym (talk_here s item)))
    | inr n ↦ ap (λ (o : Option OpenTurn). talk_of (V.acts i) ++ talk_at o) (open_away s.0 (open_after P V s.0 item) i n)
        ∙ sym (append_nil (said_so_far V i)) ∙ ap (λ (l : List Said). said_so_far V i ++ l) (sym (talk_away s item i n))
  ])

  said_right : (s : SimNo) (m : Message) (T : OpenTurn) (q : Option Place) → V.open_at s.0 ≡ Some T → (j : ℕ) → said_so_far (note_right P V s.0 m T q) j ≡ said_so_far V j ++ talk (Got s m ∷ []) j
  said_right s m T (Some q) is j = elim (same_or_not j s.0) [
    | inl e ↦ subst (λ (k : ℕ). said_so_far (note_right P V s.0 m T (Some q)) k ≡ said_so_far V k ++ talk (Got s m ∷ []) k) (sym e)
        (ap (λ (o : Option OpenTurn). talk_of (V.acts s.0) ++ talk_at o) (at_self P V s.0 (Some (record { at = T.at; messages = T.messages ++ m ∷ []; place = q; talk = T.talk ++ Heard m ∷ [] })))
        ∙ sym (append_assoc (talk_of (V.acts s.0)) T.talk (Heard m ∷ []))
        ∙ ap (λ (o : Option OpenTurn). (talk_of (V.acts s.0) ++ talk_at o) ++ Heard m ∷ []) (sym is)
        ∙ ap (λ (l : List Said). said_so_far V s.0 ++ l) (sym (heard_here s m)))
    | inr n ↦ ap (λ (o : Option OpenTurn). talk_of (V.acts j) ++ talk_at o) (open_away s.0 _ j n) ∙ sym (append_nil (said_so_far V j)) ∙ ap (λ (l : List Said). said_so_far V j ++ l) (sym (heard_away s m j n))
  ]
  said_right s m T None is j = elim (same_or_not j s.0) [
    | inl e ↦ subst (λ (k : ℕ). said_so_far (note_right P V s.0 m T None) k ≡ said_so_far V k ++ talk (Got s m ∷ []) k) (sym e)
        (ap (λ (o : Option OpenTurn). talk_of (grown V.acts s.0 (ended_turn T m) s.0) ++ talk_at o) (at_self P V s.0 None)
        ∙ ap (λ (l : List Act). talk_of l ++ []) (acts_here s.0 (ended_turn T m))
        ∙ append_nil (talk_of (V.acts s.0 ++ ended_turn T m ∷ [])) ∙ flat_map_append (λ (a : Act). a.talk) (V.acts s.0) (ended_turn T m ∷ []) ∙ ap (λ (l : List Said). talk_of (V.acts s.0) ++ l) (append_nil (T.talk ++ Heard m ∷ []))
        ∙ sym (append_assoc (talk_of (V.acts s.0)) T.talk (Heard m ∷ []))
        ∙ ap (λ (o : Option OpenTurn). (talk_of (V.acts s.0) ++ talk_at o) ++ Heard m ∷ []) (sym is)
        ∙ ap (λ (l : List Said). said_so_far V s.0 ++ l) (sym (heard_here s m)))
    | inr n ↦ ap (λ (o : Option OpenTurn). talk_of (grown V.acts s.0 (ended_turn T m) j) ++ talk_at o) (open_away s.0 None j n) ∙ ap (λ (l : List Act). talk_of l ++ talk_at (V.open_at j)) (acts_away s.0 (ended_turn T m) j n)
        ∙ sym (append_nil (said_so_far V j)) ∙ ap (λ (l : List Said). said_so_far V j ++ l) (sym (heard_away s m j n))
  ]

  some_none : {X : Type 0} (x : X) → Some x ≡ None → ⊥
  some_none x e = cc

  said_got : (s : SimNo) (m : Message) (o : Option OpenTurn) (c : Option Cause) → V.open_at s.0 ≡ o → wrong P s.0 (place_at o) m ≡ c → (j : ℕ) → SaidAfter (note_got P V s.0 m o c) (Got s m) j
  unfolding SaidAfter
  said_got s m o (Some c) is w j = inr (some_none _, refl)
  said_got s m None None is w j = absurd (some_none _ w)
  said_got s m (Some T) None is w j = inl (said_right s m T (next_place P s.0 T.place m) is j)

  said_after : (e : Entry) → IsSound V → IsAllowed IsReady IsAdvance P V e → (i : ℕ) → SaidAfter (note P V e) e i
  said_after e sound allowed = by_owed V.owed refl allowed.1
    where
      alone : (e : Entry) → IsNext IsReady IsAdvance P V None e → (i : ℕ) → SaidAfter (note P V e) e i
      alone (Got s m) next = said_got s m (V.open_at s.0) (wrong P s.0 (place_at (V.open_at s.0)) m) refl refl
      alone (Sent s (Step x ins advance)) next = said_more s (Step x ins advance) (ap (λ (o : Option OpenTurn). talk_at o ++ Told (Step x ins (pos 0)) ∷ []) (sym next.0.0.closed))
      alone (Sent s (GetData wants)) next = absurd next
      alone (Sent s (Answer id content)) next = absurd next
      alone (Sent s (Refuse id reason)) next = absurd next

      goes : (o : Owed) (T : OpenTurn) → V.open_at o.sim ≡ Some T → is_step o.item ≡ false → (i : ℕ) → SaidAfter (note_sent P V o.sim o.item) (Sent (record { 0 = o.sim }) o.item) i
      goes o T is late = said_more (record { 0 = o.sim }) o.item (ap talk_at (open_after_is P V o.sim o.item late ∙ ap (option_map (told_more o.item)) is)
          ∙ ap (λ (item : Item). T.talk ++ Told item ∷ []) (sym (bare_itself o.item late)) ∙ ap (λ (q : Option OpenTurn). talk_at q ++ Told (bare o.item) ∷ []) (sym is))

      by_owed : (o : Option Owed) → V.owed ≡ o → IsNext IsReady IsAdvance P V o e → (i : ℕ) → SaidAfter (note P V e) e i
      by_owed None owes next = alone e next
      by_owed (Some o) owes next = let t = sound.turn o owes in subst (λ (f : Entry). (i : ℕ) → SaidAfter (note P V f) f i) (sym next) (goes o t.0 t.1 (sound.later o owes))

-- ---- journals

module _ (P : Plan) where
  fault_last : (V : View) (es : List Entry) → (V.fault ≡ None → ⊥) → IsOrderlyFrom IsReady IsAdvance P V es → es ≡ []
  fault_last V [] faulty orderly = refl
  fault_last V (e ∷ es) faulty orderly = absurd (faulty orderly.0.0)

  -- what a journal says begins with all that was said in its view
  talk_from : (V : View) (J : List Entry) → IsSound V → IsOrderlyFrom IsReady IsAdvance P V J → (i : ℕ) → BeginsWith (said_so_far V i ++ talk J i) (said_so_far (fold (note P) V J) i)
  unfolding SaidAfter
  talk_from V [] sound orderly i = ([], refl)
  talk_from V (e ∷ es) sound orderly i = elim (said_after P V e sound orderly.0 i) [
    | inl same ↦ let t = talk_from (note P V e) es (follows IsReady IsAdvance P (λ V s x r. r) V e sound orderly.0).1 orderly.1 i in
        (t.0, ap (λ (l : List Said). said_so_far V i ++ l) (talk_append (e ∷ []) es i) ∙ sym (append_assoc (said_so_far V i) (talk (e ∷ []) i) (talk es i)) ∙ ap (λ (l : List Said). l ++ talk es i) (sym same) ∙ t.1)
    | inr lost ↦ let last : es ≡ [] = fault_last (note P V e) es lost.0 orderly.1 in
        subst (λ (fs : List Entry). BeginsWith (said_so_far V i ++ talk (e ∷ fs) i) (said_so_far (fold (note P) (note P V e) fs) i)) (sym last) (talk (e ∷ []) i, ap (λ (l : List Said). l ++ talk (e ∷ []) i) (sym lost.1))
  ]

  empty_sound : IsSound empty_view
  empty_sound = record { turn = λ o e. cc; later = λ o e. cc }

  talk_begins : (J : List Entry) → IsOrderlySoFar IsReady IsAdvance P J → (i : ℕ) → BeginsWith (talk J i) (said_so_far (view P J) i)
  talk_begins J orderly i = talk_from empty_view J empty_sound orderly i

-- ---- what a journal's talk has

items_of_talk : (J : List Entry) (i : ℕ) → items (talk J i) ≡ map bare (sent J i)
items_of_talk [] i = refl
items_of_talk (Sent s item ∷ J) i = elim (s.0 == i) as (λ b. items (map said (cond b (Sent s item ∷ filter (is_with i) J) (filter (is_with i) J))) ≡ map bare (cons_option (if b then Some item else None) (sent J i))) [
  | true ↦ ap (λ (l : List Item). bare item ∷ l) (items_of_talk J i)
  | false ↦ items_of_talk J i
]
items_of_talk (Got s m ∷ J) i = elim (s.0 == i) as (λ b. items (map said (cond b (Got s m ∷ filter (is_with i) J) (filter (is_with i) J))) ≡ map bare (sent J i)) [ true ↦ items_of_talk J i | false ↦ items_of_talk J i ]

pub messages_of_talk : (J : List Entry) (i : ℕ) → messages (talk J i) ≡ got J i
messages_of_talk [] i = refl
messages_of_talk (Sent s item ∷ J) i = elim (s.0 == i) as (λ b. messages (map said (cond b (Sent s item ∷ filter (is_with i) J) (filter (is_with i) J))) ≡ got J i) [ true ↦ messages_of_talk J i | false ↦ messages_of_talk J i ]
messages_of_talk (Got s m ∷ J) i = elim (s.0 == i) as (λ b. messages (map said (cond b (Got s m ∷ filter (is_with i) J) (filter (is_with i) J))) ≡ cons_option (if b then Some m else None) (got J i)) [
  | true ↦ ap (λ (l : List Message). m ∷ l) (messages_of_talk J i)
  | false ↦ messages_of_talk J i
]

cancelled : (w xs ys : List Message) → w ++ xs ≡ w ++ ys → xs ≡ ys
cancelled [] xs ys e = e
cancelled (z ∷ w) xs ys e = cancelled w xs ys cc

-- what has no item is its messages
only_messages : (d : List Said) → items d ≡ [] → d ≡ map Heard (messages d)
only_messages [] e = refl
only_messages (Told item ∷ d) e = absurd (some_item item (items d) e)
  where
    some_item : (item : Item) (l : List Item) → item ∷ l ≡ [] → ⊥
    some_item item l e = cc
only_messages (Heard m ∷ d) e = ap (λ (l : List Said). Heard m ∷ l) (only_messages d e)

-- ---- sequential execution

module _ (P : Plan) (S : Supply) (s : ℕ) (x : Tier) where
  -- the messages that are used from the place on that is there
  abbrev goes_with : List Message → Option Place → List Message
  goes_with ms q = then_on Message Place (is_wrong P s) (next_place P s) q [] (λ (p : Place). used P s p ms)

  messages_read : (ms : List Message) (o : Place) → messages (turn_talk P S s x o (used P s o ms)) ≡ used P s o ms
  messages_read [] o = refl
  messages_read (m ∷ ms) o = elim (is_wrong P s o m) as (λ b. messages (turn_talk P S s x o (cond b [] (m ∷ goes_with ms (next_place P s o m)))) ≡ cond b [] (m ∷ goes_with ms (next_place P s o m))) [
    | true ↦ refl
    | false ↦ elim (next_place P s o m) as (λ q. messages (Heard m ∷ then_on Message Place (is_wrong P s) (next_place P s) q [] (λ (p : Place). Told (response P S s x o m) ∷ turn_talk P S s x p (goes_with ms q))) ≡ m ∷ goes_with ms q) [
      | None ↦ refl
      | Some p ↦ ap (λ (l : List Message). m ∷ l) (messages_read ms p)
    ]
  ]

module _ (P : Plan) (valid : IsValidPlan P) (R : Messages) (i : ℕ) where
  messages_in_act : (before : List Act) (u : Act) (after : List Act) → sequential P R i ≡ before ++ u ∷ after → messages u.talk ≡ u.messages
  messages_in_act before u after is =
      let made = (act_is P valid R i before u after is).1 in
      subst (λ (a : Act). messages a.talk ≡ a.messages) (sym made) (messages_read P (supply P (sequential P R)) i u.at (rest before (R i)) (opening P i u.at before))

  messages_in_acts : (back front : List Act) → sequential P R i ≡ front ++ back → messages (talk_of back) ≡ messages_in back
  messages_in_acts [] front is = refl
  messages_in_acts (u ∷ back) front is =
      filter_map_append message_in u.talk (talk_of back)
      ∙ ap (λ (l : List Message). l ++ messages (talk_of back)) (messages_in_act front u back is)
      ∙ ap (λ (l : List Message). u.messages ++ l) (messages_in_acts back (front ++ u ∷ []) (is ∙ sym (append_assoc front (u ∷ []) back)))

  -- the messages of a talk are those that are used
  messages_said : messages (run_talk P R i) ≡ messages_in (sequential P R i)
  messages_said = messages_in_acts (sequential P R i) [] refl

  first_is_step : (acts : List Act) → sequential P R i ≡ acts → BeginsWithStep (talk_of acts)
  first_is_step [] is x more e = absurd (none_there x more e)
    where
      none_there : (x : Said) (more : List Said) → [] ≡ x ∷ more → ⊥
      none_there x more e = cc
  first_is_step (u ∷ acts) is x more e =
      let made = (act_is P valid R i [] u acts is).1 in
      let at = u.at in
      (at, ap (step_after None) (sym (one _ _ _ _ (sym (ap (λ (a : Act). a.talk ++ talk_of acts) made) ∙ e))))
    where
      one : (y x : Said) (ys xs : List Said) → y ∷ ys ≡ x ∷ xs → y ≡ x
      one y x ys xs e = cc

-- ---- finished journals

module _ (P : Plan) (valid : IsValidPlan P) (J : List Entry) (orderly : IsOrderly P J) (finished : IsFinished P J) (i : ℕ) (low : i < sim_count P) where
  in_run : BeginsWith (run_talk P (got J) i) (said_so_far (view P J) i)
  unfolding theory.seq
  in_run =
      let t = agrees (parts P) (laws P valid) (seen P (view P J)) (reached IsReady IsAdvance P (λ V s x r. r) J orderly.0) (got J) (goes_on IsReady IsAdvance P (λ V s x r. r) valid J orderly.0 (got J) (λ j k. ([], sym (append_nil (got J j))))) i in
      (t.0, t.1 ∙ ap (λ (l : List Said). l ++ t.0) (said_seen P (view P J) i))

  pub talk_is : talk J i ≡ run_talk P (got J) i
  talk_is =
      let begins = talk_begins P J orderly.0 i in
      let d = begins.0 in
      let t = in_run.0 in
      let S = said_so_far (view P J) i in
      let told : items S ≡ map bare (sent J i) = said_is IsReady IsAdvance P (λ V s x r. r) J orderly.0 i in
      let none_d : items d ≡ [] = nothing_behind (items S) (items d) (told ∙ sym (items_of_talk J i) ∙ ap items begins.1 ∙ filter_map_append told_item S d) in
      let none_t : items t ≡ [] = nothing_behind (items S) (items t) (told ∙ (finished i low).sent ∙ ap items in_run.1 ∙ filter_map_append told_item S t) in
      let same : messages d ≡ messages t = cancelled (messages S) (messages d) (messages t)
      (sym (filter_map_append message_in S d) ∙ sym (ap messages begins.1) ∙ messages_of_talk J i ∙ sym (finished i low).used ∙ sym (messages_said P valid (got J) i) ∙ ap messages in_run.1 ∙ filter_map_append message_in S t) in
      begins.1 ∙ ap (λ (l : List Said). S ++ l) (only_messages d none_d ∙ ap (map Heard) same ∙ sym (only_messages t none_t)) ∙ sym in_run.1

  pub begun : BeginsWithStep (talk J i)
  begun = subst BeginsWithStep (sym talk_is) (first_is_step P valid (got J) i (sequential P (got J) i) refl)
