-- Crew and journal go on together: what each call of a run's loop keeps.
use Rattle.std.proofs.Common.{◌≡◌, ℕ, ◌+◌, ◌==◌, Bool, true, false, not, ◌&&◌, List, [], ◌∷◌, ◌++◌, length, take, map, filter, Option, Some, None, is_some, option_map, option_and_then, unwrap_or, slice_get, refl, sym, ap, ◌∙◌, subst, ◌⊎◌, inl, inr, arith, append_assoc, length-append, true≢false, if◌then◌else◌, ℤ, cond}
use Rattle.std.specs.List.{cons_option}
use Rattle.mk_base.specs.declared.LinkNo.{LinkNo}
use Rattle.mk_base.specs.declared.SimNo.{SimNo}
use Rattle.mk_base.specs.declared.tier.Tier.{Tier}
use Rattle.mk_base.proofs.Lists.{append_nil, none_some, some_same, filter_append, filter_map_append}
use Rattle.mk_plan.specs.declared.Plan.{Plan}
use Rattle.mk_plan.specs.declared.Item.{Item}
use Rattle.mk_plan.specs.declared.Input.{Input}
use Rattle.mk_plan.specs.declared.Item.TheVariants.{Step, GetData, Answer, Refuse}
use Rattle.mk_plan.specs.declared.Message.{Message}
use Rattle.mk_plan.specs.declared.Entry.{Entry}
use Rattle.mk_plan.specs.declared.Entry.TheVariants.{Sent, Got}
use Rattle.mk_plan.specs.declared.Place.{Place}
use Rattle.mk_plan.specs.declared.Cause.{Cause}
use Rattle.mk_plan.specs.Turns.{wrong, next_place}
use Rattle.mk_plan.specs.Journals.{View, OpenTurn, Owed, Arrival, view, sent, got, bare, with_open, place_at, note_got, note_right, open_after}
use Rattle.mk_plan.specs.Sequential.{Messages, takes_id, id_after}
use Rattle.mk_plan.proofs.OpenTurns.{stays_open}
use Rattle.mk_message.specs.Written.{item_text}
use Rattle.mk_scenario.specs.declared.parts.SimPart.{SimPart}
use Rattle.mk_scenario.specs.declared.parts.Scenario.{Scenario}
use Rattle.mk_outside.specs.declared.fleet.LogEntry.{LogEntry}
use Rattle.mk_outside.specs.declared.fleet.LogEntry.TheVariants.{Rest}
use Rattle.mk_order.proofs.Pushing.{view_push, got_push}
use Rattle.mk_run_laws.specs.Handshake.{is_local, has_link, is_within, sim_link, setup_count, setup_payloads}
use Rattle.mk_run_laws.specs.Payloads.{item_payloads}
use Rattle.mk_run_laws.specs.Channels.{Channel, IsChannelAt, queued}
use Rattle.mk_run_laws.specs.Kinds.{Replies, IsKindReply, KeepsToKinds}
use Rattle.mk_run_laws.specs.Crews.{CrewState, channel_at, kept_from, kept_of, given_by, AreMoved, AreParkedAtRests, IsHeard, IsSentOnLink, IsSentWithin}
use Rattle.mk_run_laws.specs.Running.{IsInStep, IsRestOf, BeginsOnLink, RestsEnd, IsBegun}
use Rattle.mk_run_laws.specs.inner.Running.{HasChannel, awaited, RestsOver, IsRunningWith, IsRunning, IsUnready}
use Rattle.mk_run_laws.proofs.Moving.{channel_moved, channel_queued, moved_there, moved_none}
use Rattle.mk_base.proofs.Counts.{not_same, same_or_not, same_self}
use Rattle.mk_base.proofs.Items.{not_empty, same_heads}
use Rattle.mk_plan.proofs.Sending.{sent_push}

-- ---- numbers that are equal or not

-- ---- entries that are pushed

pub got_sent : (J : List Entry) (s : SimNo) (item : Item) (i : ℕ) → got (J ++ Sent s item ∷ []) i ≡ got J i
got_sent J s item i = got_push J (Sent s item) i ∙ append_nil (got J i)

pub got_here : (J : List Entry) (s : SimNo) (m : Message) → got (J ++ Got s m ∷ []) s.0 ≡ got J s.0 ++ m ∷ []
got_here J s m = got_push J (Got s m) s.0 ∙ ap (λ (b : Bool). got J s.0 ++ cons_option (if b then Some m else None) []) (same_self s.0)

pub got_away : (J : List Entry) (s : SimNo) (m : Message) (i : ℕ) → (i ≡ s.0 → ⊥) → got (J ++ Got s m ∷ []) i ≡ got J i
got_away J s m i n = got_push J (Got s m) i ∙ ap (λ (b : Bool). got J i ++ cons_option (if b then Some m else None) []) (not_same s.0 i (λ e. n (sym e))) ∙ append_nil (got J i)

pub got_given : (J : List Entry) (s : SimNo) (m : Message) (i : ℕ) → got (J ++ Got s m ∷ []) i ≡ got J i ++ given_by s.0 m i
got_given J s m i = got_push J (Got s m) i ∙ elim (s.0 == i) as (λ b. got J i ++ cons_option (if b then Some m else None) [] ≡ got J i ++ (if b then m ∷ [] else [])) [ true ↦ refl | false ↦ refl ]

pub sent_got : (J : List Entry) (s : SimNo) (m : Message) (i : ℕ) → sent (J ++ Got s m ∷ []) i ≡ sent J i
sent_got J s m i = sent_push J (Got s m) i ∙ append_nil (sent J i)

pub sent_here : (J : List Entry) (s : SimNo) (item : Item) → sent (J ++ Sent s item ∷ []) s.0 ≡ sent J s.0 ++ item ∷ []
sent_here J s item = sent_push J (Sent s item) s.0 ∙ ap (λ (b : Bool). sent J s.0 ++ cons_option (if b then Some item else None) []) (same_self s.0)

pub sent_away : (J : List Entry) (s : SimNo) (item : Item) (i : ℕ) → (i ≡ s.0 → ⊥) → sent (J ++ Sent s item ∷ []) i ≡ sent J i
sent_away J s item i n = sent_push J (Sent s item) i ∙ ap (λ (b : Bool). sent J i ++ cons_option (if b then Some item else None) []) (not_same s.0 i (λ e. n (sym e))) ∙ append_nil (sent J i)

-- what is open at the others stays
pub open_away : (P : Plan) (V : View) (s : ℕ) (o : Option OpenTurn) (i : ℕ) → (i ≡ s → ⊥) → with_open V s o i ≡ V.open_at i
open_away P V s o i n = ap (λ (b : Bool). if b then o else V.open_at i) (not_same i s n)

open_here : (P : Plan) (V : View) (s : ℕ) (o : Option OpenTurn) → with_open V s o s ≡ o
open_here P V s o = ap (λ (b : Bool). if b then o else V.open_at s) (same_self s)

pub open_sent : (P : Plan) (J : List Entry) (s : SimNo) (item : Item) (i : ℕ) → (i ≡ s.0 → ⊥) → (view P (J ++ Sent s item ∷ [])).open_at i ≡ (view P J).open_at i
open_sent P J s item i n = ap (λ (V : View). V.open_at i) (view_push P J (Sent s item)) ∙ open_away P (view P J) s.0 (open_after P (view P J) s.0 item) i n

pub open_got : (P : Plan) (J : List Entry) (s : SimNo) (m : Message) (i : ℕ) → (i ≡ s.0 → ⊥) → (view P (J ++ Got s m ∷ [])).open_at i ≡ (view P J).open_at i
open_got P J s m i n = ap (λ (V : View). V.open_at i) (view_push P J (Got s m)) ∙ by_open ((view P J).open_at s.0) (wrong P s.0 (place_at ((view P J).open_at s.0)) m)
  where
    by_place : (T : OpenTurn) (q : Option Place) → (note_right P (view P J) s.0 m T q).open_at i ≡ (view P J).open_at i
    by_place T None = open_away P (view P J) s.0 None i n
    by_place T (Some q) = open_away P (view P J) s.0 _ i n

    by_open : (o : Option OpenTurn) (c : Option Cause) → (note_got P (view P J) s.0 m o c).open_at i ≡ (view P J).open_at i
    by_open o (Some c) = refl
    by_open None None = refl
    by_open (Some T) None = by_place T (next_place P s.0 T.place m)

-- a Step opens a turn, and an item leaves it open
pub step_opens : (P : Plan) (J : List Entry) (s : SimNo) (x : Tier) (ins : List Input) (advance : ℤ) → is_some ((view P (J ++ Sent s (Step x ins advance) ∷ [])).open_at s.0) ≡ true
step_opens P J s x ins advance = ap (λ (V : View). is_some (V.open_at s.0)) (view_push P J (Sent s (Step x ins advance))) ∙ ap (λ (o : Option OpenTurn). is_some o) (open_here P (view P J) s.0 (open_after P (view P J) s.0 (Step x ins advance)))

pub item_leaves_open : (P : Plan) (J : List Entry) (s : SimNo) (item : Item) → is_some ((view P J).open_at s.0) ≡ true → is_some ((view P (J ++ Sent s item ∷ [])).open_at s.0) ≡ true
item_leaves_open P J s item h = ap (λ (V : View). is_some (V.open_at s.0)) (view_push P J (Sent s item)) ∙ ap (λ (o : Option OpenTurn). is_some o) (open_here P (view P J) s.0 (open_after P (view P J) s.0 item))
    ∙ stays_open P (view P J) s.0 item h

-- after a right message the turn is open where something is owed, and closed where nothing is
pub after_message : (P : Plan) (J : List Entry) (s : SimNo) (m : Message) → (view P J).owed ≡ None → (view P (J ++ Got s m ∷ [])).fault ≡ None
    → ((view P (J ++ Got s m ∷ [])).owed ≡ None → is_some ((view P (J ++ Got s m ∷ [])).open_at s.0) ≡ false) × ((o : Owed) → (view P (J ++ Got s m ∷ [])).owed ≡ Some o → is_some ((view P (J ++ Got s m ∷ [])).open_at s.0) ≡ true)
after_message P J s m owes fine = let e = view_push P J (Got s m) in
    let t = by_open ((view P J).open_at s.0) (wrong P s.0 (place_at ((view P J).open_at s.0)) m) refl (ap (λ (V : View). V.fault) (sym e) ∙ fine) in
    ((λ none. ap (λ (V : View). is_some (V.open_at s.0)) e ∙ t.0 (ap (λ (V : View). V.owed) (sym e) ∙ none)), (λ o some. ap (λ (V : View). is_some (V.open_at s.0)) e ∙ t.1 o (ap (λ (V : View). V.owed) (sym e) ∙ some)))
  where
    V : View
    V = view P J

    by_place : (T : OpenTurn) (q : Option Place) → ((note_right P V s.0 m T q).owed ≡ None → is_some ((note_right P V s.0 m T q).open_at s.0) ≡ false)
        × ((o : Owed) → (note_right P V s.0 m T q).owed ≡ Some o → is_some ((note_right P V s.0 m T q).open_at s.0) ≡ true)
    by_place T None = ((λ none. ap (λ (o : Option OpenTurn). is_some o) (open_here P V s.0 None)), (λ o some. absurd (none_some (sym owes ∙ some))))
    by_place T (Some q) = ((λ none. absurd (none_some (sym none))), (λ o some. ap (λ (o : Option OpenTurn). is_some o) (open_here P V s.0 _)))

    by_open : (o : Option OpenTurn) (c : Option Cause) → V.open_at s.0 ≡ o → (note_got P V s.0 m o c).fault ≡ None → ((note_got P V s.0 m o c).owed ≡ None → is_some ((note_got P V s.0 m o c).open_at s.0) ≡ false)
        × ((p : Owed) → (note_got P V s.0 m o c).owed ≡ Some p → is_some ((note_got P V s.0 m o c).open_at s.0) ≡ true)
    by_open o (Some c) is fault = absurd (none_some (sym fault))
    by_open None None is fault = ((λ none. ap (λ (o : Option OpenTurn). is_some o) is), (λ o some. absurd (none_some (sym owes ∙ some))))
    by_open (Some T) None is fault = by_place T (next_place P s.0 T.place m)

-- ---- ids

-- items one after another
pub items_push : (id : ℕ) (items : List Item) (item : Item) → item_payloads id (items ++ item ∷ []) ≡ item_payloads id items ++ item_text (id_after id items) item ∷ []
items_push id [] item = ap (λ (n : ℕ). item_text n item ∷ []) (let e : id ≡ id + 0 = omega arith in e)
items_push id (i ∷ items) item = ap (λ (l : List (List ℕ)). item_text id i ∷ l) (items_push (id_after id (i ∷ [])) items item
    ∙ ap (λ (n : ℕ). item_payloads (id_after id (i ∷ [])) items ++ item_text n item ∷ []) (ids_join id i items))
  where
    ids_join : (id : ℕ) (i : Item) (items : List Item) → id_after (id_after id (i ∷ [])) items ≡ id_after id (i ∷ items)
    ids_join id i items = elim (takes_id i) as (λ b. (id + length (cond b (i ∷ []) [])) + length (filter takes_id items) ≡ id + length (cond b (i ∷ filter takes_id items) (filter takes_id items))) [
      | true ↦ omega arith
      | false ↦ omega arith
    ]

pub ids_push : (id : ℕ) (items : List Item) (item : Item) → id_after (id_after id items) (item ∷ []) ≡ id_after id (items ++ item ∷ [])
ids_push id items item = let e : length (filter takes_id (items ++ item ∷ [])) ≡ length (filter takes_id items) + length (filter takes_id (item ∷ [])) =
    ap length (filter_append takes_id items (item ∷ [])) ∙ length-append (filter takes_id items) (filter takes_id (item ∷ [])) in omega (arith, e)

-- an item that takes no id has one text
pub text_same : (item : Item) (id other : ℕ) → (takes_id item ≡ true → id ≡ other) → item_text id item ≡ item_text other item
text_same (Step x ins advance) id other h = ap (λ (n : ℕ). item_text n (Step x ins advance)) (h refl)
text_same (GetData wants) id other h = ap (λ (n : ℕ). item_text n (GetData wants)) (h refl)
text_same (Answer asked content) id other h = refl
text_same (Refuse asked reason) id other h = refl

-- ---- places in lists

-- an entry of a longer journal is its last, or one of the shorter
last_or_before : (J : List Entry) (e : Entry) (H : List Entry) (d : Entry) (more : List Entry) → J ++ e ∷ [] ≡ H ++ d ∷ more → ((J ≡ H) × (e ≡ d)) ⊎ ((less : List Entry) × (J ≡ H ++ d ∷ less))
last_or_before [] e [] d more q = inl (refl, (same_heads q).0)
last_or_before [] e (h ∷ H) d more q = absurd (not_empty H more d (same_heads q).1)
last_or_before (j ∷ J) e [] d more q = inr (J, ap (λ (x : Entry). x ∷ J) (same_heads q).0)
last_or_before (j ∷ J) e (h ∷ H) d more q = elim (last_or_before J e H d more (same_heads q).1) [
  | inl t ↦ inl ((λ i. (same_heads q).0 i ∷ t.0 i), t.1)
  | inr t ↦ inr (t.0, (λ i. (same_heads q).0 i ∷ t.1 i))
]

-- an entry of two logs is one of the first or one of the second
pub first_or_second : (a b before after : List LogEntry) (r : LogEntry) → a ++ b ≡ before ++ r ∷ after → ((less : List LogEntry) × (a ≡ before ++ r ∷ less)) ⊎ ((less : List LogEntry) × (before ≡ a ++ less) × (b ≡ less ++ r ∷ after))
first_or_second [] b before after r q = inr (before, refl, q)
first_or_second (x ∷ a) b [] after r q = inl (a, ap (λ (y : LogEntry). y ∷ a) (same_heads q).0)
first_or_second (x ∷ a) b (y ∷ before) after r q = elim (first_or_second a b before after r (same_heads q).1) [
  | inl t ↦ inl (t.0, (λ i. (same_heads q).0 i ∷ t.1 i))
  | inr t ↦ inr (t.0, (let e : y ≡ x = sym (same_heads q).0 in λ i. e i ∷ t.1 i), t.2)
]

module _ (started : ℕ) (S : Scenario) where
  -- a simulator with a link isn't within the program
  pub linked_out : (i : ℕ) (l : LinkNo) → sim_link started S i ≡ Some l → is_within S i ≡ false
  linked_out i l e = go (slice_get S.sims i) e
    where
      by_kind : (s : SimPart) (k : LinkNo) (b : Bool) → (if not b then Some k else None) ≡ Some l → b ≡ false
      by_kind s k true e = absurd (none_some e)
      by_kind s k false e = refl

      go : (o : Option SimPart) → option_and_then (λ (s : SimPart). if has_link s then Some (record { 0 = started + length (filter has_link (take i S.sims)) }) else None) o ≡ Some l
          → unwrap_or (option_map (λ (s : SimPart). is_local s.begin) o) false ≡ false
      go None e = refl
      go (Some s) e = by_kind s (record { 0 = started + length (filter has_link (take i S.sims)) }) (is_local s.begin) e

  -- what begins with a link's message does so with one entry more
  pub begins_longer : (more : List Entry) (e : Entry) → BeginsOnLink started S more → BeginsOnLink started S (more ++ e ∷ [])
  begins_longer more e (s, m, later, l, is, linked) = (s, m, later ++ e ∷ [], l, ap (λ (k : List Entry). k ++ e ∷ []) is, linked)

module _ (started : ℕ) (S : Scenario) (replies : Messages) (reply : Replies) (P : Plan) where
  -- ---- the parts

  abbrev rest_longer : (J : List Entry) (e : Entry) (before : List LogEntry) (r : IsRestOf started S replies P J before) → IsRestOf started S replies P (J ++ e ∷ []) before
  rest_longer J e before r = record { at = r.at; more = r.more ++ e ∷ []; parts = ap (λ (l : List Entry). l ++ e ∷ []) r.parts ∙ append_assoc r.at r.more (e ∷ []); nobody = r.nobody; replied = r.replied; channel = r.channel }

  rests_longer : (J : List Entry) (e : Entry) (log : List LogEntry) → RestsOver started S replies P J log → RestsOver started S replies P (J ++ e ∷ []) log
  rests_longer J e log rests before after is up = let t = rests before after is up in (rest_longer J e before t.0, begins_longer started S t.0.more e t.1)

  kinds_sent : (J : List Entry) (s : SimNo) (item : Item) → KeepsToKinds reply (is_within S) P J → KeepsToKinds reply (is_within S) P (J ++ Sent s item ∷ [])
  kinds_sent J s item kinds H t m more is here = elim (last_or_before J (Sent s item) H (Got t m) more is) [
    | inl z ↦ absurd (apart z.1)
    | inr z ↦ kinds H t m z.0 z.1 here
  ]
    where
      apart : Sent s item ≡ Got t m → ⊥
      apart e = cc

  kinds_got : (J : List Entry) (s : SimNo) (m : Message) → (is_within S s.0 ≡ true → IsKindReply reply P J s.0 m) → KeepsToKinds reply (is_within S) P J → KeepsToKinds reply (is_within S) P (J ++ Got s m ∷ [])
  kinds_got J s m one kinds H t n more is here = elim (last_or_before J (Got s m) H (Got t n) more is) [
    | inl z ↦ let e = got_is z.1 in subst (λ (K : List Entry). IsKindReply reply P K t.0 n) z.0 (subst (λ (k : Message). IsKindReply reply P J t.0 k) e.1 (subst (λ (q : SimNo). IsKindReply reply P J q.0 m) e.0 (one (ap (λ (q : SimNo). is_within S q.0) e.0 ∙ here))))
    | inr z ↦ kinds H t n z.0 z.1 here
  ]
    where
      got_is : Got s m ≡ Got t n → (s ≡ t) × (m ≡ n)
      got_is e = (cc, cc)

  -- ---- an item is sent

  -- to a simulator with a link: it is queued on its channel
  pub sent_on_link : (awaits : ℕ → List Message) (J : List Entry) (log : List LogEntry) (C D : CrewState) (s : SimNo) (item : Item) (id : ℕ) (l : LinkNo) → IsRunningWith awaits started S replies reply P J log C
      → sim_link started S s.0 ≡ Some l → IsSentOnLink s.0 item id C D → ((w : Channel) → channel_at C s.0 ≡ Some w → takes_id item ≡ true → id ≡ w.next)
      → IsRunningWith awaits started S replies reply P (J ++ Sent s item ∷ []) log D
  sent_on_link awaits J log C D s item id l run linked sent_so right = record {
    channels = λ i k e. elim (same_or_not i s.0) [
      | inl q ↦ subst (λ (j : ℕ). (k : LinkNo) → sim_link started S j ≡ Some k → HasChannel S replies log j k (got (J ++ Sent s item ∷ []) j) (sent (J ++ Sent s item ∷ []) j) D) (sym q) here k e
      | inr apart ↦ let h = run.channels i k e in record {
        channel = h.channel;
        there = sent_so.others i apart ∙ h.there;
        link = h.link;
        in_step = subst (λ (ms : List Message). IsInStep S replies log i ms (sent (J ++ Sent s item ∷ []) i) h.channel) (sym (got_sent J s item i))
            (subst (λ (l : List Item). IsInStep S replies log i (got J i) l h.channel) (sym (sent_away J s item i apart)) h.in_step);
      }
    ];
    no_channel = λ i h. sent_so.others i (λ q. true≢false (sym h ∙ ap (is_within S) q ∙ linked_out started S s.0 l linked)) ∙ run.no_channel i h;
    kept = λ i. ap (kept_of i) sent_so.kept ∙ run.kept i;
    kinds = kinds_sent J s item run.kinds;
    rests = rests_longer J (Sent s item) log run.rests;
  }
    where
      here : (k : LinkNo) → sim_link started S s.0 ≡ Some k → HasChannel S replies log s.0 k (got (J ++ Sent s item ∷ []) s.0) (sent (J ++ Sent s item ∷ []) s.0) D
      here k e =
          let h = run.channels s.0 k e in
          let same : h.channel ≡ sent_so.channel = some_same (sym h.there ∙ sent_so.there) in
          let n : ℕ = setup_count S s.0 in
          let w : Channel = h.channel in
          let next_is : w.next ≡ id_after n (sent J s.0) = h.in_step.next_id in
          let text : item_text id item ≡ item_text (id_after n (sent J s.0)) item = text_same item id (id_after n (sent J s.0)) (λ takes. right w h.there takes ∙ next_is) in
          let after_is : id_after w.next (item ∷ []) ≡ id_after n (sent J s.0 ++ item ∷ []) = ap (λ (m : ℕ). id_after m (item ∷ [])) next_is ∙ ids_push n (sent J s.0) item in
          let at : IsChannelAt log (replies s.0 ++ got J s.0) ((setup_payloads S s.0 ++ item_payloads n (sent J s.0)) ++ item_text id item ∷ []) (id_after w.next (item ∷ [])) (queued (item_text id item) (id_after w.next (item ∷ [])) w) =
          channel_queued log (replies s.0 ++ got J s.0) (setup_payloads S s.0 ++ item_payloads n (sent J s.0)) (id_after n (sent J s.0)) (id_after w.next (item ∷ [])) (item_text id item) w h.in_step sent_so.framed in
          let payloads_are : (setup_payloads S s.0 ++ item_payloads n (sent J s.0)) ++ item_text id item ∷ [] ≡ setup_payloads S s.0 ++ item_payloads n (sent J s.0 ++ item ∷ []) =
          append_assoc (setup_payloads S s.0) (item_payloads n (sent J s.0)) (item_text id item ∷ []) ∙ ap (λ (t : List ℕ). setup_payloads S s.0 ++ (item_payloads n (sent J s.0) ++ t ∷ [])) text
          ∙ ap (λ (ps : List (List ℕ)). setup_payloads S s.0 ++ ps) (sym (items_push n (sent J s.0) item)) in
          let new : Channel = queued (item_text id item) (id_after w.next (item ∷ [])) w in
          let step : IsInStep S replies log s.0 (got J s.0) (sent J s.0 ++ item ∷ []) new =
          subst (λ (m : ℕ). IsChannelAt log (replies s.0 ++ got J s.0) (setup_payloads S s.0 ++ item_payloads n (sent J s.0 ++ item ∷ [])) m new) after_is
          (subst (λ (ps : List (List ℕ)). IsChannelAt log (replies s.0 ++ got J s.0) ps (id_after w.next (item ∷ [])) new) payloads_are at) in
          record {
            channel = new;
            there = sent_so.here ∙ ap (λ (v : Channel). Some (queued (item_text id item) (id_after v.next (item ∷ [])) v)) (sym same);
            link = h.link;
            in_step = subst (λ (ms : List Message). IsInStep S replies log s.0 ms (sent (J ++ Sent s item ∷ []) s.0) new) (sym (got_sent J s item s.0))
                (subst (λ (l : List Item). IsInStep S replies log s.0 (got J s.0) l new) (sym (sent_here J s item)) step);
          }

  kept_push : (i : ℕ) (kept : List Arrival) (a : Arrival) → kept_of i (kept ++ a ∷ []) ≡ kept_of i kept ++ kept_of i (a ∷ [])
  kept_push i kept a = filter_map_append (kept_from i) kept (a ∷ [])

  -- to a simulator within the program: its reply is kept
  pub sent_within : (awaits : ℕ → List Message) (J : List Entry) (log : List LogEntry) (C D : CrewState) (s : SimNo) (item : Item) → IsRunningWith awaits started S replies reply P J log C
      → is_within S s.0 ≡ true → IsSentWithin s.0 (reply s.0 (map bare (sent (J ++ Sent s item ∷ []) s.0))) C D → awaits s.0 ≡ [] → ((i : ℕ) → (i ≡ s.0 → ⊥) → awaits i ≡ awaited S reply P J i)
      → is_some ((view P (J ++ Sent s item ∷ [])).open_at s.0) ≡ true → IsRunning started S replies reply P (J ++ Sent s item ∷ []) log D
  sent_within awaits J log C D s item run inside sent_so none others opened = record {
    channels = λ i k e. let h = run.channels i k e in let apart : i ≡ s.0 → ⊥ = (λ q. true≢false (sym inside ∙ ap (is_within S) (sym q) ∙ linked_out started S i k e)) in record {
      channel = h.channel;
      there = ap (λ (l : List (Option Channel)). channel_in l i) sent_so.channels ∙ h.there;
      link = h.link;
      in_step = subst (λ (ms : List Message). IsInStep S replies log i ms (sent (J ++ Sent s item ∷ []) i) h.channel) (sym (got_sent J s item i))
          (subst (λ (l : List Item). IsInStep S replies log i (got J i) l h.channel) (sym (sent_away J s item i apart)) h.in_step);
    };
    no_channel = λ i h. ap (λ (l : List (Option Channel)). channel_in l i) sent_so.channels ∙ run.no_channel i h;
    kept = λ i. ap (kept_of i) sent_so.kept ∙ kept_push i C.kept answer ∙ ap (λ (ms : List Message). ms ++ kept_of i (answer ∷ [])) (run.kept i) ∙ elim (same_or_not i s.0) [
      | inl q ↦ subst (λ (j : ℕ). awaits j ++ kept_of j (answer ∷ []) ≡ awaited S reply P (J ++ Sent s item ∷ []) j) (sym q) (ap (λ (ms : List Message). ms ++ kept_of s.0 (answer ∷ [])) none
          ∙ ap (λ (b : Bool). cons_option (if b then Some answer.message else None) []) (same_self s.0)
          ∙ sym (ap (λ (b : Bool). if b && is_some ((view P (J ++ Sent s item ∷ [])).open_at s.0) then answer.message ∷ [] else []) inside ∙ ap (λ (b : Bool). if b then answer.message ∷ [] else []) opened))
      | inr apart ↦ ap (λ (b : Bool). awaits i ++ cons_option (if b then Some answer.message else None) []) (not_same s.0 i (λ q. apart (sym q))) ∙ append_nil (awaits i) ∙ others i apart
          ∙ sym (awaited_away J s item i apart)
    ];
    kinds = kinds_sent J s item run.kinds;
    rests = rests_longer J (Sent s item) log run.rests;
  }
    where
      channel_in : List (Option Channel) → ℕ → Option Channel
      channel_in l i = option_and_then (λ (o : Option Channel). o) (slice_get l i)

      answer : Arrival
      answer = record { sim = s.0; message = reply s.0 (map bare (sent (J ++ Sent s item ∷ []) s.0)) }

      awaited_away : (J : List Entry) (s : SimNo) (item : Item) (i : ℕ) → (i ≡ s.0 → ⊥) → awaited S reply P (J ++ Sent s item ∷ []) i ≡ awaited S reply P J i
      awaited_away J s item i apart = ap (λ (o : Option OpenTurn). if is_within S i && is_some o then reply i (map bare (sent (J ++ Sent s item ∷ []) i)) ∷ [] else []) (open_sent P J s item i apart)
          ∙ ap (λ (l : List Item). if is_within S i && is_some ((view P J).open_at i) then reply i (map bare l) ∷ [] else []) (sent_away J s item i apart)

  -- a link's item changes nothing of what is awaited
  pub awaited_on_link : (J : List Entry) (s : SimNo) (item : Item) (l : LinkNo) → sim_link started S s.0 ≡ Some l → (i : ℕ) → awaited S reply P (J ++ Sent s item ∷ []) i ≡ awaited S reply P J i
  awaited_on_link J s item l linked i = elim (same_or_not i s.0) [
    | inl q ↦ let out : is_within S i ≡ false = ap (is_within S) q ∙ linked_out started S s.0 l linked in
        ap (λ (b : Bool). if b && is_some ((view P (J ++ Sent s item ∷ [])).open_at i) then reply i (map bare (sent (J ++ Sent s item ∷ []) i)) ∷ [] else []) out
        ∙ sym (ap (λ (b : Bool). if b && is_some ((view P J).open_at i) then reply i (map bare (sent J i)) ∷ [] else []) out)
    | inr apart ↦ ap (λ (o : Option OpenTurn). if is_within S i && is_some o then reply i (map bare (sent (J ++ Sent s item ∷ []) i)) ∷ [] else []) (open_sent P J s item i apart)
        ∙ ap (λ (l : List Item). if is_within S i && is_some ((view P J).open_at i) then reply i (map bare l) ∷ [] else []) (sent_away J s item i apart)
  ]

  -- ---- a message is heard

  -- what is awaited but of s
  abbrev pub but : ℕ → (ℕ → List Message) → ℕ → List Message
  but s awaits i = if i == s then [] else awaits i

  but_here : (s : ℕ) (awaits : ℕ → List Message) → but s awaits s ≡ []
  but_here s awaits = ap (λ (b : Bool). if b then [] else awaits s) (same_self s)

  but_away : (s : ℕ) (awaits : ℕ → List Message) (i : ℕ) → (i ≡ s → ⊥) → but s awaits i ≡ awaits i
  but_away s awaits i n = ap (λ (b : Bool). if b then [] else awaits i) (not_same i s n)

  -- where no reply is kept, no request is open within the program
  pub none_open : (J : List Entry) (log : List LogEntry) (C : CrewState) → IsRunning started S replies reply P J log C → C.kept ≡ [] → (i : ℕ) → is_within S i ≡ true → (view P J).open_at i ≡ None
  none_open J log C run none i inside = go ((view P J).open_at i) (sym (run.kept i) ∙ ap (kept_of i) none)
    where
      go : (o : Option OpenTurn) → (if is_within S i && is_some o then reply i (map bare (sent J i)) ∷ [] else []) ≡ [] → o ≡ None
      go None q = refl
      go (Some t) q = absurd (not_nil (sym (ap (λ (b : Bool). if b && true then reply i (map bare (sent J i)) ∷ [] else []) inside) ∙ q))
        where
          not_nil : {X : Type 0} {x : X} {xs : List X} → x ∷ xs ≡ [] → ⊥
          not_nil e = cc

  -- channels that were moved to a rest are in step with the journal
  abbrev parked_rest : (J : List Entry) (log entries : List LogEntry) (C : CrewState) (run : IsRunning started S replies reply P J log C) → IsUnready P J → C.kept ≡ [] → AreParkedAtRests entries C
      → (before after : List LogEntry) → entries ≡ before ++ Rest ∷ after → IsRestOf started S replies P J (log ++ before)
  parked_rest J log entries C run nobody none parked before after is = record {
    at = J;
    more = [];
    parts = sym (append_nil J);
    nobody = nobody;
    replied = none_open J log C run none;
    channel = λ i l linked. let h = run.channels i l linked in let t = parked before after is i h.channel h.there in (
      t.0,
      t.1.link ∙ h.link,
      t.2,
      subst (λ (ms : List Message). IsChannelAt (log ++ before) ms (setup_payloads S i ++ item_payloads (setup_count S i) (sent J i)) (id_after (setup_count S i) (sent J i)) t.0) (append_nil (replies i ++ got J i))
          (channel_moved log before (replies i ++ got J i) [] (setup_payloads S i ++ item_payloads (setup_count S i) (sent J i)) (id_after (setup_count S i) (sent J i)) h.channel t.0 h.in_step t.1),
    );
  }

  pub over_ends : (J : List Entry) (log : List LogEntry) → RestsOver started S replies P J log → RestsEnd started S replies P J log
  over_ends J log rests before after is up = let t = rests before after is up in (t.0, inr t.1)

  -- the run ends while a message was waited for, or it was heard and not taken
  pub rests_at_end : (J : List Entry) (log entries : List LogEntry) (C : CrewState) (run : IsRunning started S replies reply P J log C) → IsUnready P J → C.kept ≡ [] → AreParkedAtRests entries C → RestsEnd started S replies P J (log ++ entries)
  rests_at_end J log entries C run nobody none parked before after is up = elim (first_or_second log entries before after Rest is) [
    | inl t ↦ over_ends J log run.rests before t.0 t.1 up
    | inr t ↦ subst (λ (b : List LogEntry). (r : IsRestOf started S replies P J b) × ((r.more ≡ []) ⊎ BeginsOnLink started S r.more)) (sym t.1) (parked_rest J log entries C run nobody none parked t.0 after t.2, inl refl)
  ]

  -- channels that were moved are in step
  channels_moved : (J : List Entry) (log entries : List LogEntry) (C D : CrewState) (given : ℕ → List Message) → ((i : ℕ) (l : LinkNo) → sim_link started S i ≡ Some l → HasChannel S replies log i l (got J i) (sent J i) C)
      → AreMoved entries given C D → (i : ℕ) (l : LinkNo) → sim_link started S i ≡ Some l → HasChannel S replies (log ++ entries) i l (got J i ++ given i) (sent J i) D
  channels_moved J log entries C D given channels moved i l linked =
      let h = channels i l linked in
      let t = moved_there entries (given i) (channel_at C i) (channel_at D i) h.channel h.there (moved i) in
      record {
        channel = t.0;
        there = t.1;
        link = t.2.link ∙ h.link;
        in_step = subst (λ (ms : List Message). IsChannelAt (log ++ entries) ms (setup_payloads S i ++ item_payloads (setup_count S i) (sent J i)) (id_after (setup_count S i) (sent J i)) t.0) (append_assoc (replies i) (got J i) (given i))
            (channel_moved log entries (replies i ++ got J i) (given i) (setup_payloads S i ++ item_payloads (setup_count S i) (sent J i)) (id_after (setup_count S i) (sent J i)) h.channel t.0 h.in_step t.2);
      }

  same_channels : (i : ℕ) (C D : CrewState) → D.channels ≡ C.channels → channel_at D i ≡ channel_at C i
  same_channels i C D e = ap (λ (l : List (Option Channel)). option_and_then (λ (o : Option Channel). o) (slice_get l i)) e

  -- the rests so far, where a message of a link comes next
  rests_heard : (J : List Entry) (log entries : List LogEntry) (C : CrewState) (s : SimNo) (m : Message) (l : LinkNo) (run : IsRunning started S replies reply P J log C) → IsUnready P J → C.kept ≡ [] → AreParkedAtRests entries C
      → sim_link started S s.0 ≡ Some l → RestsOver started S replies P (J ++ Got s m ∷ []) (log ++ entries)
  rests_heard J log entries C s m l run nobody none parked linked before after is up = elim (first_or_second log entries before after Rest is) [
    | inl t ↦ rests_longer J (Got s m) log run.rests before t.0 t.1 up
    | inr t ↦ subst (λ (b : List LogEntry). (r : IsRestOf started S replies P (J ++ Got s m ∷ []) b) × BeginsOnLink started S r.more) (sym t.1)
        (rest_longer J (Got s m) (log ++ t.0) (parked_rest J log entries C run nobody none parked t.0 after t.2), (s, m, [], l, refl, linked))
  ]

  -- the head of what was kept was awaited
  taken_kept : (J : List Entry) (C D : CrewState) (s : SimNo) (m : Message) → ((i : ℕ) → kept_of i C.kept ≡ awaited S reply P J i) → C.kept ≡ record { sim = s.0; message = m } ∷ D.kept
      → (is_within S s.0 ≡ true) × IsKindReply reply P J s.0 m × ((i : ℕ) → kept_of i D.kept ≡ but s.0 (awaited S reply P J) i)
  taken_kept J C D s m kept is = (
    first.0,
    first.1,
    (λ i. elim (same_or_not i s.0) [
      | inl q ↦ subst (λ (j : ℕ). kept_of j D.kept ≡ but s.0 (awaited S reply P J) j) (sym q) (first.2 ∙ sym (but_here s.0 (awaited S reply P J)))
      | inr apart ↦ ap (λ (b : Bool). cons_option (if b then Some m else None) (kept_of i D.kept)) (sym (not_same s.0 i (λ q. apart (sym q)))) ∙ ap (kept_of i) (sym is) ∙ kept i ∙ sym (but_away s.0 (awaited S reply P J) i apart)
    ]),
  )
    where
      head : m ∷ kept_of s.0 D.kept ≡ awaited S reply P J s.0
      head = ap (λ (b : Bool). cons_option (if b then Some m else None) (kept_of s.0 D.kept)) (sym (same_self s.0)) ∙ ap (kept_of s.0) (sym is) ∙ kept s.0

      by_cases : (a b : Bool) (o : Option OpenTurn) → (view P J).open_at s.0 ≡ o → is_within S s.0 ≡ a → is_some o ≡ b → m ∷ kept_of s.0 D.kept ≡ (if a && b then reply s.0 (map bare (sent J s.0)) ∷ [] else [])
          → (is_within S s.0 ≡ true) × IsKindReply reply P J s.0 m × (kept_of s.0 D.kept ≡ [])
      by_cases false b o q e f h = absurd (not_nil h)
        where
          not_nil : {X : Type 0} {x : X} {xs : List X} → x ∷ xs ≡ [] → ⊥
          not_nil e = cc
      by_cases true false o q e f h = absurd (not_nil h)
        where
          not_nil : {X : Type 0} {x : X} {xs : List X} → x ∷ xs ≡ [] → ⊥
          not_nil e = cc
      by_cases true true None q e f h = absurd (true≢false (sym f))
      by_cases true true (Some T) q e f h = (e, record { is = (same_heads h).0; open_there = λ shut. none_some (sym shut ∙ q) }, (same_heads h).1)

      first : (is_within S s.0 ≡ true) × IsKindReply reply P J s.0 m × (kept_of s.0 D.kept ≡ [])
      first = by_cases (is_within S s.0) (is_some ((view P J).open_at s.0)) ((view P J).open_at s.0) refl refl refl head

  -- a message is heard, and is the journal's next entry
  pub heard : (J : List Entry) (log entries : List LogEntry) (C D : CrewState) (s : SimNo) (m : Message) → IsRunning started S replies reply P J log C → IsUnready P J → IsHeard entries s.0 m C D
      → ((w : Channel) → channel_at C s.0 ≡ Some w → (l : LinkNo) × (sim_link started S s.0 ≡ Some l))
      → IsRunningWith (but s.0 (awaited S reply P J)) started S replies reply P (J ++ Got s m ∷ []) (log ++ entries) D
  heard J log entries C D s m run nobody (IsHeard.kept is channels none) back = record {
    channels = λ i k e. let h = run.channels i k e in let apart : i ≡ s.0 → ⊥ = (λ q. true≢false (sym t.0 ∙ ap (is_within S) (sym q) ∙ linked_out started S i k e)) in record {
      channel = h.channel;
      there = same_channels i C D channels ∙ h.there;
      link = h.link;
      in_step = subst (λ (g : List LogEntry). IsInStep S replies g i (got (J ++ Got s m ∷ []) i) (sent (J ++ Got s m ∷ []) i) h.channel) (sym log_is)
          (subst (λ (ms : List Message). IsInStep S replies log i ms (sent (J ++ Got s m ∷ []) i) h.channel) (sym (got_away J s m i apart))
          (subst (λ (l : List Item). IsInStep S replies log i (got J i) l h.channel) (sym (sent_got J s m i)) h.in_step));
    };
    no_channel = λ i h. same_channels i C D channels ∙ run.no_channel i h;
    kept = t.2;
    kinds = kinds_got J s m (λ h. t.1) run.kinds;
    rests = subst (λ (g : List LogEntry). RestsOver started S replies P (J ++ Got s m ∷ []) g) (sym log_is) (rests_longer J (Got s m) log run.rests);
  }
    where
      t : (is_within S s.0 ≡ true) × IsKindReply reply P J s.0 m × ((i : ℕ) → kept_of i D.kept ≡ but s.0 (awaited S reply P J) i)
      t = taken_kept J C D s m run.kept is

      log_is : log ++ entries ≡ log
      log_is = ap (λ (e : List LogEntry). log ++ e) none ∙ append_nil log
  heard J log entries C D s m run nobody (IsHeard.on_link none none_after w there moved parked) back = record {
    channels = λ i k e. let h = channels_moved J log entries C D (given_by s.0 m) run.channels moved i k e in record {
      channel = h.channel;
      there = h.there;
      link = h.link;
      in_step = subst (λ (ms : List Message). IsInStep S replies (log ++ entries) i ms (sent (J ++ Got s m ∷ []) i) h.channel) (sym (got_given J s m i))
          (subst (λ (l : List Item). IsInStep S replies (log ++ entries) i (got J i ++ given_by s.0 m i) l h.channel) (sym (sent_got J s m i)) h.in_step);
    };
    no_channel = λ i h. moved_none entries (given_by s.0 m i) (channel_at C i) (channel_at D i) (run.no_channel i h) (moved i);
    kept = λ i. ap (kept_of i) (none_after ∙ sym none) ∙ run.kept i ∙ elim (same_or_not i s.0) [
      | inl q ↦ subst (λ (j : ℕ). awaited S reply P J j ≡ but s.0 (awaited S reply P J) j) (sym q) (ap (λ (b : Bool). if b && is_some ((view P J).open_at s.0) then reply s.0 (map bare (sent J s.0)) ∷ [] else []) (linked_out started S s.0 l.0 l.1) ∙ sym (but_here s.0 (awaited S reply P J)))
      | inr apart ↦ sym (but_away s.0 (awaited S reply P J) i apart)
    ];
    kinds = kinds_got J s m (λ h. absurd (true≢false (sym h ∙ linked_out started S s.0 l.0 l.1))) run.kinds;
    rests = rests_heard J log entries C s m l.0 run nobody none parked l.1;
  }
    where
      l : (l : LinkNo) × (sim_link started S s.0 ≡ Some l)
      l = back w there

  -- nor does a message change what is awaited of the others
  awaited_got : (J : List Entry) (s : SimNo) (m : Message) (i : ℕ) → (i ≡ s.0 → ⊥) → awaited S reply P (J ++ Got s m ∷ []) i ≡ awaited S reply P J i
  awaited_got J s m i apart = ap (λ (o : Option OpenTurn). if is_within S i && is_some o then reply i (map bare (sent (J ++ Got s m ∷ []) i)) ∷ [] else []) (open_got P J s m i apart)
      ∙ ap (λ (l : List Item). if is_within S i && is_some ((view P J).open_at i) then reply i (map bare l) ∷ [] else []) (sent_got J s m i)

  -- and nothing is owed after it
  awaited_after : (J : List Entry) (s : SimNo) (m : Message) → is_some ((view P (J ++ Got s m ∷ [])).open_at s.0) ≡ false → (i : ℕ) → but s.0 (awaited S reply P J) i ≡ awaited S reply P (J ++ Got s m ∷ []) i
  awaited_after J s m shut i = elim (same_or_not i s.0) [
    | inl q ↦ subst (λ (j : ℕ). but s.0 (awaited S reply P J) j ≡ awaited S reply P (J ++ Got s m ∷ []) j) (sym q) (but_here s.0 (awaited S reply P J) ∙ sym (ap (λ (b : Bool). if is_within S s.0 && b then reply s.0 (map bare (sent (J ++ Got s m ∷ []) s.0)) ∷ [] else []) shut ∙ none (is_within S s.0)))
    | inr apart ↦ but_away s.0 (awaited S reply P J) i apart ∙ sym (awaited_got J s m i apart)
  ]
    where
      none : (b : Bool) → (if b && false then reply s.0 (map bare (sent (J ++ Got s m ∷ []) s.0)) ∷ [] else []) ≡ []
      none true = refl
      none false = refl

  pub quiet : (J : List Entry) (log : List LogEntry) (C : CrewState) (s : SimNo) (m : Message) → IsRunningWith (but s.0 (awaited S reply P J)) started S replies reply P (J ++ Got s m ∷ []) log C
      → is_some ((view P (J ++ Got s m ∷ [])).open_at s.0) ≡ false → IsRunning started S replies reply P (J ++ Got s m ∷ []) log C
  quiet J log C s m run shut = record { channels = run.channels; no_channel = run.no_channel; kept = λ i. run.kept i ∙ awaited_after J s m shut i; kinds = run.kinds; rests = run.rests }

  -- ---- the loop's steps

  -- a run begins
  pub begun : (log : List LogEntry) (C : CrewState) → IsBegun started S replies log C → IsRunning started S replies reply P [] log C
  begun log C b = record {
    channels = λ i l linked. let t = b.channels i l linked in record {
      channel = t.0;
      there = t.1;
      link = t.2;
      in_step = subst (λ (ms : List Message). IsChannelAt log ms (setup_payloads S i ++ []) (setup_count S i + 0) t.0) (sym (append_nil (replies i)))
          (subst (λ (ps : List (List ℕ)). IsChannelAt log (replies i) ps (setup_count S i + 0) t.0) (sym (append_nil (setup_payloads S i)))
          (subst (λ (n : ℕ). IsChannelAt log (replies i) (setup_payloads S i) n t.0) (let e : setup_count S i ≡ setup_count S i + 0 = omega arith in e) t.3));
    };
    no_channel = b.no_channel;
    kept = λ i. ap (kept_of i) b.none_kept ∙ none (is_within S i) i;
    kinds = λ H s m more e h. absurd (not_empty H more (Got s m) e);
    rests = λ before after e up. absurd (b.setting_up before after e up);
  }
    where
      none : (b : Bool) (i : ℕ) → [] ≡ (if b && false then reply i [] ∷ [] else [])
      none true i = refl
      none false i = refl

  -- a Step is asked of a simulator with a link
  pub asked_on_link : (J : List Entry) (log : List LogEntry) (C D : CrewState) (s : SimNo) (item : Item) (id : ℕ) (l : LinkNo) → IsRunning started S replies reply P J log C
      → sim_link started S s.0 ≡ Some l → IsSentOnLink s.0 item id C D → ((w : Channel) → channel_at C s.0 ≡ Some w → takes_id item ≡ true → id ≡ w.next) → IsRunning started S replies reply P (J ++ Sent s item ∷ []) log D
  asked_on_link J log C D s item id l run linked sent_so right = let r = sent_on_link (awaited S reply P J) J log C D s item id l run linked sent_so right in
      record { channels = r.channels; no_channel = r.no_channel; kept = λ i. r.kept i ∙ sym (awaited_on_link J s item l linked i); kinds = r.kinds; rests = r.rests }

  -- a Step is asked of one within the program, at which nothing is open
  pub asked_within : (J : List Entry) (log : List LogEntry) (C D : CrewState) (s : SimNo) (x : Tier) (ins : List Input) (advance : ℤ) → IsRunning started S replies reply P J log C
      → is_within S s.0 ≡ true → (view P J).open_at s.0 ≡ None → IsSentWithin s.0 (reply s.0 (map bare (sent (J ++ Sent s (Step x ins advance) ∷ []) s.0))) C D
      → IsRunning started S replies reply P (J ++ Sent s (Step x ins advance) ∷ []) log D
  asked_within J log C D s x ins advance run inside shut sent_so = sent_within (awaited S reply P J) J log C D s (Step x ins advance) run inside sent_so
      (ap (λ (o : Option OpenTurn). if is_within S s.0 && is_some o then reply s.0 (map bare (sent J s.0)) ∷ [] else []) shut ∙ none (is_within S s.0)) (λ i apart. refl) (step_opens P J s x ins advance)
    where
      none : (b : Bool) → (if b && false then reply s.0 (map bare (sent J s.0)) ∷ [] else []) ≡ []
      none true = refl
      none false = refl

  -- a message was heard, the core took it, and nothing is owed
  pub heard_quiet : (J : List Entry) (log entries : List LogEntry) (C D : CrewState) (s : SimNo) (m : Message) → IsRunning started S replies reply P J log C → IsUnready P J → IsHeard entries s.0 m C D
      → ((w : Channel) → channel_at C s.0 ≡ Some w → (l : LinkNo) × (sim_link started S s.0 ≡ Some l))
      → (view P J).owed ≡ None → (view P (J ++ Got s m ∷ [])).fault ≡ None → (view P (J ++ Got s m ∷ [])).owed ≡ None → IsRunning started S replies reply P (J ++ Got s m ∷ []) (log ++ entries) D
  heard_quiet J log entries C D s m run nobody h back owes fine none = quiet J (log ++ entries) D s m (heard J log entries C D s m run nobody h back) ((after_message P J s m owes fine).0 none)

  -- a message of a link was heard, and the item that it is answered with was queued
  pub answered_on_link : (J : List Entry) (log : List LogEntry) (C D : CrewState) (s : SimNo) (m : Message) (item : Item) (id : ℕ) (l : LinkNo)
      → IsRunningWith (but s.0 (awaited S reply P J)) started S replies reply P (J ++ Got s m ∷ []) log C → sim_link started S s.0 ≡ Some l → IsSentOnLink s.0 item id C D
      → ((w : Channel) → channel_at C s.0 ≡ Some w → takes_id item ≡ true → id ≡ w.next) → IsRunning started S replies reply P ((J ++ Got s m ∷ []) ++ Sent s item ∷ []) log D
  answered_on_link J log C D s m item id l run linked sent_so right =
      let r = sent_on_link (but s.0 (awaited S reply P J)) (J ++ Got s m ∷ []) log C D s item id l run linked sent_so right in
      record {
        channels = r.channels;
        no_channel = r.no_channel;
        kept = λ i. r.kept i ∙ same i ∙ sym (awaited_on_link (J ++ Got s m ∷ []) s item l linked i);
        kinds = r.kinds;
        rests = r.rests;
      }
    where
      same : (i : ℕ) → but s.0 (awaited S reply P J) i ≡ awaited S reply P (J ++ Got s m ∷ []) i
      same i = elim (same_or_not i s.0) [
        | inl q ↦ subst (λ (j : ℕ). but s.0 (awaited S reply P J) j ≡ awaited S reply P (J ++ Got s m ∷ []) j) (sym q) (but_here s.0 (awaited S reply P J)
            ∙ sym (ap (λ (b : Bool). if b && is_some ((view P (J ++ Got s m ∷ [])).open_at s.0) then reply s.0 (map bare (sent (J ++ Got s m ∷ []) s.0)) ∷ [] else []) (linked_out started S s.0 l linked)))
        | inr apart ↦ but_away s.0 (awaited S reply P J) i apart ∙ sym (awaited_got J s m i apart)
      ]

  -- a message of a simulator within the program was heard, and its reply to the item that it is
  -- answered with was kept
  pub answered_within : (J : List Entry) (log : List LogEntry) (C D : CrewState) (s : SimNo) (m : Message) (item : Item) (o : Owed)
      → IsRunningWith (but s.0 (awaited S reply P J)) started S replies reply P (J ++ Got s m ∷ []) log C → is_within S s.0 ≡ true → (view P J).owed ≡ None → (view P (J ++ Got s m ∷ [])).fault ≡ None
      → (view P (J ++ Got s m ∷ [])).owed ≡ Some o → IsSentWithin s.0 (reply s.0 (map bare (sent ((J ++ Got s m ∷ []) ++ Sent s item ∷ []) s.0))) C D
      → IsRunning started S replies reply P ((J ++ Got s m ∷ []) ++ Sent s item ∷ []) log D
  answered_within J log C D s m item o run inside owes fine owed sent_so = sent_within (but s.0 (awaited S reply P J)) (J ++ Got s m ∷ []) log C D s item run inside sent_so (but_here s.0 (awaited S reply P J))
      (λ i apart. but_away s.0 (awaited S reply P J) i apart ∙ sym (awaited_got J s m i apart)) (item_leaves_open P (J ++ Got s m ∷ []) s item ((after_message P J s m owes fine).1 o owed))

pub given_here : (s : ℕ) (m : Message) → given_by s m s ≡ m ∷ []
given_here s m = ap (λ (b : Bool). if b then m ∷ [] else []) (same_self s)

pub given_away : (s : ℕ) (m : Message) (i : ℕ) → (i ≡ s → ⊥) → given_by s m i ≡ []
given_away s m i n = ap (λ (b : Bool). if b then m ∷ [] else []) (not_same s i (λ e. n (sym e)))
