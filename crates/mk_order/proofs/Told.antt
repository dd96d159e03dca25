-- What a journal's view says was sent and heard is what the journal's entries say.
use Rattle.std.proofs.Common.{◌≡◌, ℕ, Bool, false, List, [], ◌∷◌, ◌++◌, map, fold, Option, Some, None, option_map, refl, sym, ap, ◌∙◌, subst, ◌⊎◌, inl, inr, true≢false, if◌then◌else◌, pos, ℤ, append_assoc}
use Rattle.std.specs.List.{cons_option}
use Rattle.mk_order_any.specs.Parts as theory
use Rattle.mk_base.specs.declared.SimNo.{SimNo}
use Rattle.mk_base.specs.declared.tier.Tier.{Tier}
use Rattle.mk_base.specs.Lists.{BeginsWith}
use Rattle.mk_plan.specs.declared.Plan.{Plan}
use Rattle.mk_plan.specs.declared.Item.{Item}
use Rattle.mk_plan.specs.declared.Item.TheVariants.{Step, GetData, Answer, Refuse}
use Rattle.mk_plan.specs.declared.Message.{Message}
use Rattle.mk_plan.specs.declared.Entry.{Entry}
use Rattle.mk_plan.specs.declared.Entry.TheVariants.{Sent, Got}
use Rattle.mk_plan.specs.declared.Place.{Place}
use Rattle.mk_plan.specs.declared.Cause.{Cause}
use Rattle.mk_plan.specs.Turns.{wrong, next_place}
use Rattle.mk_plan.specs.Acts.{Said, Told, Heard, Act}
use Rattle.mk_plan.specs.Sequential.{grown, messages_in, talk_of, items, told}
use Rattle.mk_plan.specs.Journals.{OpenTurn, Owed, View, empty_view, with_open, messages_of, talk_at, place_at, open_after, note_sent, told_more, ended_turn, note_right, note_got, note, view, heard, said, sent, got, sent_to, got_from, bare}
use Rattle.mk_plan.specs.Ready.{IsReady}
use Rattle.mk_plan.specs.Orderly.{IsNext, IsAllowed, IsOrderlyFrom, IsOrderlySoFar}
use Rattle.mk_plan.specs.Report.{is_step}
use Rattle.mk_base.proofs.Lists.{append_nil, flat_map_append, filter_map_append, map_append}
use Rattle.mk_order.proofs.Theory.{parts}
use Rattle.mk_order.proofs.Seen.{IsSound, seen, turn_of, at_self, open_after_is, follows}
use Rattle.mk_base.proofs.Counts.{same_or_not, not_same, same_self}
use Rattle.mk_plan.proofs.Sending.{sent_here, sent_away}

pub heard_seen : (P : Plan) (V : View) (i : ℕ) → theory.heard_of (parts P) (seen P V) i ≡ heard V i
heard_seen P V i = elim (V.open_at i) as (λ o. messages_in (V.acts i) ++ theory.case_of (option_map (turn_of P V.owed i) o) [] (λ T. T.messages) ≡ messages_in (V.acts i) ++ messages_of o) [ None ↦ refl | Some T ↦ refl ]

pub said_seen : (P : Plan) (V : View) (i : ℕ) → theory.said_of (parts P) (seen P V) i ≡ said V i
said_seen P V i = elim (V.open_at i) as (λ o. talk_of (V.acts i) ++ theory.case_of (option_map (turn_of P V.owed i) o) [] (λ T. T.lines) ≡ talk_of (V.acts i) ++ talk_at o) [ None ↦ refl | Some T ↦ refl ]

got_here : (s : SimNo) (m : Message) → got (Got s m ∷ []) s.0 ≡ m ∷ []
got_here s m = ap (λ (b : Bool). cons_option (if b then Some m else None) []) (same_self s.0)

got_away : (s : SimNo) (m : Message) (i : ℕ) → (i ≡ s.0 → ⊥) → got (Got s m ∷ []) i ≡ []
got_away s m i n = ap (λ (b : Bool). cons_option (if b then Some m else None) []) (not_same s.0 i (λ e. n (sym e)))

pub bare_itself : (item : Item) → is_step item ≡ false → bare item ≡ item
bare_itself (Step x ins advance) h = absurd (true≢false h)
bare_itself (GetData wants) h = refl
bare_itself (Answer id content) h = refl
bare_itself (Refuse id reason) h = refl

module _ (Ready : Plan → View → ℕ → Tier → Type 0) (Advance : Plan → View → ℕ → Tier → ℤ → Type 0) (P : Plan) (truly : (V : View) (s : ℕ) (x : Tier) → Ready P V s x → IsReady P V s x) (V : View) where
  open_away : (s : ℕ) (o : Option OpenTurn) (i : ℕ) → (i ≡ s → ⊥) → with_open V s o i ≡ V.open_at i
  open_away s o i n = ap (λ (b : Bool). if b then o else V.open_at i) (not_same i s n)

  acts_here : (i : ℕ) (a : Act) → grown V.acts i a i ≡ V.acts i ++ a ∷ []
  acts_here i a = ap (λ (b : Bool). if b then V.acts i ++ a ∷ [] else V.acts i) (same_self i)

  acts_away : (s : ℕ) (a : Act) (i : ℕ) → (i ≡ s → ⊥) → grown V.acts s a i ≡ V.acts i
  acts_away s a i n = ap (λ (b : Bool). if b then V.acts i ++ a ∷ [] else V.acts i) (not_same i s n)

  -- ---- items

  SaidAfter : View → Entry → ℕ → Type 0
  SaidAfter W e i = items (said W i) ≡ items (said V i) ++ map bare (sent (e ∷ []) i)

  -- an item that follows what was said to s
  said_more : (s : SimNo) (item : Item) → talk_at (open_after P V s.0 item) ≡ talk_at (V.open_at s.0) ++ Told (bare item) ∷ [] → (i : ℕ) → SaidAfter (note_sent P V s.0 item) (Sent s item) i
  unfolding SaidAfter
  said_more s item more i = elim (same_or_not i s.0) [
    | inl e ↦ subst (λ (j : ℕ). items (talk_of (V.acts j) ++ talk_at (with_open V s.0 (open_after P V s.0 item) j)) ≡ items (said V j) ++ map bare (sent (Sent s item ∷ []) j)) (sym e)
        (ap (λ (o : Option OpenTurn). items (talk_of (V.acts s.0) ++ talk_at o)) (at_self P V s.0 (open_after P V s.0 item))
        ∙ ap (λ (l : List Said). items (talk_of (V.acts s.0) ++ l)) more
        ∙ ap items (sym (append_assoc (talk_of (V.acts s.0)) (talk_at (V.open_at s.0)) (Told (bare item) ∷ [])))
        ∙ filter_map_append told (said V s.0) (Told (bare item) ∷ [])
        ∙ ap (λ (l : List Item). items (said V s.0) ++ map bare l) (sym (sent_here s item)))
    | inr n ↦ ap (λ (o : Option OpenTurn). items (talk_of (V.acts i) ++ talk_at o)) (open_away s.0 (open_after P V s.0 item) i n)
        ∙ sym (append_nil (items (said V i))) ∙ ap (λ (l : List Item). items (said V i) ++ map bare l) (sym (sent_away s item i n))
  ]

  -- what is said after a message is its answer alone
  said_goes : (s : SimNo) (m : Message) (W : View) → ((i : ℕ) → items (said W i) ≡ items (said V i)) → (i : ℕ) → SaidAfter W (Got s m) i
  unfolding SaidAfter
  said_goes s m W same i = same i ∙ sym (append_nil (items (said V i)))

  told_none : (l : List Said) (m : Message) → items (l ++ Heard m ∷ []) ≡ items l
  told_none l m = filter_map_append told l (Heard m ∷ []) ∙ append_nil (items l)

  said_right : (i : ℕ) (m : Message) (T : OpenTurn) (q : Option Place) → V.open_at i ≡ Some T → (j : ℕ) → items (said (note_right P V i m T q) j) ≡ items (said V j)
  said_right i m T (Some q) is j = elim (same_or_not j i) [
    | inl e ↦ subst (λ (k : ℕ). items (said (note_right P V i m T (Some q)) k) ≡ items (said V k)) (sym e)
        (ap (λ (o : Option OpenTurn). items (talk_of (V.acts i) ++ talk_at o)) (at_self P V i (Some (record { at = T.at; messages = T.messages ++ m ∷ []; place = q; talk = T.talk ++ Heard m ∷ [] })))
        ∙ ap items (sym (append_assoc (talk_of (V.acts i)) T.talk (Heard m ∷ []))) ∙ told_none (talk_of (V.acts i) ++ T.talk) m
        ∙ ap (λ (o : Option OpenTurn). items (talk_of (V.acts i) ++ talk_at o)) (sym is))
    | inr n ↦ ap (λ (o : Option OpenTurn). items (talk_of (V.acts j) ++ talk_at o)) (open_away i _ j n)
  ]
  said_right i m T None is j = elim (same_or_not j i) [
    | inl e ↦ subst (λ (k : ℕ). items (said (note_right P V i m T None) k) ≡ items (said V k)) (sym e)
        (ap (λ (o : Option OpenTurn). items (talk_of (grown V.acts i (ended_turn T m) i) ++ talk_at o)) (at_self P V i None)
        ∙ ap (λ (l : List Act). items (talk_of l ++ [])) (acts_here i (ended_turn T m))
        ∙ ap items (append_nil (talk_of (V.acts i ++ ended_turn T m ∷ [])) ∙ flat_map_append (λ (a : Act). a.talk) (V.acts i) (ended_turn T m ∷ []) ∙ ap (λ (l : List Said). talk_of (V.acts i) ++ l) (append_nil (T.talk ++ Heard m ∷ []))
        ∙ sym (append_assoc (talk_of (V.acts i)) T.talk (Heard m ∷ [])))
        ∙ told_none (talk_of (V.acts i) ++ T.talk) m
        ∙ ap (λ (o : Option OpenTurn). items (talk_of (V.acts i) ++ talk_at o)) (sym is))
    | inr n ↦ ap (λ (o : Option OpenTurn). items (talk_of (grown V.acts i (ended_turn T m) j) ++ talk_at o)) (open_away i None j n) ∙ ap (λ (l : List Act). items (talk_of l ++ talk_at (V.open_at j))) (acts_away i (ended_turn T m) j n)
  ]

  said_got : (i : ℕ) (m : Message) (o : Option OpenTurn) (c : Option Cause) → V.open_at i ≡ o → (j : ℕ) → items (said (note_got P V i m o c) j) ≡ items (said V j)
  said_got i m o (Some c) is j = refl
  said_got i m None None is j = refl
  said_got i m (Some T) None is j = said_right i m T (next_place P i T.place m) is j

  said_after : (e : Entry) → IsSound V → IsAllowed Ready Advance P V e → (i : ℕ) → SaidAfter (note P V e) e i
  said_after e sound allowed = by_owed V.owed refl allowed.1
    where
      alone : (e : Entry) → IsNext Ready Advance P V None e → (i : ℕ) → SaidAfter (note P V e) e i
      alone (Got s m) next = said_goes s m (note P V (Got s m)) (said_got s.0 m (V.open_at s.0) (wrong P s.0 (place_at (V.open_at s.0)) m) refl)
      alone (Sent s (Step x ins advance)) next = said_more s (Step x ins advance) (ap (λ (o : Option OpenTurn). talk_at o ++ Told (Step x ins (pos 0)) ∷ []) (sym (truly V s.0 x next.0.0).closed))
      alone (Sent s (GetData wants)) next = absurd next
      alone (Sent s (Answer id content)) next = absurd next
      alone (Sent s (Refuse id reason)) next = absurd next

      goes : (o : Owed) (T : OpenTurn) → V.open_at o.sim ≡ Some T → is_step o.item ≡ false → (i : ℕ) → SaidAfter (note_sent P V o.sim o.item) (Sent (record { 0 = o.sim }) o.item) i
      goes o T is late = said_more (record { 0 = o.sim }) o.item (ap talk_at (open_after_is P V o.sim o.item late ∙ ap (option_map (told_more o.item)) is)
          ∙ ap (λ (item : Item). T.talk ++ Told item ∷ []) (sym (bare_itself o.item late)) ∙ ap (λ (q : Option OpenTurn). talk_at q ++ Told (bare o.item) ∷ []) (sym is))

      by_owed : (o : Option Owed) → V.owed ≡ o → IsNext Ready Advance P V o e → (i : ℕ) → SaidAfter (note P V e) e i
      by_owed None owes next = alone e next
      by_owed (Some o) owes next = let t = sound.turn o owes in subst (λ (f : Entry). (i : ℕ) → SaidAfter (note P V f) f i) (sym next) (goes o t.0 t.1 (sound.later o owes))

  -- ---- messages

  -- each message is heard, or has made a fault
  HeardAfter : View → Entry → ℕ → Type 0
  HeardAfter W e i = (heard W i ≡ heard V i ++ got (e ∷ []) i) ⊎ ((W.fault ≡ None → ⊥) × (heard W i ≡ heard V i))

  some_none : {X : Type 0} (x : X) → Some x ≡ None → ⊥
  some_none x e = cc

  -- an item leaves the messages as they are
  heard_sent : (s : SimNo) (item : Item) → messages_of (open_after P V s.0 item) ≡ messages_of (V.open_at s.0) → (i : ℕ) → HeardAfter (note_sent P V s.0 item) (Sent s item) i
  unfolding HeardAfter
  heard_sent s item same i = inl (elim (same_or_not i s.0) [
    | inl e ↦ subst (λ (j : ℕ). messages_in (V.acts j) ++ messages_of (with_open V s.0 (open_after P V s.0 item) j) ≡ heard V j) (sym e)
        (ap (λ (o : Option OpenTurn). messages_in (V.acts s.0) ++ messages_of o) (at_self P V s.0 (open_after P V s.0 item)) ∙ ap (λ (l : List Message). messages_in (V.acts s.0) ++ l) same)
    | inr n ↦ ap (λ (o : Option OpenTurn). messages_in (V.acts i) ++ messages_of o) (open_away s.0 (open_after P V s.0 item) i n)
  ] ∙ sym (append_nil (heard V i)))

  heard_right : (s : SimNo) (m : Message) (T : OpenTurn) (q : Option Place) → V.open_at s.0 ≡ Some T → (j : ℕ) → heard (note_right P V s.0 m T q) j ≡ heard V j ++ got (Got s m ∷ []) j
  heard_right s m T (Some q) is j = elim (same_or_not j s.0) [
    | inl e ↦ subst (λ (k : ℕ). heard (note_right P V s.0 m T (Some q)) k ≡ heard V k ++ got (Got s m ∷ []) k) (sym e)
        (ap (λ (o : Option OpenTurn). messages_in (V.acts s.0) ++ messages_of o) (at_self P V s.0 (Some (record { at = T.at; messages = T.messages ++ m ∷ []; place = q; talk = T.talk ++ Heard m ∷ [] })))
        ∙ sym (append_assoc (messages_in (V.acts s.0)) T.messages (m ∷ []))
        ∙ ap (λ (o : Option OpenTurn). (messages_in (V.acts s.0) ++ messages_of o) ++ m ∷ []) (sym is)
        ∙ ap (λ (l : List Message). heard V s.0 ++ l) (sym (got_here s m)))
    | inr n ↦ ap (λ (o : Option OpenTurn). messages_in (V.acts j) ++ messages_of o) (open_away s.0 _ j n) ∙ sym (append_nil (heard V j)) ∙ ap (λ (l : List Message). heard V j ++ l) (sym (got_away s m j n))
  ]
  heard_right s m T None is j = elim (same_or_not j s.0) [
    | inl e ↦ subst (λ (k : ℕ). heard (note_right P V s.0 m T None) k ≡ heard V k ++ got (Got s m ∷ []) k) (sym e)
        (ap (λ (o : Option OpenTurn). messages_in (grown V.acts s.0 (ended_turn T m) s.0) ++ messages_of o) (at_self P V s.0 None)
        ∙ ap (λ (l : List Act). messages_in l ++ []) (acts_here s.0 (ended_turn T m))
        ∙ append_nil (messages_in (V.acts s.0 ++ ended_turn T m ∷ [])) ∙ flat_map_append (λ (a : Act). a.messages) (V.acts s.0) (ended_turn T m ∷ []) ∙ ap (λ (l : List Message). messages_in (V.acts s.0) ++ l) (append_nil (T.messages ++ m ∷ []))
        ∙ sym (append_assoc (messages_in (V.acts s.0)) T.messages (m ∷ []))
        ∙ ap (λ (o : Option OpenTurn). (messages_in (V.acts s.0) ++ messages_of o) ++ m ∷ []) (sym is)
        ∙ ap (λ (l : List Message). heard V s.0 ++ l) (sym (got_here s m)))
    | inr n ↦ ap (λ (o : Option OpenTurn). messages_in (grown V.acts s.0 (ended_turn T m) j) ++ messages_of o) (open_away s.0 None j n) ∙ ap (λ (l : List Act). messages_in l ++ messages_of (V.open_at j)) (acts_away s.0 (ended_turn T m) j n)
        ∙ sym (append_nil (heard V j)) ∙ ap (λ (l : List Message). heard V j ++ l) (sym (got_away s m j n))
  ]

  heard_got : (s : SimNo) (m : Message) (o : Option OpenTurn) (c : Option Cause) → V.open_at s.0 ≡ o → wrong P s.0 (place_at o) m ≡ c → (j : ℕ) → HeardAfter (note_got P V s.0 m o c) (Got s m) j
  unfolding HeardAfter
  heard_got s m o (Some c) is w j = inr (some_none _, refl)
  heard_got s m None None is w j = absurd (some_none _ w)
  heard_got s m (Some T) None is w j = inl (heard_right s m T (next_place P s.0 T.place m) is j)

  heard_after : (e : Entry) → IsSound V → IsAllowed Ready Advance P V e → (i : ℕ) → HeardAfter (note P V e) e i
  heard_after e sound allowed = by_owed V.owed refl allowed.1
    where
      alone : (e : Entry) → IsNext Ready Advance P V None e → (i : ℕ) → HeardAfter (note P V e) e i
      alone (Got s m) next = heard_got s m (V.open_at s.0) (wrong P s.0 (place_at (V.open_at s.0)) m) refl refl
      alone (Sent s (Step x ins advance)) next = heard_sent s (Step x ins advance) (ap messages_of (sym (truly V s.0 x next.0.0).closed))
      alone (Sent s (GetData wants)) next = absurd next
      alone (Sent s (Answer id content)) next = absurd next
      alone (Sent s (Refuse id reason)) next = absurd next

      goes : (o : Owed) (T : OpenTurn) → V.open_at o.sim ≡ Some T → is_step o.item ≡ false → (i : ℕ) → HeardAfter (note_sent P V o.sim o.item) (Sent (record { 0 = o.sim }) o.item) i
      goes o T is late = heard_sent (record { 0 = o.sim }) o.item (ap messages_of (open_after_is P V o.sim o.item late ∙ ap (option_map (told_more o.item)) is) ∙ ap messages_of (sym is))

      by_owed : (o : Option Owed) → V.owed ≡ o → IsNext Ready Advance P V o e → (i : ℕ) → HeardAfter (note P V e) e i
      by_owed None owes next = alone e next
      by_owed (Some o) owes next = let t = sound.turn o owes in subst (λ (f : Entry). (i : ℕ) → HeardAfter (note P V f) f i) (sym next) (goes o t.0 t.1 (sound.later o owes))

-- ---- journals

module _ (Ready : Plan → View → ℕ → Tier → Type 0) (Advance : Plan → View → ℕ → Tier → ℤ → Type 0) (P : Plan) (truly : (V : View) (s : ℕ) (x : Tier) → Ready P V s x → IsReady P V s x) where
  one_sent : (e : Entry) (es : List Entry) (i : ℕ) → sent (e ∷ es) i ≡ sent (e ∷ []) i ++ sent es i
  one_sent e es i = filter_map_append (sent_to i) (e ∷ []) es

  one_got : (e : Entry) (es : List Entry) (i : ℕ) → got (e ∷ es) i ≡ got (e ∷ []) i ++ got es i
  one_got e es i = filter_map_append (got_from i) (e ∷ []) es

  -- the items of all that was said are those that were sent
  pub said_from : (V : View) (J : List Entry) → IsSound V → IsOrderlyFrom Ready Advance P V J → (i : ℕ) → items (said (fold (note P) V J) i) ≡ items (said V i) ++ map bare (sent J i)
  unfolding SaidAfter
  said_from V [] sound orderly i = sym (append_nil (items (said V i)))
  said_from V (e ∷ es) sound orderly i =
      said_from (note P V e) es (follows Ready Advance P truly V e sound orderly.0).1 orderly.1 i
      ∙ ap (λ (l : List Item). l ++ map bare (sent es i)) (said_after Ready Advance P truly V e sound orderly.0 i)
      ∙ append_assoc (items (said V i)) (map bare (sent (e ∷ []) i)) (map bare (sent es i))
      ∙ ap (λ (l : List Item). items (said V i) ++ l) (sym (map_append bare (sent (e ∷ []) i) (sent es i)))
      ∙ ap (λ (l : List Item). items (said V i) ++ map bare l) (sym (one_sent e es i))

  fault_last : (V : View) (es : List Entry) → (V.fault ≡ None → ⊥) → IsOrderlyFrom Ready Advance P V es → es ≡ []
  fault_last V [] faulty orderly = refl
  fault_last V (e ∷ es) faulty orderly = absurd (faulty orderly.0.0)

  -- the messages that were got begin with those that were heard; without a fault they are these
  pub heard_from : (V : View) (J : List Entry) → IsSound V → IsOrderlyFrom Ready Advance P V J → (i : ℕ) → BeginsWith (heard V i ++ got J i) (heard (fold (note P) V J) i)
  unfolding HeardAfter
  heard_from V [] sound orderly i = ([], refl)
  heard_from V (e ∷ es) sound orderly i = elim (heard_after Ready Advance P truly V e sound orderly.0 i) [
    | inl same ↦ let t = heard_from (note P V e) es (follows Ready Advance P truly V e sound orderly.0).1 orderly.1 i in
        (t.0, ap (λ (l : List Message). heard V i ++ l) (one_got e es i) ∙ sym (append_assoc (heard V i) (got (e ∷ []) i) (got es i)) ∙ ap (λ (l : List Message). l ++ got es i) (sym same) ∙ t.1)
    | inr lost ↦ let last : es ≡ [] = fault_last (note P V e) es lost.0 orderly.1 in
        subst (λ (fs : List Entry). BeginsWith (heard V i ++ got (e ∷ fs) i) (heard (fold (note P) (note P V e) fs) i)) (sym last) (got (e ∷ []) i, ap (λ (l : List Message). l ++ got (e ∷ []) i) (sym lost.1))
  ]

  pub all_heard_from : (V : View) (J : List Entry) → IsSound V → IsOrderlyFrom Ready Advance P V J → (fold (note P) V J).fault ≡ None → (i : ℕ) → heard V i ++ got J i ≡ heard (fold (note P) V J) i
  unfolding HeardAfter
  all_heard_from V [] sound orderly fine i = append_nil (heard V i)
  all_heard_from V (e ∷ es) sound orderly fine i = elim (heard_after Ready Advance P truly V e sound orderly.0 i) [
    | inl same ↦ ap (λ (l : List Message). heard V i ++ l) (one_got e es i) ∙ sym (append_assoc (heard V i) (got (e ∷ []) i) (got es i)) ∙ ap (λ (l : List Message). l ++ got es i) (sym same)
        ∙ all_heard_from (note P V e) es (follows Ready Advance P truly V e sound orderly.0).1 orderly.1 fine i
    | inr lost ↦ let last : es ≡ [] = fault_last (note P V e) es lost.0 orderly.1 in absurd (lost.0 (ap (λ (fs : List Entry). (fold (note P) (note P V e) fs).fault) (sym last) ∙ fine))
  ]

  empty_sound : IsSound empty_view
  empty_sound = record { turn = λ o e. cc; later = λ o e. cc }

  pub said_is : (J : List Entry) → IsOrderlySoFar Ready Advance P J → (i : ℕ) → items (said (view P J) i) ≡ map bare (sent J i)
  said_is J orderly i = said_from empty_view J empty_sound orderly i

  pub got_begins : (J : List Entry) → IsOrderlySoFar Ready Advance P J → (i : ℕ) → BeginsWith (got J i) (heard (view P J) i)
  got_begins J orderly i = heard_from empty_view J empty_sound orderly i

  pub got_is : (J : List Entry) → IsOrderlySoFar Ready Advance P J → (view P J).fault ≡ None → (i : ℕ) → got J i ≡ heard (view P J) i
  got_is J orderly fine i = all_heard_from empty_view J empty_sound orderly fine i
