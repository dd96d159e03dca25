-- The id of what is open is the one that comes next when items are counted.
use Rattle.std.proofs.Common.{◌≡◌, ℕ, suc, ◌+◌, Bool, true, false, List, [], ◌∷◌, ◌++◌, length, map, filter, fold, Option, Some, None, option_map, refl, sym, ap, ◌∙◌, subst, inl, inr, arith, length-append, if◌then◌else◌, ℤ, cond}
use Rattle.std.proofs.lemmas.List.Sums.{sum_by-append}
use Rattle.mk_base.specs.declared.tier.Tier.{Tier}
use Rattle.mk_base.proofs.Lists.{append_nil, none_some, some_same, filter_append, filter_map_append}
use Rattle.mk_plan.specs.declared.Plan.{Plan}
use Rattle.mk_plan.specs.declared.Input.{Input}
use Rattle.mk_plan.specs.declared.Item.{Item}
use Rattle.mk_plan.specs.declared.Item.TheVariants.{Step, GetData, Answer, Refuse}
use Rattle.mk_plan.specs.declared.Message.{Message}
use Rattle.mk_plan.specs.declared.Message.TheVariants.{Ask, Success, Failure}
use Rattle.mk_plan.specs.declared.Entry.{Entry}
use Rattle.mk_plan.specs.declared.Entry.TheVariants.{Sent, Got}
use Rattle.mk_plan.specs.declared.Place.{Place}
use Rattle.mk_plan.specs.declared.Place.TheVariants.{Idle, Stepping, Fetching}
use Rattle.mk_plan.specs.declared.Cause.{Cause}
use Rattle.mk_plan.specs.Plans.{first_id, has_outputs}
use Rattle.mk_plan.specs.Turns.{wrong, next_place}
use Rattle.mk_plan.specs.Acts.{Said, Told, Heard, Act}
use Rattle.mk_plan.specs.Asks.{AskAnswer, Answered, Refused, item_of, answer}
use Rattle.mk_plan.specs.Inputs.{value_at}
use Rattle.mk_plan.specs.Deliveries.{supply}
use Rattle.mk_plan.specs.Sequential.{ids_used, items, told, talk_of, response, opening, takes_id, id_after}
use Rattle.mk_plan.specs.Journals.{View, OpenTurn, Owed, empty_view, view, sent, bare, said, talk_at, with_open, place_at, note, note_sent, note_got, note_right, open_after, told_more, ended_turn}
use Rattle.mk_plan.specs.Ready.{IsReady}
use Rattle.mk_plan.specs.Advance.{IsAdvance}
use Rattle.mk_plan.specs.Orderly.{IsNext, IsAllowed, IsOrderlyFrom, IsOrderlySoFar}
use Rattle.mk_order.proofs.Seen.{IsSound, follows, owed_at, open_after_is}
use Rattle.mk_order.proofs.Told.{said_is}
use Rattle.mk_base.proofs.Counts.{not_same, same_or_not, same_self}

-- ---- counting

-- how many ids these items took
abbrev pub own : List Said → ℕ
own l = length (filter takes_id (items l))

own_more : (a b : List Said) → own (a ++ b) ≡ own a + own b
own_more a b = ap (λ (l : List Item). length (filter takes_id l)) (filter_map_append told a b) ∙ ap length (filter_append takes_id (items a) (items b)) ∙ length-append (filter takes_id (items a)) (filter takes_id (items b))

own_heard : (a : List Said) (m : Message) → own (a ++ Heard m ∷ []) ≡ own a
own_heard a m = let e = own_more a (Heard m ∷ []) in omega (arith, e)

one_used : (a : Act) → ids_used (a ∷ []) ≡ own a.talk
one_used a = go a.talk
  where
    go : (l : List Said) → ids_used (record { at = a.at; messages = a.messages; ended = a.ended; talk = l } ∷ []) ≡ own l
    go [] = refl
    go (Told (Step x ins advance) ∷ l) = let h = go l in omega (arith, h)
    go (Told (GetData wants) ∷ l) = let h = go l in omega (arith, h)
    go (Told (Answer id content) ∷ l) = go l
    go (Told (Refuse id reason) ∷ l) = go l
    go (Heard m ∷ l) = go l

pub used_is : (acts : List Act) → ids_used acts ≡ own (talk_of acts)
used_is [] = refl
used_is (a ∷ acts) =
    let both : ids_used (a ∷ acts) ≡ ids_used (a ∷ []) + ids_used acts = sum_by-append _ (a ∷ []) acts in
    both ∙ (λ i. one_used a i + used_is acts i) ∙ sym (own_more a.talk (talk_of acts))

-- items without their max_advance take as many
pub bare_takes : (l : List Item) → length (filter takes_id (map bare l)) ≡ length (filter takes_id l)
bare_takes [] = refl
bare_takes (Step x ins advance ∷ l) = ap suc (bare_takes l)
bare_takes (GetData wants ∷ l) = ap suc (bare_takes l)
bare_takes (Answer id content ∷ l) = bare_takes l
bare_takes (Refuse id reason ∷ l) = bare_takes l

-- ---- what is open

module _ (P : Plan) where
  -- the first id that is free after the acts of i
  abbrev free_at : View → ℕ → ℕ
  free_at V i = first_id P i + ids_used (V.acts i)

  -- at this place the ids are right, where this was said in the turn, what is owed among it
  abbrev HasNumber : ℕ → Place → List Said → Type 0
  HasNumber free Idle talk = ⊥
  HasNumber free (Stepping at id asks) talk = (id ≡ free) × (own talk ≡ 1)
  HasNumber free (Fetching at id) talk = (id ≡ free + 1) × (own talk ≡ 2)

  abbrev IsNumbered : View → Type 0
  IsNumbered V = (i : ℕ) (T : OpenTurn) → V.open_at i ≡ Some T → HasNumber (free_at V i) T.place (T.talk ++ owed_at V.owed i)

  open_away : (V : View) (s : ℕ) (o : Option OpenTurn) (i : ℕ) → (i ≡ s → ⊥) → with_open V s o i ≡ V.open_at i
  open_away V s o i n = ap (λ (b : Bool). if b then o else V.open_at i) (not_same i s n)

  open_here : (V : View) (s : ℕ) (o : Option OpenTurn) → with_open V s o s ≡ o
  open_here V s o = ap (λ (b : Bool). if b then o else V.open_at s) (same_self s)

  owed_away : (s : ℕ) (item : Item) (i : ℕ) → (i ≡ s → ⊥) → owed_at (Some (record { sim = s; item = item })) i ≡ []
  owed_away s item i n = ap (λ (b : Bool). if b then Told item ∷ [] else []) (not_same s i (λ e. n (sym e)))

  owed_here : (s : ℕ) (item : Item) → owed_at (Some (record { sim = s; item = item })) s ≡ Told item ∷ []
  owed_here s item = ap (λ (b : Bool). if b then Told item ∷ [] else []) (same_self s)

  -- another simulator's number stays
  stays : (V W : View) (i : ℕ) (T : OpenTurn) → IsNumbered V → W.open_at i ≡ Some T → W.open_at i ≡ V.open_at i → W.acts i ≡ V.acts i → owed_at W.owed i ≡ owed_at V.owed i → HasNumber (free_at W i) T.place (T.talk ++ owed_at W.owed i)
  stays V W i T numbered is same acts owes = subst (λ (l : List Said). HasNumber (free_at W i) T.place (T.talk ++ l)) (sym owes)
      (subst (λ (a : List Act). HasNumber (first_id P i + ids_used a) T.place (T.talk ++ owed_at V.owed i)) (sym acts) (numbered i T (sym same ∙ is)))

  -- this is the id of the place
  abbrev pub HasId : Place → ℕ → Type 0
  HasId Idle n = ⊥
  HasId (Stepping at id asks) n = id ≡ n
  HasId (Fetching at id) n = id ≡ n

  -- the item that follows a right message takes an id where the place is that of a GetData
  answer_takes : (V : View) (s : ℕ) (x : Tier) (o : Place) (m : Message) (q : Place) (free : ℕ) (talk : List Said) → next_place P s o m ≡ Some q → HasNumber free o talk → HasNumber free q ((talk ++ Heard m ∷ []) ++ Told (response P (supply P V.acts) s x o m) ∷ [])
  answer_takes V s x Idle m q free talk e h = absurd h
  answer_takes V s x (Stepping at id asks) (Ask n name args named) q free talk e h = subst (λ (p : Place). HasNumber free p ((talk ++ Heard (Ask n name args named) ∷ []) ++ Told (item_of n (answer P (value_at (supply P V.acts) x) s name args named)) ∷ [])) (some_same e)
      (h.0, own_more (talk ++ Heard (Ask n name args named) ∷ []) _ ∙ (let a = own_heard talk (Ask n name args named) in let b = none (answer P (value_at (supply P V.acts) x) s name args named) in let c = h.1 in omega (arith, a, b, c)))
    where
      none : (a : AskAnswer) → own (Told (item_of n a) ∷ []) ≡ 0
      none (Answered content sets) = refl
      none (Refused k) = refl
  answer_takes V s x (Stepping at id asks) (Success n content) q free talk e h = by_outputs (has_outputs P s) e
    where
      by_outputs : (b : Bool) → (if b then Some (Fetching at (id + 1)) else None) ≡ Some q → HasNumber free q ((talk ++ Heard (Success n content) ∷ []) ++ Told (response P (supply P V.acts) s x (Stepping at id asks) (Success n content)) ∷ [])
      by_outputs false e = absurd (none_some e)
      by_outputs true e = subst (λ (p : Place). HasNumber free p ((talk ++ Heard (Success n content) ∷ []) ++ Told (response P (supply P V.acts) s x (Stepping at id asks) (Success n content)) ∷ [])) (some_same e)
          (ap (λ (k : ℕ). k + 1) h.0, own_more (talk ++ Heard (Success n content) ∷ []) _ ∙ (let a = own_heard talk (Success n content) in let c = h.1 in omega (arith, a, c)))
  answer_takes V s x (Stepping at id asks) (Failure n text) q free talk e h = absurd (none_some e)
  answer_takes V s x (Fetching at id) m q free talk e h = absurd (none_some e)

  module _ (V : View) (sound : IsSound V) (numbered : IsNumbered V) where
    -- what is owed is sent
    after_owed : (o : Owed) → V.owed ≡ Some o → IsNumbered (note_sent P V o.sim o.item)
    after_owed o owes i T is = elim (same_or_not i o.sim) [
      | inl q ↦ subst (λ (j : ℕ). (note_sent P V o.sim o.item).open_at j ≡ Some T → HasNumber (free_at V j) T.place (T.talk ++ [])) (sym q) here is
      | inr apart ↦ stays V (note_sent P V o.sim o.item) i T numbered is (open_away V o.sim (open_after P V o.sim o.item) i apart) refl
          (sym (ap (λ (p : Option Owed). owed_at p i) owes ∙ owed_away o.sim o.item i apart))
    ]
      where
        t : (T : OpenTurn) × (V.open_at o.sim ≡ Some T)
        t = sound.turn o owes

        here : (note_sent P V o.sim o.item).open_at o.sim ≡ Some T → HasNumber (free_at V o.sim) T.place (T.talk ++ [])
        here e =
            let old : HasNumber (free_at V o.sim) (t.0).place ((t.0).talk ++ Told o.item ∷ []) = subst (λ (l : List Said). HasNumber (free_at V o.sim) (t.0).place ((t.0).talk ++ l)) (ap (λ (p : Option Owed). owed_at p o.sim) owes ∙ owed_here o.sim o.item) (numbered o.sim t.0 t.1) in
            let same : told_more o.item t.0 ≡ T = some_same (sym (ap (option_map (told_more o.item)) t.1) ∙ sym (open_after_is P V o.sim o.item (sound.later o owes)) ∙ sym (open_here V o.sim (open_after P V o.sim o.item)) ∙ e) in
            subst (λ (l : List Said). HasNumber (free_at V o.sim) T.place l) (sym (append_nil T.talk)) (subst (λ (U : OpenTurn). HasNumber (free_at V o.sim) U.place U.talk) same old)

    -- a Step is sent
    after_step : (s : ℕ) (x : Tier) (ins : List Input) (advance : ℤ) → V.owed ≡ None → IsNumbered (note_sent P V s (Step x ins advance))
    after_step s x ins advance owes i T is = elim (same_or_not i s) [
      | inl q ↦ subst (λ (j : ℕ). (note_sent P V s (Step x ins advance)).open_at j ≡ Some T → HasNumber (free_at V j) T.place (T.talk ++ [])) (sym q) here is
      | inr apart ↦ stays V (note_sent P V s (Step x ins advance)) i T numbered is (open_away V s (open_after P V s (Step x ins advance)) i apart) refl (sym (ap (λ (p : Option Owed). owed_at p i) owes))
    ]
      where
        here : (note_sent P V s (Step x ins advance)).open_at s ≡ Some T → HasNumber (free_at V s) T.place (T.talk ++ [])
        here e = subst (λ (U : OpenTurn). HasNumber (free_at V s) U.place (U.talk ++ [])) (some_same (sym (open_here V s (open_after P V s (Step x ins advance))) ∙ e)) (refl, refl)

    -- a message comes
    after_right : (s : ℕ) (m : Message) (T : OpenTurn) (q : Option Place) → V.owed ≡ None → V.open_at s ≡ Some T → next_place P s T.place m ≡ q → IsNumbered (note_right P V s m T q)
    after_right s m T (Some q) owes is goes i U e = elim (same_or_not i s) [
      | inl p ↦ subst (λ (j : ℕ). (note_right P V s m T (Some q)).open_at j ≡ Some U → HasNumber (free_at V j) U.place (U.talk ++ owed_at (note_right P V s m T (Some q)).owed j)) (sym p) here e
      | inr apart ↦ stays V (note_right P V s m T (Some q)) i U numbered e (open_away V s _ i apart) refl (owed_away s _ i apart ∙ sym (ap (λ (p : Option Owed). owed_at p i) owes))
    ]
      where
        old : HasNumber (free_at V s) T.place T.talk
        old = subst (λ (l : List Said). HasNumber (free_at V s) T.place l) (append_nil T.talk) (subst (λ (p : Option Owed). HasNumber (free_at V s) T.place (T.talk ++ owed_at p s)) owes (numbered s T is))

        here : (note_right P V s m T (Some q)).open_at s ≡ Some U → HasNumber (free_at V s) U.place (U.talk ++ owed_at (note_right P V s m T (Some q)).owed s)
        here e = subst (λ (l : List Said). HasNumber (free_at V s) U.place (U.talk ++ l)) (sym (owed_here s (response P (supply P V.acts) s T.at T.place m)))
            (subst (λ (W : OpenTurn). HasNumber (free_at V s) W.place (W.talk ++ Told (response P (supply P V.acts) s T.at T.place m) ∷ [])) (some_same (sym (open_here V s _) ∙ e))
            (answer_takes V s T.at T.place m q (free_at V s) T.talk goes old))
    after_right s m T None owes is goes i U e = elim (same_or_not i s) [
      | inl p ↦ absurd (none_some (sym (open_here V s None) ∙ ap (note_right P V s m T None).open_at (sym p) ∙ e))
      | inr apart ↦ stays V (note_right P V s m T None) i U numbered e (open_away V s None i apart) (ap (λ (b : Bool). if b then V.acts i ++ ended_turn T m ∷ [] else V.acts i) (not_same i s apart)) refl
    ]

    after_message : (s : ℕ) (m : Message) (o : Option OpenTurn) (c : Option Cause) → V.owed ≡ None → V.open_at s ≡ o → IsNumbered (note_got P V s m o c)
    after_message s m o (Some c) owes is = numbered
    after_message s m None None owes is = numbered
    after_message s m (Some T) None owes is = after_right s m T (next_place P s T.place m) owes is refl

    after_entry : (e : Entry) → IsAllowed IsReady IsAdvance P V e → IsNumbered (note P V e)
    after_entry e allowed = by_owed V.owed refl allowed.1
      where
        alone : (e : Entry) → V.owed ≡ None → IsNext IsReady IsAdvance P V None e → IsNumbered (note P V e)
        alone (Got s m) owes next = after_message s.0 m (V.open_at s.0) (wrong P s.0 (place_at (V.open_at s.0)) m) owes refl
        alone (Sent s (Step x ins advance)) owes next = after_step s.0 x ins advance owes
        alone (Sent s (GetData wants)) owes next = absurd next
        alone (Sent s (Answer id content)) owes next = absurd next
        alone (Sent s (Refuse id reason)) owes next = absurd next

        by_owed : (o : Option Owed) → V.owed ≡ o → IsNext IsReady IsAdvance P V o e → IsNumbered (note P V e)
        by_owed None owes next = alone e owes next
        by_owed (Some o) owes next = subst (λ (f : Entry). IsNumbered (note P V f)) (sym next) (after_owed o owes)

  from : (V : View) (J : List Entry) → IsSound V → IsNumbered V → IsOrderlyFrom IsReady IsAdvance P V J → IsNumbered (fold (note P) V J)
  from V [] sound numbered orderly = numbered
  from V (e ∷ J) sound numbered orderly = from (note P V e) J (follows IsReady IsAdvance P (λ W s x r. r) V e sound orderly.0).1 (after_entry V sound numbered e orderly.0) orderly.1

  numbered_view : (J : List Entry) → IsOrderlySoFar IsReady IsAdvance P J → IsNumbered (view P J)
  numbered_view J orderly = from empty_view J (record { turn = λ o e. absurd (none_some e); later = λ o e. absurd (none_some e) }) (λ i T e. absurd (none_some e)) orderly

  -- the next id of simulator i after the items of an orderly journal
  next_is : (J : List Entry) → IsOrderlySoFar IsReady IsAdvance P J → (i : ℕ) → id_after (first_id P i) (sent J i) ≡ (first_id P i + ids_used ((view P J).acts i)) + own (talk_at ((view P J).open_at i))
  next_is J orderly i =
      let said_all = said_is IsReady IsAdvance P (λ V s x r. r) J orderly i in
      let a : length (filter takes_id (sent J i)) ≡ own (said (view P J) i) = sym (bare_takes (sent J i)) ∙ ap (λ (l : List Item). length (filter takes_id l)) (sym said_all) in
      let b = own_more (talk_of ((view P J).acts i)) (talk_at ((view P J).open_at i)) in
      let c = used_is ((view P J).acts i) in
      omega (arith, a, b, c)

  -- a Step that is asked where nothing is open takes the next id
  pub step_id : (J : List Entry) → IsOrderlySoFar IsReady IsAdvance P J → (s : ℕ) (x : Tier) → (view P J).open_at s ≡ None → opening P s x ((view P J).acts s) ≡ Stepping x (id_after (first_id P s) (sent J s)) 0
  step_id J orderly s x shut = ap (λ (n : ℕ). Stepping x n 0) (let a = next_is J orderly s in let b : own (talk_at ((view P J).open_at s)) ≡ 0 = ap (λ (o : Option OpenTurn). own (talk_at o)) shut in omega (arith, a, b))

  -- a GetData that is owed takes the next id, which is that of its place
  pub data_id : (J : List Entry) → IsOrderlySoFar IsReady IsAdvance P J → (s : ℕ) (T : OpenTurn) (at : Tier) (id : ℕ) (item : Item) → (view P J).open_at s ≡ Some T → T.place ≡ Fetching at id → (view P J).owed ≡ Some (record { sim = s; item = item }) → takes_id item ≡ true
      → id ≡ id_after (first_id P s) (sent J s)
  data_id J orderly s T at id item is place owes takes =
      let h : HasNumber (first_id P s + ids_used ((view P J).acts s)) (Fetching at id) (T.talk ++ Told item ∷ []) = subst (λ (p : Place). HasNumber (first_id P s + ids_used ((view P J).acts s)) p (T.talk ++ Told item ∷ [])) place
      (subst (λ (l : List Said). HasNumber (first_id P s + ids_used ((view P J).acts s)) T.place (T.talk ++ l)) (ap (λ (p : Option Owed). owed_at p s) owes ∙ owed_here s item) (numbered_view J orderly s T is)) in
      let a = next_is J orderly s in
      let b : own (talk_at ((view P J).open_at s)) ≡ own T.talk = ap (λ (o : Option OpenTurn). own (talk_at o)) is in
      let c = own_more T.talk (Told item ∷ []) in
      let d : own (Told item ∷ []) ≡ 1 = ap (λ (t : Bool). length (cond t (item ∷ []) [])) takes in
      let e = h.0 in
      let f = h.1 in
      omega (arith, a, b, c, d, e, f)

  -- the same at whatever place: an item that is owed and takes an id takes that of the place
  pub owed_id : (J : List Entry) → IsOrderlySoFar IsReady IsAdvance P J → (s : ℕ) (T : OpenTurn) (item : Item) → (view P J).open_at s ≡ Some T → (view P J).owed ≡ Some (record { sim = s; item = item }) → takes_id item ≡ true → (place : Place) → T.place ≡ place
      → HasId place (id_after (first_id P s) (sent J s))
  owed_id J orderly s T item is owes takes Idle e = subst (λ (p : Place). HasNumber (first_id P s + ids_used ((view P J).acts s)) p (T.talk ++ owed_at (view P J).owed s)) e (numbered_view J orderly s T is)
  owed_id J orderly s T item is owes takes (Stepping at id asks) e =
      let h : HasNumber (first_id P s + ids_used ((view P J).acts s)) (Stepping at id asks) (T.talk ++ Told item ∷ []) = subst (λ (p : Place). HasNumber (first_id P s + ids_used ((view P J).acts s)) p (T.talk ++ Told item ∷ [])) e
      (subst (λ (l : List Said). HasNumber (first_id P s + ids_used ((view P J).acts s)) T.place (T.talk ++ l)) (ap (λ (p : Option Owed). owed_at p s) owes ∙ owed_here s item) (numbered_view J orderly s T is)) in
      let a = next_is J orderly s in
      let b : own (talk_at ((view P J).open_at s)) ≡ own T.talk = ap (λ (o : Option OpenTurn). own (talk_at o)) is in
      let c = own_more T.talk (Told item ∷ []) in
      let d : own (Told item ∷ []) ≡ 1 = ap (λ (t : Bool). length (cond t (item ∷ []) [])) takes in
      let f = h.0 in
      let g = h.1 in
      omega (arith, a, b, c, d, f, g)
  owed_id J orderly s T item is owes takes (Fetching at id) e = data_id J orderly s T at id item is e owes takes
