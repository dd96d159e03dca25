-- In an orderly journal without a fault the items and the messages of a simulator alternate, and
-- the first is an item.
use Rattle.std.proofs.Common.{◌≡◌, ◌⊎◌, inl, inr, ℕ, ◌+◌, ◌==◌, Bool, true, false, not, ◌&&◌, List, [], ◌∷◌, ◌++◌, length, fold, Option, Some, None, is_some, if◌then◌else◌, refl, sym, ap, ◌∙◌, subst, arith, length-append}
use Rattle.std.specs.List.{cons_option}
use Rattle.std.proofs.lemmas.Bool.{eq-eqb}
use Rattle.mk_base.specs.declared.SimNo.{SimNo}
use Rattle.mk_base.proofs.Lists.{none_some, some_same, filter_map_append}
use Rattle.mk_plan.specs.declared.Plan.{Plan}
use Rattle.mk_plan.specs.declared.Item.{Item}
use Rattle.mk_plan.specs.declared.Item.TheVariants.{Step, GetData, Answer, Refuse}
use Rattle.mk_plan.specs.declared.Message.{Message}
use Rattle.mk_plan.specs.declared.Entry.{Entry}
use Rattle.mk_plan.specs.declared.Entry.TheVariants.{Sent, Got}
use Rattle.mk_plan.specs.declared.Place.{Place}
use Rattle.mk_plan.specs.declared.Cause.{Cause}
use Rattle.mk_plan.specs.Acts.{Heard}
use Rattle.mk_plan.specs.Turns.{wrong, next_place}
use Rattle.mk_plan.specs.Journals.{View, OpenTurn, Owed, view, empty_view, sent, got, sent_to, got_from, open_after, place_at, note, note_sent, note_got, note_right}
use Rattle.mk_plan.specs.Ready.{IsReady}
use Rattle.mk_plan.specs.Advance.{IsAdvance}
use Rattle.mk_plan.specs.Orderly.{IsNext, IsAllowed, IsOrderlyFrom, IsOrderlySoFar}
use Rattle.mk_plan.proofs.OpenTurns.{stays_open}
use Rattle.mk_resume_walk.specs.Laws.{TurnsAlternate}
use Rattle.mk_base.proofs.Counts.{not_same, same_or_not}
use Rattle.mk_base.proofs.Bools.{and_false}

-- an item is owed to simulator i
abbrev is_owed : Option Owed → ℕ → Bool
is_owed None i = false
is_owed (Some o) i = o.sim == i

-- how many items of simulator i aren't answered: one, where its turn is open and nothing is owed to it
abbrev out_by : Bool → Bool → ℕ
out_by opened owed = if opened && not owed then 1 else 0

abbrev pub unanswered : View → ℕ → ℕ
unanswered V i = out_by (is_some (V.open_at i)) (is_owed V.owed i)

-- where an item is owed, the turn is open
abbrev pub OwesOpen : View → Type 0
OwesOpen V = (o : Owed) → V.owed ≡ Some o → is_some (V.open_at o.sim) ≡ true

-- an entry keeps the balance
pub record KeepsBalance (V W : View) (e : Entry) : Type 0 where
  pub owes : OwesOpen W
  pub balance : (i : ℕ) → length (sent (e ∷ []) i) + unanswered V i ≡ length (got (e ∷ []) i) + unanswered W i

sent_sim : (s t : SimNo) (item other : Item) → Sent s item ≡ Sent t other → s ≡ t
sent_sim s t item other e = cc

module _ (P : Plan) (V : View) (owes : OwesOpen V) where
  -- ---- an item

  module _ (s : SimNo) (item : Item) where
    record SendsOne : Type 0 where
      none_out : unanswered V s.0 ≡ 0
      opened : is_some (open_after P V s.0 item) ≡ true
      others : (i : ℕ) → (s.0 ≡ i → ⊥) → is_owed V.owed i ≡ false

    sends_step : (o : Option Owed) → V.owed ≡ o → IsNext IsReady IsAdvance P V o (Sent s item) → SendsOne
    sends_step (Some p) e next =
        let own : s.0 ≡ p.sim = ap (λ (t : SimNo). t.0) (sent_sim s (record { 0 = p.sim }) item p.item next) in
        let owed : is_owed V.owed s.0 ≡ true = ap (λ (o : Option Owed). is_owed o s.0) e ∙ eq-eqb p.sim s.0 (sym own) in
        record {
          none_out = ap (λ (b : Bool). out_by (is_some (V.open_at s.0)) b) owed ∙ ap (λ (b : Bool). if b then 1 else 0) (and_false (is_some (V.open_at s.0)));
          opened = stays_open P V s.0 item (ap (λ (j : ℕ). is_some (V.open_at j)) own ∙ owes p e);
          others = λ i apart. ap (λ (o : Option Owed). is_owed o i) e ∙ not_same p.sim i (λ q. apart (own ∙ q));
        }
    sends_step None e next = by_item item next
      where
        opened_by : (it : Item) → IsNext IsReady IsAdvance P V None (Sent s it) → is_some (open_after P V s.0 it) ≡ true
        opened_by (Step x ins advance) n = refl
        opened_by (GetData wants) n = absurd n
        opened_by (Answer id content) n = absurd n
        opened_by (Refuse id reason) n = absurd n

        by_item : (it : Item) → IsNext IsReady IsAdvance P V None (Sent s it) → SendsOne
        by_item (Step x ins advance) n = record {
          none_out = ap (λ (o : Option OpenTurn). out_by (is_some o) (is_owed V.owed s.0)) n.0.0.closed;
          opened = opened_by item next;
          others = λ i apart. ap (λ (o : Option Owed). is_owed o i) e;
        }
        by_item (GetData wants) n = absurd n
        by_item (Answer id content) n = absurd n
        by_item (Refuse id reason) n = absurd n

    pub item_keeps : IsAllowed IsReady IsAdvance P V (Sent s item) → KeepsBalance V (note_sent P V s.0 item) (Sent s item)
    item_keeps allowed = record {
      owes = λ o e. absurd (none_some e);
      balance = λ i. elim (same_or_not s.0 i) [
        | inl own ↦ subst (λ (j : ℕ). length (sent (Sent s item ∷ []) j) + unanswered V j ≡ length (got (Sent s item ∷ []) j) + unanswered (note_sent P V s.0 item) j) own
            (let a : length (sent (Sent s item ∷ []) s.0) ≡ 1 = ap (λ (b : Bool). length (cons_option (if b then Some item else None) [])) (eq-eqb s.0 s.0 refl) in
            let b : unanswered V s.0 ≡ 0 = t.none_out in
            let c : unanswered (note_sent P V s.0 item) s.0 ≡ 1 = ap (λ (d : Bool). out_by (is_some (if d then open_after P V s.0 item else V.open_at s.0)) false) (eq-eqb s.0 s.0 refl) ∙ ap (λ (d : Bool). out_by d false) t.opened in
            omega (arith, a, b, c))
        | inr apart ↦
            let a : length (sent (Sent s item ∷ []) i) ≡ 0 = ap (λ (b : Bool). length (cons_option (if b then Some item else None) [])) (not_same s.0 i apart) in
            let b : unanswered V i ≡ out_by (is_some (V.open_at i)) false = ap (λ (d : Bool). out_by (is_some (V.open_at i)) d) (t.others i apart) in
            let c : unanswered (note_sent P V s.0 item) i ≡ out_by (is_some (V.open_at i)) false = ap (λ (d : Bool). out_by (is_some (if d then open_after P V s.0 item else V.open_at i)) false) (not_same i s.0 (λ q. apart (sym q))) in
            omega (arith, a, b, c)
      ];
    }
      where
        t : SendsOne
        t = sends_step V.owed refl allowed.1

  -- ---- a message

  module _ (s : SimNo) (m : Message) (none : V.owed ≡ None) where
    -- what is open at s before and after it, and what is owed then
    record GetsOne (W : View) : Type 0 where
      before : is_some (V.open_at s.0) ≡ true
      here : unanswered W s.0 ≡ 0
      others : (i : ℕ) → (s.0 ≡ i → ⊥) → unanswered W i ≡ unanswered V i
      owes_now : OwesOpen W

    -- the turn with the message
    abbrev told_on : OpenTurn → Place → OpenTurn
    told_on T q = record { at = T.at; messages = T.messages ++ m ∷ []; place = q; talk = T.talk ++ Heard m ∷ [] }

    by_place : (T : OpenTurn) (q : Option Place) → V.open_at s.0 ≡ Some T → GetsOne (note_right P V s.0 m T q)
    by_place T None e = record {
      before = ap (λ (o : Option OpenTurn). is_some o) e;
      here = ap (λ (d : Bool). out_by (is_some (if d then None else V.open_at s.0)) (is_owed V.owed s.0)) (eq-eqb s.0 s.0 refl);
      others = λ i apart. ap (λ (d : Bool). out_by (is_some (if d then None else V.open_at i)) (is_owed V.owed i)) (not_same i s.0 (λ q. apart (sym q)));
      owes_now = λ o q. absurd (none_some (sym none ∙ q));
    }
    by_place T (Some q) e = record {
      before = ap (λ (o : Option OpenTurn). is_some o) e;
      here = ap (λ (d : Bool). out_by (is_some (if d then Some (told_on T q) else V.open_at s.0)) (s.0 == s.0)) (eq-eqb s.0 s.0 refl) ∙ ap (λ (d : Bool). out_by true d) (eq-eqb s.0 s.0 refl);
      others = λ i apart. ap (λ (d : Bool). out_by (is_some (if d then Some (told_on T q) else V.open_at i)) (s.0 == i)) (not_same i s.0 (λ r. apart (sym r))) ∙ ap (λ (d : Bool). out_by (is_some (V.open_at i)) d) (not_same s.0 i apart)
          ∙ sym (ap (λ (o : Option Owed). out_by (is_some (V.open_at i)) (is_owed o i)) none);
      owes_now = λ o h. let own : s.0 ≡ o.sim = ap (λ (x : Owed). x.sim) (some_same h) in ap (λ (d : Bool). is_some (if d then Some (told_on T q) else V.open_at o.sim)) (eq-eqb o.sim s.0 (sym own));
    }

    by_open : (o : Option OpenTurn) (c : Option Cause) → V.open_at s.0 ≡ o → wrong P s.0 (place_at o) m ≡ c → (note_got P V s.0 m o c).fault ≡ None → GetsOne (note_got P V s.0 m o c)
    by_open o (Some c) e w fine = absurd (none_some (sym fine))
    by_open None None e w fine = absurd (none_some (sym w))
    by_open (Some T) None e w fine = by_place T (next_place P s.0 T.place m) e

    pub message_keeps : (note P V (Got s m)).fault ≡ None → KeepsBalance V (note P V (Got s m)) (Got s m)
    message_keeps fine = record {
      owes = t.owes_now;
      balance = λ i. elim (same_or_not s.0 i) [
        | inl own ↦ subst (λ (j : ℕ). length (sent (Got s m ∷ []) j) + unanswered V j ≡ length (got (Got s m ∷ []) j) + unanswered (note P V (Got s m)) j) own
            (let a : length (got (Got s m ∷ []) s.0) ≡ 1 = ap (λ (b : Bool). length (cons_option (if b then Some m else None) [])) (eq-eqb s.0 s.0 refl) in
            let b : unanswered V s.0 ≡ 1 = ap (λ (d : Bool). out_by d (is_owed V.owed s.0)) t.before ∙ ap (λ (o : Option Owed). out_by true (is_owed o s.0)) none in
            let c = t.here in
            omega (arith, a, b, c))
        | inr apart ↦
            let a : length (got (Got s m ∷ []) i) ≡ 0 = ap (λ (b : Bool). length (cons_option (if b then Some m else None) [])) (not_same s.0 i apart) in
            let b = t.others i apart in
            omega (arith, a, b)
      ];
    }
      where
        t : GetsOne (note P V (Got s m))
        t = by_open (V.open_at s.0) (wrong P s.0 (place_at (V.open_at s.0)) m) refl refl fine

-- ---- along a journal

module _ (P : Plan) where
  fault_now : (V : View) (e : Entry) (es : List Entry) → IsOrderlyFrom IsReady IsAdvance P (note P V e) es → (fold (note P) (note P V e) es).fault ≡ None → (note P V e).fault ≡ None
  fault_now V e [] rest fine = fine
  fault_now V e (d ∷ es) rest fine = rest.0.0

  -- nothing is owed where a message comes
  none_owed : (V : View) (s : SimNo) (m : Message) → IsAllowed IsReady IsAdvance P V (Got s m) → V.owed ≡ None
  none_owed V s m allowed = go V.owed refl allowed.1
    where
      apart : (t : SimNo) (item : Item) → Got s m ≡ Sent t item → ⊥
      apart t item e = cc

      go : (o : Option Owed) → V.owed ≡ o → IsNext IsReady IsAdvance P V o (Got s m) → V.owed ≡ None
      go None e next = e
      go (Some o) e next = absurd (apart (record { 0 = o.sim }) o.item next)

  keeps : (V : View) (e : Entry) → OwesOpen V → IsAllowed IsReady IsAdvance P V e → (note P V e).fault ≡ None → KeepsBalance V (note P V e) e
  keeps V (Sent s item) owes allowed fine = item_keeps P V owes s item allowed
  keeps V (Got s m) owes allowed fine = message_keeps P V owes s m (none_owed V s m allowed) fine

  balance_from : (V : View) (es : List Entry) → OwesOpen V → IsOrderlyFrom IsReady IsAdvance P V es → (fold (note P) V es).fault ≡ None
      → (i : ℕ) → length (sent es i) + unanswered V i ≡ length (got es i) + unanswered (fold (note P) V es) i
  balance_from V [] owes orderly fine i = refl
  balance_from V (e ∷ es) owes orderly fine i =
      let k : KeepsBalance V (note P V e) e = keeps V e owes orderly.0 (fault_now V e es orderly.1 fine) in
      let first = k.balance i in
      let later = balance_from (note P V e) es k.owes orderly.1 fine i in
      let items : length (sent (e ∷ es) i) ≡ length (sent (e ∷ []) i) + length (sent es i) = ap length (filter_map_append (sent_to i) (e ∷ []) es) ∙ length-append (sent (e ∷ []) i) (sent es i) in
      let messages : length (got (e ∷ es) i) ≡ length (got (e ∷ []) i) + length (got es i) = ap length (filter_map_append (got_from i) (e ∷ []) es) ∙ length-append (got (e ∷ []) i) (got es i) in
      omega (arith, first, later, items, messages)

-- a simulator was sent as many items as messages came from it, and one more where one isn't answered
pub balanced : (P : Plan) (J : List Entry) → IsOrderlySoFar IsReady IsAdvance P J → (view P J).fault ≡ None → (i : ℕ) → length (sent J i) ≡ length (got J i) + unanswered (view P J) i
balanced P J orderly fine i = let all = balance_from P empty_view J (λ o e. absurd (none_some e)) orderly fine i in omega (arith, all)

pub alternate : TurnsAlternate
alternate P J orderly fine i = by_cases (is_some ((view P J).open_at i)) (is_owed (view P J).owed i) (balanced P J orderly fine i)
  where
    by_cases : (opened owed : Bool) → length (sent J i) ≡ length (got J i) + out_by opened owed → (length (sent J i) ≡ length (got J i)) ⊎ (length (sent J i) ≡ length (got J i) + 1)
    by_cases true true e = inl (let d : length (sent J i) ≡ length (got J i) + 0 = e in omega (arith, d))
    by_cases true false e = inr e
    by_cases false owed e = inl (let d : length (sent J i) ≡ length (got J i) + 0 = e in omega (arith, d))

-- where nothing is owed, and none isn't answered, no request is open
pub none_open : (V : View) (i : ℕ) → V.owed ≡ None → unanswered V i ≡ 0 → V.open_at i ≡ None
none_open V i paid none = go (V.open_at i) (ap (λ (p : Option Owed). out_by (is_some (V.open_at i)) (is_owed p i)) (sym paid) ∙ none)
  where
    go : (o : Option OpenTurn) → out_by (is_some o) false ≡ 0 → o ≡ None
    go None e = refl
    go (Some t) e = let one : 1 ≡ 0 = e in absurd (omega (arith, one))
