-- Where nothing is left to do there is a family that answers by kind: what came on the links, and
-- what was got of the simulators within the program.
use Rattle.std.proofs.Common.{◌≡◌, ℕ, Bool, true, false, List, [], ◌∷◌, ◌++◌, map, Option, Some, None, option_map, refl, sym, ap, ◌∙◌, subst, ◌⊎◌, inl, inr, append_assoc, true≢false, if◌then◌else◌, pos}
use Rattle.mk_base.specs.declared.SimNo.{SimNo}
use Rattle.mk_base.proofs.Lists.{append_nil, flat_map_append}
use Rattle.mk_plan.specs.declared.Plan.{Plan}
use Rattle.mk_plan.specs.declared.Item.{Item}
use Rattle.mk_plan.specs.declared.Item.TheVariants.{Step, GetData, Answer, Refuse}
use Rattle.mk_plan.specs.declared.Message.{Message}
use Rattle.mk_plan.specs.declared.Entry.{Entry}
use Rattle.mk_plan.specs.declared.Entry.TheVariants.{Sent, Got}
use Rattle.mk_plan.specs.declared.Place.{Place}
use Rattle.mk_plan.specs.declared.Cause.{Cause}
use Rattle.mk_plan.specs.Plans.{IsValidPlan}
use Rattle.mk_plan.specs.Turns.{wrong, next_place}
use Rattle.mk_plan.specs.Acts.{Said, Told, Heard, Act}
use Rattle.mk_plan.specs.Sequential.{Messages, items, talk_of, grown}
use Rattle.mk_plan.specs.Journals.{View, OpenTurn, Owed, view, sent, said, talk_at, bare, with_open, place_at, note, note_sent, note_got, note_right, open_after, told_more, ended_turn}
use Rattle.mk_plan.specs.Ready.{IsReady, IsDone}
use Rattle.mk_plan.specs.Advance.{IsAdvance}
use Rattle.mk_plan.specs.Report.{is_step}
use Rattle.mk_plan.specs.Orderly.{IsNext, IsAllowed, IsOrderlySoFar}
use Rattle.mk_plan.specs.Agreement.{Continues}
use Rattle.mk_order.proofs.Seen.{IsSound, reached_sound, open_after_is}
use Rattle.mk_order.proofs.Told.{said_is}
use Rattle.mk_order.proofs.Pushing.{view_push, orderly_front}
use Rattle.mk_run_laws.specs.Kinds.{Replies, AnswersByKind, IsKindReply, KeepsToKinds}
use Rattle.mk_run_laws.proofs.Following.{all_done}
use Rattle.mk_base.proofs.Counts.{not_same, same_or_not, same_self}

module _ (P : Plan) where
  -- what one entry adds to what was said with i: nothing, an item, or a message of the entry
  pub data Adds (V W : View) (e : Entry) (i : ℕ) : Type 0 where
    nothing : said W i ≡ said V i → Adds V W e i
    an_item : (item : Item) → said W i ≡ said V i ++ Told item ∷ [] → Adds V W e i
    a_message : (s : SimNo) (m : Message) → e ≡ Got s m → s.0 ≡ i → said W i ≡ said V i ++ Heard m ∷ [] → Adds V W e i

  open_away : (V : View) (s : ℕ) (o : Option OpenTurn) (i : ℕ) → (i ≡ s → ⊥) → with_open V s o i ≡ V.open_at i
  open_away V s o i n = ap (λ (b : Bool). if b then o else V.open_at i) (not_same i s n)

  open_here : (V : View) (s : ℕ) (o : Option OpenTurn) → with_open V s o s ≡ o
  open_here V s o = ap (λ (b : Bool). if b then o else V.open_at s) (same_self s)

  module _ (V : View) where
    after_sent : (s : SimNo) (item : Item) → (talk_at (open_after P V s.0 item) ≡ talk_at (V.open_at s.0) ++ Told (bare item) ∷ []) → (i : ℕ) → Adds V (note_sent P V s.0 item) (Sent s item) i
    after_sent s item more i = elim (same_or_not i s.0) [
      | inl q ↦ an_item (bare item) (subst (λ (j : ℕ). said (note_sent P V s.0 item) j ≡ said V j ++ Told (bare item) ∷ []) (sym q)
          (ap (λ (o : Option OpenTurn). talk_of (V.acts s.0) ++ talk_at o) (open_here V s.0 (open_after P V s.0 item)) ∙ ap (λ (l : List Said). talk_of (V.acts s.0) ++ l) more
          ∙ sym (append_assoc (talk_of (V.acts s.0)) (talk_at (V.open_at s.0)) (Told (bare item) ∷ []))))
      | inr apart ↦ nothing (ap (λ (o : Option OpenTurn). talk_of (V.acts i) ++ talk_at o) (open_away V s.0 (open_after P V s.0 item) i apart))
    ]

    after_right : (s : SimNo) (m : Message) (T : OpenTurn) (q : Option Place) → V.open_at s.0 ≡ Some T → (i : ℕ) → Adds V (note_right P V s.0 m T q) (Got s m) i
    after_right s m T (Some q) is i = elim (same_or_not i s.0) [
      | inl e ↦ a_message s m refl (sym e) (subst (λ (j : ℕ). said (note_right P V s.0 m T (Some q)) j ≡ said V j ++ Heard m ∷ []) (sym e)
          (ap (λ (o : Option OpenTurn). talk_of (V.acts s.0) ++ talk_at o) (open_here V s.0 (Some (record { at = T.at; messages = T.messages ++ m ∷ []; place = q; talk = T.talk ++ Heard m ∷ [] })))
          ∙ sym (append_assoc (talk_of (V.acts s.0)) T.talk (Heard m ∷ [])) ∙ ap (λ (o : Option OpenTurn). (talk_of (V.acts s.0) ++ talk_at o) ++ Heard m ∷ []) (sym is)))
      | inr apart ↦ nothing (ap (λ (o : Option OpenTurn). talk_of (V.acts i) ++ talk_at o) (open_away V s.0 _ i apart))
    ]
    after_right s m T None is i = elim (same_or_not i s.0) [
      | inl e ↦ a_message s m refl (sym e) (subst (λ (j : ℕ). said (note_right P V s.0 m T None) j ≡ said V j ++ Heard m ∷ []) (sym e)
          (ap (λ (o : Option OpenTurn). talk_of (grown V.acts s.0 (ended_turn T m) s.0) ++ talk_at o) (open_here V s.0 None)
          ∙ append_nil (talk_of (grown V.acts s.0 (ended_turn T m) s.0))
          ∙ ap (λ (b : Bool). talk_of (if b then V.acts s.0 ++ ended_turn T m ∷ [] else V.acts s.0)) (same_self s.0)
          ∙ flat_map_append (λ (a : Act). a.talk) (V.acts s.0) (ended_turn T m ∷ []) ∙ ap (λ (l : List Said). talk_of (V.acts s.0) ++ l) (append_nil (T.talk ++ Heard m ∷ []))
          ∙ sym (append_assoc (talk_of (V.acts s.0)) T.talk (Heard m ∷ [])) ∙ ap (λ (o : Option OpenTurn). (talk_of (V.acts s.0) ++ talk_at o) ++ Heard m ∷ []) (sym is)))
      | inr apart ↦ nothing (ap (λ (o : Option OpenTurn). talk_of (grown V.acts s.0 (ended_turn T m) i) ++ talk_at o) (open_away V s.0 None i apart)
          ∙ ap (λ (b : Bool). talk_of (if b then V.acts i ++ ended_turn T m ∷ [] else V.acts i) ++ talk_at (V.open_at i)) (not_same i s.0 apart))
    ]

    after_got : (s : SimNo) (m : Message) (o : Option OpenTurn) (c : Option Cause) → V.open_at s.0 ≡ o → (i : ℕ) → Adds V (note_got P V s.0 m o c) (Got s m) i
    after_got s m o (Some c) is i = nothing refl
    after_got s m None None is i = nothing refl
    after_got s m (Some T) None is i = after_right s m T (next_place P s.0 T.place m) is i

    bare_itself : (item : Item) → is_step item ≡ false → bare item ≡ item
    bare_itself (Step x ins advance) h = absurd (true≢false h)
    bare_itself (GetData wants) h = refl
    bare_itself (Answer id content) h = refl
    bare_itself (Refuse id reason) h = refl

    after_entry : (e : Entry) → IsSound V → IsAllowed IsReady IsAdvance P V e → (i : ℕ) → Adds V (note P V e) e i
    after_entry e sound allowed = by_owed V.owed refl allowed.1
      where
        alone : (e : Entry) → IsNext IsReady IsAdvance P V None e → (i : ℕ) → Adds V (note P V e) e i
        alone (Got s m) next = after_got s m (V.open_at s.0) (wrong P s.0 (place_at (V.open_at s.0)) m) refl
        alone (Sent s (Step x ins advance)) next = after_sent s (Step x ins advance) (ap (λ (o : Option OpenTurn). talk_at o ++ Told (Step x ins (pos 0)) ∷ []) (sym next.0.0.closed))
        alone (Sent s (GetData wants)) next = absurd next
        alone (Sent s (Answer id content)) next = absurd next
        alone (Sent s (Refuse id reason)) next = absurd next

        goes : (o : Owed) (T : OpenTurn) → V.open_at o.sim ≡ Some T → is_step o.item ≡ false → (i : ℕ) → Adds V (note_sent P V o.sim o.item) (Sent (record { 0 = o.sim }) o.item) i
        goes o T is late = after_sent (record { 0 = o.sim }) o.item (ap talk_at (open_after_is P V o.sim o.item late ∙ ap (option_map (told_more o.item)) is)
            ∙ ap (λ (item : Item). T.talk ++ Told item ∷ []) (sym (bare_itself o.item late)) ∙ ap (λ (p : Option OpenTurn). talk_at p ++ Told (bare o.item) ∷ []) (sym is))

        by_owed : (o : Option Owed) → V.owed ≡ o → IsNext IsReady IsAdvance P V o e → (i : ℕ) → Adds V (note P V e) e i
        by_owed None owes next = alone e next
        by_owed (Some o) owes next = let t = sound.turn o owes in subst (λ (f : Entry). (i : ℕ) → Adds V (note P V f) f i) (sym next) (goes o t.0 t.1 (sound.later o owes))

  module _ (reply : Replies) (inside : ℕ → Bool) where
    -- each message that was said with i is its kind's reply to the items before it
    abbrev AllReplies : List Said → ℕ → Type 0
    AllReplies talk i = (before later : List Said) (m : Message) → talk ≡ before ++ Heard m ∷ later → m ≡ reply i (items before)

    heads : {x y : Said} {xs ys : List Said} → x ∷ xs ≡ y ∷ ys → (x ≡ y) × (xs ≡ ys)
    heads e = (cc, cc)

    not_empty : (a b : List Said) (x : Said) → [] ≡ a ++ x ∷ b → ⊥
    not_empty [] b x e = cc
    not_empty (y ∷ a) b x e = cc

    last_or_before : (talk : List Said) (x : Said) (before : List Said) (y : Said) (later : List Said) → talk ++ x ∷ [] ≡ before ++ y ∷ later → ((talk ≡ before) × (x ≡ y)) ⊎ ((less : List Said) × (talk ≡ before ++ y ∷ less))
    last_or_before [] x [] y later q = inl (refl, (heads q).0)
    last_or_before [] x (h ∷ before) y later q = absurd (not_empty before later y (heads q).1)
    last_or_before (z ∷ talk) x [] y later q = inr (talk, ap (λ (w : Said). w ∷ talk) (heads q).0)
    last_or_before (z ∷ talk) x (h ∷ before) y later q = elim (last_or_before talk x before y later (heads q).1) [
      | inl t ↦ inl ((λ i. (heads q).0 i ∷ t.0 i), t.1)
      | inr t ↦ inr (t.0, (λ i. (heads q).0 i ∷ t.1 i))
    ]

    -- one more entry
    one_more : (H : List Entry) (e : Entry) (i : ℕ) → IsOrderlySoFar IsReady IsAdvance P H → ((s : SimNo) (m : Message) → e ≡ Got s m → inside s.0 ≡ true → IsKindReply reply P H s.0 m) → inside i ≡ true → AllReplies (said (view P H) i) i → (W : View)
        → Adds (view P H) W e i → AllReplies (said W i) i
    one_more H e i orderly kind here all W (nothing same) before later m q = all before later m (sym same ∙ q)
    one_more H e i orderly kind here all W (an_item item same) before later m q = elim (last_or_before (said (view P H) i) (Told item) before (Heard m) later (sym same ∙ q)) [
      | inl t ↦ absurd (apart t.1)
      | inr t ↦ all before t.0 m t.1
    ]
      where
        apart : Told item ≡ Heard m → ⊥
        apart e = cc
    one_more H e i orderly kind here all W (a_message s n is at same) before later m q = elim (last_or_before (said (view P H) i) (Heard n) before (Heard m) later (sym same ∙ q)) [
      | inl t ↦ sym (one t.1) ∙ (kind s n is (ap inside at ∙ here)).is ∙ ap (λ (j : ℕ). reply j (map bare (sent H j))) at ∙ ap (reply i) (sym (said_is IsReady IsAdvance P (λ V s x r. r) H orderly i)) ∙ ap (λ (l : List Said). reply i (items l)) t.0
      | inr t ↦ all before t.0 m t.1
    ]
      where
        one : Heard n ≡ Heard m → n ≡ m
        one e = cc

    -- from each point of the journal on
    walk : (J : List Entry) → IsOrderlySoFar IsReady IsAdvance P J → KeepsToKinds reply inside P J → (i : ℕ) → inside i ≡ true → (H K : List Entry) → J ≡ H ++ K → AllReplies (said (view P H) i) i → AllReplies (said (view P J) i) i
    walk J orderly keeps i here H [] is all = subst (λ (G : List Entry). AllReplies (said (view P G) i) i) (sym (append_nil H) ∙ sym is) all
    walk J orderly keeps i here H (e ∷ K) is all = walk J orderly keeps i here (H ++ e ∷ []) K (is ∙ sym (append_assoc H (e ∷ []) K))
        (let t = orderly_front IsReady IsAdvance P H (e ∷ K) (subst (λ (G : List Entry). IsOrderlySoFar IsReady IsAdvance P G) is orderly) in
        subst (λ (W : View). AllReplies (said W i) i) (sym (view_push P H e))
        (one_more H e i t.0 (λ s m q inner. keeps H s m K (is ∙ ap (λ (f : Entry). H ++ f ∷ K) q) inner) here all (note P (view P H) e)
        (after_entry (view P H) e (reached_sound IsReady IsAdvance P (λ V s x r. r) H t.0) t.1.0 i)))

    -- at the end every family that goes on with the journal answers by kind
    pub done_answers : IsValidPlan P → (J : List Entry) → IsOrderlySoFar IsReady IsAdvance P J → KeepsToKinds reply inside P J → IsDone P (view P J) → (R : Messages) → Continues P J R → AnswersByKind reply inside P R
    done_answers valid J orderly keeps done R cont = record {
      uncut = λ i low here. (all_done P valid J orderly done R cont i).ended;
      replies = λ i low here before later m is. walk J orderly keeps i here [] J refl (λ b l n e. absurd (not_empty b l (Heard n) e)) before later m ((all_done P valid J orderly done R cont i).talk ∙ is);
    }
