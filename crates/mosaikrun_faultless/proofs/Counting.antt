-- A journal without a fault has no more entries than were said with its simulators.
use Rattle.std.proofs.Common.{◌≡◌, inl, inr, ℕ, ◌+◌, ◌<◌, ◌≤◌, Bool, List, [], ◌∷◌, ◌++◌, length, flat_map, fold, Option, Some, None, if◌then◌else◌, option_map, false, pos, refl, sym, ap, ◌∙◌, subst, append_assoc, length-append, arith}
use Rattle.std.specs.List.{range_with_len}
use Rattle.std.proofs.lemmas.Bool.{cases_lt}
use Rattle.std.proofs.lemmas.List.Sums.{fold-append}
use Rattle.mk_base.specs.declared.tier.Tier.{Tier}
use Rattle.mk_base.proofs.Lists.{append_nil, flat_map_append, range_in}
use Rattle.mk_plan.specs.declared.Plan.{Plan}
use Rattle.mk_plan.specs.declared.Item.{Item}
use Rattle.mk_plan.specs.declared.Item.TheVariants.{Step, GetData, Answer, Refuse}
use Rattle.mk_plan.specs.declared.Message.{Message}
use Rattle.mk_plan.specs.declared.Entry.{Entry}
use Rattle.mk_plan.specs.declared.Entry.TheVariants.{Sent, Got}
use Rattle.mk_plan.specs.declared.Place.{Place}
use Rattle.mk_plan.specs.declared.Cause.{Cause}
use Rattle.mk_plan.specs.Plans.{IsValidPlan, sim_count}
use Rattle.mk_plan.specs.Turns.{wrong, next_place}
use Rattle.mk_plan.specs.Acts.{Act, Said, Told, Heard}
use Rattle.mk_plan.specs.Sequential.{grown, talk_of}
use Rattle.mk_plan.specs.Journals.{View, OpenTurn, Owed, view, empty_view, note, said, sim_of, talk_at, with_open, place_at, note_sent, note_got, note_right, open_after, told_more, ended_turn}
use Rattle.mk_plan.specs.Ready.{IsReady}
use Rattle.mk_plan.specs.Advance.{IsAdvance}
use Rattle.mk_plan.specs.Report.{is_step}
use Rattle.mk_plan.specs.Orderly.{IsNext, IsAllowed, IsOrderlyFrom, IsOrderlySoFar}
use Rattle.mk_order_any.proofs.Lists.{same_or_not}
use Rattle.mk_order_any.proofs.Talks.{above}
use Rattle.mk_order.proofs.Theory.{parts, laws}
use Rattle.mk_order.proofs.Seen.{IsSound, at_self, open_after_is, ready_seen, reached, reached_sound, seen, turn_of}
use Rattle.mk_order.proofs.Pushing.{orderly_front, view_push}
use Rattle.mosaikrun_faultless.proofs.Asked.{ready_low}
use Rattle.mosaikrun_faultless.proofs.Sums.{one_longer, one_shorter}
use Rattle.mk_base.proofs.Items.{some_none}
use Rattle.mk_base.proofs.Counts.{not_same, same_self}

-- all that was said, with one simulator after another
abbrev pub all_said : Plan → List Entry → List Said
all_said P J = flat_map (said (view P J)) (range_with_len 0 (sim_count P))

module _ (P : Plan) (V : View) where
  -- one thing more was said with s, and nothing with the others
  record SaysMore (W : View) (s : ℕ) : Type 0 where
    pub more : Said
    pub own : said W s ≡ said V s ++ more ∷ []
    pub others : (i : ℕ) → (i ≡ s → ⊥) → said W i ≡ said V i

  away : (s : ℕ) (o : Option OpenTurn) (i : ℕ) → (i ≡ s → ⊥) → with_open V s o i ≡ V.open_at i
  away s o i n = ap (λ (b : Bool). if b then o else V.open_at i) (not_same i s n)

  sent_more : (s : ℕ) (item : Item) (x : Said) → talk_at (open_after P V s item) ≡ talk_at (V.open_at s) ++ x ∷ [] → SaysMore (note_sent P V s item) s
  sent_more s item x more = record {
    more = x;
    own = ap (λ (o : Option OpenTurn). talk_of (V.acts s) ++ talk_at o) (at_self P V s (open_after P V s item)) ∙ ap (λ (l : List Said). talk_of (V.acts s) ++ l) more ∙ sym (append_assoc (talk_of (V.acts s)) (talk_at (V.open_at s)) (x ∷ []));
    others = λ i n. ap (λ (o : Option OpenTurn). talk_of (V.acts i) ++ talk_at o) (away s (open_after P V s item) i n);
  }

  right_more : (s : ℕ) (m : Message) (T : OpenTurn) (q : Option Place) → V.open_at s ≡ Some T → SaysMore (note_right P V s m T q) s
  right_more s m T (Some q) is = record {
    more = Heard m;
    own = ap (λ (o : Option OpenTurn). talk_of (V.acts s) ++ talk_at o) (at_self P V s (Some (record { at = T.at; messages = T.messages ++ m ∷ []; place = q; talk = T.talk ++ Heard m ∷ [] })))
        ∙ sym (append_assoc (talk_of (V.acts s)) T.talk (Heard m ∷ [])) ∙ ap (λ (o : Option OpenTurn). (talk_of (V.acts s) ++ talk_at o) ++ Heard m ∷ []) (sym is);
    others = λ i n. ap (λ (o : Option OpenTurn). talk_of (V.acts i) ++ talk_at o) (away s _ i n);
  }
  right_more s m T None is = record {
    more = Heard m;
    own = ap (λ (o : Option OpenTurn). talk_of (grown V.acts s (ended_turn T m) s) ++ talk_at o) (at_self P V s None)
        ∙ append_nil (talk_of (grown V.acts s (ended_turn T m) s))
        ∙ ap (λ (b : Bool). talk_of (if b then V.acts s ++ ended_turn T m ∷ [] else V.acts s)) (same_self s)
        ∙ flat_map_append (λ (a : Act). a.talk) (V.acts s) (ended_turn T m ∷ []) ∙ ap (λ (l : List Said). talk_of (V.acts s) ++ l) (append_nil (T.talk ++ Heard m ∷ []))
        ∙ sym (append_assoc (talk_of (V.acts s)) T.talk (Heard m ∷ [])) ∙ ap (λ (o : Option OpenTurn). (talk_of (V.acts s) ++ talk_at o) ++ Heard m ∷ []) (sym is);
    others = λ i n. ap (λ (o : Option OpenTurn). talk_of (grown V.acts s (ended_turn T m) i) ++ talk_at o) (away s None i n)
        ∙ ap (λ (b : Bool). talk_of (if b then V.acts i ++ ended_turn T m ∷ [] else V.acts i) ++ talk_at (V.open_at i)) (not_same i s n);
  }

  got_more : (s : ℕ) (m : Message) (o : Option OpenTurn) (c : Option Cause) → V.open_at s ≡ o → wrong P s (place_at o) m ≡ c → (note_got P V s m o c).fault ≡ None → SaysMore (note_got P V s m o c) s
  got_more s m o (Some c) is w fine = absurd (some_none _ fine)
  got_more s m None None is w fine = absurd (some_none _ w)
  got_more s m (Some T) None is w fine = right_more s m T (next_place P s T.place m) is

  -- one entry of an orderly journal, where it makes no fault
  entry_more : (e : Entry) → IsSound V → IsAllowed IsReady IsAdvance P V e → (note P V e).fault ≡ None → SaysMore (note P V e) (sim_of e)
  entry_more e sound allowed = by_owed V.owed refl allowed.1
    where
      alone : (e : Entry) → IsNext IsReady IsAdvance P V None e → (note P V e).fault ≡ None → SaysMore (note P V e) (sim_of e)
      alone (Got s m) next fine = got_more s.0 m (V.open_at s.0) (wrong P s.0 (place_at (V.open_at s.0)) m) refl refl fine
      alone (Sent s (Step x ins advance)) next fine = sent_more s.0 (Step x ins advance) _ (ap (λ (o : Option OpenTurn). talk_at o ++ Told (Step x ins (pos 0)) ∷ []) (sym next.0.0.closed))
      alone (Sent s (GetData wants)) next fine = absurd next
      alone (Sent s (Answer id content)) next fine = absurd next
      alone (Sent s (Refuse id reason)) next fine = absurd next

      goes : (o : Owed) (T : OpenTurn) → V.open_at o.sim ≡ Some T → is_step o.item ≡ false → SaysMore (note_sent P V o.sim o.item) o.sim
      goes o T is late = sent_more o.sim o.item (Told o.item) (ap talk_at (open_after_is P V o.sim o.item late ∙ ap (option_map (told_more o.item)) is) ∙ ap (λ (p : Option OpenTurn). talk_at p ++ Told o.item ∷ []) (sym is))

      by_owed : (o : Option Owed) → V.owed ≡ o → IsNext IsReady IsAdvance P V o e → (note P V e).fault ≡ None → SaysMore (note P V e) (sim_of e)
      by_owed None owes next fine = alone e next fine
      by_owed (Some o) owes next fine = let t = sound.turn o owes in subst (λ (f : Entry). SaysMore (note P V f) (sim_of f)) (sym next) (goes o t.0 t.1 (sound.later o owes))

module _ (P : Plan) (valid : IsValidPlan P) where
  Orderly : List Entry → Type 0
  Orderly = IsOrderlySoFar IsReady IsAdvance P

  its : (V : View) (s : ℕ) (x : Tier) → IsReady P V s x → IsReady P V s x
  its V s x r = r

  -- what is open is open at one of the plan's simulators
  pub open_low : (J : List Entry) → IsOrderlySoFar IsReady IsAdvance P J → (i : ℕ) (T : OpenTurn) → (view P J).open_at i ≡ Some T → i < sim_count P
  open_low J orderly i T is = elim (cases_lt i (sim_count P)) [
    | inl low ↦ low
    | inr high ↦ absurd (some_none _ (sym (ap (λ (o : Option OpenTurn). option_map (turn_of P (view P J).owed i) o) is) ∙ (above (parts P) (laws P valid) (seen P (view P J)) (reached IsReady IsAdvance P its J orderly) i high).0))
  ]

  -- an entry is one of the plan's simulators'
  pub entry_low : (J : List Entry) (e : Entry) → IsOrderlySoFar IsReady IsAdvance P J → IsAllowed IsReady IsAdvance P (view P J) e → sim_of e < sim_count P
  entry_low J e orderly allowed = by_owed (view P J).owed refl allowed.1
    where
      alone : (e : Entry) → IsNext IsReady IsAdvance P (view P J) None e → sim_of e < sim_count P
      alone (Got s m) next = next
      alone (Sent s (Step x ins advance)) next = ready_low (parts P) (laws P valid) (seen P (view P J)) s.0 x (ready_seen P (view P J) s.0 x next.0.0)
      alone (Sent s (GetData wants)) next = absurd next
      alone (Sent s (Answer id content)) next = absurd next
      alone (Sent s (Refuse id reason)) next = absurd next

      by_owed : (o : Option Owed) → (view P J).owed ≡ o → IsNext IsReady IsAdvance P (view P J) o e → sim_of e < sim_count P
      by_owed None owes next = alone e next
      by_owed (Some o) owes next = let t = (reached_sound IsReady IsAdvance P its J orderly).turn o owes in subst (λ (f : Entry). sim_of f < sim_count P) (sym next) (open_low J orderly o.sim t.0 t.1)

  -- one entry more is one thing more
  one_more : (J : List Entry) (e : Entry) → Orderly J → IsAllowed IsReady IsAdvance P (view P J) e → (view P (J ++ e ∷ [])).fault ≡ None → length (all_said P J) < length (all_said P (J ++ e ∷ []))
  unfolding Orderly
  one_more J e orderly allowed fine =
      let V : View = view P J in
      let W : View = note P V e in
      let s : ℕ = sim_of e in
      let t : SaysMore P V W s = entry_more P V e (reached_sound IsReady IsAdvance P its J orderly) allowed (ap (λ (U : View). U.fault) (sym (view_push P J e)) ∙ fine) in
      let own : length (said V s) < length (said W s) = let a = ap length t.own in let b = length-append (said V s) (t.more ∷ []) in omega (arith, a, b) in
      let each : (i : ℕ) → length (said V i) ≤ length (said W i) = λ i. elim (same_or_not i s) [
        | inl q ↦ subst (λ (j : ℕ). length (said V j) ≤ length (said W j)) (sym q) (omega (arith, own))
        | inr n ↦ let a = ap length (t.others i n) in omega (arith, a)
      ] in
      subst (λ (U : View). length (all_said P J) < length (flat_map (said U) (range_with_len 0 (sim_count P)))) (sym (view_push P J e))
      (one_shorter (said V) (said W) (range_with_len 0 (sim_count P)) s (range_in s 0 (sim_count P) (omega arith) (let low = entry_low J e orderly allowed in omega (arith, low))) (λ i m. each i) own)

  -- a fault lasts
  fine_before : (V : View) (K : List Entry) → IsOrderlyFrom IsReady IsAdvance P V K → (fold (note P) V K).fault ≡ None → V.fault ≡ None
  fine_before V [] orderly fine = fine
  fine_before V (e ∷ K) orderly fine = orderly.0.0

  -- from each point of the journal on
  walk : (H K : List Entry) → Orderly (H ++ K) → (view P (H ++ K)).fault ≡ None → length (all_said P H) + length K ≤ length (all_said P (H ++ K))
  unfolding Orderly
  walk H [] orderly fine = subst (λ (G : List Entry). length (all_said P H) + 0 ≤ length (all_said P G)) (sym (append_nil H)) (omega arith)
  walk H (e ∷ K) orderly fine =
      let parts_of = orderly_front IsReady IsAdvance P H (e ∷ K) orderly in
      let again : H ++ e ∷ K ≡ (H ++ e ∷ []) ++ K = sym (append_assoc H (e ∷ []) K) in
      let on : IsOrderlySoFar IsReady IsAdvance P ((H ++ e ∷ []) ++ K) = subst (IsOrderlySoFar IsReady IsAdvance P) again orderly in
      let end : (view P ((H ++ e ∷ []) ++ K)).fault ≡ None = subst (λ (G : List Entry). (view P G).fault ≡ None) again fine in
      let rest = orderly_front IsReady IsAdvance P (H ++ e ∷ []) K on in
      let now : (view P (H ++ e ∷ [])).fault ≡ None = fine_before (view P (H ++ e ∷ [])) K rest.1 (ap (λ (U : View). U.fault) (sym (fold-append (note P) empty_view (H ++ e ∷ []) K)) ∙ end) in
      let one = one_more H e parts_of.0 parts_of.1.0 now in
      let later = walk (H ++ e ∷ []) K on end in
      subst (λ (G : List Entry). length (all_said P H) + length (e ∷ K) ≤ length (all_said P G)) (sym again) (omega (arith, one, later))

  -- so many things were said, at least
  pub counted : (J : List Entry) → IsOrderlySoFar IsReady IsAdvance P J → (view P J).fault ≡ None → length J ≤ length (all_said P J)
  unfolding Orderly
  counted J orderly fine = let t = walk [] J orderly fine in omega (arith, t)

  -- ---- no more was said

  one_at_most : (J : List Entry) (e : Entry) → Orderly J → IsAllowed IsReady IsAdvance P (view P J) e → (view P (J ++ e ∷ [])).fault ≡ None → length (all_said P (J ++ e ∷ [])) ≤ length (all_said P J) + 1
  unfolding Orderly
  one_at_most J e orderly allowed fine =
      let V : View = view P J in
      let W : View = note P V e in
      let t : SaysMore P V W (sim_of e) = entry_more P V e (reached_sound IsReady IsAdvance P its J orderly) allowed (ap (λ (U : View). U.fault) (sym (view_push P J e)) ∙ fine) in
      subst (λ (U : View). length (flat_map (said U) (range_with_len 0 (sim_count P))) ≤ length (all_said P J) + 1) (sym (view_push P J e))
      (one_longer (said W) (said V) 0 (sim_count P) (sim_of e) (λ i n. let a = ap length (t.others i n) in omega (arith, a)) (let a = ap length t.own in let b = length-append (said V (sim_of e)) (t.more ∷ []) in omega (arith, a, b)))

  walk_back : (H K : List Entry) → Orderly (H ++ K) → (view P (H ++ K)).fault ≡ None → length (all_said P (H ++ K)) ≤ length (all_said P H) + length K
  unfolding Orderly
  walk_back H [] orderly fine = subst (λ (G : List Entry). length (all_said P G) ≤ length (all_said P H) + 0) (sym (append_nil H)) (omega arith)
  walk_back H (e ∷ K) orderly fine =
      let parts_of = orderly_front IsReady IsAdvance P H (e ∷ K) orderly in
      let again : H ++ e ∷ K ≡ (H ++ e ∷ []) ++ K = sym (append_assoc H (e ∷ []) K) in
      let on : IsOrderlySoFar IsReady IsAdvance P ((H ++ e ∷ []) ++ K) = subst (IsOrderlySoFar IsReady IsAdvance P) again orderly in
      let end : (view P ((H ++ e ∷ []) ++ K)).fault ≡ None = subst (λ (G : List Entry). (view P G).fault ≡ None) again fine in
      let rest = orderly_front IsReady IsAdvance P (H ++ e ∷ []) K on in
      let now : (view P (H ++ e ∷ [])).fault ≡ None = fine_before (view P (H ++ e ∷ [])) K rest.1 (ap (λ (U : View). U.fault) (sym (fold-append (note P) empty_view (H ++ e ∷ []) K)) ∙ end) in
      let one = one_at_most H e parts_of.0 parts_of.1.0 now in
      let later = walk_back (H ++ e ∷ []) K on end in
      subst (λ (G : List Entry). length (all_said P G) ≤ length (all_said P H) + length (e ∷ K)) (sym again) (omega (arith, one, later))

  none_said : (xs : List ℕ) → length (flat_map (said empty_view) xs) ≡ 0
  none_said [] = refl
  none_said (x ∷ xs) = none_said xs

  -- so many things were said, at most
  pub counted_back : (J : List Entry) → IsOrderlySoFar IsReady IsAdvance P J → (view P J).fault ≡ None → length (all_said P J) ≤ length J
  unfolding Orderly
  counted_back J orderly fine = let t = walk_back [] J orderly fine in let none = none_said (range_with_len 0 (sim_count P)) in omega (arith, t, none)
