-- Whatever the other simulators send, there are messages of those within the program that answer by
-- kind.
use Rattle.std.proofs.Common.{◌≡◌, ℕ, ◌+◌, Bool, true, false, cond, ◌&&◌, List, [], ◌∷◌, ◌++◌, refl, sym, ap, ◌∙◌, subst, ◌⊎◌, inl, inr, append_assoc, true≢false, if◌then◌else◌}
use Rattle.std.proofs.Math.Seq.{drop-append_seam}
use Rattle.mk_base.specs.declared.json.Json.{Json}
use Rattle.mk_base.specs.declared.tier.Tier.{Tier}
use Rattle.mk_base.specs.Lists.{IsIn}
use Rattle.mk_base.proofs.Lists.{append_nil, filter_map_append, flat_map_append}
use Rattle.mk_plan.specs.declared.Plan.{Plan}
use Rattle.mk_plan.specs.declared.Item.{Item}
use Rattle.mk_plan.specs.declared.Item.TheVariants.{GetData}
use Rattle.mk_plan.specs.declared.Message.{Message}
use Rattle.mk_plan.specs.declared.Message.TheVariants.{Success}
use Rattle.mk_plan.specs.declared.Place.{Place}
use Rattle.mk_plan.specs.declared.Place.TheVariants.{Stepping, Fetching}
use Rattle.mk_plan.specs.Plans.{first_id, has_outputs}
use Rattle.mk_plan.specs.Turns.{is_wrong, wanted}
use Rattle.mk_plan.specs.Acts.{Said, Told, Heard, Act, Family}
use Rattle.mk_plan.specs.Deliveries.{supply}
use Rattle.mk_plan.specs.Due.{is_due}
use Rattle.mk_plan.specs.Inputs.{inputs}
use Rattle.mk_plan.specs.Sequential.{Messages, Visit, visits, act, grown, visit, after_visits, no_acts, sequential, talk_of, items, told, all_ended, messages_in, rest, used, ends, turn_talk, next_step, ids_used, last_time, id_after}
use Rattle.mk_run_laws.specs.Kinds.{Replies, AnswersByKind, RepliesAreRight}
use Rattle.mk_run_laws.proofs.Numbering.{used_is}
use Rattle.mk_base.proofs.Counts.{not_same, same_or_not, same_self}

-- ---- talks in which each message is its kind's

module _ (reply : Replies) (i : ℕ) where
  abbrev AllReplies : List Said → Type 0
  AllReplies talk = (before later : List Said) (m : Message) → talk ≡ before ++ Heard m ∷ later → m ≡ reply i (items before)

  heads : {x y : Said} {xs ys : List Said} → x ∷ xs ≡ y ∷ ys → (x ≡ y) × (xs ≡ ys)
  heads e = (cc, cc)

  not_empty : (a b : List Said) (x : Said) → [] ≡ a ++ x ∷ b → ⊥
  not_empty [] b x e = cc
  not_empty (y ∷ a) b x e = cc

  last_or_before : (talk : List Said) (x : Said) (before : List Said) (y : Said) (later : List Said) → talk ++ x ∷ [] ≡ before ++ y ∷ later → ((talk ≡ before) × (x ≡ y)) ⊎ ((less : List Said) × (talk ≡ before ++ y ∷ less))
  last_or_before [] x [] y later q = inl (refl, (heads q).0)
  last_or_before [] x (h ∷ before) y later q = absurd (not_empty before later y (heads q).1)
  last_or_before (z ∷ talk) x [] y later q = inr (talk, ap (λ (w : Said). w ∷ talk) (heads q).0)
  last_or_before (z ∷ talk) x (h ∷ before) y later q = elim (last_or_before talk x before y later (heads q).1) [
    | inl t ↦ inl ((λ k. (heads q).0 k ∷ t.0 k), t.1)
    | inr t ↦ inr (t.0, (λ k. (heads q).0 k ∷ t.1 k))
  ]

  push_item : (talk : List Said) (item : Item) → AllReplies talk → AllReplies (talk ++ Told item ∷ [])
  push_item talk item all before later m q = elim (last_or_before talk (Told item) before (Heard m) later q) [ inl t ↦ absurd (apart t.1) | inr t ↦ all before t.0 m t.1 ]
    where
      apart : Told item ≡ Heard m → ⊥
      apart e = cc

  push_message : (talk : List Said) (n : Message) → n ≡ reply i (items talk) → AllReplies talk → AllReplies (talk ++ Heard n ∷ [])
  push_message talk n is all before later m q = elim (last_or_before talk (Heard n) before (Heard m) later q) [
    | inl t ↦ sym (one t.1) ∙ is ∙ ap (λ (l : List Said). reply i (items l)) t.0
    | inr t ↦ all before t.0 m t.1
  ]
    where
      one : Heard n ≡ Heard m → n ≡ m
      one e = cc

  items_push : (talk : List Said) (item : Item) → items (talk ++ Told item ∷ []) ≡ items talk ++ item ∷ []
  items_push talk item = filter_map_append told talk (Told item ∷ [])

  items_heard : (talk : List Said) (m : Message) → items (talk ++ Heard m ∷ []) ≡ items talk
  items_heard talk m = filter_map_append told talk (Heard m ∷ []) ∙ append_nil (items talk)

module _ (P : Plan) (reply : Replies) (inside : ℕ → Bool) (right : RepliesAreRight reply inside P) (Q : Messages) where
  -- ---- one turn of a simulator within the program

  abbrev before_turn : Family → ℕ → List Item
  before_turn A s = items (talk_of (A s))

  abbrev step_of : Family → ℕ → Tier → Item
  step_of A s x = next_step P (supply P A) s x (A s)

  -- its messages
  abbrev second : Family → ℕ → Tier → Bool → List Message
  second A s x true = reply s ((before_turn A s ++ step_of A s x ∷ []) ++ GetData (wanted P s) ∷ []) ∷ []
  second A s x false = []

  abbrev turn_of : Family → ℕ → Tier → List Message
  turn_of A s x = reply s (before_turn A s ++ step_of A s x ∷ []) ∷ second A s x (has_outputs P s)

  -- what it says in the turn
  abbrev second_said : Family → ℕ → Tier → Bool → List Said
  second_said A s x true = Told (GetData (wanted P s)) ∷ Heard (reply s ((before_turn A s ++ step_of A s x ∷ []) ++ GetData (wanted P s) ∷ [])) ∷ []
  second_said A s x false = []

  abbrev turn_said : Family → ℕ → Tier → List Said
  turn_said A s x = Told (step_of A s x) ∷ Heard (reply s (before_turn A s ++ step_of A s x ∷ [])) ∷ second_said A s x (has_outputs P s)

  abbrev the_act : Family → ℕ → Tier → Act
  the_act A s x = record { at = x; messages = turn_of A s x; ended = true; talk = turn_said A s x }

  free_is : (A : Family) (s : ℕ) → id_after (first_id P s) (before_turn A s) ≡ first_id P s + ids_used (A s)
  free_is A s = ap (λ (n : ℕ). first_id P s + n) (sym (used_is (A s)))

  -- a turn that reads these messages from a place
  abbrev made : Family → ℕ → Tier → Place → List Message → Act
  made A s x o l = record { at = x; messages = used P s o l; ended = ends P s o l; talk = Told (step_of A s x) ∷ turn_talk P (supply P A) s x o (used P s o l) }

  -- it uses a right success to its Step, and the one to its GetData
  made_is : (A : Family) (s : ℕ) (x : Tier) (later : List Message) (n : ℕ) (c d : Json) → is_wrong P s (Stepping x n 0) (Success n c) ≡ false
      → is_wrong P s (Fetching x (n + 1)) (Success (n + 1) d) ≡ false → (b : Bool) → has_outputs P s ≡ b
      → made A s x (Stepping x n 0) ((Success n c ∷ cond b (Success (n + 1) d ∷ []) []) ++ later)
      ≡ record { at = x; messages = Success n c ∷ cond b (Success (n + 1) d ∷ []) []; ended = true; talk = Told (step_of A s x) ∷ Heard (Success n c) ∷ cond b (Told (GetData (wanted P s)) ∷ Heard (Success (n + 1) d) ∷ []) [] }
  made_is A s x later n c d r1 r2 true e = rw (r1, e, r2) refl
  made_is A s x later n c d r1 r2 false e = rw (r1, e) refl

  -- the act that these messages make, whatever comes behind them
  act_is : (A : Family) (s : ℕ) (x : Tier) (later : List Message) → inside s ≡ true → IsIn {X = Visit} (x, s) (visits P) → all_ended (A s) ≡ true → act P A s x (A s) (messages_in (A s) ++ (turn_of A s x ++ later)) ≡ the_act A s x
  act_is A s x later here there whole =
      let left : rest (A s) (messages_in (A s) ++ (turn_of A s x ++ later)) ≡ turn_of A s x ++ later = rw whole (drop-append_seam (messages_in (A s)) (turn_of A s x ++ later)) in
      let n : ℕ = first_id P s + ids_used (A s) in
      let a = right.to_step s here (before_turn A s) x (inputs P (supply P A) s (last_time (A s)) x) there in
      let b = right.to_get_data s here (before_turn A s) x (inputs P (supply P A) s (last_time (A s)) x) there in
      let free = free_is A s in
      let m1 : reply s (before_turn A s ++ step_of A s x ∷ []) ≡ Success n a.0 = a.1 ∙ ap (λ (k : ℕ). Success k a.0) free in
      let m2 : reply s ((before_turn A s ++ step_of A s x ∷ []) ++ GetData (wanted P s) ∷ []) ≡ Success (n + 1) b.0 = b.1 ∙ ap (λ (k : ℕ). Success (k + 1) b.0) free in
      let r1 : is_wrong P s (Stepping x n 0) (Success n a.0) ≡ false = subst (λ (k : ℕ). is_wrong P s (Stepping x k 0) (Success k a.0) ≡ false) free a.2 in
      let r2 : is_wrong P s (Fetching x (n + 1)) (Success (n + 1) b.0) ≡ false = subst (λ (k : ℕ). is_wrong P s (Fetching x (k + 1)) (Success (k + 1) b.0) ≡ false) free b.2 in
      ap (made A s x (Stepping x n 0)) (left ∙ ap (λ (l : List Message). (M1 ∷ l) ++ later) (second_is (has_outputs P s)) ∙ (λ k. (m1 k ∷ cond (has_outputs P s) (m2 k ∷ []) []) ++ later))
      ∙ made_is A s x later n a.0 b.0 r1 r2 (has_outputs P s) refl
      ∙ sym (λ k. act_of (m1 k) (m2 k))
      ∙ same (has_outputs P s)
    where
      M1 : Message
      M1 = reply s (before_turn A s ++ step_of A s x ∷ [])

      M2 : Message
      M2 = reply s ((before_turn A s ++ step_of A s x ∷ []) ++ GetData (wanted P s) ∷ [])

      act_of : Message → Message → Act
      act_of m1 m2 = record { at = x; messages = m1 ∷ cond (has_outputs P s) (m2 ∷ []) []; ended = true; talk = Told (step_of A s x) ∷ Heard m1 ∷ cond (has_outputs P s) (Told (GetData (wanted P s)) ∷ Heard m2 ∷ []) [] }

      second_is : (b : Bool) → second A s x b ≡ cond b (M2 ∷ []) []
      second_is true = refl
      second_is false = refl

      act_with : Bool → Act
      act_with b = record { at = x; messages = M1 ∷ second A s x b; ended = true; talk = Told (step_of A s x) ∷ Heard M1 ∷ second_said A s x b }

      act_from : Bool → Act
      act_from b = record { at = x; messages = M1 ∷ cond b (M2 ∷ []) []; ended = true; talk = Told (step_of A s x) ∷ Heard M1 ∷ cond b (Told (GetData (wanted P s)) ∷ Heard M2 ∷ []) [] }

      same : (b : Bool) → act_from b ≡ act_with b
      same true = refl
      same false = refl

  -- ---- the run in which they send these messages

  abbrev source : Family → ℕ → Tier → List Message
  source A s x = if inside s then messages_in (A s) ++ turn_of A s x else Q s

  abbrev make : Family → Visit → Family
  make A v = if is_due P A v.1 v.0 then grown A v.1 (act P A v.1 v.0 (A v.1) (source A v.1 v.0)) else A

  abbrev made_after : Family → List Visit → Family
  made_after A [] = A
  made_after A (v ∷ vs) = made_after (make A v) vs

  grown_away : (A : Family) (s : ℕ) (a : Act) (i : ℕ) → (i ≡ s → ⊥) → grown A s a i ≡ A i
  grown_away A s a i apart = ap (λ (b : Bool). if b then A i ++ a ∷ [] else A i) (not_same i s apart)

  grown_here : (A : Family) (s : ℕ) (a : Act) → grown A s a s ≡ A s ++ a ∷ []
  grown_here A s a = ap (λ (b : Bool). if b then A s ++ a ∷ [] else A s) (same_self s)

  -- acts are only added
  make_adds : (A : Family) (v : Visit) (i : ℕ) → (U : List Act) × (make A v i ≡ A i ++ U)
  make_adds A v i = elim (is_due P A v.1 v.0) as (λ b. (U : List Act) × ((if b then grown A v.1 (act P A v.1 v.0 (A v.1) (source A v.1 v.0)) else A) i ≡ A i ++ U)) [
    | true ↦ elim (same_or_not i v.1) [
      | inl q ↦ (act P A v.1 v.0 (A v.1) (source A v.1 v.0) ∷ [], subst (λ (j : ℕ). grown A v.1 (act P A v.1 v.0 (A v.1) (source A v.1 v.0)) j ≡ A j ++ act P A v.1 v.0 (A v.1) (source A v.1 v.0) ∷ []) (sym q) (grown_here A v.1 (act P A v.1 v.0 (A v.1) (source A v.1 v.0))))
      | inr apart ↦ ([], grown_away A v.1 (act P A v.1 v.0 (A v.1) (source A v.1 v.0)) i apart ∙ sym (append_nil (A i)))
    ]
    | false ↦ ([], sym (append_nil (A i)))
  ]

  adds : (vs : List Visit) (A : Family) (i : ℕ) → (U : List Act) × (made_after A vs i ≡ A i ++ U)
  adds [] A i = ([], sym (append_nil (A i)))
  adds (v ∷ vs) A i = let t = adds vs (make A v) i in let u = make_adds A v i in (u.0 ++ t.0, t.1 ∙ ap (λ (l : List Act). l ++ t.0) u.1 ∙ append_assoc (A i) u.0 t.0)

  -- ---- what holds of it

  record Holds (A : Family) (i : ℕ) : Type 0 where
    pub whole : all_ended (A i) ≡ true
    pub replies : AllReplies reply i (talk_of (A i))

  ended_push : (acts : List Act) (a : Act) → all_ended acts ≡ true → a.ended ≡ true → all_ended (acts ++ a ∷ []) ≡ true
  ended_push [] a h e = rw e refl
  ended_push (b ∷ acts) a h e = both b.ended (all_ended acts) (all_ended (acts ++ a ∷ [])) h (λ k. ended_push acts a k e)
    where
      both : (c d f : Bool) → (c && d) ≡ true → (d ≡ true → f ≡ true) → (c && f) ≡ true
      both true d f h k = k h
      both false d f h k = absurd (true≢false (sym h))

  turn_replies : (A : Family) (s : ℕ) (x : Tier) → AllReplies reply s (talk_of (A s)) → AllReplies reply s (talk_of (A s) ++ turn_said A s x)
  turn_replies A s x all = subst (AllReplies reply s) (joined (has_outputs P s)) (by_outputs (has_outputs P s))
    where
      t0 : List Said
      t0 = talk_of (A s)

      st : Item
      st = step_of A s x

      M1 : Message
      M1 = reply s (before_turn A s ++ step_of A s x ∷ [])

      M2 : Message
      M2 = reply s ((before_turn A s ++ step_of A s x ∷ []) ++ GetData (wanted P s) ∷ [])

      t2 : List Said
      t2 = (t0 ++ Told st ∷ []) ++ Heard M1 ∷ []

      first : AllReplies reply s t2
      first = push_message reply s (t0 ++ Told st ∷ []) M1 (ap (reply s) (sym (items_push reply s t0 st))) (push_item reply s t0 st all)

      said_by : Bool → List Said
      said_by true = (t2 ++ Told (GetData (wanted P s)) ∷ []) ++ Heard M2 ∷ []
      said_by false = t2

      by_outputs : (b : Bool) → AllReplies reply s (said_by b)
      by_outputs true = push_message reply s (t2 ++ Told (GetData (wanted P s)) ∷ []) M2
          (ap (reply s) (ap (λ (l : List Item). l ++ GetData (wanted P s) ∷ []) (sym (items_push reply s t0 st) ∙ sym (items_heard reply s (t0 ++ Told st ∷ []) M1)) ∙ sym (items_push reply s t2 (GetData (wanted P s)))))
          (push_item reply s t2 (GetData (wanted P s)) first)
      by_outputs false = first

      joined : (b : Bool) → said_by b ≡ t0 ++ (Told st ∷ Heard M1 ∷ second_said A s x b)
      joined true = append_assoc (t2) (Told (GetData (wanted P s)) ∷ []) (Heard M2 ∷ []) ∙ append_assoc (t0 ++ Told st ∷ []) (Heard M1 ∷ []) (Told (GetData (wanted P s)) ∷ Heard M2 ∷ []) ∙ append_assoc t0 (Told st ∷ []) (Heard M1 ∷ Told (GetData (wanted P s)) ∷ Heard M2 ∷ [])
      joined false = append_assoc t0 (Told st ∷ []) (Heard M1 ∷ [])

  -- a visit of a simulator within the program that is due
  make_inside : (A : Family) (s : ℕ) (x : Tier) → inside s ≡ true → IsIn {X = Visit} (x, s) (visits P) → all_ended (A s) ≡ true → act P A s x (A s) (source A s x) ≡ the_act A s x
  make_inside A s x here there whole = ap (λ (b : Bool). act P A s x (A s) (if b then messages_in (A s) ++ turn_of A s x else Q s)) here
      ∙ ap (λ (l : List Message). act P A s x (A s) (messages_in (A s) ++ l)) (sym (append_nil (turn_of A s x))) ∙ act_is A s x [] here there whole

  holds_next : (A : Family) (v : Visit) → IsIn v (visits P) → ((i : ℕ) → inside i ≡ true → Holds A i) → (i : ℕ) → inside i ≡ true → Holds (make A v) i
  holds_next A v there all i here = elim (is_due P A v.1 v.0) as (λ b. Holds (if b then grown A v.1 (act P A v.1 v.0 (A v.1) (source A v.1 v.0)) else A) i) [
    | true ↦ elim (same_or_not i v.1) [
      | inl q ↦ of_acts (grown A v.1 (act P A v.1 v.0 (A v.1) (source A v.1 v.0))) (A v.1 ++ the_act A v.1 v.0 ∷ [])
          (ap (grown A v.1 (act P A v.1 v.0 (A v.1) (source A v.1 v.0))) q ∙ grown_here A v.1 (act P A v.1 v.0 (A v.1) (source A v.1 v.0))
          ∙ ap (λ (a : Act). A v.1 ++ a ∷ []) (make_inside A v.1 v.0 (ap inside (sym q) ∙ here) there (all v.1 (ap inside (sym q) ∙ here)).whole))
          (ended_push (A v.1) (the_act A v.1 v.0) (all v.1 (ap inside (sym q) ∙ here)).whole refl)
          (subst (λ (j : ℕ). AllReplies reply j (talk_of (A v.1 ++ the_act A v.1 v.0 ∷ []))) (sym q) (subst (AllReplies reply v.1) (sym (flat_map_append (λ (a : Act). a.talk) (A v.1) (the_act A v.1 v.0 ∷ []) ∙ ap (λ (l : List Said). talk_of (A v.1) ++ l) (append_nil (turn_said A v.1 v.0))))
          (turn_replies A v.1 v.0 (all v.1 (ap inside (sym q) ∙ here)).replies)))
      | inr apart ↦ of_acts (grown A v.1 (act P A v.1 v.0 (A v.1) (source A v.1 v.0))) (A i) (grown_away A v.1 (act P A v.1 v.0 (A v.1) (source A v.1 v.0)) i apart) (all i here).whole (all i here).replies
    ]
    | false ↦ all i here
  ]
    where
      of_acts : (B : Family) (acts : List Act) → B i ≡ acts → all_ended acts ≡ true → AllReplies reply i (talk_of acts) → Holds B i
      of_acts B acts is whole replies = record { whole = ap all_ended is ∙ whole; replies = subst (λ (l : List Act). AllReplies reply i (talk_of l)) (sym is) replies }

  -- every list that goes on with these messages makes the same run
  same_run : (vs : List Visit) (A : Family) → ((v : Visit) → IsIn v vs → IsIn v (visits P)) → ((i : ℕ) → inside i ≡ true → Holds A i) → (R : Messages) → ((i : ℕ) → inside i ≡ true → (more : List Message) × (R i ≡ messages_in (made_after A vs i) ++ more))
      → ((i : ℕ) → inside i ≡ false → R i ≡ Q i) → (after_visits P R A vs ≡ made_after A vs) × ((i : ℕ) → inside i ≡ true → Holds (made_after A vs) i)
  same_run [] A among all R on others = (refl, all)
  same_run (v ∷ vs) A among all R on others =
      let r = same_run vs (make A v) (λ w m. among w (inr m)) (holds_next A v (among v (inl refl)) all) R on others in
      (ap (λ (B : Family). after_visits P R B vs) (same (is_due P A v.1 v.0)) ∙ r.0, r.1)
    where
      s : ℕ
      s = v.1

      x : Tier
      x = v.0

      acts_same : (b : Bool) → inside s ≡ b → is_due P A s x ≡ true → act P A s x (A s) (R s) ≡ act P A s x (A s) (source A s x)
      acts_same false e due = ap (act P A s x (A s)) (others s e ∙ sym (ap (λ (b : Bool). if b then messages_in (A s) ++ turn_of A s x else Q s) e))
      acts_same true e due =
          let whole = (all s e).whole in
          let mine : make A v s ≡ A s ++ the_act A s x ∷ [] = ap (λ (b : Bool). (if b then grown A s (act P A s x (A s) (source A s x)) else A) s) due ∙ grown_here A s (act P A s x (A s) (source A s x)) ∙ ap (λ (a : Act). A s ++ a ∷ []) (make_inside A s x e (among v (inl refl)) whole) in
          let u = adds vs (make A v) s in
          let m = on s e in
          let all_messages : R s ≡ messages_in (A s) ++ (turn_of A s x ++ (messages_in u.0 ++ m.0)) =
          m.1 ∙ ap (λ (l : List Act). messages_in l ++ m.0) (u.1 ∙ ap (λ (l : List Act). l ++ u.0) mine)
          ∙ ap (λ (l : List Message). l ++ m.0) (flat_map_append (λ (a : Act). a.messages) (A s ++ the_act A s x ∷ []) u.0 ∙ ap (λ (l : List Message). l ++ messages_in u.0) (flat_map_append (λ (a : Act). a.messages) (A s) (the_act A s x ∷ []) ∙ ap (λ (l : List Message). messages_in (A s) ++ l) (append_nil (turn_of A s x))))
          ∙ append_assoc (messages_in (A s) ++ turn_of A s x) (messages_in u.0) m.0 ∙ append_assoc (messages_in (A s)) (turn_of A s x) (messages_in u.0 ++ m.0) in
          ap (act P A s x (A s)) all_messages ∙ act_is A s x (messages_in u.0 ++ m.0) e (among v (inl refl)) whole ∙ sym (make_inside A s x e (among v (inl refl)) whole)

      same : (b : Bool) → visit P R A v ≡ make A v
      same b = go (is_due P A s x) refl
        where
          go : (b : Bool) → is_due P A s x ≡ b → (if b then grown A s (act P A s x (A s) (R s)) else A) ≡ (if b then grown A s (act P A s x (A s) (source A s x)) else A)
          go true e = ap (grown A s) (acts_same (inside s) refl e)
          go false e = refl

  -- the run, and the messages in it
  the_run : Family
  the_run = made_after no_acts (visits P)

  the_messages : Messages
  the_messages i = if inside i then messages_in (made_after no_acts (visits P) i) else Q i

  result : (sequential P the_messages ≡ made_after no_acts (visits P)) × ((i : ℕ) → inside i ≡ true → Holds (made_after no_acts (visits P)) i)
  unfolding the_messages
  result = same_run (visits P) no_acts (λ v m. m) (λ i h. record { whole = refl; replies = λ before later m q. absurd (not_empty reply i before later (Heard m) q) }) the_messages
      (λ i h. ([], ap (λ (b : Bool). if b then messages_in (made_after no_acts (visits P) i) else Q i) h ∙ sym (append_nil (messages_in (made_after no_acts (visits P) i)))))
      (λ i h. ap (λ (b : Bool). if b then messages_in (made_after no_acts (visits P) i) else Q i) h)

  pub there_are : (R : Messages) × AnswersByKind reply inside P R × ((i : ℕ) → inside i ≡ false → R i ≡ Q i)
  unfolding the_messages
  there_are = (
    the_messages,
    record {
      uncut = λ i low h. ap (λ (F : Family). all_ended (F i)) result.0 ∙ (result.1 i h).whole;
      replies = λ i low h before later m q. (result.1 i h).replies before later m (sym (ap (λ (F : Family). talk_of (F i)) result.0) ∙ q);
    },
    (λ i h. ap (λ (b : Bool). if b then messages_in (made_after no_acts (visits P) i) else Q i) h),
  )
