-- How many requests are open.
use Rattle.std.proofs.Common.{◌≡◌, ℕ, zero, suc, ◌+◌, ◌≤◌, Bool, true, false, cond, ◌==◌, List, [], ◌∷◌, length, filter, fold, Option, Some, None, is_some, option_map, if◌then◌else◌, refl, ap, ◌∙◌, subst, arith, length-append}
use Rattle.std.specs.List.{range_with_len}
use Rattle.mk_base.specs.Lists.{IsIn}
use Rattle.mk_base.proofs.Lists.{filter_in, filter_append, range_in, none_some, some_same}
use Rattle.mk_plan.specs.declared.Plan.{Plan}
use Rattle.mk_plan.specs.declared.Item.{Item}
use Rattle.mk_plan.specs.declared.Item.TheVariants.{Step, GetData, Answer, Refuse}
use Rattle.mk_plan.specs.declared.Message.{Message}
use Rattle.mk_plan.specs.declared.Message.TheVariants.{Ask, Success, Failure}
use Rattle.mk_plan.specs.declared.Entry.{Entry}
use Rattle.mk_plan.specs.declared.Entry.TheVariants.{Sent, Got}
use Rattle.mk_plan.specs.declared.Place.{Place}
use Rattle.mk_plan.specs.declared.Place.TheVariants.{Idle, Stepping, Fetching}
use Rattle.mk_plan.specs.declared.Cause.{Cause}
use Rattle.mk_plan.specs.Plans.{sim_count, has_outputs}
use Rattle.mk_plan.specs.Turns.{next_place, wrong}
use Rattle.mk_plan.specs.Journals.{View, OpenTurn, note, note_got, note_right, with_open, told_more, open_after, view, empty_view, open_count, place_at}
use Rattle.mk_sched.specs.Cores.{CoreState}
use Rattle.mk_sched.specs.Answers.{SomeOpen, id_at, open_id}
use Rattle.mk_record_replay.specs.inner.Loops.{open_ids}
use Rattle.mk_base.proofs.Items.{range_more}

-- something is open at the place
abbrev is_open : Place → Bool
is_open Idle = false
is_open (Stepping at id asks) = true
is_open (Fetching at id) = true

id_of_open : (o : Place) → is_some (id_at o) ≡ is_open o
id_of_open Idle = refl
id_of_open (Stepping at id asks) = refl
id_of_open (Fetching at id) = refl

-- what is open at a simulator, if anything, has a place
abbrev HasPlace : Option OpenTurn → Type 0
HasPlace None = Unit {0}
HasPlace (Some T) = is_open T.place ≡ true

abbrev HavePlaces : View → Type 0
HavePlaces V = (i : ℕ) → HasPlace (V.open_at i)

id_where_open : (o : Option OpenTurn) → HasPlace o → is_some (id_at (place_at o)) ≡ is_some o
id_where_open None h = refl
id_where_open (Some T) h = id_of_open T.place ∙ h

changed : (V : View) (s : ℕ) (o : Option OpenTurn) → HavePlaces V → HasPlace o → (i : ℕ) → HasPlace (with_open V s o i)
changed V s o h k i = elim (i == s) as (λ b. HasPlace (cond b o (V.open_at i))) [ true ↦ k | false ↦ h i ]

told_place : (item : Item) (o : Option OpenTurn) → HasPlace o → HasPlace (option_map (told_more item) o)
told_place item None h = tt
told_place item (Some T) h = h

after_item : (P : Plan) (V : View) (s : ℕ) (item : Item) → HavePlaces V → HasPlace (open_after P V s item)
after_item P V s (Step x ins advance) h = refl
after_item P V s (GetData wants) h = told_place (GetData wants) (V.open_at s) (h s)
after_item P V s (Answer id content) h = told_place (Answer id content) (V.open_at s) (h s)
after_item P V s (Refuse id reason) h = told_place (Refuse id reason) (V.open_at s) (h s)

next_is_open : (P : Plan) (i : ℕ) (o : Place) (m : Message) (q : Place) → next_place P i o m ≡ Some q → is_open q ≡ true
next_is_open P i Idle m q e = absurd (none_some e)
next_is_open P i (Stepping at id asks) (Ask n name args named) q e = subst (λ (p : Place). is_open p ≡ true) (some_same e) refl
next_is_open P i (Stepping at id asks) (Success n content) q e = elim (has_outputs P i) as (λ b. cond b (Some (Fetching at (id + 1))) None ≡ Some q → is_open q ≡ true) [
  | true ↦ λ h. subst (λ (p : Place). is_open p ≡ true) (some_same h) refl
  | false ↦ λ h. absurd (none_some h)
] e
next_is_open P i (Stepping at id asks) (Failure n text) q e = absurd (none_some e)
next_is_open P i (Fetching at id) m q e = absurd (none_some e)

after_right : (P : Plan) (V : View) (i : ℕ) (m : Message) (T : OpenTurn) (next : Option Place) → next_place P i T.place m ≡ next → HavePlaces V → HavePlaces (note_right P V i m T next)
after_right P V i m T None e h = changed V i None h tt
after_right P V i m T (Some q) e h = changed V i (Some _) h (next_is_open P i T.place m q e)

after_message : (P : Plan) (V : View) (i : ℕ) (m : Message) (o : Option OpenTurn) (c : Option Cause) → HavePlaces V → HavePlaces (note_got P V i m o c)
after_message P V i m o (Some c) h = h
after_message P V i m None None h = h
after_message P V i m (Some T) None h = after_right P V i m T (next_place P i T.place m) refl h

after_entry : (P : Plan) (V : View) (e : Entry) → HavePlaces V → HavePlaces (note P V e)
after_entry P V (Sent s item) h = changed V s.0 (open_after P V s.0 item) h (after_item P V s.0 item h)
after_entry P V (Got s m) h = after_message P V s.0 m (V.open_at s.0) (wrong P s.0 (place_at (V.open_at s.0)) m) h

after_entries : (P : Plan) (V : View) (J : List Entry) → HavePlaces V → HavePlaces (fold (note P) V J)
after_entries P V [] h = h
after_entries P V (e ∷ J) h = after_entries P (note P V e) J (after_entry P V e h)

filter_same : {X : Type 0} (p q : X → Bool) (xs : List X) → ((x : X) → p x ≡ q x) → filter p xs ≡ filter q xs
filter_same p q [] h = refl
filter_same p q (x ∷ xs) h = λ i. cond (h x i) (x ∷ filter_same p q xs h i) (filter_same p q xs h i)

-- an id is open where a turn is
pub id_of_turn : (core : CoreState) (i : ℕ) → is_some (open_id core i) ≡ is_some ((view core.plan core.entries).open_at i)
id_of_turn core i = id_where_open ((view core.plan core.entries).open_at i) (after_entries core.plan empty_view core.entries (λ j. tt) i)

-- the ids of all simulators count what is open
pub all_ids : (core : CoreState) → open_ids core (sim_count core.plan) ≡ open_count core.plan (view core.plan core.entries)
all_ids core = ap length (filter_same (λ i. is_some (open_id core i)) (λ i. is_some ((view core.plan core.entries).open_at i)) (range_with_len 0 (sim_count core.plan)) (id_of_turn core))

pub ids_more : (core : CoreState) (n m : ℕ) → m ≡ n + 1 → open_ids core m ≡ open_ids core n + (if is_some (open_id core n) then 1 else 0)
ids_more core n m e = ap (open_ids core) next ∙ ap (λ l. length (filter (λ i. is_some (open_id core i)) l)) (range_more 0 n) ∙ ap length (filter_append (λ i. is_some (open_id core i)) (range_with_len 0 n) ((0 + n) ∷ []))
    ∙ length-append (filter (λ i. is_some (open_id core i)) (range_with_len 0 n)) (filter (λ i. is_some (open_id core i)) ((0 + n) ∷ [])) ∙ ap (λ k. open_ids core n + k) (one n)
  where
    next : m ≡ suc n
    next = omega arith

    one : (n : ℕ) → length (filter (λ i. is_some (open_id core i)) ((0 + n) ∷ [])) ≡ (if is_some (open_id core n) then 1 else 0)
    one n = let z : 0 + n ≡ n = omega arith in rw z (elim (is_some (open_id core n)) as (λ b. length (cond b (n ∷ []) []) ≡ (if b then 1 else 0)) [ true ↦ refl | false ↦ refl ])

pub ids_within : (core : CoreState) (n : ℕ) → open_ids core n ≤ n
ids_within core zero = omega arith
ids_within core (suc n) = let e = ids_more core n (suc n) (omega arith) in let k = ids_within core n in
    rw e (elim (is_some (open_id core n)) as (λ b. open_ids core n + (if b then 1 else 0) ≤ suc n) [ true ↦ omega arith | false ↦ omega arith ])

one_at_least : {X : Type 0} (x : X) (xs : List X) → IsIn x xs → 1 ≤ length xs
one_at_least x [] m = absurd m
one_at_least x (y ∷ xs) m = omega arith

-- where some request is open, one is
pub some_are_open : (P : Plan) (J : List Entry) → SomeOpen P J → 1 ≤ open_count P (view P J)
some_are_open P J open_one = one_at_least open_one.0 _ (filter_in (λ i. is_some ((view P J).open_at i)) open_one.0 (range_with_len 0 (sim_count P)) (range_in open_one.0 0 (sim_count P) (omega arith) (let h = open_one.1.0 in omega arith))
    (there ((view P J).open_at open_one.0) open_one.1.1))
  where
    there : (o : Option OpenTurn) → (o ≡ None → ⊥) → is_some o ≡ true
    there None h = absurd (h refl)
    there (Some T) h = refl
