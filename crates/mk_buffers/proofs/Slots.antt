-- What slots hold under a key, with one slot put among them, and the inputs that come of it.
use Rattle.std.proofs.Common.{◌≡◌, ◌≢◌, ◌⊎◌, inl, inr, ℕ, zero, suc, ◌<◌, ◌≤◌, Bool, true, false, ◌&&◌, cond, List, [], ◌∷◌, ◌++◌, length, map, filter, get_or, slice_get, slice_set, Option, Some, None, option_map, refl, sym, ap, subst, ◌∙◌, arith, true≢false, ◌==◌}
use Rattle.std.specs.Prelude.{option_to_list}
use Rattle.std.specs.Cmp.{IsTotalOrder}
use Rattle.std.specs.List.{AllByRecursion, HoldsAt, insert}
use Rattle.std.specs.List.Sorted.{IsStrictlySortedBy, IsNonDecreasingBy, IsPartitionPoint}
use Rattle.std.specs.Ordering.{ordering_then, ordering_reverse, ordering_index, is_eq}
use Rattle.std.specs.declared.cmp.Ordering.{Ordering}
use Rattle.std.specs.declared.cmp.Ordering.TheVariants.{Less, Equal, Greater}
use Rattle.std.specs.Cmp.Lexicographic.{on_texts}
use Rattle.std.proofs.lemmas.Cmp.{then_total}
use Rattle.std.proofs.lemmas.Map.Lookups.{exact_bytes}
use Rattle.mk_base.specs.declared.tier.Tier.{Tier}
use Rattle.mk_base.specs.Tiers.{up_to}
use Rattle.mk_base.specs.Lists.{put, placed, text_order}
use Rattle.mk_base.proofs.Lists.{append_nil, some_same, at_in}
use Rattle.mk_plan.specs.declared.Plan.{Plan}
use Rattle.mk_plan.specs.declared.Input.{Input}
use Rattle.mk_plan.specs.Plans.{owner}
use Rattle.mk_plan.specs.Deliveries.{Timed, Gift}
use Rattle.mk_plan.specs.Inputs.{input_order, gift_input, is_since}
use Rattle.mk_order.proofs.Assembled.{else_by, last_with}
use Rattle.mk_order.proofs.GivenValues.{is_for}
use Rattle.mk_buffers.specs.declared.sets.Slot.{Slot}
use Rattle.mk_buffers_log.specs.Logs.{within}
use Rattle.mk_buffers.specs.Slots.{input_in, same_key, or_before, last_of, last_within, held_for, given_for, SameLast, AnswerGifts}
use Rattle.mk_buffers.specs.inner.Slots.{slot_order, set_inputs, TakesLast, HaveTaken, HasTakenAt, HasInserted}
use Rattle.mk_buffers.proofs.Lasts.{or_last, last_filtered}
use Rattle.mk_plan_judge.proofs.Putting.{put_found, put_unfound}
use Rattle.mk_buffers_log.proofs.Places.{get_some}
use Rattle.mk_plan_judge.proofs.Puts.{all_has}
use Rattle.mk_base.proofs.Bools.{both_equal}

pub slots_total : IsTotalOrder slot_order
slots_total = then_total (on_texts (λ (i : Slot). i.eid)) (then_total (on_texts (λ (i : Slot). i.attr)) (on_texts (λ (i : Slot). i.source)))

-- ---- keys

pub key_of : (k n : Input) → input_order k n ≡ Equal → (k.eid ≡ n.eid) × (k.attr ≡ n.attr) × (k.source ≡ n.source)
key_of k n e =
    let t = both_equal (text_order k.eid n.eid) (ordering_then (text_order k.attr n.attr) (text_order k.source n.source)) e in
    let u = both_equal (text_order k.attr n.attr) (text_order k.source n.source) t.1 in
    (exact_bytes k.eid n.eid t.0, exact_bytes k.attr n.attr u.0, exact_bytes k.source n.source u.1)

-- an input of the same names compares the same
pub same_to : (k m n : Input) → m.eid ≡ n.eid → m.attr ≡ n.attr → m.source ≡ n.source → input_order k m ≡ input_order k n
same_to k m n e a s = λ i. ordering_then (text_order k.eid (e i)) (ordering_then (text_order k.attr (a i)) (text_order k.source (s i)))

pub from_same : (k m n : Input) → m.eid ≡ n.eid → m.attr ≡ n.attr → m.source ≡ n.source → input_order m k ≡ input_order n k
from_same k m n e a s = λ i. ordering_then (text_order (e i) k.eid) (ordering_then (text_order (a i) k.attr) (text_order (s i) k.source))

-- a test of a key, from the order
is_equal : (o : Ordering) → is_eq o ≡ true → o ≡ Equal
is_equal Less h = absurd (true≢false (sym h))
is_equal Equal h = refl
is_equal Greater h = absurd (true≢false (sym h))

-- under a key of n, a slot compares as n does
as_key : (k : Input) (n y : Slot) → same_key k (input_in n []) ≡ true → input_order k (input_in y []) ≡ slot_order n y
as_key k n y h = let t = key_of k (input_in n []) (is_equal (input_order k (input_in n [])) h) in from_same (input_in y []) k (input_in n []) t.0 t.1 t.2

not_less_equal : Less ≡ Equal → ⊥
not_less_equal e = cc

apart_less : (k : Input) (n y : Slot) → same_key k (input_in n []) ≡ true → slot_order n y ≡ Less → same_key k (input_in y []) ≡ false
apart_less k n y h e = ap is_eq (as_key k n y h ∙ e)

apart_greater : (k : Input) (n y : Slot) → same_key k (input_in n []) ≡ true → slot_order n y ≡ Greater → same_key k (input_in y []) ≡ false
apart_greater k n y h e = ap is_eq (as_key k n y h ∙ e)

-- an equal slot is of the same keys
as_equal : (k : Input) (n y : Slot) → slot_order n y ≡ Equal → same_key k (input_in n []) ≡ same_key k (input_in y [])
as_equal k n y e = let t = key_of (input_in n []) (input_in y []) e in ap is_eq (same_to k (input_in n []) (input_in y []) t.0 t.1 t.2)

-- ---- what is held under a key

none_after : (k : Input) (n : Slot) (ys : List Slot) → same_key k (input_in n []) ≡ true → AllByRecursion (λ y. slot_order n y ≡ Less) ys → held_for k ys ≡ []
none_after k n [] h all = refl
none_after k n (y ∷ ys) h all = ap (λ (c : Bool). cond c y.values [] ++ held_for k ys) (apart_less k n y h all.0) ∙ none_after k n ys h all.1

lessened : (n y : Slot) (ys : List Slot) → slot_order n y ≡ Less → AllByRecursion (λ z. slot_order y z ≡ Less) ys → AllByRecursion (λ z. slot_order n z ≡ Less) ys
lessened n y [] e all = tt
lessened n y (z ∷ zs) e all = (slots_total.trans n y z e all.0, lessened n y zs e all.1)

pub held_put : (k : Input) (n : Slot) (ys : List Slot) → IsStrictlySortedBy slot_order ys → held_for k (put slot_order n ys) ≡ cond (same_key k (input_in n [])) n.values (held_for k ys)
unfolding IsStrictlySortedBy
held_put k n [] sorted = go (same_key k (input_in n []))
  where
    go : (b : Bool) → cond b n.values [] ++ [] ≡ cond b n.values []
    go true = append_nil n.values
    go false = refl
held_put k n (y ∷ ys) sorted = by (slot_order n y) refl (same_key k (input_in n [])) refl (held_put k n ys sorted.1)
  where
    by : (o : Ordering) → slot_order n y ≡ o → (b : Bool) → same_key k (input_in n []) ≡ b → held_for k (put slot_order n ys) ≡ cond (same_key k (input_in n [])) n.values (held_for k ys)
        → held_for k (placed o n y ys (put slot_order n ys)) ≡ cond b n.values (held_for k (y ∷ ys))
    by Less e true h rest = ap (λ (c : Bool). cond c n.values [] ++ held_for k (y ∷ ys)) h
        ∙ ap (λ (l : List Timed). n.values ++ l) (none_after k n (y ∷ ys) h (e, lessened n y ys e sorted.0)) ∙ append_nil n.values
    by Less e false h rest = ap (λ (c : Bool). cond c n.values [] ++ held_for k (y ∷ ys)) h
    by Equal e true h rest = ap (λ (c : Bool). cond c n.values [] ++ held_for k ys) h
        ∙ ap (λ (l : List Timed). n.values ++ l) (none_after k y ys (sym (as_equal k n y e) ∙ h) sorted.0) ∙ append_nil n.values
    by Equal e false h rest = ap (λ (c : Bool). cond c n.values [] ++ held_for k ys) h ∙ sym (ap (λ (c : Bool). cond c y.values [] ++ held_for k ys) (sym (as_equal k n y e) ∙ h))
    by Greater e true h rest = ap (λ (c : Bool). cond c y.values [] ++ held_for k (put slot_order n ys)) (apart_greater k n y h e) ∙ rest ∙ ap (λ (c : Bool). cond c n.values (held_for k ys)) h
    by Greater e false h rest = ap (λ (l : List Timed). cond (same_key k (input_in y [])) y.values [] ++ l) (rest ∙ ap (λ (c : Bool). cond c n.values (held_for k ys)) h)

pub held_at : (k : Input) (xs : List Slot) (i : ℕ) (o : Slot) → IsStrictlySortedBy slot_order xs → slice_get xs i ≡ Some o → same_key k (input_in o []) ≡ true → held_for k xs ≡ o.values
unfolding IsStrictlySortedBy
held_at k [] i o sorted at h = cc
held_at k (y ∷ ys) zero o sorted at h =
    let same : y ≡ o = some_same at in
    let mine : same_key k (input_in y []) ≡ true = ap (λ (z : Slot). same_key k (input_in z [])) same ∙ h in
    ap (λ (c : Bool). cond c y.values [] ++ held_for k ys) mine ∙ ap (λ (l : List Timed). y.values ++ l) (none_after k y ys mine sorted.0) ∙ append_nil y.values ∙ ap (λ (z : Slot). z.values) same
held_at k (y ∷ ys) (suc i) o sorted at h =
    let less : slot_order y o ≡ Less = all_has (λ z. slot_order y z ≡ Less) ys o sorted.0 (at_in o ys i at) in
    let more : slot_order o y ≡ Greater = slots_total.antisymm o y ∙ ap ordering_reverse less in
    ap (λ (c : Bool). cond c y.values [] ++ held_for k ys) (apart_greater k o y h more) ∙ held_at k ys i o sorted.1 at h

pub held_none : (k : Input) (n : Slot) (xs : List Slot) → same_key k (input_in n []) ≡ true → ((j : ℕ) (d : Slot) → j < length xs → slot_order (get_or xs j d) n ≢ Equal) → held_for k xs ≡ []
held_none k n [] h apart = refl
held_none k n (y ∷ ys) h apart = ap (λ (c : Bool). cond c y.values [] ++ held_for k ys) (go (slot_order n y) refl) ∙ held_none k n ys h (λ j d low. apart (suc j) d (omega arith))
  where
    go : (o : Ordering) → slot_order n y ≡ o → same_key k (input_in y []) ≡ false
    go Less e = apart_less k n y h e
    go Equal e = absurd (apart 0 y (omega arith) (slots_total.antisymm y n ∙ ap ordering_reverse e))
    go Greater e = apart_greater k n y h e

-- ---- a search in sorted slots

below_equal : (y z x : Slot) → slot_order y z ≡ Less → slot_order z x ≡ Equal → slot_order y x ≡ Less
below_equal y z x low same = slots_total.antisymm y x ∙ ap ordering_reverse (sym (slots_total.congr z x y same) ∙ slots_total.antisymm z y ∙ ap ordering_reverse low)

no_higher : (y z x : Slot) → slot_order y z ≡ Less → ordering_index (slot_order y x) ≤ ordering_index (slot_order z x)
no_higher y z x low = elim (slot_order z x) as (λ o. slot_order z x ≡ o → ordering_index (slot_order y x) ≤ ordering_index o) [
  | Less ↦ λ e. rw (slots_total.trans y z x low e) (omega arith)
  | Equal ↦ λ e. rw (below_equal y z x low e) (omega arith)
  | Greater ↦ λ e. elim (slot_order y x) as (λ o. ordering_index o ≤ 2) [ Less ↦ omega arith | Equal ↦ omega arith | Greater ↦ omega arith ]
] refl

all_get : (P : Slot → Type 0) (xs : List Slot) (i : ℕ) (d : Slot) → i < length xs → AllByRecursion P xs → P (get_or xs i d)
all_get P [] i d there all = absurd (omega arith)
all_get P (x ∷ xs) zero d there all = all.0
all_get P (x ∷ xs) (suc i) d there all = all_get P xs i d (omega arith) all.1

sorted_get : (xs : List Slot) (i j : ℕ) (d : Slot) → IsStrictlySortedBy slot_order xs → i < j → j < length xs → slot_order (get_or xs i d) (get_or xs j d) ≡ Less
unfolding IsStrictlySortedBy
sorted_get [] i j d sorted before there = absurd (omega arith)
sorted_get (x ∷ xs) i zero d sorted before there = absurd (omega arith)
sorted_get (x ∷ xs) zero (suc j) d sorted before there = all_get (λ y. slot_order x y ≡ Less) xs j d (omega arith) sorted.0
sorted_get (x ∷ xs) (suc i) (suc j) d sorted before there = sorted_get xs i j d sorted.1 (omega arith) (omega arith)

pub rising : (x : Slot) (xs : List Slot) → IsStrictlySortedBy slot_order xs → IsNonDecreasingBy (λ y. ordering_index (slot_order y x)) xs
rising x xs sorted i j d before there = elim (le_cases i j before) [
  | inl same ↦ subst (λ (k : ℕ). ordering_index (slot_order (get_or xs i d) x) ≤ ordering_index (slot_order (get_or xs k d) x)) same (omega arith)
  | inr less ↦ no_higher (get_or xs i d) (get_or xs j d) x (sorted_get xs i j d sorted less there)
]
  where
    le_cases : (i j : ℕ) → i ≤ j → (i ≡ j) ⊎ (i < j)
    le_cases i j h = grind arith

pub apart_all : (x : Slot) (xs : List Slot) (i : ℕ) → IsPartitionPoint (λ y. slot_order y x ≡ Less) (λ y. slot_order y x ≡ Greater) xs i → (j : ℕ) (d : Slot) → j < length xs → slot_order (get_or xs j d) x ≢ Equal
apart_all x xs i parts j d there same = elim (cases j i) [
  | inl low ↦ not_less_equal (sym (parts.0 j d (omega arith) (omega (arith, low))) ∙ same)
  | inr high ↦ not_greater_equal (sym (parts.1 j d (omega (arith, high)) (omega (arith, there))) ∙ same)
]
  where
    cases : (j i : ℕ) → (j < i) ⊎ (i ≤ j)
    cases j i = grind arith

    not_greater_equal : Greater ≡ Equal → ⊥
    not_greater_equal e = cc

-- ---- slots with one more value

-- from the list with the slot put among the old ones, and what they held under its key
pub have_taken : (m : Tier) (t : Timed) (n : Slot) (key : Input) (old new : List Slot) → key.eid ≡ n.eid → key.attr ≡ n.attr → key.source ≡ n.source → IsStrictlySortedBy slot_order old → new ≡ put slot_order n old
    → ((k : Input) → same_key k (input_in n []) ≡ true → TakesLast m t (held_for k old) n.values) → HaveTaken m key t old new
have_taken m t n key old new e a s sorted is takes = record {
  here = λ k h. subst (TakesLast m t (held_for k old)) (sym (held k (same k ∙ h))) (takes k (same k ∙ h));
  others = λ k h. ap (held_for k) is ∙ held_put k n old sorted ∙ ap (λ (c : Bool). cond c n.values (held_for k old)) (same k ∙ h);
}
  where
    same : (k : Input) → same_key k (input_in n []) ≡ same_key k key
    same k = ap is_eq (same_to k (input_in n []) key (sym e) (sym a) (sym s))

    held : (k : Input) → same_key k (input_in n []) ≡ true → held_for k new ≡ n.values
    held k h = ap (held_for k) is ∙ held_put k n old sorted ∙ ap (λ (c : Bool). cond c n.values (held_for k old)) h

pub set_same : {X : Type 0} (xs : List X) (i : ℕ) (x y : X) → i < length xs → x ≡ get_or xs i x → y ≡ x → slice_set xs i y ≡ xs
set_same [] i x y there is same = refl
set_same (z ∷ zs) zero x y there is same = ap (λ w. w ∷ zs) (same ∙ is)
set_same (z ∷ zs) (suc i) x y there is same = ap (λ l. z ∷ l) (set_same zs i x y (omega arith) is same)

-- ---- set values and slots

module _ (P : Plan) (s : ℕ) (m : Tier) (g : Gift) where
  pub given_more : (k : Input) (all : List Gift) → given_for P s k (all ++ g ∷ []) ≡ given_for P s k all ++ given_for P s k (g ∷ [])
  given_more k [] = refl
  given_more k (h ∷ hs) = go (given_more k hs) ((owner P h.given.entity == s) && same_key k (gift_input P h.given))
    where
      go : given_for P s k (hs ++ g ∷ []) ≡ given_for P s k hs ++ given_for P s k (g ∷ []) → (b : Bool) → map (λ (g : Gift). let t : Timed = record { at = g.at; value = g.given.value } in t) (cond b (h ∷ filter (λ g. (owner P g.given.entity == s) && same_key k (gift_input P g.given)) (hs ++ g ∷ [])) (filter (λ g. (owner P g.given.entity == s) && same_key k (gift_input P g.given)) (hs ++ g ∷ [])))
          ≡ map (λ (g : Gift). let t : Timed = record { at = g.at; value = g.given.value } in t) (cond b (h ∷ filter (λ g. (owner P g.given.entity == s) && same_key k (gift_input P g.given)) hs) (filter (λ g. (owner P g.given.entity == s) && same_key k (gift_input P g.given)) hs)) ++ given_for P s k (g ∷ [])
      go rest true = ap (λ (l : List Timed). (let t : Timed = record { at = h.at; value = h.given.value } in t) ∷ l) rest
      go rest false = rest

  -- one more set value for another simulator
  pub answer_apart : (slots : List Slot) (all : List Gift) → (owner P g.given.entity == s) ≡ false → AnswerGifts P s m slots all → AnswerGifts P s m slots (all ++ g ∷ [])
  answer_apart slots all apart f k = subst (SameLast m (held_for k slots)) (sym (given_more k all ∙ ap (λ (l : List Timed). given_for P s k all ++ l) none ∙ append_nil (given_for P s k all))) (f k)
    where
      none : given_for P s k (g ∷ []) ≡ []
      none = ap (λ (b : Bool). map (λ (g : Gift). let t : Timed = record { at = g.at; value = g.given.value } in t) (cond (b && same_key k (gift_input P g.given)) (g ∷ []) [])) apart

  -- one more set value for this one
  pub answer_taken : (old new : List Slot) (all : List Gift) (n : Input) (t : Timed) → HaveTaken m n t old new → gift_input P g.given ≡ record { eid = n.eid; attr = n.attr; source = n.source; value = g.given.value } → t ≡ record { at = g.at; value = g.given.value }
      → (owner P g.given.entity == s) ≡ true → AnswerGifts P s m old all → AnswerGifts P s m new (all ++ g ∷ [])
  answer_taken old new all n t has is what own f k = by (same_key k n) refl
    where
      one : (b : Bool) → same_key k n ≡ b → given_for P s k (g ∷ []) ≡ cond b ((let u : Timed = record { at = g.at; value = g.given.value } in u) ∷ []) []
      one b h = ap (λ (c : Bool). map (λ (g : Gift). let t : Timed = record { at = g.at; value = g.given.value } in t) (cond (c && same_key k (gift_input P g.given)) (g ∷ []) [])) own
          ∙ ap (λ (c : Bool). map (λ (g : Gift). let t : Timed = record { at = g.at; value = g.given.value } in t) (cond c (g ∷ []) [])) (ap (same_key k) is ∙ h) ∙ go b
        where
          go : (b : Bool) → map (λ (g : Gift). let t : Timed = record { at = g.at; value = g.given.value } in t) (cond b (g ∷ []) []) ≡ cond b ((let u : Timed = record { at = g.at; value = g.given.value } in u) ∷ []) []
          go true = refl
          go false = refl

      by : (b : Bool) → same_key k n ≡ b → SameLast m (held_for k new) (given_for P s k (all ++ g ∷ []))
      by true h = subst (SameLast m (held_for k new)) (ap (λ (u : Timed). given_for P s k all ++ u ∷ []) what ∙ ap (λ (l : List Timed). given_for P s k all ++ l) (sym (one true h)) ∙ sym (given_more k all)) (has.here k h (given_for P s k all) (f k))
      by false h = subst (λ (l : List Timed). SameLast m l (given_for P s k (all ++ g ∷ []))) (sym (has.others k h))
          (subst (SameLast m (held_for k old)) (sym (given_more k all ∙ ap (λ (l : List Timed). given_for P s k all ++ l) (one false h) ∙ append_nil (given_for P s k all))) (f k))

-- ---- the last input of a key

abbrev pub as_input : Input → Timed → Input
as_input k t = record { eid = k.eid; attr = k.attr; source = k.source; value = t.value }

-- an input of the key of k is that of k with another value
keyed : (k n : Input) (t : Timed) → n.value ≡ t.value → input_order k n ≡ Equal → n ≡ as_input k t
keyed k n t v e = let q = key_of k n e in λ i. record { eid = sym q.0 i; attr = sym q.1 i; source = sym q.2 i; value = v i }

or_none : (o : Option Timed) → or_last o None ≡ o
or_none None = refl
or_none (Some u) = refl

or_some : (o : Option Timed) (t : Timed) → or_last o (Some t) ≡ or_before o t
or_some None t = refl
or_some (Some u) t = refl

-- one more input before the others
one_more : (k : Input) (L : Option Input) (M : Option Timed) (c : Ordering) (n : Input) (t : Timed) → L ≡ option_map (as_input k) M → (c ≡ Equal → n ≡ as_input k t) → else_by L c n ≡ option_map (as_input k) (or_last M (cond (is_eq c) (Some t) None))
one_more k L M c n t is named = ap (λ (o : Option Input). else_by o c n) is ∙ go M c named
  where
    go : (M : Option Timed) (c : Ordering) → (c ≡ Equal → n ≡ as_input k t) → else_by (option_map (as_input k) M) c n ≡ option_map (as_input k) (or_last M (cond (is_eq c) (Some t) None))
    go None Less f = refl
    go None Equal f = ap Some (f refl)
    go None Greater f = refl
    go (Some u) c f = refl

module _ (p : Option Tier) (x : Tier) (k : Input) where
  -- of what slots give
  pub last_set : (slots : List Slot) → last_with input_order k (set_inputs slots p x) ≡ option_map (as_input k) (last_within p x (held_for k slots))
  last_set [] = refl
  last_set (i ∷ is) = by (last_set is) (last_within p x i.values) refl ∙ sym (ap (option_map (as_input k)) (last_filtered (within false p x) (cond (same_key k (input_in i [])) i.values []) (held_for k is)))
    where
      key : (b : Bool) (o : Option Timed) → last_within p x i.values ≡ o → cond b o None ≡ last_of (filter (within false p x) (cond b i.values []))
      key true o e = sym e
      key false o e = refl

      nothing : (b : Bool) → let o : Option Timed = None in o ≡ cond b None None
      nothing true = refl
      nothing false = refl

      by : last_with input_order k (set_inputs is p x) ≡ option_map (as_input k) (last_within p x (held_for k is)) → (o : Option Timed) → last_within p x i.values ≡ o
          → last_with input_order k (option_to_list (option_map (λ (t : Timed). input_in i t.value) o) ++ set_inputs is p x) ≡ option_map (as_input k) (or_last (last_within p x (held_for k is)) (last_of (filter (within false p x) (cond (same_key k (input_in i [])) i.values []))))
      by rest None e = rest ∙ ap (option_map (as_input k)) (sym (or_none (last_within p x (held_for k is))))
          ∙ ap (λ (z : Option Timed). option_map (as_input k) (or_last (last_within p x (held_for k is)) z)) (nothing (same_key k (input_in i [])) ∙ key (same_key k (input_in i [])) None e)
      by rest (Some t) e = one_more k (last_with input_order k (set_inputs is p x)) (last_within p x (held_for k is)) (input_order k (input_in i [])) (input_in i t.value) t rest (λ q. keyed k (input_in i t.value) t refl q)
          ∙ ap (λ (z : Option Timed). option_map (as_input k) (or_last (last_within p x (held_for k is)) z)) (key (same_key k (input_in i [])) (Some t) e)

  -- of what set values give
  pub last_given : (P : Plan) (s : ℕ) (all : List Gift) → last_with input_order k (map (λ (g : Gift). gift_input P g.given) (filter (is_for P s p x) all)) ≡ option_map (as_input k) (last_within p x (given_for P s k all))
  last_given P s [] = refl
  last_given P s (g ∷ gs) = go (last_given P s gs) (owner P g.given.entity == s)
    where
      by : last_with input_order k (map (λ (g : Gift). gift_input P g.given) (filter (is_for P s p x) gs)) ≡ option_map (as_input k) (last_within p x (given_for P s k gs)) → (w : Bool) → within false p x (let t : Timed = record { at = g.at; value = g.given.value } in t) ≡ w → (b : Bool) → same_key k (gift_input P g.given) ≡ b
          → last_with input_order k (map (λ (g : Gift). gift_input P g.given) (cond w (g ∷ filter (is_for P s p x) gs) (filter (is_for P s p x) gs)))
          ≡ option_map (as_input k) (last_within p x (map (λ (g : Gift). let t : Timed = record { at = g.at; value = g.given.value } in t) (cond b (g ∷ filter (λ (g : Gift). (owner P g.given.entity == s) && same_key k (gift_input P g.given)) gs) (filter (λ (g : Gift). (owner P g.given.entity == s) && same_key k (gift_input P g.given)) gs))))
      by rest false h true q = rest ∙ sym (ap (λ (c : Bool). option_map (as_input k) (last_of (cond c ((let t : Timed = record { at = g.at; value = g.given.value } in t) ∷ filter (within false p x) (given_for P s k gs)) (filter (within false p x) (given_for P s k gs))))) h)
      by rest false h false q = rest
      by rest true h true q = one_more k (last_with input_order k (map (λ (g : Gift). gift_input P g.given) (filter (is_for P s p x) gs))) (last_within p x (given_for P s k gs)) (input_order k (gift_input P g.given)) (gift_input P g.given) (record { at = g.at; value = g.given.value }) (rest) (λ r. keyed k (gift_input P g.given) (record { at = g.at; value = g.given.value }) refl r)
          ∙ ap (λ (c : Bool). option_map (as_input k) (or_last (last_within p x (given_for P s k gs)) (cond c (Some (let t : Timed = record { at = g.at; value = g.given.value } in t)) None))) q
          ∙ ap (option_map (as_input k)) (or_some (last_within p x (given_for P s k gs)) (record { at = g.at; value = g.given.value }))
          ∙ sym (ap (λ (c : Bool). option_map (as_input k) (last_of (cond c ((let t : Timed = record { at = g.at; value = g.given.value } in t) ∷ filter (within false p x) (given_for P s k gs)) (filter (within false p x) (given_for P s k gs))))) h)
      by rest true h false q = one_more k (last_with input_order k (map (λ (g : Gift). gift_input P g.given) (filter (is_for P s p x) gs))) (last_within p x (given_for P s k gs)) (input_order k (gift_input P g.given)) (gift_input P g.given) (record { at = g.at; value = g.given.value }) (rest) (λ r. keyed k (gift_input P g.given) (record { at = g.at; value = g.given.value }) refl r)
          ∙ ap (λ (c : Bool). option_map (as_input k) (or_last (last_within p x (given_for P s k gs)) (cond c (Some (let t : Timed = record { at = g.at; value = g.given.value } in t)) None))) q
          ∙ ap (option_map (as_input k)) (or_none (last_within p x (given_for P s k gs)))

      go : last_with input_order k (map (λ (g : Gift). gift_input P g.given) (filter (is_for P s p x) gs)) ≡ option_map (as_input k) (last_within p x (given_for P s k gs)) → (own : Bool) → last_with input_order k (map (λ (g : Gift). gift_input P g.given) (cond (own && up_to g.at x && is_since p g.at) (g ∷ filter (is_for P s p x) gs) (filter (is_for P s p x) gs)))
          ≡ option_map (as_input k) (last_within p x (map (λ (g : Gift). let t : Timed = record { at = g.at; value = g.given.value } in t) (cond (own && same_key k (gift_input P g.given)) (g ∷ filter (λ (g : Gift). (owner P g.given.entity == s) && same_key k (gift_input P g.given)) gs) (filter (λ (g : Gift). (owner P g.given.entity == s) && same_key k (gift_input P g.given)) gs))))
      go rest true = by rest (within false p x (record { at = g.at; value = g.given.value })) refl (same_key k (gift_input P g.given)) refl
      go rest false = rest

-- ---- one slot changed, or one more

pub slot_set : (m : Tier) (t : Timed) (fresh o y : Slot) (xs now items : List Slot) (i : ℕ) → xs ≡ now → IsStrictlySortedBy slot_order xs → items ≡ xs → i < length items → HoldsAt (λ y. slot_order y fresh ≡ Equal) items i → o ≡ get_or xs i o
    → y.eid ≡ o.eid → y.attr ≡ o.attr → y.source ≡ o.source → TakesLast m t o.values y.values → IsStrictlySortedBy slot_order (slice_set xs i y) × HaveTaken m (input_in fresh []) t now (slice_set xs i y)
slot_set m t fresh o y xs now items i same sorted is low found here e a s takes =
    let there : i < length xs = subst (λ (l : List Slot). i < length l) is low in
    let equal : HoldsAt (λ y. slot_order y fresh ≡ Equal) xs i = subst (λ (l : List Slot). HoldsAt (λ y. slot_order y fresh ≡ Equal) l i) is found in
    let names = key_of (input_in o []) (input_in fresh []) (subst (λ (z : Slot). slot_order z fresh ≡ Equal) (sym here) (equal o)) in
    let made = put_found slot_order slots_total y xs xs (slice_set xs i y) i sorted refl there (λ d. same_to (input_in (get_or xs i d) []) (input_in y []) (input_in fresh []) (e ∙ names.0) (a ∙ names.1) (s ∙ names.2) ∙ equal d) refl in (
      made.1,
      subst (λ (l : List Slot). HaveTaken m (input_in fresh []) t l (slice_set xs i y)) same (have_taken m t y (input_in fresh []) xs (slice_set xs i y) (sym (e ∙ names.0)) (sym (a ∙ names.1)) (sym (s ∙ names.2)) sorted made.0
          (λ k h. subst (λ (l : List Timed). TakesLast m t l y.values) (sym (held_at k xs i o sorted (get_some xs i o there here) (ap is_eq (same_to k (input_in o []) (input_in y []) (sym e) (sym a) (sym s)) ∙ h))) takes)),
    )

pub slot_inserted : (m : Tier) (t : Timed) (fresh : Slot) (vs : List Timed) (xs now items new : List Slot) (i : ℕ) → xs ≡ now → IsStrictlySortedBy slot_order xs → items ≡ xs → i ≤ length items
    → (IsNonDecreasingBy (λ y. ordering_index (slot_order y fresh)) items → IsPartitionPoint (λ y. slot_order y fresh ≡ Less) (λ y. slot_order y fresh ≡ Greater) items i)
    → new ≡ insert xs i (record { eid = fresh.eid; attr = fresh.attr; source = fresh.source; values = vs }) → fresh.values ≡ [] → TakesLast m t fresh.values vs → IsStrictlySortedBy slot_order new × HaveTaken m (input_in fresh []) t now new
slot_inserted m t fresh vs xs now items new i same sorted is low found set none takes =
    let y : Slot = record { eid = fresh.eid; attr = fresh.attr; source = fresh.source; values = vs } in
    let made = put_unfound slot_order slots_total y xs items new i sorted is low found set in
    let parts : IsPartitionPoint (λ y. slot_order y fresh ≡ Less) (λ y. slot_order y fresh ≡ Greater) xs i =
    subst (λ (l : List Slot). IsNonDecreasingBy (λ y. ordering_index (slot_order y fresh)) l → IsPartitionPoint (λ y. slot_order y fresh ≡ Less) (λ y. slot_order y fresh ≡ Greater) l i) is found (rising fresh xs sorted) in (
      made.1,
      subst (λ (l : List Slot). HaveTaken m (input_in fresh []) t l new) same (have_taken m t y (input_in fresh []) xs new refl refl refl sorted made.0
          (λ k h. subst (λ (l : List Timed). TakesLast m t l vs) (none ∙ sym (held_none k fresh xs h (apart_all fresh xs i parts))) takes)),
    )

pub taken_at : (m : Tier) (t : Timed) (fresh : Slot) (xs now items new : List Slot) (i : ℕ) → xs ≡ now → IsStrictlySortedBy slot_order xs → items ≡ xs → i < length items → HoldsAt (λ y. slot_order y fresh ≡ Equal) items i → HasTakenAt m t i xs new
    → IsStrictlySortedBy slot_order new × HaveTaken m (input_in fresh []) t now new
taken_at m t fresh xs now items new i same sorted is low found d =
    subst (λ (l : List Slot). IsStrictlySortedBy slot_order l × HaveTaken m (input_in fresh []) t now l) (sym d.items)
    (slot_set m t fresh d.before (record { eid = d.before.eid; attr = d.before.attr; source = d.before.source; values = d.values }) xs now items i same sorted is low found d.at_place refl refl refl d.taken)

pub inserted_at : (m : Tier) (t : Timed) (fresh : Slot) (xs now items new : List Slot) (i : ℕ) → xs ≡ now → IsStrictlySortedBy slot_order xs → items ≡ xs → i ≤ length items
    → (IsNonDecreasingBy (λ y. ordering_index (slot_order y fresh)) items → IsPartitionPoint (λ y. slot_order y fresh ≡ Less) (λ y. slot_order y fresh ≡ Greater) items i)
    → HasInserted m t i fresh xs new → fresh.values ≡ [] → IsStrictlySortedBy slot_order new × HaveTaken m (input_in fresh []) t now new
inserted_at m t fresh xs now items new i same sorted is low found d none = slot_inserted m t fresh d.values xs now items new i same sorted is low found d.items none d.taken

pub none_sorted : (xs : List Slot) → xs ≡ [] → IsStrictlySortedBy slot_order xs
unfolding IsStrictlySortedBy
none_sorted xs is = subst (IsStrictlySortedBy slot_order) (sym is) tt
