-- Where marks stand in their order, what holds between each and the next holds between each two.
use Rattle.std.proofs.Common.{◌≡◌, ℕ, zero, suc, ◌+◌, ◌<◌, ◌≤◌, Bool, true, false, not, ◌&&◌, ◌==◌, List, [], ◌∷◌, ◌++◌, length, map, get_or, refl, sym, ap, ◌∙◌, subst, arith, is_lt}
use Rattle.std.specs.Prelude.{⊤}
use Rattle.std.specs.Cmp.Lexicographic.{slice_cmp, nat_list_cmp_total}
use Rattle.std.specs.List.{list_all, range_with_len, IsDistinct, AllByRecursion, IsAllAdjacentAnswer}
use Rattle.std.specs.List.Sorted.{IsPermutation, IsSortedBy}
use Rattle.std.specs.Ordering.{nat_cmp, ordering_reverse}
use Rattle.std.specs.declared.cmp.Ordering.{Ordering}
use Rattle.std.specs.declared.cmp.Ordering.TheVariants.{Less, Equal, Greater}
use Rattle.std.proofs.lemmas.Bool.{and_parts, and_from, true≢false}
use Rattle.std.proofs.lemmas.List.Sorted.{sorted_far, ranks_by, IsPermutation-sym}
use Rattle.std.proofs.lemmas.Map.Keys.{IsDistinct-IsPermutation}
use Rattle.std.proofs.lemmas.Map.Lookups.{exact_bytes}
use Rattle.std.proofs.lemmas.List.FromFn.{map-range_with_len_more}
use Rattle.mk_base.specs.Lists.{same_text}
use Rattle.mk_base.proofs.Lists.{map_append}
use Rattle.mk_plan.specs.declared.Plan.{Plan}
use Rattle.mk_plan.specs.declared.Conn.{Conn}
use Rattle.mk_plan_check.specs.declared.marks.Mark.{Mark}
use Rattle.mk_plan_check.specs.Tests.{all_apart, implies, same_bool, eids_apart, has_one_connection_each, sources_agree, targets_agree}
use Rattle.mk_plan_check.specs.inner.Marks.{Label, label_of, way_label, source_label, target_label, name_label, comes_first, differ, agree, differ_by, agree_by, fits_first, all_next}
use Rattle.mk_plan_check.proofs.Meaning.{differ_is, is_differ, bools_from, from_bools, implies_at, at_implies}
use Rattle.mk_base.proofs.Bools.{and_false, same_truth, not_false}
use Rattle.mk_base.proofs.Items.{same_text_self}
use Rattle.mk_base.proofs.Guessing.{text_is}
use Rattle.mk_base.proofs.AtPlaces.{same_sym}

module _ {X : Type 0} (fits : X → X → Bool) where
  all_not : (x : X) (xs : List X) → list_all (fits x) xs ≡ true → AllByRecursion (λ y. not (fits x y) ≡ false) xs
  all_not x [] h = tt
  all_not x (y ∷ ys) h = let t = and_parts (fits x y) (list_all (fits x) ys) h in (ap not t.0, all_not x ys t.1)

  not_all : (x : X) (xs : List X) → AllByRecursion (λ y. not (fits x y) ≡ false) xs → list_all (fits x) xs ≡ true
  not_all x [] h = refl
  not_all x (y ∷ ys) h = and_from (fits x y) (list_all (fits x) ys) (not_false (fits x y) h.0) (not_all x ys h.1)

  distinct_from : (xs : List X) → all_apart fits xs ≡ true → IsDistinct (λ x y. not (fits x y)) xs
  unfolding IsDistinct
  distinct_from [] h = tt
  distinct_from (x ∷ xs) h = let t = and_parts (list_all (fits x) xs) (all_apart fits xs) h in (all_not x xs t.0, distinct_from xs t.1)

  from_distinct : (xs : List X) → IsDistinct (λ x y. not (fits x y)) xs → all_apart fits xs ≡ true
  unfolding IsDistinct
  from_distinct [] h = refl
  from_distinct (x ∷ xs) h = and_from (list_all (fits x) xs) (all_apart fits xs) (not_all x xs h.0) (from_distinct xs h.1)

  permuted : ((x y : X) → fits x y ≡ fits y x) → (xs ys : List X) → IsPermutation xs ys → all_apart fits xs ≡ true → all_apart fits ys ≡ true
  permuted flips xs ys p h = from_distinct ys (IsDistinct-IsPermutation (λ x y. not (fits x y)) (λ x y. ap not (flips x y)) xs ys p (distinct_from xs h))

  first_from : (x : X) (xs : List X) → list_all (fits x) xs ≡ true → fits_first fits x xs ≡ true
  first_from x [] h = refl
  first_from x (y ∷ ys) h = (and_parts (fits x y) (list_all (fits x) ys) h).0

  next_from : (xs : List X) → all_apart fits xs ≡ true → all_next fits xs ≡ true
  next_from [] h = refl
  next_from (x ∷ xs) h = let t = and_parts (list_all (fits x) xs) (all_apart fits xs) h in and_from (fits_first fits x xs) (all_next fits xs) (first_from x xs t.0) (next_from xs t.1)

  next_true : (xs : List X) → ((k : ℕ) (d : X) → k + 1 < length xs → true ≡ fits (get_or xs k d) (get_or xs (k + 1) d)) → all_next fits xs ≡ true
  next_true [] h = refl
  next_true (x ∷ []) h = refl
  next_true (x ∷ y ∷ zs) h = and_from (fits x y) (all_next fits (y ∷ zs)) (sym (h 0 x (omega arith))) (next_true (y ∷ zs) (λ k d l.
      let e : suc k + 1 ≡ suc (k + 1) = omega arith in subst (λ n. true ≡ fits (get_or (y ∷ zs) k d) (get_or (x ∷ y ∷ zs) n d)) e (h (suc k) d (omega arith))))

  next_false : (xs : List X) (k : ℕ) → k + 1 < length xs → ((d : X) → false ≡ fits (get_or xs k d) (get_or xs (k + 1) d)) → all_next fits xs ≡ false
  next_false [] k l h = absurd (omega (arith, l))
  next_false (x ∷ []) k l h = absurd (omega (arith, l))
  next_false (x ∷ y ∷ zs) zero l h = ap (λ b. b && all_next fits (y ∷ zs)) (sym (h x))
  next_false (x ∷ y ∷ zs) (suc k) l h = ap (λ b. fits x y && b) (next_false (y ∷ zs) k (omega (arith, l)) (λ d.
      let e : suc k + 1 ≡ suc (k + 1) = omega arith in subst (λ n. false ≡ fits (get_or (y ∷ zs) k d) (get_or (x ∷ y ∷ zs) n d)) e (h d))) ∙ and_false (fits x y)

  -- what a test of neighbours answers
  pub adjacent_is : (xs : List X) (r : Bool) → IsAllAdjacentAnswer (λ x y b. b ≡ fits x y) xs r → r ≡ all_next fits xs
  adjacent_is xs true h = sym (next_true xs h)
  adjacent_is xs false h = sym (next_false xs h.0 h.1 h.2)

-- each item stands so to all that follow
abbrev Ups : {X : Type 0} → (X → X → Type 0) → List X → Type 0
Ups up [] = ⊤
Ups up (x ∷ xs) = AllByRecursion (up x) xs × Ups up xs

all_at_each : {X : Type 0} (Q : X → Type 0) (xs : List X) → ((i : ℕ) (d : X) → i < length xs → Q (get_or xs i d)) → AllByRecursion Q xs
all_at_each Q [] h = tt
all_at_each Q (x ∷ xs) h = (h 0 x (omega arith), all_at_each Q xs (λ i d k. h (suc i) d (omega arith)))

ups_from : {X : Type 0} (up : X → X → Type 0) (xs : List X) → ((i j : ℕ) (d : X) → i ≤ j → j < length xs → up (get_or xs i d) (get_or xs j d)) → Ups up xs
ups_from up [] h = tt
ups_from up (x ∷ xs) h = (all_at_each (up x) xs (λ j d k. h 0 (suc j) d (omega arith) (omega arith)), ups_from up xs (λ i j d k l. h (suc i) (suc j) d (omega arith) (omega arith)))

module _ {X : Type 0} (fits : X → X → Bool) (up : X → X → Type 0) (chain : (x y z : X) → up x y → up y z → fits x y ≡ true → fits y z ≡ true → fits x z ≡ true) where
  further : (x y : X) (zs : List X) → up x y → AllByRecursion (up y) zs → fits x y ≡ true → list_all (fits y) zs ≡ true → list_all (fits x) zs ≡ true
  further x y [] u a f h = refl
  further x y (z ∷ zs) u a f h = let t = and_parts (fits y z) (list_all (fits y) zs) h in
      and_from (fits x z) (list_all (fits x) zs) (chain x y z u a.0 f t.0) (further x y zs u a.1 f t.1)

  from_next : (xs : List X) → Ups up xs → all_next fits xs ≡ true → all_apart fits xs ≡ true
  from_next [] u h = refl
  from_next (x ∷ []) u h = refl
  from_next (x ∷ y ∷ zs) u h =
      let t = and_parts (fits x y) (all_next fits (y ∷ zs)) h in
      let rest = from_next (y ∷ zs) u.1 t.1 in
      let later = (and_parts (list_all (fits y) zs) (all_apart fits zs) rest).0 in
      and_from (fits x y && list_all (fits x) zs) (all_apart fits (y ∷ zs)) (and_from (fits x y) (list_all (fits x) zs) t.0 (further x y zs u.0.0 u.1.0 t.0 later)) rest

all_map : {X Y : Type 0} (p : Y → Bool) (f : X → Y) (xs : List X) → list_all p (map f xs) ≡ list_all (λ x. p (f x)) xs
all_map p f [] = refl
all_map p f (x ∷ xs) = ap (λ b. p (f x) && b) (all_map p f xs)

apart_map : {X Y : Type 0} (fits : Y → Y → Bool) (f : X → Y) (xs : List X) → all_apart fits (map f xs) ≡ all_apart (λ x y. fits (f x) (f y)) xs
apart_map fits f [] = refl
apart_map fits f (x ∷ xs) = λ i. all_map (fits (f x)) f xs i && apart_map fits f xs i

-- ---- marks

abbrev key : Mark → List ℕ
key m = (label_of m).key

abbrev Up : Mark → Mark → Type 0
Up a b = is_lt (slice_cmp nat_cmp (key b) (key a)) ≡ false

neither : (o : Ordering) → is_lt o ≡ false → is_lt (ordering_reverse o) ≡ false → o ≡ Equal
neither Less h k = absurd (true≢false h)
neither Equal h k = refl
neither Greater h k = absurd (true≢false k)

-- what stands between two of the same key has it too
between : (x y z : List ℕ) → is_lt (slice_cmp nat_cmp y x) ≡ false → is_lt (slice_cmp nat_cmp z y) ≡ false → x ≡ z → x ≡ y
between x y z u v e =
    let back : is_lt (slice_cmp nat_cmp x y) ≡ false = subst (λ w. is_lt (slice_cmp nat_cmp w y) ≡ false) (sym e) v in
    sym (exact_bytes y x (neither (slice_cmp nat_cmp y x) u (ap is_lt (sym (nat_list_cmp_total.antisymm x y)) ∙ back)))

differ_chain : (a b c : Mark) → Up a b → Up b c → differ_by a b ≡ true → differ_by b c ≡ true → differ_by a c ≡ true
differ_chain a b c u v f g = is_differ (key a) (key c) (λ e. differ_is (key a) (key b) f (between (key a) (key b) (key c) u v e))

agree_chain : (a b c : Mark) → Up a b → Up b c → agree_by a b ≡ true → agree_by b c ≡ true → agree_by a c ≡ true
agree_chain a b c u v f g = at_implies (same_text (key a) (key c)) (same_bool a.flag c.flag) (λ k.
    let whole = text_is (key a) (key c) k in
    let near = between (key a) (key b) (key c) u v whole in
    let one = implies_at (same_text (key a) (key b)) (same_bool a.flag b.flag) f (subst (λ z. same_text (key a) z ≡ true) near (same_text_self (key a))) in
    let two = implies_at (same_text (key b) (key c)) (same_bool b.flag c.flag) g (subst (λ z. same_text z (key c) ≡ true) near (subst (λ z. same_text (key a) z ≡ true) whole (same_text_self (key a)))) in
    from_bools a.flag c.flag (bools_from a.flag b.flag one ∙ bools_from b.flag c.flag two))

bool_flips : (a b : Bool) → same_bool a b ≡ same_bool b a
bool_flips true true = refl
bool_flips true false = refl
bool_flips false true = refl
bool_flips false false = refl

sorted_ups : (ys : List Mark) → IsSortedBy comes_first ys → Ups Up ys
sorted_ups ys s = ups_from Up ys (λ i j d k l. sorted_far comes_first (ranks_by nat_list_cmp_total key) ys s i j d k l)

module _ (fits : Label → Label → Bool) (flips : (a b : Label) → fits a b ≡ fits b a) (chain : (a b c : Mark) → Up a b → Up b c → fits (label_of a) (label_of b) ≡ true → fits (label_of b) (label_of c) ≡ true → fits (label_of a) (label_of c) ≡ true) where
  abbrev by : Mark → Mark → Bool
  by a b = fits (label_of a) (label_of b)

  scanned : (xs ys : List Mark) → IsPermutation xs ys → IsSortedBy comes_first ys → all_next by ys ≡ all_apart fits (map label_of xs)
  scanned xs ys p s = same_truth (all_next by ys) (all_apart by xs)
      (λ h. permuted by (λ a b. flips (label_of a) (label_of b)) ys xs (IsPermutation-sym xs ys p) (from_next by Up chain ys (sorted_ups ys s) h))
      (λ h. next_from by ys (permuted by (λ a b. flips (label_of a) (label_of b)) xs ys p h))
      ∙ sym (apart_map fits label_of xs)

pub scanned_differ : (xs ys : List Mark) → IsPermutation xs ys → IsSortedBy comes_first ys → all_next differ_by ys ≡ all_apart differ (map label_of xs)
scanned_differ = scanned differ (λ a b. ap not (same_sym a.key b.key)) differ_chain

pub scanned_agree : (xs ys : List Mark) → IsPermutation xs ys → IsSortedBy comes_first ys → all_next agree_by ys ≡ all_apart agree (map label_of xs)
scanned_agree = scanned agree (λ a b i. implies (same_sym a.key b.key i) (bool_flips a.flag b.flag i)) agree_chain

-- the labels of one more name
pub marked_more : (P : Plan) (ms new : List Mark) (m : Mark) (e : ℕ) → map label_of ms ≡ map (name_label P) (range_with_len 0 e) → label_of m ≡ name_label P e → new ≡ ms ++ m ∷ [] → map label_of new ≡ map (name_label P) (range_with_len 0 (e + 1))
marked_more P ms new m e known is grown =
    ap (map label_of) grown ∙ map_append label_of ms (m ∷ []) ∙ (λ i. known i ++ is i ∷ []) ∙ sym (map-range_with_len_more (name_label P) 0 e e (omega arith))

-- ---- what is tested of a plan

and_assoc : (a b c : Bool) → (a && (b && c)) ≡ (a && b && c)
and_assoc true b c = refl
and_assoc false b c = refl

pub ways_apart : (P : Plan) → all_apart differ (map way_label P.conns) ≡ has_one_connection_each P
ways_apart P = apart_map differ way_label P.conns ∙ (λ i. all_apart (λ (c d : Conn). not (and_assoc (c.from == d.from) (c.to == d.to) (same_text c.to_attr d.to_attr) i)) P.conns)

pub sources_same : (P : Plan) → all_apart agree (map source_label P.conns) ≡ sources_agree P
sources_same P = apart_map agree source_label P.conns

pub targets_same : (P : Plan) → all_apart agree (map target_label P.conns) ≡ targets_agree P
targets_same P = apart_map agree target_label P.conns

pub names_apart : (P : Plan) → all_apart differ (map (name_label P) (range_with_len 0 (length P.entities))) ≡ eids_apart P
names_apart P = apart_map differ (name_label P) (range_with_len 0 (length P.entities))
