-- Numbers that are put to one another, pair by pair, are those of related entities.
use Rattle.std.proofs.Common.{◌≡◌, ℕ, zero, suc, ◌+◌, ◌<◌, nat_eq, nat_lt, Bool, true, false, not, ◌&&◌, ◌||◌, List, [], ◌∷◌, ◌++◌, map, filter, fold, length, take, refl, sym, ap, ◌∙◌, arith, if◌then◌else◌, slice_set, get_or, append_assoc, ◌==◌}
use Rattle.std.specs.List.{list_any, range_with_len}
use Rattle.std.specs.Ordering.{nat_cmp}
use Rattle.std.specs.BTreeSet.{insert_key}
use Rattle.std.proofs.lemmas.Bool.{and_parts}
use Rattle.std.proofs.lemmas.List.Folds.{list_any-append}
use Rattle.std.proofs.lemmas.List.{length-map, take_more}
use Rattle.std.proofs.lemmas.List.Sums.{fold-append}
use Rattle.std.specs.Prelude.{flat_map}
use Rattle.mk_base.proofs.Lists.{append_nil, filter_none, in_range, map_append, map_same}
use Rattle.mk_entities.proofs.Numbers.{put_in}
use Rattle.mk_entities.specs.declared.entities.EntityInfo.{EntityInfo}
use Rattle.mk_scenario.specs.declared.parts.Block.{Block}
use Rattle.mk_connect_pairs.specs.Connections.{block_pairs}
use Rattle.mk_connect.specs.ByPlace.{by_place}
use Rattle.mk_connect.specs.inner.Joining.{joined, put_all, put_at}
use Rattle.mk_connect.specs.Related.{is_related, joins, own_pairs, pairs_of, related}
use Rattle.mk_base.proofs.Counts.{plus_none, test_less}
use Rattle.mk_base.proofs.Items.{length_taken, range_more, filter_same}

-- ---- one place is set

put_none : (i j n : ℕ) (lists : List (List ℕ)) → i < n → by_place (put_at i j) n lists ≡ lists
put_none i j n [] below = refl
put_none i j n (l ∷ lists) below = let other : nat_eq n i ≡ false = grind arith in rw other (ap (λ x. l ∷ x) (put_none i j (suc n) lists (omega arith)))

set_is : (i j n : ℕ) (lists : List (List ℕ)) (here d : List ℕ) → i < length lists → here ≡ get_or lists i d → slice_set lists i (insert_key nat_cmp here j) ≡ by_place (put_at (n + i) j) n lists
set_is i j n [] here d below is = absurd (omega arith)
set_is zero j n (l ∷ lists) here d below is = let same : nat_eq n (n + 0) ≡ true = grind arith in rw same (ap (λ l. insert_key nat_cmp l j ∷ lists) is ∙ ap (λ x. insert_key nat_cmp l j ∷ x) (sym (put_none (n + 0) j (suc n) lists (omega arith))))
set_is (suc i) j n (l ∷ lists) here d below is =
    let other : nat_eq n (n + suc i) ≡ false = grind arith in
    rw other (ap (λ x. l ∷ x) (set_is i j (suc n) lists here d (omega arith) is ∙ ap (λ m. by_place (put_at m j) (suc n) lists) (over n i)))
  where
    over : (n k : ℕ) → suc n + k ≡ n + suc k
    over n k = omega arith

pub set_put : (i j : ℕ) (lists : List (List ℕ)) (here d new : List ℕ) → i < length lists → here ≡ get_or lists i d → new ≡ insert_key nat_cmp here j → slice_set lists i new ≡ put_all i j lists
set_put i j lists here d new below is made = ap (slice_set lists i) made ∙ set_is i j 0 lists here d below is ∙ ap (λ m. put_all m j lists) (zero_more i)
  where
    zero_more : (n : ℕ) → 0 + n ≡ n
    zero_more n = omega arith

-- ---- lists over a range

placed_map : (g : ℕ → List ℕ) (h : ℕ → List ℕ → List ℕ) (a n : ℕ) → by_place h a (map g (range_with_len a n)) ≡ map (λ k. h k (g k)) (range_with_len a n)
placed_map g h a zero = refl
placed_map g h a (suc n) = ap (λ l. h a (g a) ∷ l) (ap (λ m. by_place h m (map g (range_with_len (a + 1) n))) (next a) ∙ placed_map g h (a + 1) n)
  where
    next : (a : ℕ) → suc a ≡ a + 1
    next a = omega arith

range_length : (a n : ℕ) → length (range_with_len a n) ≡ n
range_length a zero = refl
range_length a (suc n) = ap suc (range_length (a + 1) n)

-- ---- one pair more

module _ (count : ℕ) (pairs : List (ℕ × ℕ)) (p : ℕ × ℕ) where
  abbrev before : ℕ → ℕ → Bool
  before = is_related pairs

  abbrev after : ℕ → ℕ → Bool
  after = is_related (pairs ++ p ∷ [])

  after_is : (k x : ℕ) → after k x ≡ (not (k == x) && (list_any (joins k x) pairs || joins k x p))
  after_is k x = ap (λ b. not (k == x) && b) (list_any-append (joins k x) pairs (p ∷ []) ∙ ap (λ b. list_any (joins k x) pairs || b) (or_false (joins k x p)))
    where
      or_false : (b : Bool) → (b || false) ≡ b
      or_false true = refl
      or_false false = refl

  put_filter : (i j k : ℕ) (q : ℕ → Bool) → j < count → put_at i j k (filter q (range_with_len 0 count)) ≡ filter (λ x. q x || ((k == i) && nat_eq x j)) (range_with_len 0 count)
  put_filter i j k q below = at (k == i)
    where
      or_false : (b : Bool) → (b || false) ≡ b
      or_false true = refl
      or_false false = refl

      at : (b : Bool) → (if b then insert_key nat_cmp (filter q (range_with_len 0 count)) j else filter q (range_with_len 0 count)) ≡ filter (λ x. q x || (b && nat_eq x j)) (range_with_len 0 count)
      at true = put_in q j 0 count (omega arith) (omega arith)
      at false = filter_same q (λ x. q x || false) (range_with_len 0 count) (λ x m. sym (or_false (q x)))

  -- the pair is of two different places: each is put to the other
  both_put : (k x : ℕ) → nat_eq p.0 p.1 ≡ false → ((before k x || ((k == p.0) && nat_eq x p.1)) || ((k == p.1) && nat_eq x p.0)) ≡ after k x
  both_put k x apart = point (list_any (joins k x) pairs) p.0 p.1 k x apart ∙ sym (after_is k x)
    where
      point : (any : Bool) (a b k x : ℕ) → nat_eq a b ≡ false → (((not (k == x) && any) || ((k == a) && nat_eq x b)) || ((k == b) && nat_eq x a)) ≡ (not (k == x) && (any || (((a == k) && (b == x)) || ((a == x) && (b == k)))))
      point any a b k x apart = grind arith

  -- the pair is of one place with itself, or not of two places
  none_put : (k x : ℕ) → k < count → x < count → (not (p.0 == p.1) && nat_lt p.0 count && nat_lt p.1 count) ≡ false → before k x ≡ after k x
  none_put k x low high not_two = point (list_any (joins k x) pairs) p.0 p.1 k x low high not_two ∙ sym (after_is k x)
    where
      point : (any : Bool) (a b k x : ℕ) → k < count → x < count → (not (a == b) && nat_lt a count && nat_lt b count) ≡ false → (not (k == x) && any) ≡ (not (k == x) && (any || (((a == k) && (b == x)) || ((a == x) && (b == k)))))
      point any a b k x low high not_two = grind arith

  abbrev before_it : List (List ℕ)
  before_it = map (related count pairs) (range_with_len 0 count)

  long : length before_it ≡ count
  long = length-map (range_with_len 0 count) (related count pairs) ∙ range_length 0 count

  abbrev all : List ℕ
  all = range_with_len 0 count

  both_at : (k : ℕ) → nat_eq p.0 p.1 ≡ false → p.0 < count → p.1 < count → put_at p.1 p.0 k (put_at p.0 p.1 k (related count pairs k)) ≡ related count (pairs ++ p ∷ []) k
  both_at k apart first second = ap (put_at p.1 p.0 k) (put_filter p.0 p.1 k (before k) second) ∙ put_filter p.1 p.0 k (λ x. before k x || ((k == p.0) && nat_eq x p.1)) first
      ∙ filter_same (λ x. (before k x || ((k == p.0) && nat_eq x p.1)) || ((k == p.1) && nat_eq x p.0)) (after k) all (λ x m. both_put k x apart)

  joined_related : joined before_it p ≡ map (related count (pairs ++ p ∷ [])) all
  joined_related = (λ i. if not (p.0 == p.1) && nat_lt p.0 (long i) && nat_lt p.1 (long i) then put_all p.1 p.0 (put_all p.0 p.1 before_it) else before_it) ∙ at (not (p.0 == p.1) && nat_lt p.0 count && nat_lt p.1 count) refl
    where
      apart_of : (a b n : ℕ) → (not (a == b) && nat_lt a n && nat_lt b n) ≡ true → (nat_eq a b ≡ false) × (a < n) × (b < n)
      apart_of a b n h = let t = and_parts (not (a == b) && nat_lt a n) (nat_lt b n) h in let s = and_parts (not (a == b)) (nat_lt a n) t.0 in (not_true (a == b) s.0, test_less a n s.1, test_less b n t.1)
        where
          not_true : (b : Bool) → not b ≡ true → b ≡ false
          not_true true h = sym h
          not_true false h = refl

      at : (b : Bool) → (not (p.0 == p.1) && nat_lt p.0 count && nat_lt p.1 count) ≡ b → (if b then put_all p.1 p.0 (put_all p.0 p.1 before_it) else before_it) ≡ map (related count (pairs ++ p ∷ [])) all
      at true two = let t = apart_of p.0 p.1 count two in
          ap (put_all p.1 p.0) (placed_map (related count pairs) (put_at p.0 p.1) 0 count)
          ∙ placed_map (λ k. put_at p.0 p.1 k (related count pairs k)) (put_at p.1 p.0) 0 count
          ∙ map_same (λ k. put_at p.1 p.0 k (put_at p.0 p.1 k (related count pairs k))) (related count (pairs ++ p ∷ [])) all (λ k m. both_at k t.0 t.1 t.2)
      at false not_two = map_same (related count pairs) (related count (pairs ++ p ∷ [])) all (λ k m. filter_same (before k) (after k) all (λ x n.
          let low = in_range k 0 count m in let high = in_range x 0 count n in none_put k x (omega arith) (omega arith) not_two))

-- all pairs, one after the other
pub fold_related : (count : ℕ) (before more : List (ℕ × ℕ)) → fold joined (map (related count before) (range_with_len 0 count)) more ≡ map (related count (before ++ more)) (range_with_len 0 count)
fold_related count before [] = ap (λ l. map (related count l) (range_with_len 0 count)) (sym (append_nil before))
fold_related count before (p ∷ more) = ap (λ l. fold joined l more) (joined_related count before p) ∙ fold_related count (before ++ p ∷ []) more
    ∙ ap (λ l. map (related count l) (range_with_len 0 count)) (append_assoc before (p ∷ []) more)

-- ---- what is gathered

none_related : (count k : ℕ) → related count [] k ≡ []
none_related count k = filter_none (is_related [] k) (range_with_len 0 count) (λ x m. and_false (not (k == x)))
  where
    and_false : (b : Bool) → (b && false) ≡ false
    and_false true = refl
    and_false false = refl

-- one empty list more
pub empty_more : (n : ℕ) (old new : List (List ℕ)) (x : List ℕ) → old ≡ map (λ (k : ℕ). []) (range_with_len 0 n) → x ≡ [] → new ≡ old ++ x ∷ [] → new ≡ map (λ (k : ℕ). []) (range_with_len 0 (n + 1))
empty_more n old new x are empty made = made ∙ (λ i. are i ++ empty i ∷ []) ∙ sym (map_append (λ (k : ℕ). []) (range_with_len 0 n) ((0 + n) ∷ [])) ∙ ap (map (λ (k : ℕ). [])) (sym (range_more 0 n)) ∙ ap (λ m. map (λ (k : ℕ). []) (range_with_len 0 m)) (next n)
  where
    next : (n : ℕ) → suc n ≡ n + 1
    next n = omega arith

-- before the first pair nothing is related
pub none_yet : (count n : ℕ) (lists : List (List ℕ)) → lists ≡ map (λ (k : ℕ). []) (range_with_len 0 n) → n ≡ count → lists ≡ map (related count []) (range_with_len 0 count)
none_yet count n lists are same = are ∙ ap (λ m. map (λ (k : ℕ). []) (range_with_len 0 m)) same ∙ map_same (λ (k : ℕ). []) (related count []) (range_with_len 0 count) (λ k m. sym (none_related count k))

own_append : (n : ℕ) (xs : List EntityInfo) (e : EntityInfo) → own_pairs n (xs ++ e ∷ []) ≡ own_pairs n xs ++ map (λ i. (n + length xs, i)) e.related
own_append n [] e = append_nil (map (λ i. (n, i)) e.related) ∙ ap (λ k. map (λ i. (k, i)) e.related) (plus_none n)
own_append n (x ∷ xs) e = ap (λ l. map (λ i. (n, i)) x.related ++ l) (own_append (suc n) xs e ∙ ap (λ k. own_pairs (suc n) xs ++ map (λ i. (k, i)) e.related) (over n (length xs)))
    ∙ sym (append_assoc (map (λ i. (n, i)) x.related) (own_pairs (suc n) xs) (map (λ i. (n + suc (length xs), i)) e.related))
  where
    over : (n k : ℕ) → suc n + k ≡ n + suc k
    over n k = omega arith

-- the pairs of one entity more
pub own_more : (lists : List (List ℕ)) (es : List EntityInfo) (i : ℕ) (e : EntityInfo) → i < length es → e ≡ get_or es i e → fold joined lists (own_pairs 0 (take (i + 1) es)) ≡ fold joined (fold joined lists (own_pairs 0 (take i es))) (map (λ j. (i, j)) e.related)
own_more lists es i e below is =
    ap (λ l. fold joined lists (own_pairs 0 l)) (take_more es i e below ∙ ap (λ z. take i es ++ z ∷ []) (sym is))
    ∙ ap (fold joined lists) (own_append 0 (take i es) e ∙ ap (λ k. own_pairs 0 (take i es) ++ map (λ j. (k, j)) e.related) (length_taken es i below))
    ∙ fold-append joined lists (own_pairs 0 (take i es)) (map (λ j. (i, j)) e.related)

-- the pairs of entities, and then those of blocks
pub all_related : (es : List EntityInfo) (blocks : List Block) (first second last : List (List ℕ)) → first ≡ map (related (length es) []) (range_with_len 0 (length es)) → second ≡ fold joined first (own_pairs 0 es) → last ≡ fold joined second (flat_map (block_pairs es) blocks)
    → last ≡ map (related (length es) (pairs_of es blocks)) (range_with_len 0 (length es))
all_related es blocks first second last a b c = c ∙ ap (λ l. fold joined l (flat_map (block_pairs es) blocks)) (b ∙ ap (λ l. fold joined l (own_pairs 0 es)) a)
    ∙ sym (fold-append joined (map (related (length es) []) (range_with_len 0 (length es))) (own_pairs 0 es) (flat_map (block_pairs es) blocks))
    ∙ fold_related (length es) [] (own_pairs 0 es ++ flat_map (block_pairs es) blocks)
