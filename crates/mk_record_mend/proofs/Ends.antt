-- The text that is made of bytes whose last line feed stands at a known place.
use Rattle.std.proofs.Common.{◌≡◌, ℕ, ◌+◌, ◌-◌, ◌≤◌, Bool, true, false, cond, List, [], ◌∷◌, ◌++◌, length, length-append, length-drop, Some, None, take, drop, sym, ap, ◌∙◌, subst, arith, append_assoc}
use Rattle.std.specs.Prelude.{codes}
use Rattle.std.specs.Fmt.{decimal}
use Rattle.std.specs.List.{filter, slice_split}
use Rattle.std.proofs.lemmas.List.{take_all, take_at}
use Rattle.std.proofs.Math.Seq.{drop-append_seam}
use Rattle.mk_record_read.specs.Reading.{is_feed}
use Rattle.mk_record_mend.specs.Mended.{ends_in_entry, is_entry, mended, whole_lines}
use Rattle.mk_record_mend.specs.inner.Feeds.{IsLastFeed}
use Rattle.mk_record_mend.proofs.Counting.{first_counts}
use Rattle.mk_record_mend.proofs.Pieces.{is_left, last_is, lines_of_cut, mended_cut, no_lines, split_clean, split_feed}

-- the rest of a list, as it is cut
rest_is : (xs : List ℕ) (n : ℕ) → take (length xs - n) (drop n xs) ≡ drop n xs
rest_is xs n = take_all (length xs - n) (drop n xs) (rw (length-drop n xs) (omega arith))

dropped : (x piece : List ℕ) (n : ℕ) → length x ≡ n → drop (n + 1) (x ++ 10 ∷ piece) ≡ piece
dropped x piece n is =
    let a = length-append x (10 ∷ []) in
    let sum : n + 1 ≡ length (x ++ 10 ∷ []) = omega (arith, a, is) in
    ap (λ l. drop (n + 1) l) (sym (append_assoc x (10 ∷ []) piece)) ∙ ap (λ m. drop m ((x ++ 10 ∷ []) ++ piece)) sum ∙ drop-append_seam (x ++ 10 ∷ []) piece

taken : (x piece : List ℕ) (n : ℕ) → length x ≡ n → take (n + 1) (x ++ 10 ∷ piece) ≡ x ++ 10 ∷ []
taken x piece n is =
    let a = length-append x (10 ∷ []) in
    ap (take (n + 1)) (sym (append_assoc x (10 ∷ []) piece)) ∙ take_at (x ++ 10 ∷ []) piece (n + 1) (omega (arith, a, is))

-- the last of some lines
pub last_of_some : (lines : List ℕ) (n : ℕ) → IsLastFeed lines (Some n) → ends_in_entry (slice_split is_feed lines) ≡ is_entry (take (length lines - (n + 1)) (drop (n + 1) lines))
last_of_some lines n t =
    let split : slice_split is_feed lines ≡ slice_split is_feed t.0 ++ t.1 ∷ [] = ap (slice_split is_feed) t.2 ∙ split_feed t.0 t.1 ∙ ap (λ l. slice_split is_feed t.0 ++ l) (split_clean t.1 t.4) in
    ap ends_in_entry split ∙ last_is (slice_split is_feed t.0) t.1 ∙ sym (ap is_entry (rest_is lines (n + 1) ∙ ap (drop (n + 1)) t.2 ∙ dropped t.0 t.1 n t.3))

pub last_of_none : (lines : List ℕ) → IsLastFeed lines None → ends_in_entry (slice_split is_feed lines) ≡ is_entry lines
last_of_none lines h = ap ends_in_entry (split_clean lines h)

-- bytes that are left as they are
pub left_none : (bytes : List ℕ) → IsLastFeed bytes None → bytes ≡ mended bytes
left_none bytes h = sym (is_left bytes (ap ends_in_entry (no_lines bytes h)))

lines_at : (bytes lines : List ℕ) (n : ℕ) (t : IsLastFeed bytes (Some n)) → lines ≡ take n bytes → lines ≡ t.0
lines_at bytes lines n t is = is ∙ ap (take n) t.2 ∙ take_at t.0 (10 ∷ t.1) n t.3

pub left_at : (bytes lines : List ℕ) (n : ℕ) → IsLastFeed bytes (Some n) → lines ≡ take n bytes → ends_in_entry (slice_split is_feed lines) ≡ false → bytes ≡ mended bytes
left_at bytes lines n t is other =
    sym (is_left bytes (ap ends_in_entry (ap whole_lines t.2 ∙ lines_of_cut t.0 t.1 t.4 ∙ ap (slice_split is_feed) (sym (lines_at bytes lines n t is))) ∙ other))

-- bytes that get their `end` line
pub mended_at : (bytes lines text : List ℕ) (n count : ℕ) → IsLastFeed bytes (Some n) → lines ≡ take n bytes → ends_in_entry (slice_split is_feed lines) ≡ true → count ≡ length (filter is_entry (slice_split is_feed lines))
    → text ≡ ((take (n + 1) bytes ++ codes "end ") ++ decimal count) ++ codes "\n" → text ≡ mended bytes
mended_at bytes lines text n count t is ends counted made =
    let same : lines ≡ t.0 = lines_at bytes lines n t is in
    made ∙ append_assoc (take (n + 1) bytes ++ codes "end ") (decimal count) (codes "\n") ∙ append_assoc (take (n + 1) bytes) (codes "end ") (decimal count ++ codes "\n")
    ∙ ap (λ l. l ++ (codes "end " ++ (decimal count ++ codes "\n"))) (ap (take (n + 1)) t.2 ∙ taken t.0 t.1 n t.3)
    ∙ ap (λ m. (t.0 ++ 10 ∷ []) ++ (codes "end " ++ (decimal m ++ codes "\n"))) (counted ∙ ap (λ l. length (filter is_entry (slice_split is_feed l))) same)
    ∙ sym (mended_cut t.0 t.1 t.4 (ap (λ l. ends_in_entry (slice_split is_feed l)) (sym same) ∙ ends))
    ∙ ap mended (sym t.2)

-- ---- entries counted from the last line on

last_counts : (xs : List (List ℕ)) (y : List ℕ) → length (filter is_entry (xs ++ y ∷ [])) ≡ length (filter is_entry xs) + cond (is_entry y) 1 0
last_counts [] y = let a = first_counts (is_entry y) y [] in omega (arith, a)
last_counts (x ∷ xs) y =
    let a = first_counts (is_entry x) x (filter is_entry (xs ++ y ∷ [])) in
    let b = first_counts (is_entry x) x (filter is_entry xs) in
    let c = last_counts xs y in
    omega (arith, a, b, c)

-- the entries so far, and those of the lines that are left
pub record Counts (lines rest : List ℕ) (count : ℕ) : Type 0 where
  pub all : count + length (filter is_entry (slice_split is_feed rest)) ≡ length (filter is_entry (slice_split is_feed lines))
  pub low : count + length rest ≤ length lines

pub counts_next : (lines rest : List ℕ) (count n one : ℕ) → Counts lines rest count → IsLastFeed rest (Some n) → one ≡ cond (is_entry (take (length rest - (n + 1)) (drop (n + 1) rest))) 1 0 → Counts lines (take n rest) (count + one)
counts_next lines rest count n one k t is =
    let piece : take (length rest - (n + 1)) (drop (n + 1) rest) ≡ t.1 = rest_is rest (n + 1) ∙ ap (drop (n + 1)) t.2 ∙ dropped t.0 t.1 n t.3 in
    let here : take n rest ≡ t.0 = ap (take n) t.2 ∙ take_at t.0 (10 ∷ t.1) n t.3 in
    let split : slice_split is_feed rest ≡ slice_split is_feed t.0 ++ t.1 ∷ [] = ap (slice_split is_feed) t.2 ∙ split_feed t.0 t.1 ∙ ap (λ l. slice_split is_feed t.0 ++ l) (split_clean t.1 t.4) in
    let a : length (filter is_entry (slice_split is_feed rest)) ≡ length (filter is_entry (slice_split is_feed t.0)) + one = ap (λ l. length (filter is_entry l)) split ∙ last_counts (slice_split is_feed t.0) t.1 ∙ ap (λ m. length (filter is_entry (slice_split is_feed t.0)) + m) (ap (λ l. cond (is_entry l) 1 0) (sym piece) ∙ sym is) in
    let b : length rest ≡ length t.0 + length (10 ∷ t.1) = ap length t.2 ∙ length-append t.0 (10 ∷ t.1) in
    let small : one ≤ 1 = below (is_entry (take (length rest - (n + 1)) (drop (n + 1) rest))) one is in
    let c = k.all in
    let d = k.low in
    subst (λ l. Counts lines l (count + one)) (sym here) (record { all = omega (arith, a, c); low = omega (arith, b, d, small) })
  where
    below : (b : Bool) (one : ℕ) → one ≡ cond b 1 0 → one ≤ 1
    below true one is = omega (arith, is)
    below false one is = omega (arith, is)

pub counts_last : (lines rest : List ℕ) (count one : ℕ) → Counts lines rest count → IsLastFeed rest None → one ≡ cond (is_entry rest) 1 0 → count + one ≡ length (filter is_entry (slice_split is_feed lines))
counts_last lines rest count one k clean is =
    let a = ap (λ l. length (filter is_entry l)) (split_clean rest clean) in
    let b = first_counts (is_entry rest) rest [] in
    let c = k.all in
    omega (arith, a, b, c, is)
