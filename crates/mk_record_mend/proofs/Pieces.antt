-- A text as its whole lines and what stands after the last line feed.
use Rattle.std.proofs.Common.{◌≡◌, ℕ, Bool, true, false, List, [], ◌∷◌, ◌++◌, inl, inr, ◌⊎◌, length, refl, sym, ap, ◌∙◌, arith, cond, append_assoc}
use Rattle.std.specs.Prelude.{codes, not}
use Rattle.std.specs.List.{filter, list_all, onto_first, slice_split}
use Rattle.std.proofs.lemmas.Bool.{and_parts, and_from}
use Rattle.mk_base.proofs.Bools.{not_true}
use Rattle.mk_record_read.specs.Reading.{is_feed}
use Rattle.mk_record_laws.proofs.Clean.{clean, all_clean}
use Rattle.mk_record_laws.proofs.Lines.{cut_line}
use Rattle.mk_record_mend.specs.Mended.{all_but_last, end_line, ends_in_entry, is_entry, mended, text_of_lines, whole_lines}

-- there is a first piece
onto : (b : ℕ) (pieces : List (List ℕ)) → (x : List ℕ) × (xs : List (List ℕ)) × (onto_first b pieces ≡ x ∷ xs)
onto b [] = (b ∷ [], [], refl)
onto b (piece ∷ pieces) = (b ∷ piece, pieces, refl)

chosen : (b : ℕ) (bs : List ℕ) (fits : Bool) → (x : List ℕ) × (xs : List (List ℕ)) × (cond fits ([] ∷ slice_split is_feed bs) (onto_first b (slice_split is_feed bs)) ≡ x ∷ xs)
chosen b bs true = ([], slice_split is_feed bs, refl)
chosen b bs false = onto b (slice_split is_feed bs)

first_piece : (bytes : List ℕ) → (x : List ℕ) × (xs : List (List ℕ)) × (slice_split is_feed bytes ≡ x ∷ xs)
first_piece [] = ([], [], refl)
first_piece (b ∷ bs) = chosen b bs (is_feed b)

-- pieces on both sides of a line feed
pushed : (fits : Bool) (b : ℕ) (xs ys : List (List ℕ)) (p : List ℕ) (ps : List (List ℕ)) → xs ≡ p ∷ ps → cond fits ([] ∷ (xs ++ ys)) (onto_first b (xs ++ ys)) ≡ cond fits ([] ∷ xs) (onto_first b xs) ++ ys
pushed true b xs ys p ps e = refl
pushed false b xs ys p ps e = rw e refl

pub split_feed : (x y : List ℕ) → slice_split is_feed (x ++ 10 ∷ y) ≡ slice_split is_feed x ++ slice_split is_feed y
split_feed [] y = refl
split_feed (b ∷ x) y = let p = first_piece x in ap (λ l. cond (is_feed b) ([] ∷ l) (onto_first b l)) (split_feed x y) ∙ pushed (is_feed b) b (slice_split is_feed x) (slice_split is_feed y) p.0 p.1 p.2

-- without a line feed there is one piece
pub split_clean : (y : List ℕ) → all_clean y ≡ true → slice_split is_feed y ≡ y ∷ []
split_clean [] h = refl
split_clean (b ∷ y) h = let p = and_parts (clean b) (all_clean y) h in ap (λ c. cond c ([] ∷ slice_split is_feed y) (onto_first b (slice_split is_feed y))) (not_true (is_feed b) p.0) ∙ ap (onto_first b) (split_clean y p.1)

but_last : (xs : List (List ℕ)) (y : List ℕ) → all_but_last (xs ++ y ∷ []) ≡ xs
but_last [] y = refl
but_last (x ∷ []) y = refl
but_last (x ∷ z ∷ xs) y = ap (λ l. x ∷ l) (but_last (z ∷ xs) y)

-- the whole lines of a text up to its last line feed
pub lines_of_cut : (x piece : List ℕ) → all_clean piece ≡ true → whole_lines (x ++ 10 ∷ piece) ≡ slice_split is_feed x
lines_of_cut x piece h = ap all_but_last (split_feed x piece ∙ ap (λ l. slice_split is_feed x ++ l) (split_clean piece h)) ∙ but_last (slice_split is_feed x) piece

pub no_lines : (piece : List ℕ) → all_clean piece ≡ true → whole_lines piece ≡ []
no_lines piece h = ap all_but_last (split_clean piece h)

-- the pieces, each with a line feed
onto_lines : (b : ℕ) (ps : List (List ℕ)) (p : List ℕ) (more : List (List ℕ)) → ps ≡ p ∷ more → text_of_lines (onto_first b ps) ≡ b ∷ text_of_lines ps
onto_lines b ps p more e = rw e refl

is_ten : (b : ℕ) → is_feed b ≡ true → 10 ≡ b
is_ten b e = grind (arith, e)

pub lines_back : (x : List ℕ) → text_of_lines (slice_split is_feed x) ≡ x ++ 10 ∷ []
lines_back [] = refl
lines_back (b ∷ x) = let p = first_piece x in elim (is_feed b) as (λ c. is_feed b ≡ c → text_of_lines (cond c ([] ∷ slice_split is_feed x) (onto_first b (slice_split is_feed x))) ≡ b ∷ (x ++ 10 ∷ [])) [
  | true ↦ λ e. ap (λ l. 10 ∷ l) (lines_back x) ∙ ap (λ n. n ∷ (x ++ 10 ∷ [])) (is_ten b e)
  | false ↦ λ e. onto_lines b (slice_split is_feed x) p.0 p.1 p.2 ∙ ap (λ l. b ∷ l) (lines_back x)
] refl

-- no piece has a line feed
onto_clean : (b : ℕ) (ps : List (List ℕ)) (p : List ℕ) (more : List (List ℕ)) → ps ≡ p ∷ more → clean b ≡ true → list_all all_clean ps ≡ true → list_all all_clean (onto_first b ps) ≡ true
onto_clean b [] p more e h all = and_from (all_clean (b ∷ [])) true (and_from (clean b) true h refl) refl
onto_clean b (q ∷ ps) p more e h all = let a = and_parts (all_clean q) (list_all all_clean ps) all in and_from (all_clean (b ∷ q)) (list_all all_clean ps) (and_from (clean b) (all_clean q) h a.0) a.1

pub pieces_clean : (x : List ℕ) → list_all all_clean (slice_split is_feed x) ≡ true
pieces_clean [] = refl
pieces_clean (b ∷ x) = let p = first_piece x in elim (is_feed b) as (λ c. is_feed b ≡ c → list_all all_clean (cond c ([] ∷ slice_split is_feed x) (onto_first b (slice_split is_feed x))) ≡ true) [
  | true ↦ λ e. pieces_clean x
  | false ↦ λ e. onto_clean b (slice_split is_feed x) p.0 p.1 p.2 (ap not e) (pieces_clean x)
] refl

-- a text is its whole lines, each with its line feed, and a piece without one
pub record Parts (bytes : List ℕ) : Type 0 where
  pub piece : List ℕ
  pub clean : all_clean piece ≡ true
  pub lines : list_all all_clean (whole_lines bytes) ≡ true
  pub whole : bytes ≡ text_of_lines (whole_lines bytes) ++ piece

abbrev Cut : List ℕ → Type 0
Cut bytes = (all_clean bytes ≡ true) ⊎ ((x : List ℕ) × (piece : List ℕ) × (bytes ≡ x ++ 10 ∷ piece) × (all_clean piece ≡ true))

cut_first : (b : ℕ) (bs : List ℕ) (fits : Bool) → is_feed b ≡ fits → all_clean bs ≡ true → Cut (b ∷ bs)
cut_first b bs true e h = inr ([], bs, ap (λ n. n ∷ bs) (sym (is_ten b e)), h)
cut_first b bs false e h = inl (and_from (clean b) (all_clean bs) (ap not e) h)

pub cut : (bytes : List ℕ) → Cut bytes
cut [] = inl refl
cut (b ∷ bs) = elim (cut bs) [
  | inl h ↦ cut_first b bs (is_feed b) refl h
  | inr c ↦ inr (b ∷ c.0, c.1, ap (λ l. b ∷ l) c.2, c.3)
]

parts_of_cut : (bytes x piece : List ℕ) → bytes ≡ x ++ 10 ∷ piece → all_clean piece ≡ true → Parts bytes
parts_of_cut bytes x piece e h =
    let lines : whole_lines bytes ≡ slice_split is_feed x = ap whole_lines e ∙ lines_of_cut x piece h in record {
      piece = piece;
      clean = h;
      lines = ap (list_all all_clean) lines ∙ pieces_clean x;
      whole = e ∙ sym (append_assoc x (10 ∷ []) piece) ∙ ap (λ t. t ++ piece) (sym (lines_back x) ∙ ap text_of_lines (sym lines));
    }

parts_of_piece : (bytes : List ℕ) → all_clean bytes ≡ true → Parts bytes
parts_of_piece bytes h = record {
  piece = bytes;
  clean = h;
  lines = ap (list_all all_clean) (no_lines bytes h);
  whole = ap (λ l. text_of_lines l ++ bytes) (sym (no_lines bytes h));
}

pub parts : (bytes : List ℕ) → Parts bytes
parts bytes = elim (cut bytes) [ inl h ↦ parts_of_piece bytes h | inr c ↦ parts_of_cut bytes c.0 c.1 c.2 c.3 ]

-- what a mended text is
pub is_mended : (bytes : List ℕ) → ends_in_entry (whole_lines bytes) ≡ true → mended bytes ≡ text_of_lines (whole_lines bytes) ++ end_line (length (filter is_entry (whole_lines bytes)))
is_mended bytes e = ap (λ c. cond c (text_of_lines (whole_lines bytes) ++ end_line (length (filter is_entry (whole_lines bytes)))) bytes) e

pub is_left : (bytes : List ℕ) → ends_in_entry (whole_lines bytes) ≡ false → mended bytes ≡ bytes
is_left bytes e = ap (λ c. cond c (text_of_lines (whole_lines bytes) ++ end_line (length (filter is_entry (whole_lines bytes)))) bytes) e

pub mended_cut : (x piece : List ℕ) → all_clean piece ≡ true → ends_in_entry (slice_split is_feed x) ≡ true → mended (x ++ 10 ∷ piece) ≡ (x ++ 10 ∷ []) ++ end_line (length (filter is_entry (slice_split is_feed x)))
mended_cut x piece h e =
    is_mended (x ++ 10 ∷ piece) (ap ends_in_entry (lines_of_cut x piece h) ∙ e)
    ∙ ap (λ lines. text_of_lines lines ++ end_line (length (filter is_entry lines))) (lines_of_cut x piece h)
    ∙ ap (λ t. t ++ end_line (length (filter is_entry (slice_split is_feed x)))) (lines_back x)

-- the last line
pub last_is : (xs : List (List ℕ)) (y : List ℕ) → ends_in_entry (xs ++ y ∷ []) ≡ is_entry y
last_is [] y = refl
last_is (x ∷ []) y = refl
last_is (x ∷ z ∷ xs) y = last_is (z ∷ xs) y

-- a line is cut off a text
pub cut_off : (line text rest : List ℕ) → all_clean line ≡ true → slice_split is_feed (((line ++ codes "\n") ++ text) ++ rest) ≡ line ∷ slice_split is_feed (text ++ rest)
cut_off line text rest h = ap (slice_split is_feed) (append_assoc (line ++ codes "\n") text rest) ∙ cut_line line (text ++ rest) h
