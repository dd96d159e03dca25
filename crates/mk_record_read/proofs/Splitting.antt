-- The reading of a record, a line at a time.
use Rattle.std.proofs.Common.{◌≡◌, ℕ, ◌+◌, ◌<◌, ◌≤◌, Bool, true, false, List, [], ◌∷◌, length, refl, sym, ap, ◌∙◌, arith, cond, ◌-◌, take, drop, length-drop}
use Rattle.std.specs.Prelude.{not}
use Rattle.std.proofs.lemmas.List.{take_all}
use Rattle.std.proofs.lemmas.List.Splits.{slice_split_first}
use Rattle.std.specs.List.{slice_split, onto_first, position_or_len}
use Rattle.std.specs.Prelude.{position, nat_lt, Option, Some, None}
use Rattle.mk_record_read.specs.Reading.{State, Step, Going, Ended, Bad, Reading, Said, Faulty, line_step, reading_from, closed, is_feed, overlong}

-- there is a first piece
onto : (b : ℕ) (pieces : List (List ℕ)) → (x : List ℕ) × (xs : List (List ℕ)) × (onto_first b pieces ≡ x ∷ xs)
onto b [] = (b ∷ [], [], refl)
onto b (piece ∷ pieces) = (b ∷ piece, pieces, refl)

chosen : (b : ℕ) (bs : List ℕ) (fits : Bool) → (x : List ℕ) × (xs : List (List ℕ)) × (cond fits ([] ∷ slice_split is_feed bs) (onto_first b (slice_split is_feed bs)) ≡ x ∷ xs)
chosen b bs true = ([], slice_split is_feed bs, refl)
chosen b bs false = onto b (slice_split is_feed bs)

first_piece : (bytes : List ℕ) → (x : List ℕ) × (xs : List (List ℕ)) × (slice_split is_feed bytes ≡ x ∷ xs)
first_piece [] = ([], [], refl)
first_piece (b ∷ bs) = chosen b bs (is_feed b)

-- what a line makes of the reading, by its step
abbrev after : Step → State → ℕ → List (List ℕ) → Reading
after step S n pieces = elim step [ Going T ↦ reading_from T (n + 1) pieces | Ended ↦ closed S n pieces | Bad k ↦ Faulty n k ]

stepped : (S : State) (n : ℕ) (line : List ℕ) (pieces : List (List ℕ)) (x : List ℕ) (xs : List (List ℕ)) (step : Step) → pieces ≡ x ∷ xs → line_step S line ≡ step → reading_from S n (line ∷ pieces) ≡ after step S n pieces
stepped S n line pieces x xs step cut e = rw cut (rw e refl)

step_of : (S : State) (n : ℕ) (line rest : List ℕ) (step : Step) → line_step S line ≡ step → reading_from S n (line ∷ slice_split is_feed rest) ≡ after step S n (slice_split is_feed rest)
step_of S n line rest step e = let p = first_piece rest in stepped S n line (slice_split is_feed rest) p.0 p.1 step p.2 e

-- the line goes on
pub reads_on : (S T : State) (n : ℕ) (line rest : List ℕ) → line_step S line ≡ Going T → reading_from S n (line ∷ slice_split is_feed rest) ≡ reading_from T (n + 1) (slice_split is_feed rest)
reads_on S T n line rest e = step_of S n line rest (Going T) e

-- the line has a fault
pub reads_bad : (S : State) (n k : ℕ) (line rest : List ℕ) → line_step S line ≡ Bad k → reading_from S n (line ∷ slice_split is_feed rest) ≡ Faulty n k
reads_bad S n k line rest e = step_of S n line rest (Bad k) e

-- the line ends the record, and nothing follows
pub reads_end : (S : State) (n : ℕ) (line rest : List ℕ) → line_step S line ≡ Ended → rest ≡ [] → reading_from S n (line ∷ slice_split is_feed rest) ≡ Said S.plan S.arrivals S.asks
reads_end S n line rest e none = step_of S n line rest Ended e ∙ ap (λ r. closed S n (slice_split is_feed r)) none

-- what follows isn't just an empty piece
open_onto : (S : State) (n b : ℕ) (pieces : List (List ℕ)) → closed S n (onto_first b pieces) ≡ Faulty (n + 1) overlong
open_onto S n b [] = refl
open_onto S n b (piece ∷ pieces) = refl

open_after : (S : State) (n : ℕ) (pieces : List (List ℕ)) (x : List ℕ) (xs : List (List ℕ)) → pieces ≡ x ∷ xs → closed S n ([] ∷ pieces) ≡ Faulty (n + 1) overlong
open_after S n pieces x xs cut = rw cut refl

open_with : (S : State) (n b : ℕ) (bs : List ℕ) (fits : Bool) → closed S n (cond fits ([] ∷ slice_split is_feed bs) (onto_first b (slice_split is_feed bs))) ≡ Faulty (n + 1) overlong
open_with S n b bs true = let p = first_piece bs in open_after S n (slice_split is_feed bs) p.0 p.1 p.2
open_with S n b bs false = open_onto S n b (slice_split is_feed bs)

open_at : (S : State) (n : ℕ) (b : ℕ) (bs : List ℕ) → closed S n (slice_split is_feed (b ∷ bs)) ≡ Faulty (n + 1) overlong
open_at S n b bs = open_with S n b bs (is_feed b)

-- the line ends the record, and something follows
pub reads_more : (S : State) (n : ℕ) (line : List ℕ) (b : ℕ) (bs : List ℕ) → line_step S line ≡ Ended → reading_from S n (line ∷ slice_split is_feed (b ∷ bs)) ≡ Faulty (n + 1) overlong
reads_more S n line b bs e = step_of S n line (b ∷ bs) Ended e ∙ open_at S n b bs

-- where the first byte is that passes
found_at : (p : ℕ → Bool) (xs : List ℕ) (i : ℕ) → position p xs ≡ Some i → (i ≡ position_or_len p xs) × (position_or_len p xs < length xs)
found_at p xs i e = elim (nat_lt (position_or_len p xs) (length xs)) as (λ b. nat_lt (position_or_len p xs) (length xs) ≡ b → cond b (Some (position_or_len p xs)) None ≡ Some i → (i ≡ position_or_len p xs) × (position_or_len p xs < length xs)) [
  | true ↦ λ is some. (let same : position_or_len p xs ≡ i = grind (arith, some) in sym same, grind (arith, is))
  | false ↦ λ is none. absurd (grind (arith, none))
] refl e

found_nowhere : (p : ℕ → Bool) (xs : List ℕ) → position p xs ≡ None → length xs ≤ position_or_len p xs
found_nowhere p xs e = elim (nat_lt (position_or_len p xs) (length xs)) as (λ b. nat_lt (position_or_len p xs) (length xs) ≡ b → cond {A = Option ℕ} b (Some (position_or_len p xs)) None ≡ None → length xs ≤ position_or_len p xs) [
  | true ↦ λ is some. absurd (grind (arith, some))
  | false ↦ λ is none. grind (arith, is)
] refl e

-- the rest of a list, as it is cut
rest_is : (xs : List ℕ) (n : ℕ) → take (length xs - n) (drop n xs) ≡ drop n xs
rest_is xs n = take_all (length xs - n) (drop n xs) (rw (length-drop n xs) (omega arith))

-- the first line feed ends the first piece
pub cut_at : (xs : List ℕ) (i : ℕ) → position is_feed xs ≡ Some i → slice_split is_feed xs ≡ take i xs ∷ slice_split is_feed (take (length xs - (i + 1)) (drop (i + 1) xs))
cut_at xs i e = let f = found_at is_feed xs i e in
    slice_split_first is_feed xs 0 f.1
    ∙ ap (λ n. take n xs ∷ slice_split is_feed (drop (n + 1) xs)) (sym f.0)
    ∙ ap (λ ys. take i xs ∷ slice_split is_feed ys) (sym (rest_is xs (i + 1)))

-- without a line feed there is one piece
uncut : (b : ℕ) (bs : List ℕ) (fits : Bool) → (length bs ≤ position_or_len is_feed bs → slice_split is_feed bs ≡ bs ∷ []) → length (b ∷ bs) ≤ cond (not fits) (1 + position_or_len is_feed bs) 0
    → cond fits ([] ∷ slice_split is_feed bs) (onto_first b (slice_split is_feed bs)) ≡ (b ∷ bs) ∷ []
uncut b bs true before below = absurd (grind (arith, below))
uncut b bs false before below = ap (onto_first b) (before (grind (arith, below)))

cut_nowhere_from : (xs : List ℕ) → length xs ≤ position_or_len is_feed xs → slice_split is_feed xs ≡ xs ∷ []
cut_nowhere_from [] below = refl
cut_nowhere_from (b ∷ bs) below = uncut b bs (is_feed b) (cut_nowhere_from bs) below

pub cut_nowhere : (xs : List ℕ) → position is_feed xs ≡ None → slice_split is_feed xs ≡ xs ∷ []
cut_nowhere xs e = cut_nowhere_from xs (found_nowhere is_feed xs e)
