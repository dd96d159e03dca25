-- What comes of a template, from what was read of it and the marks that follow.
use Rattle.std.proofs.Common.{◌≡◌, ℕ, ◌==◌, cond, Bool, true, false, List, [], ◌∷◌, ◌++◌, map, Option, Some, None, option_map, unwrap_or, refl, sym, ap, ◌∙◌, append_assoc}
use Rattle.std.specs.Prelude.{option_to_list, Result, Ok, Err}
use Rattle.std.proofs.lemmas.Grind.{flat_map-append}
use Rattle.std.proofs.lemmas.List.{append-nil}
use Rattle.mk_base.specs.Verdicts.{put_first}
use Rattle.mk_launch.specs.declared.faults.LaunchFault.{LaunchFault}
use Rattle.mk_launch.specs.Marks.{Sign, Mark}
use Rattle.mk_launch.specs.Marks.Sign.{Byte, Address}
use Rattle.mk_launch.specs.Marks.Mark.{Space, Quote, Plain}
use Rattle.mk_launch.specs.Parts.{Piece, gap, of_word, pieces}
use Rattle.mk_launch.specs.Words.{Cut, all_words, with_piece, cut_at_gaps, some_words, words_of_pieces, words_of_marks, sign_text, word_text, word_texts}
use Rattle.mk_launch.specs.inner.Reading.{Reading}
use Rattle.mk_launch.specs.inner.Steps.{with_letters, without_word, some_texts, words_read}

abbrev pub Texts : Type 0
Texts = Result (List (List ℕ)) LaunchFault

-- a word that goes on with what stands before the first gap
abbrev pub joined : Option (List ℕ) → Option (List ℕ) → Option (List ℕ)
joined None word = word
joined (Some begun) None = Some begun
joined (Some begun) (Some rest) = Some (begun ++ rest)

-- the words from the one that goes on
abbrev pub behind : List ℕ → Option (List ℕ) → Cut → List (List ℕ)
behind address word cut = option_to_list (joined word (option_map (word_text address) cut.0)) ++ map (word_text address) cut.1

-- all words, from the pieces that follow
abbrev pub with_pieces : List ℕ → List (List ℕ) → Option (List ℕ) → Result (List Piece) LaunchFault → Texts
with_pieces address done word (Ok found) = some_texts (done ++ behind address word (cut_at_gaps found))
with_pieces address done word (Err fault) = Err fault

-- all words, from the marks that follow
abbrev pub finish : Reading → Result (List Mark) LaunchFault → Texts
finish s (Ok found) = with_pieces s.address s.done s.word (pieces s.part found)
finish s (Err fault) = Err fault

letters_text : (address : List ℕ) (xs ys : List Sign) → word_text address (xs ++ ys) ≡ word_text address xs ++ word_text address ys
letters_text address xs ys = flat_map-append (sign_text address) xs ys

-- a piece of a word
behind_letters : (address : List ℕ) (word : Option (List ℕ)) (signs : List Sign) (first : Option (List Sign)) (more : List (List Sign))
    → behind address word (with_piece (Some signs) (first, more)) ≡ behind address (Some (unwrap_or word [] ++ word_text address signs)) (first, more)
behind_letters a None signs None more = ap (λ t. word_text a t ∷ map (word_text a) more) (append-nil signs)
behind_letters a None signs (Some b) more = ap (λ t. t ∷ map (word_text a) more) (letters_text a signs b)
behind_letters a (Some w) signs None more = ap (λ t. (w ++ word_text a t) ∷ map (word_text a) more) (append-nil signs)
behind_letters a (Some w) signs (Some b) more = ap (λ t. t ∷ map (word_text a) more) (ap (λ t. w ++ t) (letters_text a signs b) ∙ sym (append_assoc w (word_text a signs) (word_text a b)))

piece_on : (address : List ℕ) (done : List (List ℕ)) (word : Option (List ℕ)) (signs : List Sign) (R : Result (List Piece) LaunchFault)
    → with_pieces address done word (put_first (of_word signs) R) ≡ with_pieces address done (Some (unwrap_or word [] ++ word_text address signs)) R
piece_on a d w signs (Ok found) = ap (λ ws. some_texts (d ++ ws)) (behind_letters a w signs (cut_at_gaps found).0 (cut_at_gaps found).1)
piece_on a d w signs (Err fault) = refl

-- a gap
behind_gap : (address : List ℕ) (done : List (List ℕ)) (word : Option (List ℕ)) (first : Option (List Sign)) (more : List (List Sign))
    → done ++ behind address word (with_piece None (first, more)) ≡ (done ++ option_to_list word) ++ behind address None (first, more)
behind_gap a d None None more = ap (λ ws. ws ++ map (word_text a) more) (sym (append-nil d))
behind_gap a d None (Some b) more = ap (λ ws. ws ++ (word_text a b ∷ map (word_text a) more)) (sym (append-nil d))
behind_gap a d (Some w) None more = sym (append_assoc d (w ∷ []) (map (word_text a) more))
behind_gap a d (Some w) (Some b) more = sym (append_assoc d (w ∷ []) (word_text a b ∷ map (word_text a) more))

gap_on : (address : List ℕ) (done : List (List ℕ)) (word : Option (List ℕ)) (R : Result (List Piece) LaunchFault)
    → with_pieces address done word (put_first gap R) ≡ with_pieces address (done ++ option_to_list word) None R
gap_on a d w (Ok found) = ap some_texts (behind_gap a d w (cut_at_gaps found).0 (cut_at_gaps found).1)
gap_on a d w (Err fault) = refl

abbrev pub read : List ℕ → List (List ℕ) → Option (List ℕ) → Option (ℕ × ℕ) → Reading
read address done word part = record { address = address; done = done; word = word; part = part }

-- a space
space_in : (a : List ℕ) (d : List (List ℕ)) (w : Option (List ℕ)) (R : Result (List Mark) LaunchFault) → finish (read a d w None) (put_first Space R) ≡ finish (read a (d ++ option_to_list w) None None) R
space_in a d w (Ok found) = gap_on a d w (pieces None found)
space_in a d w (Err fault) = refl

pub space_ends : (s : Reading) (R : Result (List Mark) LaunchFault) → s.part ≡ None → finish s (put_first Space R) ≡ finish (without_word s) R
space_ends s R none = ap (λ p. finish (read s.address s.done s.word p) (put_first Space R)) none ∙ space_in s.address s.done s.word R ∙ ap (λ p. finish (read s.address (s.done ++ option_to_list s.word) None p) R) (sym none)

space_within : (a : List ℕ) (d : List (List ℕ)) (w : Option (List ℕ)) (q i : ℕ) (R : Result (List Mark) LaunchFault)
    → finish (read a d w (Some (q, i))) (put_first Space R) ≡ finish (read a d (Some (unwrap_or w [] ++ 32 ∷ [])) (Some (q, i))) R
space_within a d w q i (Ok found) = piece_on a d w (Byte 32 ∷ []) (pieces (Some (q, i)) found)
space_within a d w q i (Err fault) = refl

pub space_stays : (s : Reading) (p : ℕ × ℕ) (R : Result (List Mark) LaunchFault) → s.part ≡ Some p → finish s (put_first Space R) ≡ finish (with_letters (32 ∷ []) s) R
space_stays s p R is = ap (λ t. finish (read s.address s.done s.word t) (put_first Space R)) is ∙ space_within s.address s.done s.word p.0 p.1 R
    ∙ ap (λ t. finish (read s.address s.done (Some (unwrap_or s.word [] ++ 32 ∷ [])) t) R) (sym is)

-- a sign
sign_in : (a : List ℕ) (d : List (List ℕ)) (w : Option (List ℕ)) (part : Option (ℕ × ℕ)) (sign : Sign) (R : Result (List Mark) LaunchFault)
    → finish (read a d w part) (put_first (Plain sign) R) ≡ finish (read a d (Some (unwrap_or w [] ++ word_text a (sign ∷ []))) part) R
sign_in a d w None sign (Ok found) = piece_on a d w (sign ∷ []) (pieces None found)
sign_in a d w (Some p) sign (Ok found) = piece_on a d w (sign ∷ []) (pieces (Some p) found)
sign_in a d w part sign (Err fault) = refl

pub byte_on : (s : Reading) (b : ℕ) (R : Result (List Mark) LaunchFault) → finish s (put_first (Plain (Byte b)) R) ≡ finish (with_letters (b ∷ []) s) R
byte_on s b R = sign_in s.address s.done s.word s.part (Byte b) R

pub address_on : (s : Reading) (R : Result (List Mark) LaunchFault) → finish s (put_first (Plain Address) R) ≡ finish (with_letters s.address s) R
address_on s R = sign_in s.address s.done s.word s.part Address R ∙ ap (λ t. finish (with_letters t s) R) (append-nil s.address)

-- a quotation mark
quote_in : (a : List ℕ) (d : List (List ℕ)) (w : Option (List ℕ)) (q i : ℕ) (R : Result (List Mark) LaunchFault)
    → finish (read a d w None) (put_first (Quote q i) R) ≡ finish (read a d (Some (unwrap_or w [])) (Some (q, i))) R
quote_in a d w q i (Ok found) = piece_on a d w [] (pieces (Some (q, i)) found) ∙ ap (λ t. with_pieces a d (Some t) (pieces (Some (q, i)) found)) (append-nil (unwrap_or w []))
quote_in a d w q i (Err fault) = refl

pub quote_opens : (s : Reading) (q i : ℕ) (R : Result (List Mark) LaunchFault) → s.part ≡ None
    → finish s (put_first (Quote q i) R) ≡ finish (record s { word = Some (unwrap_or s.word []); part = Some (q, i) }) R
quote_opens s q i R none = ap (λ t. finish (read s.address s.done s.word t) (put_first (Quote q i) R)) none ∙ quote_in s.address s.done s.word q i R

quote_out : (a : List ℕ) (d : List (List ℕ)) (w : Option (List ℕ)) (q i r j : ℕ) (R : Result (List Mark) LaunchFault) → (q == r) ≡ true
    → finish (read a d w (Some (q, i))) (put_first (Quote r j) R) ≡ finish (read a d w None) R
quote_out a d w q i r j (Ok found) same = ap (λ (t : Bool). with_pieces a d w (cond t (pieces None found) (put_first (of_word (Byte r ∷ [])) (pieces (Some (q, i)) found)))) same
quote_out a d w q i r j (Err fault) same = refl

pub quote_ends : (s : Reading) (p : ℕ × ℕ) (r j : ℕ) (R : Result (List Mark) LaunchFault) → s.part ≡ Some p → (p.0 == r) ≡ true
    → finish s (put_first (Quote r j) R) ≡ finish (record s { part = None }) R
quote_ends s p r j R is same = ap (λ t. finish (read s.address s.done s.word t) (put_first (Quote r j) R)) is ∙ quote_out s.address s.done s.word p.0 p.1 r j R same

quote_within : (a : List ℕ) (d : List (List ℕ)) (w : Option (List ℕ)) (q i r j : ℕ) (R : Result (List Mark) LaunchFault) → (q == r) ≡ false
    → finish (read a d w (Some (q, i))) (put_first (Quote r j) R) ≡ finish (read a d (Some (unwrap_or w [] ++ r ∷ [])) (Some (q, i))) R
quote_within a d w q i r j (Ok found) apart = ap (λ (t : Bool). with_pieces a d w (cond t (pieces None found) (put_first (of_word (Byte r ∷ [])) (pieces (Some (q, i)) found)))) apart
    ∙ piece_on a d w (Byte r ∷ []) (pieces (Some (q, i)) found)
quote_within a d w q i r j (Err fault) apart = refl

pub quote_stays : (s : Reading) (p : ℕ × ℕ) (r j : ℕ) (R : Result (List Mark) LaunchFault) → s.part ≡ Some p → (p.0 == r) ≡ false
    → finish s (put_first (Quote r j) R) ≡ finish (with_letters (r ∷ []) s) R
quote_stays s p r j R is apart = ap (λ t. finish (read s.address s.done s.word t) (put_first (Quote r j) R)) is ∙ quote_within s.address s.done s.word p.0 p.1 r j R apart
    ∙ ap (λ t. finish (read s.address s.done (Some (unwrap_or s.word [] ++ r ∷ [])) t) R) (sym is)

-- the end
end_in : (a : List ℕ) (d : List (List ℕ)) (w : Option (List ℕ)) (part : Option (ℕ × ℕ)) → finish (read a d w part) (Ok []) ≡ words_read (read a d w part)
end_in a d None None = refl
end_in a d (Some w) None = refl
end_in a d w (Some p) = refl

pub at_end : (s : Reading) → finish s (Ok []) ≡ words_read s
at_end s = end_in s.address s.done s.word s.part

-- the beginning
begin_in : (a : List ℕ) (first : Option (List Sign)) (more : List (List Sign)) → some_texts ([] ++ behind a None (first, more)) ≡ word_texts a (some_words (all_words (first, more)))
begin_in a None [] = refl
begin_in a None (w ∷ ws) = refl
begin_in a (Some w) more = refl

begin_pieces : (a : List ℕ) (R : Result (List Piece) LaunchFault) → with_pieces a [] None R ≡ word_texts a (words_of_pieces R)
begin_pieces a (Ok found) = begin_in a (cut_at_gaps found).0 (cut_at_gaps found).1
begin_pieces a (Err fault) = refl

pub at_begin : (a : List ℕ) (R : Result (List Mark) LaunchFault) → finish (read a [] None None) R ≡ word_texts a (words_of_marks R)
at_begin a (Ok found) = begin_pieces a (pieces None found)
at_begin a (Err fault) = refl
