-- What bytes stand for, and how many of them belong to it.
use Rattle.std.proofs.Common.{◌≡◌, ℕ, ◌+◌, ◌-◌, ◌<◌, ◌≤◌, ◌==◌, ◌||◌, suc, cond, Bool, true, false, List, [], ◌∷◌, ◌++◌, length, take, drop, get_or, refl, sym, ap, ◌∙◌, arith, codes, true≢false, Option, Some, None}
use Rattle.std.specs.Prelude.{Result, Err, nat_eq, encode_utf8}
use Rattle.std.specs.List.{starts_with}
use Rattle.std.specs.Option.{option_map_or}
use Rattle.std.proofs.lemmas.Bool.Decides.{nat_tests}
use Rattle.std.proofs.lemmas.List.{append-nil, take-append-drop}
use Rattle.std.proofs.lemmas.Str.{inside_one, length-encode, len_utf8_bounds}
use Rattle.std.proofs.lemmas.Slice.Eq.{bytes_eq-Decides}
use Rattle.mk_base.specs.Lists.{Each}
use Rattle.mk_base.specs.Verdicts.{put_first}
use Rattle.mk_launch.specs.declared.faults.LaunchFault.{LaunchFault}
use Rattle.mk_launch.specs.declared.faults.LaunchFault.TheVariants.{BadPlace}
use Rattle.mk_launch.specs.declared.marks.Front.TheVariants as front
use Rattle.mk_launch.specs.Marks.{Mark, mark_of, marks}
use Rattle.mk_launch.specs.Marks.Sign.{Byte, Address}
use Rattle.mk_launch.specs.Marks.Mark.{Space, Quote, Plain}
use Rattle.mk_launch.specs.inner.Steps.{front_of}
use Rattle.mk_base.proofs.Bools.{neither_holds}

-- the byte stands for itself
pub record IsPlain (b : ℕ) : Type 0 where
  pub space : (b == 32) ≡ false
  pub quote : ((b == 34) || (b == 39)) ≡ false
  pub percent : (b == 37) ≡ false

-- the character stands for itself
pub letter_is_plain : (c : ℕ) → front_of c ≡ front.Letter c → IsPlain c
letter_is_plain c e = elim (c == 32) as (λ t. (c == 32) ≡ t → cond t front.Space (cond ((c == 34) || (c == 39)) (front.Quote c) (cond (c == 37) front.Stray (front.Letter c))) ≡ front.Letter c → IsPlain c) [
  | true ↦ λ s h. cc
  | false ↦ λ s h. elim ((c == 34) || (c == 39)) as (λ t. ((c == 34) || (c == 39)) ≡ t → cond t (front.Quote c) (cond (c == 37) front.Stray (front.Letter c)) ≡ front.Letter c → IsPlain c) [
    | true ↦ λ q k. cc
    | false ↦ λ q k. elim (c == 37) as (λ t. (c == 37) ≡ t → cond t front.Stray (front.Letter c) ≡ front.Letter c → IsPlain c) [
      | true ↦ λ p m. cc
      | false ↦ λ p m. record { space = s; quote = q; percent = p }
    ] refl k
  ] refl h
] refl e

none_of : (a b : Bool) → a ≡ false → b ≡ false → (a || b) ≡ false
none_of true b first second = absurd (true≢false first)
none_of false b first second = second

not_byte : (c b k : ℕ) → k < 128 → (b < 128 → c ≡ b) → (c == k) ≡ false → (b == k) ≡ false
not_byte c b k ascii low apart = elim (b == k) as (λ t. (b == k) ≡ t → t ≡ false) [
  | true ↦ λ e. let is : b ≡ k = grind (arith, nat_tests) in let same : c ≡ k = low (omega (arith, is, ascii)) ∙ is in grind (arith, nat_tests)
  | false ↦ λ e. refl
] refl

-- a byte of a character's, if the character stands for itself
byte_is_plain : (c b : ℕ) → IsPlain c → (b < 128 → c ≡ b) → IsPlain b
byte_is_plain c b plain low =
    let two = neither_holds (c == 34) (c == 39) plain.quote in
    record {
      space = not_byte c b 32 (omega arith) low plain.space;
      quote = none_of (b == 34) (b == 39) (not_byte c b 34 (omega arith) low two.0) (not_byte c b 39 (omega arith) low two.1);
      percent = not_byte c b 37 (omega arith) low plain.percent;
    }

each_by_place : (P : ℕ → Type 0) (xs : List ℕ) → ((k : ℕ) → k < length xs → P (get_or xs k 0)) → Each P xs
each_by_place P [] all = tt
each_by_place P (x ∷ xs) all = (all 0 (omega arith), each_by_place P xs (λ k within. all (suc k) (omega (arith, within))))

-- the bytes of a character that stands for itself
pub letters_are_plain : (c : ℕ) → front_of c ≡ front.Letter c → Each IsPlain (encode_utf8 c)
letters_are_plain c e = each_by_place IsPlain (encode_utf8 c) (λ k within. byte_is_plain c (get_or (encode_utf8 c) k 0) (letter_is_plain c e) (λ low. inside_one c [] (encode_utf8 c) k (sym (append-nil (encode_utf8 c))) within low))

-- a character has at least one byte
pub some_bytes : (c : ℕ) → 1 ≤ length (encode_utf8 c)
some_bytes c = omega (arith, length-encode c, (len_utf8_bounds c).0)

-- what comes of the first mark
abbrev first : ℕ → List ℕ → Option (Mark × ℕ) → Result (List Mark) LaunchFault
first i more m = option_map_or (λ (m : Mark × ℕ). put_first m.0 (marks (i + 1) (m.1 - 1) more)) m (Err (BadPlace i))

abbrev place : List ℕ → Option (Mark × ℕ)
place text = cond (starts_with nat_eq text (codes "%(addr)s")) (Some (Plain Address, 8)) (cond (starts_with nat_eq text (codes "%%")) (Some (Plain (Byte 37), 2)) None)

-- the first mark, where it is a byte that stands for itself, a space or a quotation mark
pub byte_first : (i b : ℕ) (more : List ℕ) → (b == 37) ≡ false → marks i 0 (b ∷ more) ≡ put_first (mark_of i b) (marks (i + 1) 0 more)
byte_first i b more other = ap (λ (t : Bool). first i more (cond t (place (b ∷ more)) (Some (mark_of i b, 1)))) other

pub plain_first : (i b : ℕ) (more : List ℕ) → IsPlain b → marks i 0 (b ∷ more) ≡ put_first (Plain (Byte b)) (marks (i + 1) 0 more)
plain_first i b more plain = byte_first i b more plain.percent ∙ ap (λ m. put_first m (marks (i + 1) 0 more)) (ap (λ (t : Bool). cond t Space (cond ((b == 34) || (b == 39)) (Quote b i) (Plain (Byte b)))) plain.space ∙ ap (λ (t : Bool). cond t (Quote b i) (Plain (Byte b))) plain.quote)

-- the places
pub address_first : (i : ℕ) (after : List ℕ) → marks i 0 (codes "%(addr)s" ++ after) ≡ put_first (Plain Address) (marks (i + 8) 0 after)
address_first i after = let far : i + 1 + 1 + 1 + 1 + 1 + 1 + 1 + 1 ≡ i + 8 = omega arith in ap (λ j. put_first (Plain Address) (marks j 0 after)) far

pub percent_first : (i : ℕ) (after : List ℕ) → marks i 0 (codes "%%" ++ after) ≡ put_first (Plain (Byte 37)) (marks (i + 2) 0 after)
percent_first i after = let far : i + 1 + 1 ≡ i + 2 = omega arith in ap (λ j. put_first (Plain (Byte 37)) (marks j 0 after)) far

-- a text that doesn't begin so
lacks : (p text : List ℕ) → ((v : List ℕ) → text ≡ p ++ v → ⊥) → starts_with nat_eq text p ≡ false
lacks p text none = elim (starts_with nat_eq text p) as (λ t. starts_with nat_eq text p ≡ t → t ≡ false) [
  | true ↦ λ e. absurd (none (drop (length p) text) (let front : p ≡ take (length p) text = (bytes_eq-Decides p (take (length p) text)).0 e in ap (λ t. t) (sym (take-append-drop (length p) text)) ∙ ap (λ t. t ++ drop (length p) text) (sym front)))
  | false ↦ λ e. refl
] refl

pub stray_first : (i : ℕ) (more : List ℕ) → ((v : List ℕ) → (37 ∷ more) ≡ codes "%(addr)s" ++ v → ⊥) → ((v : List ℕ) → (37 ∷ more) ≡ codes "%%" ++ v → ⊥) → marks i 0 (37 ∷ more) ≡ Err (BadPlace i)
stray_first i more address percent =
    ap (λ (t : Bool). first i more (cond t (Some (Plain Address, 8)) (cond (starts_with nat_eq (37 ∷ more) (codes "%%")) (Some (Plain (Byte 37), 2)) None))) (lacks (codes "%(addr)s") (37 ∷ more) address)
    ∙ ap (λ (t : Bool). first i more (cond t (Some (Plain (Byte 37), 2)) None)) (lacks (codes "%%") (37 ∷ more) percent)
