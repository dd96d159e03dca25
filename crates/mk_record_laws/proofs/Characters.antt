-- For proofs alone. What stands in quotes in a text in UTF-8 is UTF-8.
use Rattle.std.proofs.Common.{◌≡◌, ℕ, zero, suc, ◌+◌, ◌*◌, ◌<◌, ◌≤◌, ◌==◌, ◌&&◌, ◌||◌, nat_lt, Bool, true, false, cond, List, [], ◌∷◌, ◌++◌, length, get_or, Option, Some, None, option_and_then, inl, inr, refl, sym, ap, ◌∙◌, subst, arith, append-nil, length-append}
use Rattle.std.specs.Prelude.{⊤, IsUtf8}
use Rattle.std.specs.Char.{is_digit, digit_value, encode_utf8, IsScalar}
use Rattle.std.proofs.lemmas.Bool.{and_parts, cases_lt, eqb-true, ltb-true}
use Rattle.std.proofs.lemmas.Str.{IsUtf8-append, IsUtf8-nil, IsUtf8-encode, IsUtf8-past_char, encode_ascii, inside_one, byte_from_char, length-encode, len_utf8_bounds}
use lib.Utf8.{scalar, scalars, encode, encodes, low_scalar}
use Rattle.json.specs.Text.{code_unit, short_escape, is_high_surrogate, is_low_surrogate, surrogate_pair, Within, plain, after_backslash, after_u, after_high, prepend, content}
use Rattle.mk_base.proofs.Lists.{some_same, none_some}

-- what is there is UTF-8
abbrev pub IsText : Option (List ℕ) → Type 0
IsText None = ⊤
IsText (Some s) = IsUtf8 s

-- ---- characters

pub after_ascii : (x : ℕ) (xs : List ℕ) → x < 128 → IsUtf8 (x ∷ xs) → IsUtf8 xs
after_ascii x xs low u = IsUtf8-past_char (x ∷ xs) xs x u (sym (ap (λ (l : List ℕ). l ++ xs) (encode_ascii x low)))

one_byte : (x : ℕ) → x < 128 → IsUtf8 (x ∷ [])
one_byte x low = subst IsUtf8 (encode_ascii x low) (IsUtf8-encode x (low_scalar x (omega arith)))

-- each byte is 128 or more
abbrev pub AreHigh : List ℕ → Type 0
AreHigh ys = (k : ℕ) → k < length ys → 128 ≤ get_or ys k 0

-- the bytes of a character that isn't ASCII
pub high_bytes : (c : ℕ) → 128 ≤ c → AreHigh (encode c)
high_bytes c high k below = elim (cases_lt (get_or (encode c) k 0) 128) [
  | inl low ↦ let here = inside_one c [] (encode c) k (sym (append-nil (encode c))) below low in absurd (omega (arith, here))
  | inr h ↦ h
]

prepend_none : (r : Option (List ℕ)) → r ≡ prepend [] r
prepend_none None = refl
prepend_none (Some s) = refl

prepend_more : (y : ℕ) (ys : List ℕ) (r : Option (List ℕ)) → prepend (y ∷ []) (prepend ys r) ≡ prepend (y ∷ ys) r
prepend_more y ys None = refl
prepend_more y ys (Some s) = refl

not_low : (y n : ℕ) → n < 128 → 128 ≤ y → (y == n) ≡ false
not_low y n low high = grind arith

not_below : (y : ℕ) → 128 ≤ y → nat_lt y 32 ≡ false
not_below y high = grind arith

content_high : (ys zs : List ℕ) → AreHigh ys → content plain (ys ++ zs) ≡ prepend ys (content plain zs)
unfolding content
content_high [] zs h = prepend_none (content plain zs)
content_high (y ∷ ys) zs h =
    let high : 128 ≤ y = h 0 (omega arith) in
    let quote : (y == 34) ≡ false = not_low y 34 (omega arith) high in
    let slash : (y == 92) ≡ false = not_low y 92 (omega arith) high in
    let space : nat_lt y 32 ≡ false = not_below y high in
    rw (quote, slash, space) (ap (prepend (y ∷ [])) (content_high ys zs (λ k below. h (suc k) (omega arith))) ∙ prepend_more y ys (content plain zs))

-- ---- escapes

chosen : (b : Bool) (x y : Option (List ℕ)) → (b ≡ true → IsText x) → (b ≡ false → IsText y) → IsText (cond b x y)
chosen true x y f g = f refl
chosen false x y f g = g refl

then : (f : ℕ → Option (List ℕ)) (o : Option ℕ) → ((u : ℕ) → o ≡ Some u → IsText (f u)) → IsText (option_and_then f o)
then f None h = tt
then f (Some u) h = h u refl

put_before : (a : List ℕ) (r : Option (List ℕ)) → IsUtf8 a → IsText r → IsText (prepend a r)
put_before a None u h = tt
put_before a (Some s) u h = IsUtf8-append a s u h

abbrev AreLow : ℕ → ℕ → Type 0
AreLow x c = (x < 128) × (c < 128)

picked : (b : Bool) (o p : Option ℕ) (x c : ℕ) → (b ≡ true → o ≡ Some c → AreLow x c) → (p ≡ Some c → AreLow x c) → cond b o p ≡ Some c → AreLow x c
picked true o p x c f g e = f refl e
picked false o p x c f g e = g e

short_low : (x c : ℕ) → short_escape x ≡ Some c → AreLow x c
unfolding short_escape
short_low x c e =
    picked ((x == 34) || (x == 92) || (x == 47)) (Some x) _ x c (λ b is. let same = some_same is in let low = three x b in (low, omega (arith, same)))
    (λ e. picked (x == 98) (Some 8) _ x c (by 98 8 (omega arith) (omega arith))
    (λ e. picked (x == 102) (Some 12) _ x c (by 102 12 (omega arith) (omega arith))
    (λ e. picked (x == 110) (Some 10) _ x c (by 110 10 (omega arith) (omega arith))
    (λ e. picked (x == 114) (Some 13) _ x c (by 114 13 (omega arith) (omega arith))
    (λ e. picked (x == 116) (Some 9) None x c (by 116 9 (omega arith) (omega arith)) (λ e. absurd (none_some e)) e) e) e) e) e) e
  where
    three : (x : ℕ) → ((x == 34) || (x == 92) || (x == 47)) ≡ true → x < 128
    three x b = grind (arith, b)

    by : (n m : ℕ) → n < 128 → m < 128 → (x == n) ≡ true → Some m ≡ Some c → AreLow x c
    by n m low small b is = let here = eqb-true x n b in let same = some_same is in (omega (arith, here), omega (arith, same))

digit_low : (a : ℕ) → is_digit a 16 ≡ true → (a < 128) × (digit_value a < 16)
digit_low a h = (grind (arith, h), ltb-true (digit_value a) 16 h)

-- four digits that spell a code unit
record IsUnit (a b c d u : ℕ) : Type 0 where
  first : a < 128
  second : b < 128
  third : c < 128
  fourth : d < 128
  small : u < 65536

unit_is : (a b c d u : ℕ) → code_unit a b c d ≡ Some u → IsUnit a b c d u
unfolding code_unit
unit_is a b c d u e = by (is_digit a 16 && is_digit b 16 && is_digit c 16 && is_digit d 16) refl e
  where
    by : (t : Bool) → (is_digit a 16 && is_digit b 16 && is_digit c 16 && is_digit d 16) ≡ t → cond t (Some (digit_value a * 4096 + digit_value b * 256 + digit_value c * 16 + digit_value d)) None ≡ Some u → IsUnit a b c d u
    by false t e = absurd (none_some e)
    by true t e =
        let p = and_parts (is_digit a 16 && is_digit b 16 && is_digit c 16) (is_digit d 16) t in
        let q = and_parts (is_digit a 16 && is_digit b 16) (is_digit c 16) p.0 in
        let r = and_parts (is_digit a 16) (is_digit b 16) q.0 in
        let w = digit_low a r.0 in
        let x = digit_low b r.1 in
        let y = digit_low c q.1 in
        let z = digit_low d p.1 in
        let same = some_same e in
        record { first = w.0; second = x.0; third = y.0; fourth = z.0; small = omega (arith, same, w.1, x.1, y.1, z.1) }

after_four : (a b c d u : ℕ) (xs : List ℕ) → IsUnit a b c d u → IsUtf8 (a ∷ b ∷ c ∷ d ∷ xs) → IsUtf8 xs
after_four a b c d u xs is t = after_ascii d xs is.fourth (after_ascii c (d ∷ xs) is.third (after_ascii b (c ∷ d ∷ xs) is.second (after_ascii a (b ∷ c ∷ d ∷ xs) is.first t)))

unit_scalar : (u : ℕ) → u < 65536 → is_high_surrogate u ≡ false → is_low_surrogate u ≡ false → IsScalar u
unit_scalar u small high low = grind (arith, high, low)

pair_scalar : (h l : ℕ) → is_high_surrogate h ≡ true → is_low_surrogate l ≡ true → IsScalar (surrogate_pair h l)
pair_scalar h l high low = grind (arith, high, low)

-- ---- the content of a string

-- what is kept of a pair is its first half
abbrev IsKept : Within → Type 0
IsKept plain = ⊤
IsKept after_backslash = ⊤
IsKept after_u = ⊤
IsKept (after_high h) = is_high_surrogate h ≡ true

-- a character that isn't ASCII, and what follows it
record IsHighFirst (xs : List ℕ) : Type 0 where
  bytes : List ℕ
  rest : List ℕ
  is : bytes ++ rest ≡ xs
  high : AreHigh bytes
  text : IsUtf8 bytes
  after : IsUtf8 rest
  shorter : length rest < length xs

high_first : (x : ℕ) (xs : List ℕ) → 128 ≤ x → IsUtf8 (x ∷ xs) → IsHighFirst (x ∷ xs)
high_first x xs high u = by u.0 u.1.0 u.1.1
  where
    by : (cs : List ℕ) → scalars cs ≡ true → encodes cs ≡ x ∷ xs → IsHighFirst (x ∷ xs)
    by [] s e = let none : 0 ≡ suc (length xs) = ap length e in absurd (omega (arith, none))
    by (c ∷ cs) s e =
        let p = and_parts (scalar c) (scalars cs) s in
        let above : 128 ≤ c = elim (cases_lt c 128) [ inl low ↦ let first = byte_from_char (x ∷ xs) (encodes cs) c (sym e) low in absurd (omega (arith, first)) | inr h ↦ h ] in
        record {
          bytes = encode c;
          rest = encodes cs;
          is = e;
          high = high_bytes c above;
          text = IsUtf8-encode c p.0;
          after = (cs, (p.1, refl));
          shorter = let len = ap length e in let sum = length-append (encode c) (encodes cs) in let size = length-encode c in let some = (len_utf8_bounds c).0 in omega (arith, len, sum, size, some);
        }

pub content_text : (n : ℕ) (w : Within) (xs : List ℕ) → length xs ≤ n → IsKept w → IsUtf8 xs → IsText (content w xs)
unfolding content
content_text n plain [] low kept u = tt
content_text zero plain (x ∷ xs) low kept u = absurd (omega arith)
content_text (suc n) plain (x ∷ xs) low kept u = elim (cases_lt x 128) [
  | inl small ↦ let later : IsUtf8 xs = after_ascii x xs small u in
      chosen (x == 34) (Some []) _ (λ q. IsUtf8-nil) (λ q.
      chosen (x == 92) (content after_backslash xs) _ (λ b. content_text n after_backslash xs (omega arith) tt later) (λ b.
      chosen (nat_lt x 32) None (prepend (x ∷ []) (content plain xs)) (λ s. tt) (λ s. put_before (x ∷ []) (content plain xs) (one_byte x small) (content_text n plain xs (omega arith) tt later))))
  | inr big ↦ let f = high_first x xs big u in
      subst (λ (l : List ℕ). IsText (content plain l)) f.is (subst IsText (sym (content_high f.bytes f.rest f.high)) (put_before f.bytes (content plain f.rest) f.text (content_text n plain f.rest (let s = f.shorter in omega (arith, s)) tt f.after)))
]
content_text n after_backslash [] low kept u = tt
content_text zero after_backslash (x ∷ xs) low kept u = absurd (omega arith)
content_text (suc n) after_backslash (x ∷ xs) low kept u =
    chosen (x == 117) (content after_u xs) _ (λ q. let here = eqb-true x 117 q in content_text n after_u xs (omega arith) tt (after_ascii x xs (omega (arith, here)) u))
    (λ q. then (λ c. prepend (c ∷ []) (content plain xs)) (short_escape x) (λ c e. let l = short_low x c e in put_before (c ∷ []) (content plain xs) (one_byte c l.1) (content_text n plain xs (omega arith) tt (after_ascii x xs l.0 u))))
content_text n after_u [] low kept u = tt
content_text n after_u (a ∷ []) low kept u = tt
content_text n after_u (a ∷ b ∷ []) low kept u = tt
content_text n after_u (a ∷ b ∷ c ∷ []) low kept u = tt
content_text zero after_u (a ∷ b ∷ c ∷ d ∷ xs) low kept u = absurd (omega arith)
content_text (suc n) after_u (a ∷ b ∷ c ∷ d ∷ xs) low kept u = then _ (code_unit a b c d) (λ v e.
    let is = unit_is a b c d v e in
    let later : IsUtf8 xs = after_four a b c d v xs is u in
    chosen (is_high_surrogate v) (content (after_high v) xs) _ (λ h. content_text n (after_high v) xs (omega arith) h later) (λ h.
    chosen (is_low_surrogate v) None (prepend (encode_utf8 v) (content plain xs)) (λ l. tt) (λ l. put_before (encode_utf8 v) (content plain xs) (IsUtf8-encode v (unit_scalar v is.small h l)) (content_text n plain xs (omega arith) tt later))))
content_text n (after_high h) [] low kept u = tt
content_text n (after_high h) (s ∷ []) low kept u = tt
content_text n (after_high h) (s ∷ t ∷ []) low kept u = tt
content_text n (after_high h) (s ∷ t ∷ a ∷ []) low kept u = tt
content_text n (after_high h) (s ∷ t ∷ a ∷ b ∷ []) low kept u = tt
content_text n (after_high h) (s ∷ t ∷ a ∷ b ∷ c ∷ []) low kept u = tt
content_text zero (after_high h) (s ∷ t ∷ a ∷ b ∷ c ∷ d ∷ xs) low kept u = absurd (omega arith)
content_text (suc n) (after_high h) (s ∷ t ∷ a ∷ b ∷ c ∷ d ∷ xs) low kept u = chosen ((s == 92) && (t == 117)) _ None (λ q.
    let p = and_parts (s == 92) (t == 117) q in
    let first = eqb-true s 92 p.0 in
    let second = eqb-true t 117 p.1 in
    let more : IsUtf8 (a ∷ b ∷ c ∷ d ∷ xs) = after_ascii t (a ∷ b ∷ c ∷ d ∷ xs) (omega (arith, second)) (after_ascii s (t ∷ a ∷ b ∷ c ∷ d ∷ xs) (omega (arith, first)) u) in
    then _ (code_unit a b c d) (λ l e.
    let later : IsUtf8 xs = after_four a b c d l xs (unit_is a b c d l e) more in
    chosen (is_low_surrogate l) (prepend (encode_utf8 (surrogate_pair h l)) (content plain xs)) None
    (λ is. put_before (encode_utf8 (surrogate_pair h l)) (content plain xs) (IsUtf8-encode (surrogate_pair h l) (pair_scalar h l kept is)) (content_text n plain xs (omega arith) tt later)) (λ is. tt))) (λ q. tt)

-- ---- where a text goes on

-- after each ASCII byte a text in UTF-8 follows
abbrev pub IsCut : List ℕ → Type 0
IsCut [] = ⊤
IsCut (x ∷ xs) = (x < 128 → IsUtf8 xs) × IsCut xs

cut_high : (ys zs : List ℕ) → AreHigh ys → IsCut zs → IsCut (ys ++ zs)
cut_high [] zs h c = c
cut_high (y ∷ ys) zs h c = (λ low. let high : 128 ≤ y = h 0 (omega arith) in absurd (omega (arith, high)), cut_high ys zs (λ k below. h (suc k) (omega arith)) c)

cut_of : (cs : List ℕ) → scalars cs ≡ true → IsCut (encodes cs)
cut_of [] s = tt
cut_of (c ∷ cs) s = let p = and_parts (scalar c) (scalars cs) s in elim (cases_lt c 128) [
  | inl low ↦ subst (λ (l : List ℕ). IsCut (l ++ encodes cs)) (sym (encode_ascii c low)) (λ small. (cs, (p.1, refl)), cut_of cs p.1)
  | inr high ↦ cut_high (encode c) (encodes cs) (high_bytes c high) (cut_of cs p.1)
]

pub text_cut : (xs : List ℕ) → IsUtf8 xs → IsCut xs
text_cut xs u = subst IsCut u.1.1 (cut_of u.0 u.1.0)
