-- A template is read as its marks say.
use Rattle.std.proofs.Common.{◌≡◌, ℕ, ◌+◌, ◌-◌, ◌<◌, ◌≤◌, ◌==◌, ◌||◌, Bool, true, false, cond, List, [], ◌∷◌, ◌++◌, length, Option, Some, None, unwrap_or, refl, sym, ap, ◌∙◌, subst, append_assoc, arith, codes, length-append}
use Rattle.std.specs.Prelude.{Result, Err, encode_utf8}
use Rattle.std.proofs.lemmas.List.{append-nil}
use Rattle.std.proofs.lemmas.Grind.{common_steps}
use Rattle.std.proofs.lemmas.Str.{encode_ascii}
use Rattle.std.proofs.lemmas.Bool.Decides.{nat_tests}
use Rattle.mk_base.specs.Lists.{Each}
use Rattle.mk_base.specs.Verdicts.{put_first}
use Rattle.mk_launch.specs.declared.faults.LaunchFault.{LaunchFault}
use Rattle.mk_launch.specs.declared.faults.LaunchFault.TheVariants.{BadPlace}
use Rattle.mk_launch.specs.declared.marks.Front.{Front}
use Rattle.mk_launch.specs.declared.marks.Front.TheVariants as front
use Rattle.mk_launch.specs.Marks.{Mark, marks}
use Rattle.mk_launch.specs.Marks.Sign.{Byte}
use Rattle.mk_launch.specs.Marks.Mark.{Space, Quote, Plain}
use Rattle.mk_launch.specs.inner.Reading.{Reading}
use Rattle.mk_launch.specs.inner.Steps.{FrontOf, IsReadOf, after_front, after_quote, after_space, with_letters}
use Rattle.mk_launch.proofs.Finishing.{Texts, finish, space_ends, space_stays, byte_on, address_on, quote_opens, quote_ends, quote_stays}
use Rattle.mk_launch.proofs.Bytes.{IsPlain, letters_are_plain, some_bytes, byte_first, plain_first, address_first, percent_first, stray_first}

-- a space
space_read : (s : Reading) (R : Result (List Mark) LaunchFault) (p : Option (ℕ × ℕ)) → s.part ≡ p → finish s (put_first Space R) ≡ finish (after_space p s) R
space_read s R None e = space_ends s R e
space_read s R (Some p) e = space_stays s p R e ∙ ap (λ t. finish (with_letters t s) R) (sym (encode_ascii 32 (omega arith)))

-- a quotation mark
quote_read : (s : Reading) (q i : ℕ) (R : Result (List Mark) LaunchFault) (p : Option (ℕ × ℕ)) → q < 128 → s.part ≡ p → finish s (put_first (Quote q i) R) ≡ finish (after_quote q i p s) R
quote_read s q i R None ascii e = quote_opens s q i R e
quote_read s q i R (Some p) ascii e = elim (p.0 == q) as (λ t. (p.0 == q) ≡ t → finish s (put_first (Quote q i) R) ≡ finish (cond t (record s { part = None }) (with_letters (encode_utf8 q) s)) R) [
  | true ↦ λ same. quote_ends s p q i R e same
  | false ↦ λ apart. quote_stays s p q i R e apart ∙ ap (λ t. finish (with_letters t s) R) (sym (encode_ascii q ascii))
] refl

quote_is_ascii : (q : ℕ) → ((q == 34) || (q == 39)) ≡ true → (q < 128) × ((q == 32) ≡ false) × ((q == 37) ≡ false)
quote_is_ascii q e = elim (q == 34) as (λ t. (q == 34) ≡ t → (t || (q == 39)) ≡ true → (q < 128) × ((q == 32) ≡ false) × ((q == 37) ≡ false)) [
  | true ↦ λ is h. let same : q ≡ 34 = grind (arith, nat_tests) in (omega (arith, same), grind (arith, nat_tests), grind (arith, nat_tests))
  | false ↦ λ isnt h. let same : q ≡ 39 = grind (arith, nat_tests) in (omega (arith, same), grind (arith, nat_tests), grind (arith, nat_tests))
] refl e

quote_first : (i q : ℕ) (more : List ℕ) → ((q == 34) || (q == 39)) ≡ true → marks i 0 (q ∷ more) ≡ put_first (Quote q i) (marks (i + 1) 0 more)
quote_first i q more e =
    let is = quote_is_ascii q e in
    byte_first i q more is.2 ∙ ap (λ m. put_first m (marks (i + 1) 0 more)) (ap (λ (t : Bool). cond t Space (cond ((q == 34) || (q == 39)) (Quote q i) (Plain (Byte q)))) is.1 ∙ ap (λ (t : Bool). cond t (Quote q i) (Plain (Byte q))) e)

-- bytes of a word that goes on
abbrev going : Reading → List ℕ → Reading
going s word = record s { word = Some word }

plain_read : (s : Reading) (word xs after : List ℕ) (i : ℕ) → Each IsPlain xs → finish (going s word) (marks i 0 (xs ++ after)) ≡ finish (going s (word ++ xs)) (marks (i + length xs) 0 after)
plain_read s word [] after i all = let here : i ≡ i + 0 = omega arith in ap (λ t. finish (going s t) (marks i 0 after)) (sym (append-nil word)) ∙ ap (λ j. finish (going s (word ++ [])) (marks j 0 after)) here
plain_read s word (x ∷ xs) after i (first, others) =
    let there : (i + 1) + length xs ≡ i + length (x ∷ xs) = grind (arith, common_steps) in
    ap (finish (going s word)) (plain_first i x (xs ++ after) first) ∙ byte_on (going s word) x (marks (i + 1) 0 (xs ++ after)) ∙ plain_read s (word ++ x ∷ []) xs after (i + 1) others
    ∙ ap (λ t. finish (going s t) (marks ((i + 1) + length xs) 0 after)) (append_assoc word (x ∷ []) xs) ∙ ap (λ j. finish (going s (word ++ x ∷ xs)) (marks j 0 after)) there

-- bytes of a word
letters_read : (s : Reading) (xs after : List ℕ) (i : ℕ) → 1 ≤ length xs → Each IsPlain xs → finish s (marks i 0 (xs ++ after)) ≡ finish (with_letters xs s) (marks (i + length xs) 0 after)
letters_read s [] after i some all = absurd (omega (arith, some))
letters_read s (x ∷ xs) after i some (first, others) =
    let there : (i + 1) + length xs ≡ i + length (x ∷ xs) = grind (arith, common_steps) in
    ap (finish s) (plain_first i x (xs ++ after) first) ∙ byte_on s x (marks (i + 1) 0 (xs ++ after)) ∙ plain_read s (unwrap_or s.word [] ++ x ∷ []) xs after (i + 1) others
    ∙ ap (λ t. finish (going s t) (marks ((i + 1) + length xs) 0 after)) (append_assoc (unwrap_or s.word []) (x ∷ []) xs) ∙ ap (λ j. finish (with_letters (x ∷ xs) s) (marks j 0 after)) there

-- how far the text was read
taken : (i : ℕ) (xs after : List ℕ) → i + length xs ≡ i + (length (xs ++ after) - length after)
taken i xs after = grind (arith, common_steps)

front_read : (s : Reading) (f : Front) (i : ℕ) (text after : List ℕ) → FrontOf text f after → (f ≡ front.Stray → ⊥) → finish s (marks i 0 text) ≡ finish (after_front f i s) (marks (i + (length text - length after)) 0 after)
front_read s front.Space i text after is not = rw is (space_read s (marks (i + 1) 0 after) s.part refl ∙ ap (λ j. finish (after_space s.part s) (marks j 0 after)) (taken i (32 ∷ []) after))
front_read s (front.Quote q) i text after (is, quote) not = rw is (ap (finish s) (quote_first i q after quote) ∙ quote_read s q i (marks (i + 1) 0 after) s.part (quote_is_ascii q quote).0 refl
    ∙ ap (λ j. finish (after_quote q i s.part s) (marks j 0 after)) (taken i (q ∷ []) after))
front_read s (front.Letter c) i text after (is, letter) not = rw is (letters_read s (encode_utf8 c) after i (some_bytes c) (letters_are_plain c letter)
    ∙ ap (λ j. finish (with_letters (encode_utf8 c) s) (marks j 0 after)) (taken i (encode_utf8 c) after))
front_read s front.Address i text after is not = rw is (ap (finish s) (address_first i after) ∙ address_on s (marks (i + 8) 0 after) ∙ ap (λ j. finish (with_letters s.address s) (marks j 0 after)) (taken i (codes "%(addr)s") after))
front_read s front.Percent i text after is not = rw is (ap (finish s) (percent_first i after) ∙ byte_on s 37 (marks (i + 2) 0 after) ∙ ap (λ t. finish (with_letters t s) (marks (i + 2) 0 after)) (sym (encode_ascii 37 (omega arith)))
    ∙ ap (λ j. finish (with_letters (encode_utf8 37) s) (marks j 0 after)) (taken i (codes "%%") after))
front_read s front.Stray i text after is not = absurd (not refl)

read_after : (f : Front) (s new : Reading) (i : ℕ) → IsReadOf f s i new → (new ≡ after_front f i s) × (f ≡ front.Stray → ⊥)
read_after front.Space s new i is = (is, λ e. cc)
read_after (front.Quote q) s new i is = (is, λ e. cc)
read_after (front.Letter c) s new i is = (is, λ e. cc)
read_after front.Address s new i is = (is, λ e. cc)
read_after front.Percent s new i is = (is, λ e. cc)
read_after front.Stray s new i is = absurd is

-- what stands at the front takes at least a byte
pub is_shorter : (f : Front) (text after : List ℕ) → FrontOf text f after → length after < length text
is_shorter front.Space text after is = rw is (grind (arith, common_steps))
is_shorter (front.Quote q) text after (is, quote) = rw is (grind (arith, common_steps))
is_shorter (front.Letter c) text after (is, letter) = rw is (let some = some_bytes c in let both = length-append (encode_utf8 c) after in omega (arith, some, both))
is_shorter front.Address text after is = rw is (grind (arith, common_steps))
is_shorter front.Percent text after is = rw is (grind (arith, common_steps))
is_shorter front.Stray text after (is, none) = rw is (grind (arith, common_steps))

-- one step: the whole has so many bytes, and is read as before
pub goes_on : (whole : ℕ) (f : Front) (s new : Reading) (text after : List ℕ) (R : Texts) → length text ≤ whole → FrontOf text f after → IsReadOf f s (whole - length text) new
    → finish s (marks (whole - length text) 0 text) ≡ R → finish new (marks (whole - length after) 0 after) ≡ R
goes_on whole f s new text after R within stands is reads =
    let new_is = read_after f s new (whole - length text) is in
    let less = is_shorter f text after stands in
    let far : whole - length after ≡ (whole - length text) + (length text - length after) = omega (arith, within, less) in
    ap (λ n. finish n (marks (whole - length after) 0 after)) new_is.0 ∙ ap (λ j. finish (after_front f (whole - length text) s) (marks j 0 after)) far
    ∙ sym (front_read s f (whole - length text) text after stands new_is.1) ∙ reads

-- a wrong per cent sign
pub stops : (i : ℕ) (f : Front) (s : Reading) (text after : List ℕ) (R : Texts) → FrontOf text f after → f ≡ front.Stray → finish s (marks i 0 text) ≡ R → R ≡ Err (BadPlace i)
stops i f s text after R stands stray reads =
    let is : FrontOf text front.Stray after = subst (λ g. FrontOf text g after) stray stands in
    sym reads ∙ ap (λ t. finish s (marks i 0 t)) is.0 ∙ ap (finish s) (stray_first i after (λ v e. is.1.0 v (is.0 ∙ e)) (λ v e. is.1.1 v (is.0 ∙ e)))
