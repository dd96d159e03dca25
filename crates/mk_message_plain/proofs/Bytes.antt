-- Digits read one after another, and names in which nothing needs an escape.
use Rattle.std.proofs.Common.{◌≡◌, ℕ, zero, suc, ◌+◌, ◌*◌, ◌/◌, ◌%◌, ◌<◌, ◌≤◌, ◌^◌, ◌++◌, true, false, List, [], ◌∷◌, take, drop, flat_map, decimal, nat_lt, refl, sym, ap, ap₂, ◌∙◌, arith, append_assoc}
use Rattle.std.proofs.lemmas.Bool.{ne_eqb}
use Rattle.std.proofs.lemmas.Bool.Decides.{nat_tests}
use Rattle.std.proofs.lemmas.Fmt.{decimal_step, decimal_digit}
use Rattle.std.proofs.lemmas.List.{take-append-drop}
use Rattle.std.proofs.lemmas.Str.{IsUtf8-from_ascii}
use Rattle.std.specs.List.{list_all}
use Rattle.std.specs.Prelude.{IsUtf8, slice_index, Option, Some, None, IfSome}
use Rattle.mk_base.specs.Texts.{escaped, quoted}
use Rattle.mk_base.proofs.Bools.{first_holds, second_holds}
use Rattle.mk_message_plain.specs.inner.Signs.{is_free}

-- ---- what is there, if anything

pub if_some : {A : Type 0} {X Y : A → Type 0} (o : Option A) → ((a : A) → X a → Y a) → IfSome o X → IfSome o Y
if_some (Some a) f x = f a x
if_some None f x = tt

pub if_both : {A : Type 0} {X Y Z : A → Type 0} (o : Option A) → ((a : A) → X a → Y a → Z a) → IfSome o X → IfSome o Y → IfSome o Z
if_both (Some a) f x y = f a x y
if_both None f x y = tt

-- ---- digits

-- the text of one digit
pub one_digit : (d : ℕ) (text more : List ℕ) → d < 10 → text ≡ (48 + d) ∷ more → text ≡ decimal d ++ more
one_digit d text more small is = is ∙ ap (λ l. l ++ more) (sym (decimal_digit d small))

digit_behind : (n d : ℕ) → 0 < n → d < 10 → n < 10 ^ 17 → decimal n ++ (48 + d) ∷ [] ≡ decimal (n * 10 + d)
digit_behind n d some small few =
    let whole : (n * 10 + d) / 10 ≡ n = omega arith in
    let rest : (n * 10 + d) % 10 ≡ d = omega arith in
    sym (decimal_step (n * 10 + d) (omega arith) (omega arith) ∙ ap₂ (λ q r. decimal q ++ (48 + r) ∷ []) whole rest)

-- one digit more
pub digits_more : (first n d : ℕ) (text rest more : List ℕ) → decimal first ++ text ≡ decimal n ++ rest → rest ≡ (48 + d) ∷ more → 0 < n → d < 10 → n < 10 ^ 17 → decimal first ++ text ≡ decimal (n * 10 + d) ++ more
digits_more first n d text rest more so_far is some small few =
    so_far ∙ ap (λ l. decimal n ++ l) is ∙ sym (append_assoc (decimal n) ((48 + d) ∷ []) more) ∙ ap (λ l. l ++ more) (digit_behind n d some small few)

-- ---- names

abbrev IsFree : ℕ → Type 0
IsFree b = (32 ≤ b) × (b < 127) × (b ≡ 34 → ⊥) × (b ≡ 92 → ⊥)

free : (b : ℕ) → is_free b ≡ true → IsFree b
free b h = (grind (arith, nat_tests), grind (arith, nat_tests), (λ e. grind (arith, nat_tests)), (λ e. grind (arith, nat_tests)))

stands : (b : ℕ) → IsFree b → escaped b ≡ b ∷ []
stands b f = rw (ne_eqb b 34 f.2, ne_eqb b 92 f.3, ne_eqb b 8 (λ e. omega arith), ne_eqb b 9 (λ e. omega arith), ne_eqb b 10 (λ e. omega arith), ne_eqb b 12 (λ e. omega arith), ne_eqb b 13 (λ e. omega arith), below) refl
  where
    below : nat_lt b 32 ≡ false
    below = grind (arith, nat_tests)

all_stand : (text : List ℕ) → list_all is_free text ≡ true → flat_map escaped text ≡ text
all_stand [] h = refl
all_stand (b ∷ text) h = ap₂ (λ (x y : List ℕ). x ++ y) (stands b (free b (first_holds _ _ h))) (all_stand text (second_holds _ _ h))

ascii : (text : List ℕ) → list_all is_free text ≡ true → (i : ℕ) → slice_index text i < 128
ascii [] h i = omega arith
ascii (b ∷ text) h zero = let f = free b (first_holds _ _ h) in omega (arith, f.1)
ascii (b ∷ text) h (suc i) = ascii text (second_holds _ _ h) i

pub free_utf8 : (text name : List ℕ) → name ≡ text → list_all is_free text ≡ true → IsUtf8 name
free_utf8 text name is h = rw is (IsUtf8-from_ascii text (ascii text h))

-- a quote, the name, a quote, and the rest
pub name_quoted : (text inner name rest : List ℕ) (n : ℕ) → text ≡ 34 ∷ inner → name ≡ take n inner → drop n inner ≡ 34 ∷ rest → list_all is_free (take n inner) ≡ true → text ≡ quoted name ++ rest
name_quoted text inner name rest n begun is closed h =
    begun ∙ ap (λ l. 34 ∷ l) (sym (take-append-drop n inner)) ∙ ap (λ l. 34 ∷ (take n inner ++ l)) closed
    ∙ ap (λ l. 34 ∷ (l ++ 34 ∷ rest)) (sym (all_stand (take n inner) h)) ∙ ap (λ l. 34 ∷ (flat_map escaped l ++ 34 ∷ rest)) (sym is)
    ∙ ap (λ l. 34 ∷ l) (sym (append_assoc (flat_map escaped name) (34 ∷ []) rest))
