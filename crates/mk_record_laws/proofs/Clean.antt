-- For proofs alone. Compact JSON has no line feed.
use Rattle.std.proofs.Common.{◌≡◌, ℕ, suc, ◌+◌, ◌/◌, ◌%◌, ◌^◌, ◌<◌, ◌==◌, nat_lt, ℤ, pos, negsuc, Bool, true, false, cond, List, [], ◌∷◌, ◌++◌, map, flat_map, refl, sym, ap, ◌∙◌, arith}
use Rattle.std.specs.Prelude.{not, codes}
use Rattle.std.specs.List.{list_all, join_with_byte}
use Rattle.std.specs.Fmt.{decimal, signed_decimal}
use Rattle.std.proofs.lemmas.Bool.{and_parts, and_from}
use Rattle.std.proofs.lemmas.Int.{ints}
use Rattle.std.proofs.lemmas.Fmt.{decimal_by_steps}
use Rattle.mk_base.specs.declared.json.Json.{Json}
use Rattle.mk_base.specs.Texts.{escaped, hex_digit, quoted, list_text, text_of}
use Rattle.mk_base.specs.Trees.{in_range, is_in_range}
use Rattle.mk_json.proofs.LevelTests.{range-List, range-Object}
use Rattle.mk_json.proofs.OfOutlines.{range-Whole}
use Rattle.mk_json.proofs.Layers.{Held, Steps, by_layers, trees, members, folded-Null, folded-Bool, folded-Whole, folded-Odd, folded-Text, folded-List, folded-Object}

-- the byte is no line feed
abbrev pub clean : ℕ → Bool
clean b = not (b == 10)

-- no byte is a line feed
abbrev pub all_clean : List ℕ → Bool
all_clean = list_all clean

pub clean-append : (xs ys : List ℕ) → all_clean xs ≡ true → all_clean ys ≡ true → all_clean (xs ++ ys) ≡ true
clean-append [] ys a b = b
clean-append (x ∷ xs) ys a b = let h = and_parts (clean x) (all_clean xs) a in and_from (clean x) (all_clean (xs ++ ys)) h.0 (clean-append xs ys h.1 b)

digit_clean : (d : ℕ) → clean (48 + d) ≡ true
digit_clean d = grind arith

one_clean : (d : ℕ) → all_clean ((48 + d) ∷ []) ≡ true
one_clean d = and_from (clean (48 + d)) true (digit_clean d) refl

abbrev IsClean : ℕ → List ℕ → Type 0
IsClean n ds = all_clean ds ≡ true

pub clean-decimal : (n : ℕ) → n < 2 ^ 64 → all_clean (decimal n) ≡ true
clean-decimal n low = decimal_by_steps IsClean (λ m h. one_clean m) (λ m ds h before. clean-append ds ((48 + m % 10) ∷ []) before (one_clean (m % 10))) n low

pos_low : (n : ℕ) → in_range (pos n) ≡ true → n < 2 ^ 64
pos_low n h = grind (arith, ints, h)

neg_low : (n : ℕ) → in_range (negsuc n) ≡ true → suc n < 2 ^ 64
neg_low n h = grind (arith, ints, h)

clean-signed : (z : ℤ) → in_range z ≡ true → all_clean (signed_decimal z) ≡ true
clean-signed (pos n) h = clean-decimal n (pos_low n h)
clean-signed (negsuc n) h = clean-decimal (suc n) (neg_low n h)

hex_clean : (n : ℕ) → clean (hex_digit n) ≡ true
hex_clean n = elim (nat_lt n 10) as (λ b. clean (cond b (48 + n) (87 + n)) ≡ true) [ true ↦ grind arith | false ↦ grind arith ]

-- cases on a test within a text
chosen : (b : Bool) (xs ys : List ℕ) → all_clean xs ≡ true → (b ≡ false → all_clean ys ≡ true) → all_clean (cond b xs ys) ≡ true
chosen true xs ys h k = h
chosen false xs ys h k = k refl

clean-escaped : (b : ℕ) → all_clean (escaped b) ≡ true
clean-escaped b = chosen (b == 34) _ _ refl (λ _. chosen (b == 92) _ _ refl (λ _. chosen (b == 8) _ _ refl (λ _. chosen (b == 9) _ _ refl (λ _. chosen (b == 10) _ _ refl (λ no. chosen (b == 12) _ _ refl (λ _. chosen (b == 13) _ _ refl (λ _.
    chosen (nat_lt b 32) _ _ (and_from (clean (hex_digit (b / 16))) _ (hex_clean (b / 16)) (and_from (clean (hex_digit (b % 16))) true (hex_clean (b % 16)) refl))
    (λ _. and_from (clean b) true (ap not no) refl))))))))

clean-flat : (s : List ℕ) → all_clean (flat_map escaped s) ≡ true
clean-flat [] = refl
clean-flat (b ∷ s) = clean-append (escaped b) (flat_map escaped s) (clean-escaped b) (clean-flat s)

clean-quoted : (s : List ℕ) → all_clean (quoted s) ≡ true
clean-quoted s = clean-append (flat_map escaped s) (34 ∷ []) (clean-flat s) refl

clean-join : (xs : List (List ℕ)) → list_all all_clean xs ≡ true → all_clean (join_with_byte 44 xs) ≡ true
clean-join [] h = refl
clean-join (x ∷ []) h = (and_parts (all_clean x) true h).0
clean-join (x ∷ y ∷ xs) h = let p = and_parts (all_clean x) (list_all all_clean (y ∷ xs)) h in clean-append x (44 ∷ join_with_byte 44 (y ∷ xs)) p.0 (clean-join (y ∷ xs) p.1)

clean-list : (xs : List (List ℕ)) → list_all all_clean xs ≡ true → all_clean (list_text xs) ≡ true
clean-list xs h = clean-append (91 ∷ join_with_byte 44 xs) (93 ∷ []) (clean-join xs h) refl

-- a member of an object
abbrev member_text : List ℕ × List ℕ → List ℕ
member_text m = quoted m.0 ++ codes ":" ++ m.1

clean-member : (k v : List ℕ) → all_clean v ≡ true → all_clean (member_text (k, v)) ≡ true
clean-member k v h = clean-append (quoted k ++ codes ":") v (clean-append (quoted k) (codes ":") (clean-quoted k) refl) h

abbrev Cleaned : Json → Type 0
Cleaned t = is_in_range t ≡ true → all_clean (text_of t) ≡ true

items_clean : (hs : List (Held Cleaned)) → list_all is_in_range (trees hs) ≡ true → list_all all_clean (map text_of (trees hs)) ≡ true
items_clean [] h = refl
items_clean (x ∷ hs) h = let p = and_parts (is_in_range x.0) (list_all is_in_range (trees hs)) h in and_from (all_clean (text_of x.0)) _ (x.1 p.0) (items_clean hs p.1)

members_clean : (hs : List (List ℕ × Held Cleaned)) → list_all (λ (m : List ℕ × Json). is_in_range m.1) (members hs) ≡ true
    → list_all all_clean (map member_text (map (λ (m : List ℕ × Json). (m.0, text_of m.1)) (members hs))) ≡ true
members_clean [] h = refl
members_clean (x ∷ hs) h = let p = and_parts (is_in_range x.1.0) _ h in and_from (all_clean (member_text (x.0, text_of x.1.0))) _ (clean-member x.0 (text_of x.1.0) (x.1.1 p.0)) (members_clean hs p.1)

bool_clean : (b : Bool) → all_clean (cond b (codes "true") (codes "false")) ≡ true
bool_clean true = refl
bool_clean false = refl

each_clean : Steps Cleaned
each_clean = record {
  null = λ _. ap all_clean (folded-Null _ _);
  bool = λ b _. ap all_clean (folded-Bool _ _ b) ∙ bool_clean b;
  whole = λ n h. ap all_clean (folded-Whole _ _ n) ∙ clean-signed n (sym (range-Whole n) ∙ h);
  odd = λ _. ap all_clean (folded-Odd _ _);
  text = λ s _. ap all_clean (folded-Text _ _ s) ∙ clean-quoted s;
  list = λ hs h. ap all_clean (folded-List _ _ (trees hs)) ∙ clean-list (map text_of (trees hs)) (items_clean hs (sym (range-List (trees hs)) ∙ h));
  object = λ hs h. ap all_clean (folded-Object _ _ (members hs)) ∙ clean-append (123 ∷ join_with_byte 44 (map member_text (map (λ (m : List ℕ × Json). (m.0, text_of m.1)) (members hs)))) (125 ∷ [])
      (clean-join (map member_text (map (λ (m : List ℕ × Json). (m.0, text_of m.1)) (members hs))) (members_clean hs (sym (range-Object (members hs)) ∙ h))) refl;
}

-- the compact text of a tree whose whole numbers are in range has no line feed
pub clean-text : (t : Json) → is_in_range t ≡ true → all_clean (text_of t) ≡ true
clean-text = by_layers Cleaned each_clean
