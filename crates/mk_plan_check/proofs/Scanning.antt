-- A tree's text nests as the tree does.
use Rattle.std.proofs.Common.{◌≡◌, ℕ, zero, suc, ◌+◌, ◌-◌, ◌/◌, ◌%◌, ◌<◌, ◌≤◌, ℤ, pos, negsuc, Bool, true, false, cond, List, [], ◌∷◌, ◌++◌, map, flat_map, fold, max, codes, refl, sym, ap, ◌∙◌, subst, arith, ◌==◌, nat_lt, if◌then◌else◌}
use Rattle.std.proofs.lemmas.List.Sums.{fold-append}
use Rattle.std.specs.List.{join_with_byte}
use Rattle.std.specs.Fmt.{decimal, signed_decimal, digits, digits_onto, digit_glyph}
use Rattle.mk_base.specs.declared.json.Json.{Json, Json-F, roll-Json, map-Json, ind-Json, fold-roll-Json}
use Rattle.mk_base.specs.Trees.{nesting}
use Rattle.mk_base.specs.Texts.{text_of, quoted, list_text, object_text, escaped, hex_digit}
use Rattle.mk_base.proofs.FoldsAgree.{folded_is}
use Rattle.mk_plan_check.specs.declared.nesting.Place.{Place}
use Rattle.mk_plan_check.specs.declared.nesting.Place.TheVariants.{Outside, Quoted}
use Rattle.mk_plan_check.specs.declared.nesting.Scan.{Scan}
use Rattle.mk_plan_check.specs.Nesting.{is_opening, is_closing, scanned, nesting_of}

abbrev at : Place → ℕ → ℕ → Scan
at p d m = record { place = p; depth = d; most = m }

-- from any place outside of texts, the text ends there with as many brackets open, and opens n at
-- most on the way
abbrev pub Climbs : ℕ → List ℕ → Type 0
Climbs n x = (d m : ℕ) → d ≤ m → fold scanned (at Outside d m) x ≡ at Outside d (max m (d + n))

climbs_append : (n k : ℕ) (x y : List ℕ) → Climbs n x → Climbs k y → Climbs (max n k) (x ++ y)
climbs_append n k x y f g d m h =
    fold-append scanned (at Outside d m) x y
    ∙ ap (λ s. fold scanned s y) (f d m h)
    ∙ g d (max m (d + n)) (omega arith)
    ∙ ap (λ q. at Outside d q) (omega arith)

climbs_none : Climbs 0 []
climbs_none d m h = ap (λ q. at Outside d q) (omega arith)

-- a byte that is neither a quote nor a bracket
record IsPlain (b : ℕ) : Type 0 where
  quote : (b == 34) ≡ false
  opening : is_opening b ≡ false
  closing : is_closing b ≡ false

plain_step : (b d m : ℕ) → IsPlain b → d ≤ m → scanned (at Outside d m) b ≡ at Outside d m
plain_step b d m p h = rw (p.quote, p.opening, p.closing) (ap (λ q. at Outside d q) (omega arith))

climbs_plain : (b : ℕ) (x : List ℕ) → IsPlain b → Climbs 0 x → Climbs 0 (b ∷ x)
climbs_plain b x p f d m h = ap (λ s. fold scanned s x) (plain_step b d m p h) ∙ f d m h

-- what stands in mk_base's definitions under names of their own there
abbrev deepest : List ℕ → ℕ
deepest [] = 0
deepest (n ∷ ns) = max n (deepest ns)

abbrev nesting_step : Json-F ℕ → ℕ
nesting_step Json-F.Null = 0
nesting_step (Json-F.Bool b) = 0
nesting_step (Json-F.Whole n) = 0
nesting_step Json-F.Odd = 0
nesting_step (Json-F.Text s) = 0
nesting_step (Json-F.List ns) = suc (deepest ns)
nesting_step (Json-F.Object ms) = suc (deepest (map (λ (m : List ℕ × ℕ). m.1) ms))

abbrev text_step : Json-F (List ℕ) → List ℕ
text_step Json-F.Null = codes "null"
text_step (Json-F.Bool b) = if b then codes "true" else codes "false"
text_step (Json-F.Whole n) = signed_decimal n
text_step Json-F.Odd = codes "0.5"
text_step (Json-F.Text s) = quoted s
text_step (Json-F.List items) = list_text items
text_step (Json-F.Object ms) = object_text ms

nesting_roll : (x : Json-F Json) → nesting (roll-Json x) ≡ nesting_step (map-Json Json ℕ nesting x)
nesting_roll x = sym (folded_is ℕ nesting_step (roll-Json x)) ∙ fold-roll-Json ℕ nesting_step x ∙ (λ i. nesting_step (map-Json Json ℕ (λ t. folded_is ℕ nesting_step t i) x))

text_roll : (x : Json-F Json) → text_of (roll-Json x) ≡ text_step (map-Json Json (List ℕ) text_of x)
text_roll x = sym (folded_is (List ℕ) text_step (roll-Json x)) ∙ fold-roll-Json (List ℕ) text_step x ∙ (λ i. text_step (map-Json Json (List ℕ) (λ t. folded_is (List ℕ) text_step t i) x))

-- a bracket and the one that closes it
climbs_bracketed : (n b c : ℕ) (x : List ℕ) → (b == 34) ≡ false → is_opening b ≡ true → (c == 34) ≡ false → is_opening c ≡ false → is_closing c ≡ true → Climbs n x → Climbs (suc n) (b ∷ x ++ c ∷ [])
climbs_bracketed n b c x q o q' o' k f d m h =
    ap (λ s. fold scanned s (x ++ c ∷ [])) first
    ∙ fold-append scanned (at Outside (d + 1) (max m (d + 1))) x (c ∷ [])
    ∙ ap (λ s. fold scanned s (c ∷ [])) (f (d + 1) (max m (d + 1)) (omega arith))
    ∙ last
  where
    first : scanned (at Outside d m) b ≡ at Outside (d + 1) (max m (d + 1))
    first = rw (q, o) refl

    last : scanned (at Outside (d + 1) (max (max m (d + 1)) (d + 1 + n))) c ≡ at Outside d (max m (d + suc n))
    last = rw (q', o', k) (λ i. let e : d + 1 - 1 ≡ d = omega arith in let e' : max (max (max m (d + 1)) (d + 1 + n)) (d + 1 - 1) ≡ max m (d + suc n) = omega arith in at Outside (e i) (e' i))

-- within quotes nothing is open or closed
abbrev Rests : List ℕ → Type 0
Rests x = (d m : ℕ) → d ≤ m → fold scanned (at Quoted d m) x ≡ at Quoted d m

rests_append : (x y : List ℕ) → Rests x → Rests y → Rests (x ++ y)
rests_append x y f g d m h = fold-append scanned (at Quoted d m) x y ∙ ap (λ s. fold scanned s y) (f d m h) ∙ g d m h

hex_is_plain : (n : ℕ) → ((hex_digit n == 34) ≡ false) × ((hex_digit n == 92) ≡ false)
hex_is_plain n = grind arith

rests_one : (b : ℕ) → (b == 34) ≡ false → (b == 92) ≡ false → Rests (b ∷ [])
rests_one b q e d m h = rw (q, e) (ap (λ k. at Quoted d k) (omega arith))

rests_escape : (b : ℕ) → Rests (92 ∷ b ∷ [])
rests_escape b d m h = ap (λ k. at Quoted d k) (omega arith)

either : (P : List ℕ → Type 0) (t : Bool) (x y : List ℕ) → (t ≡ true → P x) → (t ≡ false → P y) → P (cond t x y)
either P true x y f g = f refl
either P false x y f g = g refl

rests_escaped : (b : ℕ) → Rests (escaped b)
rests_escaped b = either Rests (b == 34) _ _ (λ _. rests_escape 34) (λ quote. either Rests (b == 92) _ _ (λ _. rests_escape 92) (λ slash. either Rests (b == 8) _ _ (λ _. rests_escape 98) (λ _. either Rests (b == 9) _ _ (λ _. rests_escape 116) (λ _. either Rests (b == 10) _ _ (λ _. rests_escape 110) (λ _.
    either Rests (b == 12) _ _ (λ _. rests_escape 102) (λ _. either Rests (b == 13) _ _ (λ _. rests_escape 114) (λ _. either Rests (nat_lt b 32) _ _ (λ _. coded) (λ _. rests_one b quote slash))))))))
  where
    digit : (n : ℕ) → Rests (hex_digit n ∷ [])
    digit n = rests_one (hex_digit n) (hex_is_plain n).0 (hex_is_plain n).1

    coded : Rests (codes "\\u00" ++ hex_digit (b / 16) ∷ hex_digit (b % 16) ∷ [])
    coded = rests_append (92 ∷ 117 ∷ []) (48 ∷ 48 ∷ hex_digit (b / 16) ∷ hex_digit (b % 16) ∷ []) (rests_escape 117)
        (rests_append (48 ∷ []) (48 ∷ hex_digit (b / 16) ∷ hex_digit (b % 16) ∷ []) (rests_one 48 refl refl)
        (rests_append (48 ∷ []) (hex_digit (b / 16) ∷ hex_digit (b % 16) ∷ []) (rests_one 48 refl refl)
        (rests_append (hex_digit (b / 16) ∷ []) (hex_digit (b % 16) ∷ []) (digit (b / 16)) (digit (b % 16)))))

rests_text : (s : List ℕ) → Rests (flat_map escaped s)
rests_text [] = λ d m h. refl
rests_text (b ∷ s) = rests_append (escaped b) (flat_map escaped s) (rests_escaped b) (rests_text s)

climbs_quoted : (s : List ℕ) → Climbs 0 (quoted s)
climbs_quoted s d m h =
    ap (λ k. fold scanned (at Quoted d k) (flat_map escaped s ++ 34 ∷ [])) e
    ∙ fold-append scanned (at Quoted d m) (flat_map escaped s) (34 ∷ [])
    ∙ ap (λ q. fold scanned q (34 ∷ [])) (rests_text s d m h)
    ∙ (λ i. at Outside d (e' i))
  where
    e : max m d ≡ m
    e = omega arith

    e' : max m d ≡ max m (d + 0)
    e' = omega arith

-- a whole number
glyph_is_plain : (n : ℕ) → IsPlain (digit_glyph false (n % 10))
glyph_is_plain n = let low : n % 10 < 10 = omega arith in plain_below (n % 10) low
  where
    plain_below : (k : ℕ) → k < 10 → IsPlain (digit_glyph false k)
    plain_below k low = record { quote = grind arith; opening = grind arith; closing = grind arith }

climbs_digits : (k n : ℕ) (acc : List ℕ) → Climbs 0 acc → Climbs 0 (digits_onto k 10 false n acc)
climbs_digits zero n acc f = f
climbs_digits (suc k) n acc f = either (Climbs 0) (n / 10 == 0) _ _ (λ _. climbs_plain _ acc (glyph_is_plain n) f) (λ _. climbs_digits k (n / 10) _ (climbs_plain _ acc (glyph_is_plain n) f))

climbs_decimal : (n : ℕ) → Climbs 0 (decimal n)
unfolding digits
climbs_decimal n = climbs_digits 64 n [] climbs_none

climbs_whole : (n : ℤ) → Climbs 0 (signed_decimal n)
climbs_whole (pos n) = climbs_decimal n
climbs_whole (negsuc n) = climbs_plain 45 (decimal (suc n)) (record { quote = refl; opening = refl; closing = refl }) (climbs_decimal (suc n))

-- a tree beside the fact that its text nests as it does
abbrev IsClimbed : Json → Type 0
IsClimbed t = Climbs (nesting t) (text_of t)

abbrev Climbed : Type 0
Climbed = (t : Json) × IsClimbed t

climbs_comma : (n : ℕ) (x : List ℕ) → Climbs n x → Climbs n (44 ∷ x)
climbs_comma n x f d m h = ap (λ s. fold scanned s x) (plain_step 44 d m (record { quote = refl; opening = refl; closing = refl }) h) ∙ f d m h

-- texts in a row nest as the deepest of them
module _ {X : Type 0} (text : X → List ℕ) (deep : X → ℕ) (each : (x : X) → Climbs (deep x) (text x)) where
  climbs_joined : (xs : List X) → Climbs (deepest (map deep xs)) (join_with_byte 44 (map text xs))
  climbs_joined [] = climbs_none
  climbs_joined (x ∷ []) = let e : deep x ≡ max (deep x) 0 = omega arith in subst (λ n. Climbs n (text x)) e (each x)
  climbs_joined (x ∷ y ∷ xs) = climbs_append (deep x) (deepest (map deep (y ∷ xs))) (text x) (44 ∷ join_with_byte 44 (map text (y ∷ xs))) (each x) (climbs_comma (deepest (map deep (y ∷ xs))) (join_with_byte 44 (map text (y ∷ xs))) (climbs_joined (y ∷ xs)))

module _ {X Y Z : Type 0} where
  map_twice : (f : X → Y) (g : Y → Z) (xs : List X) → map g (map f xs) ≡ map (λ x. g (f x)) xs
  map_twice f g [] = refl
  map_twice f g (x ∷ xs) = ap (λ l. g (f x) ∷ l) (map_twice f g xs)

abbrev tree_of : Climbed → Json
tree_of e = e.0

abbrev member_text : List ℕ × Climbed → List ℕ
member_text m = quoted m.0 ++ codes ":" ++ text_of m.1.0

abbrev member_depth : List ℕ × Climbed → ℕ
member_depth m = nesting m.1.0

climbs_member : (m : List ℕ × Climbed) → Climbs (member_depth m) (member_text m)
climbs_member m = let e : max 0 0 ≡ 0 = refl in let e' : max 0 (nesting m.1.0) ≡ nesting m.1.0 = omega arith in
    subst (λ n. Climbs n (member_text m)) e' (climbs_append 0 (nesting m.1.0) (quoted m.0 ++ codes ":") (text_of m.1.0) (climbs_append 0 0 (quoted m.0) (codes ":") (climbs_quoted m.0) (climbs_plain 58 [] (record { quote = refl; opening = refl; closing = refl }) climbs_none)) m.1.1)

climbs_list : (ys : List Climbed) → Climbs (suc (deepest (map nesting (map tree_of ys)))) (list_text (map text_of (map tree_of ys)))
climbs_list ys =
    subst (λ ns. Climbs (suc (deepest ns)) (list_text (map text_of (map tree_of ys)))) (sym (map_twice tree_of nesting ys))
    (subst (λ xs. Climbs (suc (deepest (map (λ e. nesting e.0) ys))) (list_text xs)) (sym (map_twice tree_of text_of ys))
    (climbs_bracketed (deepest (map (λ e. nesting e.0) ys)) 91 93 (join_with_byte 44 (map (λ e. text_of e.0) ys)) refl refl refl refl refl
    (climbs_joined (λ (e : Climbed). text_of e.0) (λ e. nesting e.0) (λ e. e.1) ys)))

-- what an object's members are mapped by
abbrev with_tree : List ℕ × Climbed → List ℕ × Json
with_tree m = (m.0, m.1.0)

abbrev with_text : List ℕ × Json → List ℕ × List ℕ
with_text m = (m.0, text_of m.1)

abbrev with_nesting : List ℕ × Json → List ℕ × ℕ
with_nesting m = (m.0, nesting m.1)

abbrev field : List ℕ × List ℕ → List ℕ
field m = quoted m.0 ++ codes ":" ++ m.1

abbrev second : List ℕ × ℕ → ℕ
second m = m.1

fields : (ms : List (List ℕ × Climbed)) → map member_text ms ≡ map field (map with_text (map with_tree ms))
fields [] = refl
fields (m ∷ ms) = ap (λ l. member_text m ∷ l) (fields ms)

depths : (ms : List (List ℕ × Climbed)) → map member_depth ms ≡ map second (map with_nesting (map with_tree ms))
depths [] = refl
depths (m ∷ ms) = ap (λ l. member_depth m ∷ l) (depths ms)

climbs_object : (ms : List (List ℕ × Climbed)) → Climbs (suc (deepest (map second (map with_nesting (map with_tree ms))))) (object_text (map with_text (map with_tree ms)))
climbs_object ms =
    subst (λ ns. Climbs (suc (deepest ns)) (object_text (map with_text (map with_tree ms)))) (depths ms)
    (subst (λ xs. Climbs (suc (deepest (map member_depth ms))) (codes "{" ++ join_with_byte 44 xs ++ codes "}")) (fields ms)
    (climbs_bracketed (deepest (map member_depth ms)) 123 125 (join_with_byte 44 (map member_text ms)) refl refl refl refl refl (climbs_joined member_text member_depth climbs_member ms)))

climbs_level : (y : Json-F Climbed) → Climbs (nesting_step (map-Json Json ℕ nesting (map-Json Climbed Json tree_of y))) (text_step (map-Json Json (List ℕ) text_of (map-Json Climbed Json tree_of y)))
climbs_level Json-F.Null = λ d m h. ap (λ q. at Outside d q) (omega arith)
climbs_level (Json-F.Bool true) = λ d m h. ap (λ q. at Outside d q) (omega arith)
climbs_level (Json-F.Bool false) = λ d m h. ap (λ q. at Outside d q) (omega arith)
climbs_level (Json-F.Whole n) = climbs_whole n
climbs_level Json-F.Odd = λ d m h. ap (λ q. at Outside d q) (omega arith)
climbs_level (Json-F.Text s) = climbs_quoted s
climbs_level (Json-F.List ys) = climbs_list ys
climbs_level (Json-F.Object ms) = climbs_object ms

pub climbs : (t : Json) → IsClimbed t
climbs = ind-Json IsClimbed (λ x y is. subst (λ z. IsClimbed (roll-Json z)) is (here y))
  where
    here : (y : Json-F Climbed) → IsClimbed (roll-Json (map-Json Climbed Json tree_of y))
    here y = let x = map-Json Climbed Json tree_of y in
        subst (λ n. Climbs n (text_of (roll-Json x))) (sym (nesting_roll x)) (subst (λ z. Climbs (nesting_step (map-Json Json ℕ nesting x)) z) (sym (text_roll x)) (climbs_level y))

-- the count of open brackets is the tree's nesting
pub nesting_is : (t : Json) → nesting_of (text_of t) ≡ nesting t
nesting_is t = let e : max 0 (0 + nesting t) ≡ nesting t = omega arith in ap (λ s. s.most) (climbs t 0 0 (omega arith)) ∙ e
