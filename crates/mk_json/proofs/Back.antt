-- The text of a tree is read as that tree.
use Rattle.std.proofs.Common.{◌≡◌, ℕ, suc, pred, max, ◌<◌, ◌≤◌, ◌^◌, ℤ, pos, negsuc, Bool, true, false, List, [], ◌∷◌, ◌++◌, map, codes, Option, Some, option_map, option_and_then, Less, Greater, decimal, refl, sym, ap, ap₂, ◌∙◌, subst, arith, append-nil}
use Rattle.std.proofs.lemmas.Bool.{and_parts}
use Rattle.std.proofs.lemmas.Int.{ints}
use Rattle.std.proofs.lemmas.Cmp.{nat_list_cmp_total}
use Rattle.std.proofs.lemmas.Fmt.{IsAscii-decimal}
use Rattle.std.proofs.lemmas.Str.{IsUtf8-append, IsUtf8-nil, IsUtf8-from_ascii, IsUtf8-from_is_utf8}
use Rattle.std.specs.Prelude.{⊤, IsUtf8}
use Rattle.std.specs.List.{list_all, join_with_byte}
use Rattle.std.specs.Map.{keys_of}
use Rattle.std.specs.Str.{is_utf8}
use Rattle.std.specs.Ordering.{nat_cmp, is_lt, ordering_reverse}
use Rattle.std.specs.Cmp.Lexicographic.{slice_cmp}
use Rattle.std.specs.Fmt.{signed_decimal}
use Rattle.json.specs.Json as json
use Rattle.json.specs.Token.{Token}
use Rattle.json.specs.Print as print
use Rattle.json.specs.Print.{IsNumber}
use Rattle.json.specs.Tree as written
use Rattle.json.proofs.Printed.Decimals.{IsNumber-decimal, IsNumber-signed_decimal}
use Rattle.json.proofs.Printed.Tokens.{tokens-print}
use Rattle.json.proofs.Printed.Trees.{value-json_tokens, ArePrintable-json_tokens}
use Rattle.json.proofs.Printed.Utf8.{are_ascii, IsUtf8-are_ascii, IsUtf8-quoted}
use Rattle.serde_json.specs.Data as value
use Rattle.serde_json.specs.Data.{Num, unsigned, negative, float, Data, Items, no_items, item, Members, no_members, member, put}
use Rattle.serde_json.specs.Read.{number_of, of_json, of_items, of_members, read, max_depth}
use Rattle.serde_json.proofs.Numbers.{number_of-decimal, number_of-negative}
use Rattle.serde_json.proofs.OnLiterals.{serde_json_on_literals}
use Rattle.mk_base.specs.declared.json.Json as tree
use Rattle.mk_base.specs.declared.json.Json.{Json}
use Rattle.mk_base.specs.Texts.{text_of, quoted}
use Rattle.mk_base.specs.Trees.{in_range, is_in_range, nesting}
use Rattle.mk_json.specs.inner.Outline.{outline, items_in, members_in}
use Rattle.mk_json.specs.Parsed as made
use Rattle.mk_json.specs.Parsed.{tree_of, parsed}
use Rattle.mk_base.specs.Proper.{is_proper, names_rise}
use Rattle.mk_json.proofs.LevelTests.{range-List, range-Object, proper-List, proper-Object}
use Rattle.mk_json.proofs.OfOutlines.{outlined, outline-Null, outline-Bool, outline-Whole, outline-Odd, outline-Text, outline-List, outline-Object, range-Whole, proper-Text, IsNumber-half}
use Rattle.mk_json.proofs.Compact.{text_of-is, quoted-is, member_texts}
use Rattle.mk_json.proofs.Values.{parsed_is, nesting-more, nesting-more_members}
use Rattle.mk_json.proofs.Layers.{Held, trees, members, Steps, by_layers, folded-Null, folded-Bool, folded-Whole, folded-Odd, folded-Text, folded-List, folded-Object}
use Rattle.mk_base.proofs.Bools.{less_is}

-- ---- numbers

abbrev FitsWord : ℤ → Type 0
FitsWord (pos n) = n < 2 ^ 64
FitsWord (negsuc n) = n < 2 ^ 63

fits_word : (z : ℤ) → in_range z ≡ true → FitsWord z
fits_word (pos n) h = grind (arith, ints)
fits_word (negsuc n) h = grind (arith, ints)

whole_fits : (z : ℤ) → is_in_range (tree.Whole z) ≡ true → FitsWord z
whole_fits z h = fits_word z (sym (range-Whole z) ∙ h)

is_half : (n : Num) × (number_of (codes "0.5") ≡ Some n) × (made.tree_of_number n ≡ tree.Odd)
unfolding serde_json_on_literals
is_half = (_, refl, refl)

whole_back : (z : ℤ) → FitsWord z → (n : Num) × (number_of (signed_decimal z) ≡ Some n) × (made.tree_of_number n ≡ tree.Whole z)
whole_back (pos n) h = (unsigned n, number_of-decimal n h, refl)
whole_back (negsuc n) h = (negative (negsuc n), number_of-negative n h, refl)

IsNumber-whole : (z : ℤ) → FitsWord z → IsNumber (signed_decimal z)
IsNumber-whole (pos n) h = IsNumber-decimal n h
IsNumber-whole (negsuc n) h = IsNumber-signed_decimal (negsuc n) h

IsUtf8-whole : (z : ℤ) → FitsWord z → IsUtf8 (signed_decimal z)
IsUtf8-whole (pos n) h = IsUtf8-from_ascii _ (IsAscii-decimal n h)
IsUtf8-whole (negsuc n) h = IsUtf8-append (45 ∷ []) (decimal (suc n)) (IsUtf8-are_ascii (45 ∷ []) refl) (IsUtf8-from_ascii _ (IsAscii-decimal (suc n) (omega arith)))

-- ---- an object's members, in order

abbrev joined : Members → Members → Members
joined no_members more = more
joined (member k d ms) more = member k d (joined ms more)

-- k stands after each name of the members
abbrev IsAfter : List ℕ → Members → Type 0
IsAfter k no_members = ⊤
IsAfter k (member l d ms) = (slice_cmp nat_cmp k l ≡ Greater) × IsAfter k ms

put_last : (k : List ℕ) (d : Data) (found : Members) → IsAfter k found → put k d found ≡ joined found (member k d no_members)
put_last k d no_members h = refl
put_last k d (member l e ms) h = rw h.0 (ap (member l e) (put_last k d ms h.1))

joined_more : (found : Members) (k : List ℕ) (d : Data) (more : Members) → joined (joined found (member k d no_members)) more ≡ joined found (member k d more)
joined_more no_members k d more = refl
joined_more (member l e ms) k d more = ap (member l e) (joined_more ms k d more)

joined_none : (found : Members) → joined found no_members ≡ found
joined_none no_members = refl
joined_none (member k d ms) = ap (member k d) (joined_none ms)

IsAfter-joined : (l k : List ℕ) (d : Data) (found : Members) → IsAfter l found → slice_cmp nat_cmp l k ≡ Greater → IsAfter l (joined found (member k d no_members))
IsAfter-joined l k d no_members h g = (g, tt)
IsAfter-joined l k d (member m e ms) h g = (h.0, IsAfter-joined l k d ms h.1 g)

-- each name stands after each name of the members
abbrev AreAfter : List (List ℕ) → Members → Type 0
AreAfter [] found = ⊤
AreAfter (k ∷ ks) found = IsAfter k found × AreAfter ks found

turned : (k l : List ℕ) → slice_cmp nat_cmp k l ≡ Less → slice_cmp nat_cmp l k ≡ Greater
turned k l e = nat_list_cmp_total.antisymm l k ∙ ap ordering_reverse e

AreAfter-joined : (ks : List (List ℕ)) (k : List ℕ) (d : Data) (found : Members) → AreAfter ks found → list_all (λ l. is_lt (slice_cmp nat_cmp k l)) ks ≡ true → AreAfter ks (joined found (member k d no_members))
AreAfter-joined [] k d found h b = tt
AreAfter-joined (l ∷ ks) k d found h b =
    let p = and_parts _ _ b in
    (IsAfter-joined l k d found h.0 (turned k l (less_is _ p.0)), AreAfter-joined ks k d found h.1 p.1)

AreAfter-none : (ks : List (List ℕ)) → AreAfter ks no_members
AreAfter-none [] = tt
AreAfter-none (k ∷ ks) = (tt, AreAfter-none ks)

-- ---- what is written of a tree

record Written (t : Json) : Type 0 where
  given : Data
  is : of_json (outline t) ≡ Some given
  back : tree_of given ≡ t
  numbers : written.HasNumbers (outline t)
  text : IsUtf8 (text_of t)

abbrev Wanted : Json → Type 0
Wanted t = is_proper t ≡ true → is_in_range t ≡ true → Written t

wanted_of : (t : Json) (j : json.Json) (d : Data) → outline t ≡ j → of_json j ≡ Some d → tree_of d ≡ t → written.HasNumbers j → IsUtf8 (text_of t) → Written t
wanted_of t j d is read back numbers text = record { given = d; is = ap of_json is ∙ read; back = back; numbers = subst written.HasNumbers (sym is) numbers; text = text }

ascii : (t : Json) (s : List ℕ) → text_of t ≡ s → are_ascii s ≡ true → IsUtf8 (text_of t)
ascii t s is e = subst IsUtf8 (sym is) (IsUtf8-are_ascii s e)

bool_text : (b : Bool) → IsUtf8 (text_of (tree.Bool b))
bool_text true = ascii (tree.Bool true) (codes "true") (folded-Bool _ _ true) refl
bool_text false = ascii (tree.Bool false) (codes "false") (folded-Bool _ _ false) refl

written_bool : (b : Bool) → Wanted (tree.Bool b)
written_bool b p r = wanted_of (tree.Bool b) (json.boolean b) (value.boolean b) (outline-Bool b) refl refl tt (bool_text b)

written_whole : (z : ℤ) → Wanted (tree.Whole z)
written_whole z p r =
    let fits = whole_fits z r in
    let n = whole_back z fits in
    wanted_of (tree.Whole z) (json.number (signed_decimal z)) (value.number n.0) (outline-Whole z) (ap (option_map value.number) n.1) n.2 (IsNumber-whole z fits) (subst IsUtf8 (sym (folded-Whole _ _ z)) (IsUtf8-whole z fits))

written_text : (s : List ℕ) → Wanted (tree.Text s)
written_text s p r =
    let text = IsUtf8-from_is_utf8 s (sym (proper-Text s) ∙ p) in
    wanted_of (tree.Text s) (json.string s) (value.string s) (outline-Text s) refl refl tt (subst IsUtf8 (quoted-is s ∙ sym (folded-Text _ _ s)) (IsUtf8-quoted s text))

-- the items of a list
record Items_written (ts : List Json) : Type 0 where
  given : Items
  is : of_items (items_in (map outline ts)) ≡ Some given
  back : made.items_of given ≡ ts
  numbers : written.ItemsHaveNumbers (items_in (map outline ts))
  text : IsUtf8 (join_with_byte 44 (map text_of ts))

join-utf8 : (x : List ℕ) (xs : List (List ℕ)) → IsUtf8 x → IsUtf8 (join_with_byte 44 xs) → IsUtf8 (join_with_byte 44 (x ∷ xs))
join-utf8 x [] h k = h
join-utf8 x (y ∷ ys) h k = IsUtf8-append x _ h (IsUtf8-append (44 ∷ []) _ (IsUtf8-are_ascii (44 ∷ []) refl) k)

items_written : (hs : List (Held Wanted)) → list_all is_proper (trees hs) ≡ true → list_all is_in_range (trees hs) ≡ true → Items_written (trees hs)
items_written [] p r = record { given = no_items; is = refl; back = refl; numbers = tt; text = IsUtf8-nil }
items_written (h ∷ hs) p r =
    let ps = and_parts (is_proper h.0) _ p in
    let rs = and_parts (is_in_range h.0) _ r in
    let w = h.1 ps.0 rs.0 in
    let ws = items_written hs ps.1 rs.1 in
    record {
      given = item w.given ws.given;
      is = ap (option_and_then (λ x. option_map (item x) (of_items (items_in (map outline (trees hs)))))) w.is ∙ ap (option_map (item w.given)) ws.is;
      back = ap₂ (λ (t : Json) (ts : List Json). t ∷ ts) w.back ws.back;
      numbers = (w.numbers, ws.numbers);
      text = join-utf8 (text_of h.0) (map text_of (trees hs)) w.text ws.text;
    }

between : (a b : List ℕ) (s : List ℕ) → are_ascii a ≡ true → are_ascii b ≡ true → IsUtf8 s → IsUtf8 (a ++ s ++ b)
between a b s h k u = IsUtf8-append (a ++ s) b (IsUtf8-append a s (IsUtf8-are_ascii a h) u) (IsUtf8-are_ascii b k)

written_list : (hs : List (Held Wanted)) → Wanted (tree.List (trees hs))
written_list hs p r =
    let ts = trees hs in
    let ws = items_written hs (sym (proper-List ts) ∙ p) (sym (range-List ts) ∙ r) in
    wanted_of (tree.List ts) (json.array (items_in (map outline ts))) (value.array ws.given) (outline-List ts) (ap (option_map value.array) ws.is) (ap tree.List ws.back) ws.numbers
    (subst IsUtf8 (sym (folded-List _ _ ts)) (between (codes "[") (codes "]") _ refl refl ws.text))

-- the members of an object, put behind those that were found
record Members_written (ms : List (List ℕ × Json)) (found : Members) : Type 0 where
  given : Members
  is : of_members (members_in (outlined ms)) found ≡ Some (joined found given)
  back : made.members_of given ≡ ms
  numbers : written.MembersHaveNumbers (members_in (outlined ms))
  text : IsUtf8 (join_with_byte 44 (member_texts ms))

members_written : (hs : List (List ℕ × Held Wanted)) (found : Members) → names_rise (keys_of (members hs)) ≡ true → list_all is_utf8 (keys_of (members hs)) ≡ true → list_all (λ (m : List ℕ × Json). is_proper m.1) (members hs) ≡ true
    → list_all (λ (m : List ℕ × Json). is_in_range m.1) (members hs) ≡ true → AreAfter (keys_of (members hs)) found → Members_written (members hs) found
members_written [] found rise names p r after = record { given = no_members; is = ap Some (sym (joined_none found)); back = refl; numbers = tt; text = IsUtf8-nil }
members_written (h ∷ hs) found rise names p r after =
    let k = h.0 in
    let t = h.1.0 in
    let later = and_parts _ _ rise in
    let utf8 = and_parts (is_utf8 k) _ names in
    let ps = and_parts (is_proper t) _ p in
    let rs = and_parts (is_in_range t) _ r in
    let w = h.1.1 ps.0 rs.0 in
    let last = put_last k w.given found after.0 in
    let ws = members_written hs (joined found (member k w.given no_members)) later.1 utf8.1 ps.1 rs.1 (AreAfter-joined (keys_of (members hs)) k w.given found after.1 later.0) in
    let name : IsUtf8 (quoted k) = subst IsUtf8 (quoted-is k) (IsUtf8-quoted k (IsUtf8-from_is_utf8 k utf8.0)) in
    record {
      given = member k w.given ws.given;
      is = ap (option_and_then (λ x. of_members (members_in (outlined (members hs))) (put k x found))) w.is ∙ ap (of_members (members_in (outlined (members hs)))) last ∙ ws.is ∙ ap Some (joined_more found k w.given ws.given);
      back = ap₂ (λ (t : Json) (ms : List (List ℕ × Json)). (k, t) ∷ ms) w.back ws.back;
      numbers = (w.numbers, ws.numbers);
      text = join-utf8 (quoted k ++ codes ":" ++ text_of t) (member_texts (members hs)) (IsUtf8-append _ _ (IsUtf8-append _ _ name (IsUtf8-are_ascii (codes ":") refl)) w.text) ws.text;
    }

written_object : (hs : List (List ℕ × Held Wanted)) → Wanted (tree.Object (members hs))
written_object hs p r =
    let ms = members hs in
    let ps = and_parts _ _ (sym (proper-Object ms) ∙ p) in
    let ns = and_parts _ _ ps.0 in
    let ws = members_written hs no_members ns.0 ns.1 ps.1 (sym (range-Object ms) ∙ r) (AreAfter-none (keys_of ms)) in
    wanted_of (tree.Object ms) (json.object (members_in (outlined ms))) (value.object ws.given) (outline-Object ms) (ap (option_map value.object) ws.is) (ap tree.Object ws.back) ws.numbers
    (subst IsUtf8 (sym (folded-Object _ _ ms)) (between (codes "{") (codes "}") _ refl refl ws.text))

written_each : Steps Wanted
written_each = record {
  null = λ p r. wanted_of tree.Null json.null value.null outline-Null refl refl tt (ascii tree.Null (codes "null") (folded-Null _ _) refl);
  bool = written_bool;
  whole = written_whole;
  odd = λ p r. wanted_of tree.Odd (json.number (codes "0.5")) (value.number is_half.0) outline-Odd (ap (option_map value.number) is_half.1) is_half.2 IsNumber-half (ascii tree.Odd (codes "0.5") (folded-Odd _ _) refl);
  text = written_text;
  list = written_list;
  object = written_object;
}

-- ---- nesting

abbrev Nests : Json → Type 0
Nests t = written.depth (outline t) ≡ nesting t

nests_items : (hs : List (Held Nests)) → suc (written.items_depth (items_in (map outline (trees hs)))) ≡ nesting (tree.List (trees hs))
nests_items [] = sym (folded-List _ _ [])
nests_items (h ∷ hs) = ap₂ (λ m n. suc (max m (pred n))) h.1 (nests_items hs) ∙ sym (nesting-more h.0 (trees hs))

nests_members : (hs : List (List ℕ × Held Nests)) → suc (written.members_depth (members_in (outlined (members hs)))) ≡ nesting (tree.Object (members hs))
nests_members [] = sym (folded-Object _ _ [])
nests_members (h ∷ hs) = ap₂ (λ m n. suc (max m (pred n))) h.1.1 (nests_members hs) ∙ sym (nesting-more_members (h.0, h.1.0) (members hs))

nests_each : Steps Nests
nests_each = record {
  null = ap written.depth outline-Null ∙ sym (folded-Null _ _);
  bool = λ b. ap written.depth (outline-Bool b) ∙ sym (folded-Bool _ _ b);
  whole = λ n. ap written.depth (outline-Whole n) ∙ sym (folded-Whole _ _ n);
  odd = ap written.depth outline-Odd ∙ sym (folded-Odd _ _);
  text = λ s. ap written.depth (outline-Text s) ∙ sym (folded-Text _ _ s);
  list = λ hs. ap written.depth (outline-List (trees hs)) ∙ nests_items hs;
  object = λ hs. ap written.depth (outline-Object (members hs)) ∙ nests_members hs;
}

-- ---- the law

abbrev read_whole : Option (json.Json × List Token) → Option Data
read_whole o = option_and_then of_json (option_and_then (λ p. json.if_last p.0 p.1) o)

read-print : (j : json.Json) → written.HasNumbers j → written.depth j ≤ max_depth → read (print.print (written.json_tokens j)) ≡ of_json j
read-print j numbers shallow =
    ap read_whole (ap (json.value max_depth) (tokens-print (written.json_tokens j) (ArePrintable-json_tokens j numbers) ∙ sym (append-nil (written.json_tokens j)))
    ∙ value-json_tokens j max_depth [] shallow)

-- the compact text of a proper tree, whose whole numbers are in range and which nests no deeper
-- than 127, is read as that tree
pub parsed-text_of : (t : Json) → is_proper t ≡ true → is_in_range t ≡ true → nesting t ≤ 127 → parsed (text_of t) ≡ Some t
parsed-text_of t proper ranges shallow =
    let w = by_layers Wanted written_each t proper ranges in
    let deep : written.depth (outline t) ≤ max_depth = subst (λ n. n ≤ max_depth) (sym (by_layers Nests nests_each t)) shallow in
    parsed_is (text_of t) w.given w.text (ap read (sym (text_of-is t)) ∙ read-print (outline t) w.numbers deep ∙ w.is) ∙ ap Some w.back
