-- Members found one after another, and the object that they make.
use Rattle.std.proofs.Common.{◌≡◌, inl, inr, ℕ, ℤ, pos, negsuc, zero, suc, pred, max, ◌<◌, ◌≤◌, ◌^◌, ◌++◌, length, Bool, true, false, true≢false, List, [], ◌∷◌, map, codes, Less, refl, sym, ap, ◌∙◌, subst, arith, append_assoc, append-nil}
use mir.Val.{to_z, of_z}
use Rattle.std.proofs.lemmas.Bool.{and_from}
use Rattle.std.proofs.lemmas.Cmp.{nat_list_cmp_total}
use Rattle.std.proofs.lemmas.Int.{ints}
use Rattle.std.proofs.lemmas.List.{length-append}
use Rattle.std.proofs.lemmas.Str.{is_utf8-from_IsUtf8}
use Rattle.std.specs.Fmt.{signed_decimal}
use Rattle.std.specs.Int.{w128}
use Rattle.std.specs.Ordering.{nat_cmp}
use Rattle.std.specs.Cmp.Lexicographic.{slice_cmp}
use Rattle.std.specs.List.{AllByRecursion, list_all, join_with_byte}
use Rattle.std.specs.List.Sorted.{IsStrictlySortedBy}
use Rattle.std.specs.Map.{keys_of}
use Rattle.std.specs.Str.{is_utf8, IsUtf8}
use Rattle.mk_base.specs.declared.json.Json as tree
use Rattle.mk_base.specs.declared.json.Json.{Json}
use Rattle.mk_base.specs.Lists.{Each}
use Rattle.mk_base.specs.Proper.{is_proper}
use Rattle.mk_base.specs.Texts.{quoted, text_of}
use Rattle.mk_base.specs.Trees.{in_range, is_in_range, nesting}
use Rattle.mk_base.proofs.Items.{each_behind, each_then, map_map}
use Rattle.mk_json.proofs.Layers.{folded-Object, folded-Whole}
use Rattle.mk_json.proofs.LevelTests.{range-Object, proper-Object}
use Rattle.mk_json.proofs.OfOutlines.{names_rise-sorted, proper-Whole, range-Whole}
use Rattle.mk_json.proofs.Values.{nesting-more_members}
use Rattle.mk_message_plain.specs.inner.Members.{IsContent, member_text, led, ending, IsMember, IsUpTo, Begins, Found, Closes}

-- ---- a number

pub whole_content : (depth : ℕ) (z : ℤ) → in_range z ≡ true → IsContent depth (tree.Whole z)
whole_content depth z h = record { proper = proper-Whole z; in_range = range-Whole z ∙ h; shallow = subst (λ n. n ≤ depth) (sym (folded-Whole _ _ z)) (omega arith) }

-- a number in range is kept as it is
pub whole_same : (z : ℤ) → in_range z ≡ true → to_z w128 (of_z w128 z) ≡ z
whole_same (pos n) h = let small : n < 2 ^ 64 = grind (arith, ints) in omega (arith, ints, small)
whole_same (negsuc n) h = let small : n < 2 ^ 63 = grind (arith, ints) in omega (arith, ints, small)

-- ---- names in order

keys_behind : (ms : List (List ℕ × Json)) (m : List ℕ × Json) → keys_of (ms ++ m ∷ []) ≡ keys_of ms ++ m.0 ∷ []
keys_behind [] m = refl
keys_behind (x ∷ ms) m = ap (λ l. x.0 ∷ l) (keys_behind ms m)

all_behind : (P : List ℕ → Type 0) (ks : List (List ℕ)) (k : List ℕ) → AllByRecursion P ks → P k → AllByRecursion P (ks ++ k ∷ [])
all_behind P [] k a p = (p, tt)
all_behind P (l ∷ ks) k a p = (a.0, all_behind P ks k a.1 p)

sorted_behind : (ks : List (List ℕ)) (k : List ℕ) → IsStrictlySortedBy (slice_cmp nat_cmp) ks → Each (λ l. slice_cmp nat_cmp l k ≡ Less) ks → IsStrictlySortedBy (slice_cmp nat_cmp) (ks ++ k ∷ [])
unfolding IsStrictlySortedBy
sorted_behind [] k s below = (tt, tt)
sorted_behind (l ∷ ks) k s below = (all_behind (λ y. slice_cmp nat_cmp l y ≡ Less) ks k s.0 below.0, sorted_behind ks k s.1 below.1)

below_next : (last name k : List ℕ) → slice_cmp nat_cmp last name ≡ Less → IsUpTo last k → slice_cmp nat_cmp k name ≡ Less
below_next last name k above (inl e) = subst (λ (x : List ℕ). slice_cmp nat_cmp x name ≡ Less) (sym e) above
below_next last name k above (inr h) = nat_list_cmp_total.trans k last name h above

all_below : (depth : ℕ) (text last name rest : List ℕ) (ms : List (List ℕ × Json)) → Found depth text last ms rest → slice_cmp nat_cmp last name ≡ Less → Each (λ k. slice_cmp nat_cmp k name ≡ Less) (keys_of ms)
all_below depth text last name rest ms f above = each_then (IsUpTo last) (λ k. slice_cmp nat_cmp k name ≡ Less) (keys_of ms) (λ k h. below_next last name k above h) f.up_to

sorted_more : (depth : ℕ) (text last name rest : List ℕ) (ms : List (List ℕ × Json)) (t : Json) → Found depth text last ms rest → slice_cmp nat_cmp last name ≡ Less → IsStrictlySortedBy (slice_cmp nat_cmp) (keys_of (ms ++ (name, t) ∷ []))
sorted_more depth text last name rest ms t f above =
    subst (IsStrictlySortedBy (slice_cmp nat_cmp)) (sym (keys_behind ms (name, t))) (sorted_behind (keys_of ms) name f.sorted (all_below depth text last name rest ms f above))

each_more : (depth : ℕ) (text last rest name after : List ℕ) (ms : List (List ℕ × Json)) (t : Json) (more : Bool) → Found depth text last ms rest → Begins depth last rest name t more after → Each (IsMember depth) (ms ++ (name, t) ∷ [])
each_more depth text last rest name after ms t more f b = each_behind (IsMember depth) ms (name, t) f.each (is_utf8-from_IsUtf8 name b.utf8, b.content)

-- ---- their texts

led_more : (ms : List (List ℕ × Json)) (m : List ℕ × Json) (after : List ℕ) → led ms ++ (member_text m ++ 44 ∷ after) ≡ led (ms ++ m ∷ []) ++ after
led_more [] m after = sym (ap (λ l. l ++ after) (append-nil (member_text m ++ 44 ∷ [])) ∙ append_assoc (member_text m) (44 ∷ []) after)
led_more (x ∷ ms) m after =
    let first = member_text x ++ 44 ∷ [] in
    append_assoc first (led ms) (member_text m ++ 44 ∷ after) ∙ ap (λ l. first ++ l) (led_more ms m after) ∙ sym (append_assoc first (led (ms ++ m ∷ [])) after)

first_then : (x : List ℕ) (ms : List (List ℕ × Json)) (m : List ℕ × Json) → join_with_byte 44 (x ∷ map member_text (ms ++ m ∷ [])) ≡ (x ++ 44 ∷ []) ++ join_with_byte 44 (map member_text (ms ++ m ∷ []))
first_then x [] m = sym (append_assoc x (44 ∷ []) (member_text m))
first_then x (y ∷ ms) m = sym (append_assoc x (44 ∷ []) (join_with_byte 44 (member_text y ∷ map member_text (ms ++ m ∷ []))))

joined_at_end : (ms : List (List ℕ × Json)) (m : List ℕ × Json) → join_with_byte 44 (map member_text (ms ++ m ∷ [])) ≡ led ms ++ member_text m
joined_at_end [] m = refl
joined_at_end (x ∷ ms) m =
    let first = member_text x ++ 44 ∷ [] in
    first_then (member_text x) ms m ∙ ap (λ l. first ++ l) (joined_at_end ms m) ∙ sym (append_assoc first (led ms) (member_text m))

object_text-is : (ms : List (List ℕ × Json)) → text_of (tree.Object ms) ≡ 123 ∷ (join_with_byte 44 (map member_text ms) ++ 125 ∷ [])
object_text-is ms =
    folded-Object _ _ ms
    ∙ ap (λ ts. 123 ∷ (join_with_byte 44 ts ++ 125 ∷ [])) (map_map (λ (m : List ℕ × List ℕ). quoted m.0 ++ codes ":" ++ m.1) (λ (m : List ℕ × Json). (m.0, text_of m.1)) ms)

closed_text : (text after : List ℕ) (ms : List (List ℕ × Json)) (m : List ℕ × Json) → text ≡ led ms ++ (member_text m ++ 125 ∷ after) → 123 ∷ text ≡ text_of (tree.Object (ms ++ m ∷ [])) ++ after
closed_text text after ms m is =
    let joined = join_with_byte 44 (map member_text (ms ++ m ∷ [])) in
    ap (λ l. 123 ∷ l) (is ∙ sym (append_assoc (led ms) (member_text m) (125 ∷ after))) ∙ ap (λ l. 123 ∷ (l ++ 125 ∷ after)) (sym (joined_at_end ms m))
    ∙ ap (λ l. 123 ∷ l) (sym (append_assoc joined (125 ∷ []) after)) ∙ ap (λ l. l ++ after) (sym (object_text-is (ms ++ m ∷ [])))

-- ---- what holds of their object

names_utf8 : (depth : ℕ) (ms : List (List ℕ × Json)) → Each (IsMember depth) ms → list_all is_utf8 (keys_of ms) ≡ true
names_utf8 depth [] e = refl
names_utf8 depth (m ∷ ms) e = and_from _ _ e.0.0 (names_utf8 depth ms e.1)

values_proper : (depth : ℕ) (ms : List (List ℕ × Json)) → Each (IsMember depth) ms → list_all (λ (m : List ℕ × Json). is_proper m.1) ms ≡ true
values_proper depth [] e = refl
values_proper depth (m ∷ ms) e = and_from _ _ e.0.1.proper (values_proper depth ms e.1)

values_in_range : (depth : ℕ) (ms : List (List ℕ × Json)) → Each (IsMember depth) ms → list_all (λ (m : List ℕ × Json). is_in_range m.1) ms ≡ true
values_in_range depth [] e = refl
values_in_range depth (m ∷ ms) e = and_from _ _ e.0.1.in_range (values_in_range depth ms e.1)

pub max_up_to : (a b depth : ℕ) → a ≤ depth → b ≤ suc depth → suc (max a (pred b)) ≤ suc depth
max_up_to a zero depth h k = omega (arith, h)
max_up_to a (suc b) depth h k = omega (arith, h, k)

object_nests : (depth : ℕ) (ms : List (List ℕ × Json)) → Each (IsMember depth) ms → nesting (tree.Object ms) ≤ suc depth
object_nests depth [] e = subst (λ n. n ≤ suc depth) (sym (folded-Object _ _ [])) (omega arith)
object_nests depth (m ∷ ms) e = subst (λ n. n ≤ suc depth) (sym (nesting-more_members m ms)) (max_up_to (nesting m.1) (nesting (tree.Object ms)) depth e.0.1.shallow (object_nests depth ms e.1))

object_content : (depth : ℕ) (ms : List (List ℕ × Json)) → Each (IsMember depth) ms → IsStrictlySortedBy (slice_cmp nat_cmp) (keys_of ms) → IsContent (suc depth) (tree.Object ms)
object_content depth ms e sorted = record {
  proper = proper-Object ms ∙ and_from _ _ (and_from _ _ (names_rise-sorted (keys_of ms) sorted) (names_utf8 depth ms e)) (values_proper depth ms e);
  in_range = range-Object ms ∙ values_in_range depth ms e;
  shallow = object_nests depth ms e;
}

-- ---- the loops

found_none : (depth : ℕ) (text last : List ℕ) → Found depth text last [] text
unfolding IsStrictlySortedBy
found_none depth text last = record { text = refl; each = tt; sorted = tt; up_to = tt }

-- before the first member
pub found_first : (depth : ℕ) (text last : List ℕ) (ms : List (List ℕ × Json)) → ms ≡ [] → Found depth text last ms text
found_first depth text last ms none = subst (λ (l : List (List ℕ × Json)). Found depth text last l text) (sym none) (found_none depth text last)

-- behind one more member, where more follow
pub found_more : (depth : ℕ) (text last rest name after : List ℕ) (ms : List (List ℕ × Json)) (t : Json) (more : Bool) → more ≡ true → Found depth text last ms rest → Begins depth last rest name t more after → Found depth text name (ms ++ (name, t) ∷ []) after
found_more depth text last rest name after ms t false e f b = absurd (true≢false (sym e))
found_more depth text last rest name after ms t true e f b =
    let below = all_below depth text last name rest ms f b.above in
    record {
      text = f.text ∙ ap (λ l. led ms ++ l) b.text ∙ led_more ms (name, t) after;
      each = each_more depth text last rest name after ms t true f b;
      sorted = sorted_more depth text last name rest ms t f b.above;
      up_to = subst (Each (IsUpTo name)) (sym (keys_behind ms (name, t)))
          (each_behind (IsUpTo name) (keys_of ms) name (each_then (λ k. slice_cmp nat_cmp k name ≡ Less) (IsUpTo name) (keys_of ms) (λ k h. inr h) below) (inl refl));
    }

-- behind the last member
pub found_last : (depth : ℕ) (text last rest name after : List ℕ) (ms : List (List ℕ × Json)) (t : Json) (more : Bool) → more ≡ false → Found depth text last ms rest → Begins depth last rest name t more after → Closes depth text (ms ++ (name, t) ∷ []) after
found_last depth text last rest name after ms t true e f b = absurd (true≢false e)
found_last depth text last rest name after ms t false e f b =
    let sorted = sorted_more depth text last name rest ms t f b.above in
    record {
      text = closed_text text after ms (name, t) (f.text ∙ ap (λ l. led ms ++ l) b.text);
      content = object_content depth (ms ++ (name, t) ∷ []) (each_more depth text last rest name after ms t false f b) sorted;
      sorted = sorted;
    }

-- the same of members that are told by an equation
pub goes_on : (depth : ℕ) (text last rest name after : List ℕ) (ms new : List (List ℕ × Json)) (t : Json) (more : Bool) → more ≡ true → Found depth text last ms rest → Begins depth last rest name t more after → new ≡ ms ++ (name, t) ∷ [] → Found depth text name new after
goes_on depth text last rest name after ms new t more e f b is = subst (λ (l : List (List ℕ × Json)). Found depth text name l after) (sym is) (found_more depth text last rest name after ms t more e f b)

pub closes : (depth : ℕ) (text last rest name after : List ℕ) (ms new : List (List ℕ × Json)) (t : Json) (more : Bool) → more ≡ false → Found depth text last ms rest → Begins depth last rest name t more after → new ≡ ms ++ (name, t) ∷ [] → Closes depth text new after
closes depth text last rest name after ms new t more e f b is = subst (λ (l : List (List ℕ × Json)). Closes depth text l after) (sym is) (found_last depth text last rest name after ms t more e f b)

-- ---- one member

begins_text : (text name tail after : List ℕ) (t : Json) → text ≡ quoted name ++ 58 ∷ tail → tail ≡ text_of t ++ after → text ≡ member_text (name, t) ++ after
begins_text text name tail after t is told =
    is ∙ ap (λ l. quoted name ++ 58 ∷ l) told ∙ sym (append_assoc (quoted name ++ codes ":") (text_of t) after ∙ append_assoc (quoted name) (codes ":") (text_of t ++ after))

pub attribute_begins : (last text name digits sign rest : List ℕ) (v : ℤ) (more : Bool) → text ≡ quoted name ++ 58 ∷ digits → digits ≡ signed_decimal v ++ sign → sign ≡ ending more ∷ rest → slice_cmp nat_cmp last name ≡ Less → IsUtf8 name → in_range v ≡ true
    → Begins 0 last text name (tree.Whole v) more rest
attribute_begins last text name digits sign rest v more is number end above utf8 ranges = record {
  text = begins_text text name digits (ending more ∷ rest) (tree.Whole v) is (number ∙ ap (λ l. signed_decimal v ++ l) end ∙ ap (λ l. l ++ ending more ∷ rest) (sym (folded-Whole _ _ v)));
  above = above;
  utf8 = utf8;
  content = whole_content 0 v ranges;
}

pub entity_begins : (last text name inner behind rest : List ℕ) (ms : List (List ℕ × Json)) (more : Bool) → text ≡ quoted name ++ 58 ∷ 123 ∷ inner → Closes 0 inner ms behind → behind ≡ ending more ∷ rest → slice_cmp nat_cmp last name ≡ Less → IsUtf8 name
    → Begins 1 last text name (tree.Object ms) more rest
entity_begins last text name inner behind rest ms more is object end above utf8 = record {
  text = begins_text text name (123 ∷ inner) (ending more ∷ rest) (tree.Object ms) is (object.text ∙ ap (λ l. text_of (tree.Object ms) ++ l) end);
  above = above;
  utf8 = utf8;
  content = object.content;
}

pub shorter : (depth : ℕ) (last text name rest : List ℕ) (t : Json) (more : Bool) → Begins depth last text name t more rest → length rest < length text
shorter depth last text name rest t more b =
    let whole = ap length b.text ∙ length-append (member_text (name, t)) (ending more ∷ rest) in
    omega (arith, whole)

-- a number as it was put
pub put_same : (last rest name after : List ℕ) (ms new : List (List ℕ × Json)) (v : ℤ) (more : Bool) → Begins 0 last rest name (tree.Whole v) more after → new ≡ ms ++ (name, tree.Whole (to_z w128 (of_z w128 v))) ∷ [] → new ≡ ms ++ (name, tree.Whole v) ∷ []
put_same last rest name after ms new v more b is = is ∙ ap (λ (z : ℤ). let m : List ℕ × Json = (name, tree.Whole z) in ms ++ m ∷ []) (whole_same v (sym (range-Whole v) ∙ b.content.in_range))
