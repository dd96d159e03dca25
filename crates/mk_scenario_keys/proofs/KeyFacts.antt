-- What is known of a key's value that is read.
use Rattle.std.proofs.Common.{◌≡◌, ℕ, ◌≤◌, ℤ, pos, negsuc, int_le, nat_abs, ◌≤ℤ◌, nat_le, arith, Bool, true, false, not, ◌&&◌, List, [], length, Option, Some, None, option_and_then, is_some, IfSome, ◌==◌, Ok, refl, sym, ap, ◌∙◌, subst, if◌then◌else◌}
use Rattle.std.specs.Fmt.{decimal, signed_decimal}
use Rattle.std.specs.List.{find, before_first, after_first}
use Rattle.std.proofs.lemmas.Bool.{and_parts, leb-true}
use Rattle.std.proofs.lemmas.Int.{ints}
use Rattle.mk_base.specs.declared.json.Json.{Json}
use Rattle.mk_base.specs.declared.json.Json as tree
use Rattle.mk_base.specs.Lists.{Each, same_text}
use Rattle.mk_base.specs.Trees.{bool_in, is_object, is_datum, member, members_in, items_in, text_in, members_of}
use Rattle.mk_base.proofs.OnTrees.{trees_compute}
use Rattle.mk_scenario_keys.specs.Spelling.{is_name, spelled, port_number, port_of, is_loopback}
use Rattle.mk_scenario_keys.specs.Tests.{each_at, key_in, item_in, found}
use Rattle.mk_scenario_keys.specs.Keys.{required, optional, first_unfit, within, whole, whole_within, wholes_within, count_within, width_by, some_width, text, name, some_port, items, table, tables_within, values, IsObjectOfData}
use Rattle.mk_scenario_keys.specs.declared.fault.ScenarioFault.TheVariants.{WrongKind, OutOfRange}
use Rattle.mk_scenario_keys.proofs.Passing.{ok_same, passed_ok, held_ok, no_text_ok, found_ok, required_ok, optional_ok, and_then_some, map_none, chosen_some, none_found, each_gives, each_gives_where}
use Rattle.mk_scenario_keys.proofs.Ranges.{InRange, items_range}

within_is : (least most n : ℤ) → (int_le least n && int_le n most) ≡ true → (least ≤ℤ n) × (n ≤ℤ most)
within_is least most n e = let t = and_parts (int_le least n) (int_le n most) e in let low = t.0 in let high = t.1 in (grind (arith, ints), grind (arith, ints))

-- a number in a range
within_ok : (least most : ℤ) (path : List ℕ) (n m : ℤ) → within least most path n ≡ Ok m → (least ≤ℤ m) × (m ≤ℤ most)
within_ok least most path n m e =
    let t = held_ok (OutOfRange path (signed_decimal n)) (int_le least n && int_le n most) _ _ e in
    subst (λ k. (least ≤ℤ k) × (k ≤ℤ most)) (ok_same n m t.1) (within_is least most n t.0)

pub whole_within_ok : (least most : ℤ) (path : List ℕ) (value : Json) (n : ℤ) → whole_within least most path value ≡ Ok n → (least ≤ℤ n) × (n ≤ℤ most)
whole_within_ok least most path value n e = let t = passed_ok (whole path value) _ _ e in within_ok least most path t.0 n t.2

count_is : (least most : ℕ) (n : ℤ) → (pos least ≤ℤ n) × (n ≤ℤ pos most) → (least ≤ nat_abs n) × (nat_abs n ≤ most)
count_is least most (pos n) t = let low = t.0 in let high = t.1 in (omega (arith, ints), omega (arith, ints))
count_is least most (negsuc n) t = let low = t.0 in absurd (omega (arith, ints))

count_within_ok : (least most : ℕ) (path : List ℕ) (value : Json) (n : ℕ) → count_within least most path value ≡ Ok n → (least ≤ n) × (n ≤ most)
count_within_ok least most path value n e =
    let t = passed_ok (whole_within (pos least) (pos most) path value) _ _ e in
    subst (λ k. (least ≤ k) × (k ≤ most)) (ok_same (nat_abs t.0) n t.2) (count_is least most t.0 (whole_within_ok (pos least) (pos most) path value t.0 t.1))

-- whole numbers
wholes_within_ok : (least most : ℤ) (path : List ℕ) (value : Json) (ns : List ℤ) → wholes_within least most path value ≡ Ok ns → Each (λ n. (least ≤ℤ n) × (n ≤ℤ most)) ns
wholes_within_ok least most path value ns e =
    let t = passed_ok (items path value) _ _ e in
    let s = passed_ok (each_at (λ i member. whole (item_in path i) member) t.0) _ _ t.2 in
    each_gives (λ i n. within least most (item_in path i) n) (λ n. (least ≤ℤ n) × (n ≤ℤ most)) s.0 ns s.2 (λ i n m. within_ok least most (item_in path i) n m)

-- texts
text_ok : (path : List ℕ) (value : Json) (t : List ℕ) → text path value ≡ Ok t → text_in value ≡ Some t
text_ok path value t e = found_ok (WrongKind path) (text_in value) t e

pub name_ok : (path : List ℕ) (value : Json) (t : List ℕ) → name path value ≡ Ok t → (text_in value ≡ Some t) × (is_name t ≡ true)
name_ok path value t e =
    let s = passed_ok (text path value) _ _ e in
    let h = held_ok (OutOfRange path s.0) (is_name s.0) _ _ s.2 in
    let same = ok_same s.0 t h.1 in
    (text_ok path value s.0 s.1 ∙ ap Some same, ap is_name (sym same) ∙ h.0)

-- the table is the value
table_is : (path : List ℕ) (value t : Json) → table path value ≡ Ok t → value ≡ t
table_is path value t e = ok_same value t (passed_ok (found (WrongKind path) (members_in value)) _ _ e).2

-- so many tables
pub tables_within_ok : (least most : ℕ) (path : List ℕ) (value : Json) (ts : List Json) → tables_within least most path value ≡ Ok ts → (least ≤ length ts) × (length ts ≤ most)
tables_within_ok least most path value ts e =
    let t = passed_ok (items path value) _ _ e in
    let s = passed_ok (each_at (λ i member. table (item_in path i) member) t.0) _ _ t.2 in
    let h = held_ok (OutOfRange path (decimal (length s.0))) (nat_le least (length s.0) && nat_le (length s.0) most) _ _ s.2 in
    let b = and_parts (nat_le least (length s.0)) (nat_le (length s.0) most) h.0 in
    subst (λ z. (least ≤ length z) × (length z ≤ most)) (ok_same s.0 ts h.1) (leb-true least (length s.0) b.0, leb-true (length s.0) most b.1)

pub tables_range : (least most : ℕ) (path : List ℕ) (value : Json) (ts : List Json) → InRange value → tables_within least most path value ≡ Ok ts → Each InRange ts
tables_range least most path value ts all e =
    let t = passed_ok (items path value) _ _ e in
    let s = passed_ok (each_at (λ i member. table (item_in path i) member) t.0) _ _ t.2 in
    let h = held_ok (OutOfRange path (decimal (length s.0))) (nat_le least (length s.0) && nat_le (length s.0) most) _ _ s.2 in
    let among = items_range value t.0 all (found_ok (WrongKind path) (items_in value) t.0 t.1) in
    subst (Each InRange) (ok_same s.0 ts h.1) (each_gives_where (λ i member. table (item_in path i) member) InRange InRange t.0 s.0 s.1 among (λ i x y within gives. subst InRange (table_is (item_in path i) x y gives) within))

-- an address's port
port_number_is : (digits : List ℕ) (port : ℕ) → port_number digits ≡ Some port → (1 ≤ port) × (port ≤ 65535)
port_number_is digits port e =
    let t = and_then_some (λ n. if nat_le 1 n && nat_le n 65535 && same_text (decimal n) digits then Some n else None) (spelled 5 digits) port e in
    let s = chosen_some (nat_le 1 t.0 && nat_le t.0 65535 && same_text (decimal t.0) digits) t.0 port t.2 in
    let b = and_parts (nat_le 1 t.0 && nat_le t.0 65535) (same_text (decimal t.0) digits) s.0 in
    let c = and_parts (nat_le 1 t.0) (nat_le t.0 65535) b.0 in
    subst (λ n. (1 ≤ n) × (n ≤ 65535)) s.1 (leb-true 1 t.0 c.0, leb-true t.0 65535 c.1)

port_is : (address : List ℕ) (port : ℕ) → port_of address ≡ Some port → (1 ≤ port) × (port ≤ 65535)
port_is address port e = at (is_loopback (before_first (λ b. b == 58) address)) (after_first (λ b. b == 58) address) e
  where
    at : (here : Bool) (digits : List ℕ) → (if here then port_number digits else None) ≡ Some port → (1 ≤ port) × (port ≤ 65535)
    at true digits e = port_number_is digits port e
    at false digits e = cc

some_port_ok : (path : List ℕ) (value : Json) (o : Option ℕ) → some_port path value ≡ Ok o → IfSome o (λ port. (1 ≤ port) × (port ≤ 65535))
some_port_ok path value o e =
    let t = passed_ok (text path value) _ _ e in
    let s = passed_ok (found (OutOfRange path t.0) (port_of t.0)) _ _ t.2 in
    subst (λ p. IfSome p (λ port. (1 ≤ port) × (port ≤ 65535))) (ok_same (Some s.0) o s.2) (port_is t.0 s.0 (found_ok (OutOfRange path t.0) (port_of t.0) s.0 s.1))

-- the width of a time shift
width_by_ok : (b : Option Bool) (path : List ℕ) (value : Json) (o : Option ℕ) → width_by b path value ≡ Ok o → IfSome o (λ width. (1 ≤ width) × (width ≤ 1000000))
width_by_ok (Some true) path value o e = subst (λ p. IfSome p (λ width. (1 ≤ width) × (width ≤ 1000000))) (ok_same (Some 1) o e) (omega arith, omega arith)
width_by_ok (Some false) path value o e = subst (λ p. IfSome p (λ width. (1 ≤ width) × (width ≤ 1000000))) (ok_same None o e) tt
width_by_ok None path value o e =
    let t = passed_ok (count_within 1 1000000 path value) _ _ e in
    subst (λ p. IfSome p (λ width. (1 ≤ width) × (width ≤ 1000000))) (ok_same (Some t.0) o t.2) (count_within_ok 1 1000000 path value t.0 t.1)

-- a table of parameters or of values
none_given : IsObjectOfData (tree.Object [])
unfolding trees_compute
none_given = (refl, refl, tt)

table_ok : (path : List ℕ) (value : Json) (t : Json) → table path value ≡ Ok t → is_object t ≡ true
table_ok path value t e =
    let s = passed_ok (found (WrongKind path) (members_in value)) _ _ e in
    ap is_object (sym (ok_same value t s.2)) ∙ ap is_some (found_ok (WrongKind path) (members_in value) s.0 s.1)

values_ok : (path : List ℕ) (value : Json) (t : Json) → InRange value → values path value ≡ Ok t → IsObjectOfData t
values_ok path value t all e =
    let s = passed_ok (table path value) _ _ e in
    let h = no_text_ok (λ key. WrongKind (key_in path key)) (first_unfit s.0) _ _ s.2 in
    subst IsObjectOfData (ok_same s.0 t h.1) (table_ok path value s.0 s.1, subst InRange (table_is path value s.0 s.1) all, none_found (λ (m : List ℕ × Json). is_datum m.1) (members_of s.0) (map_none (λ (m : List ℕ × Json). m.0) (find (λ (m : List ℕ × Json). not (is_datum m.1)) (members_of s.0)) h.0))

-- the text that a table has under a key
abbrev pub text_under : List ℕ → Json → Option (List ℕ)
text_under key table = option_and_then text_in (member key table)

pub name_under : (key path : List ℕ) (table : Json) (t : List ℕ) → required path name (member key table) ≡ Ok t → (text_under key table ≡ Some t) × (is_name t ≡ true)
name_under key path table t e =
    let r = required_ok path name (member key table) t e in
    let n = name_ok path r.0 t r.2 in
    (ap (option_and_then text_in) r.1 ∙ n.0, n.1)

-- ---- keys that may be left out

pub left_out_count : (instead least most : ℕ) (path : List ℕ) (o : Option Json) (n : ℕ) → optional instead path (count_within least most) o ≡ Ok n → (least ≤ instead) × (instead ≤ most) → (least ≤ n) × (n ≤ most)
left_out_count instead least most path o n e fits = optional_ok (λ k. (least ≤ k) × (k ≤ most)) instead path (count_within least most) o n e fits (λ value. count_within_ok least most path value n)

pub left_out_wholes : (least most : ℤ) (path : List ℕ) (o : Option Json) (ns : List ℤ) → optional [] path (wholes_within least most) o ≡ Ok ns → Each (λ n. (least ≤ℤ n) × (n ≤ℤ most)) ns
left_out_wholes least most path o ns e = optional_ok (Each (λ n. (least ≤ℤ n) × (n ≤ℤ most))) [] path (wholes_within least most) o ns e tt (λ value. wholes_within_ok least most path value ns)

pub left_out_port : (path : List ℕ) (o : Option Json) (p : Option ℕ) → optional None path some_port o ≡ Ok p → IfSome p (λ port. (1 ≤ port) × (port ≤ 65535))
left_out_port path o p e = optional_ok (λ q. IfSome q (λ port. (1 ≤ port) × (port ≤ 65535))) None path some_port o p e tt (λ value. some_port_ok path value p)

pub left_out_width : (path : List ℕ) (o : Option Json) (p : Option ℕ) → optional None path some_width o ≡ Ok p → IfSome p (λ width. (1 ≤ width) × (width ≤ 1000000))
left_out_width path o p e = optional_ok (λ q. IfSome q (λ width. (1 ≤ width) × (width ≤ 1000000))) None path some_width o p e tt (λ value. width_by_ok (bool_in value) path value p)

pub left_out_values : (path : List ℕ) (o : Option Json) (t : Json) → IfSome o InRange → optional (tree.Object []) path values o ≡ Ok t → IsObjectOfData t
left_out_values path None t all e = subst IsObjectOfData (ok_same (tree.Object []) t e) none_given
left_out_values path (Some value) t all e = values_ok path value t all e

pub left_out_range : (most : ℕ) (path : List ℕ) (o : Option Json) (ts : List Json) → IfSome o InRange → optional [] path (tables_within 0 most) o ≡ Ok ts → Each InRange ts
left_out_range most path None ts all e = subst (Each InRange) (ok_same [] ts e) tt
left_out_range most path (Some value) ts all e = tables_range 0 most path value ts all e

pub left_out_tables : (most : ℕ) (path : List ℕ) (o : Option Json) (ts : List Json) → optional [] path (tables_within 0 most) o ≡ Ok ts → length ts ≤ most
left_out_tables most path o ts e = optional_ok (λ (zs : List Json). length zs ≤ most) [] path (tables_within 0 most) o ts e (omega arith) (λ value w. (tables_within_ok 0 most path value ts w).1)
