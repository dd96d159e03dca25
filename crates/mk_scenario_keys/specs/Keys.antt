-- What a key's value is, by its kind and range.
use Rattle.std.specs.Prelude.{ℕ, ℤ, pos, nat_abs, int_le, nat_le, Bool, not, ◌&&◌, List, map, length, Option, Some, None, option_map, Result, Ok, Err, IsTrue, if◌then◌else◌}
use Rattle.std.specs.Fmt.{decimal, signed_decimal}
use Rattle.std.specs.List.{find}
use Rattle.mk_base.specs.declared.json.Json.{Json}
use Rattle.mk_base.specs.Lists.{Each, is_among}
use Rattle.mk_base.specs.Trees.{bool_in, whole_in, text_in, items_in, members_in, is_object, is_datum, is_in_range, members_of}
use Rattle.mk_base.specs.Verdicts.{held, no_text, passed}
use Rattle.mk_scenario_keys.specs.Spelling.{is_name, port_of}
use Rattle.mk_scenario_keys.specs.Tests.{found, each_at, key_in, item_in}
use Rattle.mk_scenario_keys.specs.declared.fault.ScenarioFault.{ScenarioFault}
use Rattle.mk_scenario_keys.specs.declared.fault.ScenarioFault.TheVariants.{Missing, WrongKind, OutOfRange}
use Rattle.mk_base.specs.Limits.{widest}

-- a key that must stand there
abbrev pub required : {A : Type 0} → List ℕ → (List ℕ → Json → Result A ScenarioFault) → Option Json
    → Result A ScenarioFault
required path read None = Err (Missing path)
required path read (Some value) = read path value

-- a key that may be left out, and what stands for it then
abbrev pub optional : {A : Type 0} → A → List ℕ → (List ℕ → Json → Result A ScenarioFault)
    → Option Json → Result A ScenarioFault
optional instead path read None = Ok instead
optional instead path read (Some value) = read path value

-- the first key of the table that is none of these
abbrev pub first_unknown : List (List ℕ) → Json → Option (List ℕ)
first_unknown keys table = find (λ key. not (is_among keys key))
    (map (λ (m : List ℕ × Json). m.0) (members_of table))

-- a number in this range
abbrev pub within : ℤ → ℤ → List ℕ → ℤ → Result ℤ ScenarioFault
within least most path n = held (OutOfRange path (signed_decimal n)) (int_le least n
    && int_le n most) (Ok n)

-- a whole number
abbrev pub whole : List ℕ → Json → Result ℤ ScenarioFault
whole path value = found (WrongKind path) (whole_in value)

-- a whole number in this range
abbrev pub whole_within : ℤ → ℤ → List ℕ → Json → Result ℤ ScenarioFault
whole_within least most path value = passed (whole path value) (within least most path)

-- a count in this range
abbrev pub count_within : ℕ → ℕ → List ℕ → Json → Result ℕ ScenarioFault
count_within least most path value = passed (whole_within (pos least) (pos most) path value)
    (λ n. Ok (nat_abs n))

-- a truth value
abbrev pub truth : List ℕ → Json → Result Bool ScenarioFault
truth path value = found (WrongKind path) (bool_in value)

-- the width that a value says: by its truth value, where it is one, else by its number
abbrev pub width_by : Option Bool → List ℕ → Json → Result (Option ℕ) ScenarioFault
width_by (Some shifted) path value = Ok (if shifted then Some 1 else None)
width_by None path value = passed (count_within 1 widest path value) (λ width. Ok (Some width))

-- a time shift's width, of a key that may be left out: false for no shift, true for 1, or a number
-- from 1 to 1,000,000
abbrev pub some_width : List ℕ → Json → Result (Option ℕ) ScenarioFault
some_width path value = width_by (bool_in value) path value

-- a text
abbrev pub text : List ℕ → Json → Result (List ℕ) ScenarioFault
text path value = found (WrongKind path) (text_in value)

-- a text, of a key that may be left out
abbrev pub some_text : List ℕ → Json → Result (Option (List ℕ)) ScenarioFault
some_text path value = passed (text path value) (λ t. Ok (Some t))

-- a text spelled as a name
abbrev pub name : List ℕ → Json → Result (List ℕ) ScenarioFault
name path value = passed (text path value) (λ t. held (OutOfRange path t) (is_name t) (Ok t))

-- the port of an address on this machine, of a key that may be left out
abbrev pub some_port : List ℕ → Json → Result (Option ℕ) ScenarioFault
some_port path value = passed (text path value)
    (λ t. passed (found (OutOfRange path t) (port_of t)) (λ port. Ok (Some port)))

-- a list
abbrev pub items : List ℕ → Json → Result (List Json) ScenarioFault
items path value = found (WrongKind path) (items_in value)

-- whole numbers, each in this range
abbrev pub wholes_within : ℤ → ℤ → List ℕ → Json → Result (List ℤ) ScenarioFault
wholes_within least most path value =
    passed (items path value) (λ members.
    passed (each_at (λ i member. whole (item_in path i) member) members) (λ numbers.
    each_at (λ i n. within least most (item_in path i) n) numbers))

-- a table
abbrev pub table : List ℕ → Json → Result Json ScenarioFault
table path value = passed (found (WrongKind path) (members_in value)) (λ members. Ok value)

-- so many tables
abbrev pub tables_within : ℕ → ℕ → List ℕ → Json → Result (List Json) ScenarioFault
tables_within least most path value =
    passed (items path value) (λ members.
    passed (each_at (λ i member. table (item_in path i) member) members) (λ tables.
    held (OutOfRange path (decimal (length tables))) (nat_le least (length tables)
    && nat_le (length tables) most) (
    Ok tables)))

-- the first key of the table whose value has a number that isn't whole, or nests too deep
abbrev pub first_unfit : Json → Option (List ℕ)
first_unfit table = option_map (λ (m : List ℕ × Json). m.0)
    (find (λ (m : List ℕ × Json). not (is_datum m.1)) (members_of table))

-- a table of parameters or of values, each whole and not too deep
abbrev pub values : List ℕ → Json → Result Json ScenarioFault
values path value =
    passed (table path value) (λ params.
    no_text (λ key. WrongKind (key_in path key)) (first_unfit params) (
    Ok params))

-- an object, each value of which is whole and not too deep, its numbers in range
abbrev pub IsObjectOfData : Json → Type 0
IsObjectOfData tree = IsTrue (is_object tree) × IsTrue (is_in_range tree)
    × Each (λ (m : List ℕ × Json). IsTrue (is_datum m.1)) (members_of tree)
