-- The fields of a record's line, and the faults of a line.
use Rattle.std.specs.Prelude.{ℕ, ℤ, Bool, true, false, ◌&&◌, int_le, int_lt, pos, nat_abs, List, [], ◌∷◌, map, Option, Some, None, option_and_then, Result, Ok, Err, codes, if◌then◌else◌}
use Rattle.mk_base.specs.declared.json.Json.{Json}
use Rattle.mk_base.specs.declared.tier.Via.{Via}
use Rattle.mk_base.specs.declared.tier.Via.TheVariants.{Plain, Shift, Weak}
use Rattle.mk_base.specs.Lists.{same_text, all_there}
use Rattle.mk_base.specs.Texts.{text_of}
use Rattle.mk_base.specs.Trees.{whole_in, text_in, items_in, is_datum}
use Rattle.mk_base.specs.Limits.{widest}

-- the line isn't of a kind that may stand there, or not of its kind's form
abbrev pub misformed : ℕ
misformed = 1

-- a number is outside its limits, a reference is to nothing that stands before, or a type or via is
-- unknown
abbrev pub out_of_limits : ℕ
out_of_limits = 2

-- the value, if the numbers are within their limits
abbrev pub limited : {Y : Type 0} → Bool → Y → Result Y ℕ
limited true y = Ok y
limited false y = Err out_of_limits

-- a number from low to high
abbrev pub is_between : ℤ → ℤ → ℤ → Bool
is_between low high n = int_le low n && int_le n high

-- the whole numbers of the list that the tree is, if all its items are such
abbrev pub wholes_in : Json → Option (List ℤ)
wholes_in tree = option_and_then (λ (js : List Json). all_there (map whole_in js)) (items_in tree)

abbrev initial_among : List Json → Option (Option (List ℕ))
initial_among [] = Some None
initial_among (value ∷ []) = if is_datum value then Some (Some (text_of value)) else None
initial_among (value ∷ more ∷ rest) = None

-- an initial value: none where the list is empty, or the text of the one datum in it
abbrev pub initial_in : Json → Option (Option (List ℕ))
initial_in tree = option_and_then initial_among (items_in tree)

-- how a connection delays, as it stands in a line: a name, and a number where one stands beside it
abbrev pub Way : Type 0
Way = List ℕ × Option ℤ

-- a name, and the number beside it
abbrev name_beside : Option (List ℕ) → Option ℤ → Option Way
name_beside (Some name) (Some width) = Some (name, Some width)
name_beside (Some name) None = None
name_beside None width = None

abbrev way_among : List Json → Option Way
way_among (name ∷ width ∷ []) = name_beside (text_in name) (whole_in width)
way_among _ = None

-- a list of a name and a number, which version 2 alone has
abbrev pub way_in_list : Bool → Option (List Json) → Option Way
way_in_list true (Some items) = way_among items
way_in_list true None = None
way_in_list false items = None

abbrev way_or : Option (List ℕ) → Option Way → Option Way
way_or (Some name) other = Some (name, None)
way_or None other = other

-- how a connection delays, as it stands in a line: by a name alone or, in version 2, also by a list
-- of a name and a number
abbrev pub way_in : Bool → Json → Option Way
way_in second tree = way_or (text_in tree) (way_in_list second (items_in tree))

-- a time shift in version 1 is by one time; in version 2 its width stands beside its name
abbrev pub shift_of : Bool → Option ℤ → Option Via
shift_of true None = None
shift_of true (Some width) = if is_between (pos 1) (pos widest) width
    then Some (Shift (nat_abs width)) else None
shift_of false width = Some (Shift 1)

-- no number stands beside this name
abbrev pub lone : Option ℤ → Via → Option Via
lone None via = Some via
lone (Some width) via = None

-- how a connection delays
abbrev pub via_of : Bool → Way → Option Via
via_of second way = if same_text way.0 (codes "plain") then lone way.1 Plain
    else if same_text way.0 (codes "weak") then lone way.1 Weak
    else if same_text way.0 (codes "shift") then shift_of second way.1 else None

-- a number that names one of the first n things
abbrev pub is_below : ℕ → ℤ → Bool
is_below n place = int_le (pos 0) place && int_lt place (pos n)
