-- What each entity takes in a Step: whether it has inputs, and their sum.
use Rattle.std.specs.Prelude.{ℕ, ℤ, pos, negsuc, ◌+ℤ◌, Bool, ◌&&◌, false, int_le, List, filter, fold, length, nat_lt, unwrap_or, option_map, if◌then◌else◌}
use Rattle.std.specs.List.{list_any}
use Rattle.std.specs.Str.{all_ascii_digits}
use Rattle.std.specs.Str.Parse.{signed_digits_value, without_leading_sign}
use Rattle.mk_base.specs.Lists.{same_text}
use Rattle.mk_plan.specs.declared.Input.{Input}
use Rattle.mk_local.specs.declared.turn.Turn.{Turn}
use Rattle.mk_local.specs.Kinds.{input_of}
use Rattle.mk_local.specs.Rows.{clamped}

-- one digit or more
abbrev pub is_numeral : List ℕ → Bool
is_numeral ds = nat_lt 0 (length ds) && all_ascii_digits ds

-- a number within 64 bits
abbrev pub fits_in_64 : ℤ → Bool
fits_in_64 n = int_le (negsuc 9223372036854775807) n && int_le n (pos 9223372036854775807)

-- the number that the text of a value writes, or 0 where it writes no whole number within 64 bits
abbrev pub number_in : List ℕ → ℤ
number_in text = if is_numeral (without_leading_sign text)
    && fits_in_64 (signed_digits_value 10 text) then signed_digits_value 10 text else pos 0

-- the kind takes inputs at the attribute
abbrev pub takes : Turn → List ℕ → Bool
takes T attr = unwrap_or (option_map (same_text attr) (input_of T)) false

-- the input is one of the entity of this name
abbrev pub is_input_of : Turn → List ℕ → Input → Bool
is_input_of T eid i = same_text i.eid eid && takes T i.attr

-- the entity has an input
abbrev pub seen : Turn → List ℕ → List Input → Bool
seen T eid inputs = list_any (is_input_of T eid) inputs

-- the sum, and the value of one more input added to it
abbrev pub added : ℤ → Input → ℤ
added sum i = clamped (sum +ℤ number_in i.value)

-- the sum of the entity's inputs in order, kept within 64 bits at each
abbrev pub sum_of : Turn → List ℕ → List Input → ℤ
sum_of T eid inputs = fold added (pos 0) (filter (is_input_of T eid) inputs)
