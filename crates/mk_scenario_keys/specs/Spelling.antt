-- How names, numbers and ports are spelled.
use Rattle.std.specs.Prelude.{ℕ, Bool, false, ◌&&◌, ◌||◌, ◌==◌, nat_le, List, [], ◌∷◌, length, Option, Some, None, option_and_then, if◌then◌else◌, codes}
use Rattle.std.specs.Fmt.{decimal}
use Rattle.std.specs.List.{list_all, before_first, after_first}
use Rattle.mk_base.specs.Lists.{same_text}
use Rattle.mk_base.specs.Numbers.{number_of, is_digit}

-- an ASCII letter or `_`
abbrev pub begins_name : ℕ → Bool
begins_name b = (nat_le 65 b && nat_le b 90) || (nat_le 97 b && nat_le b 122) || (b == 95)

abbrev pub starts_well : List ℕ → Bool
starts_well [] = false
starts_well (b ∷ bs) = begins_name b

-- how many bytes a name may have
abbrev pub longest_name : ℕ
longest_name = 64

-- a letter or `_`, then letters, digits and `_`, at most 64 in all
abbrev pub is_name : List ℕ → Bool
is_name text = starts_well text && list_all (λ b. begins_name b || is_digit b) text
    && nat_le (length text) longest_name

-- the number that the text spells by at least one and at most so many decimal digits
abbrev pub spelled : ℕ → List ℕ → Option ℕ
spelled most text = if nat_le 1 (length text) && nat_le (length text) most && list_all is_digit text
    then Some (number_of text) else None

-- the port that the text spells without a leading zero
abbrev pub port_number : List ℕ → Option ℕ
port_number text = option_and_then (λ n. if nat_le 1 n && nat_le n 65535
    && same_text (decimal n) text then Some n else None) (spelled 5 text)

-- the hosts of this machine that a simulator may be reached at
abbrev pub is_loopback : List ℕ → Bool
is_loopback host = same_text host (codes "127.0.0.1") || same_text host (codes "localhost")

-- the port of an address on this machine: host, colon, port
abbrev pub port_of : List ℕ → Option ℕ
port_of address = if is_loopback (before_first (λ b. b == 58) address)
    then port_number (after_first (λ b. b == 58) address) else None
