-- Numbers on the command line.
use Rattle.std.specs.Prelude.{◌≡◌, ℕ, ◌≤◌, true, List, length}
use Rattle.std.specs.List.{list_all}
use Rattle.mk_base.specs.Numbers.{number_of, is_digit}

-- the most digits that a number may have
abbrev pub most_digits : ℕ
most_digits = 10

-- one to ten decimal digits, leading zeros among them, which write a number from the least to the
-- most
pub record IsNumber (least most n : ℕ) (text : List ℕ) : Type 0 where
  pub some : 1 ≤ length text
  pub few : length text ≤ most_digits
  pub digits : list_all is_digit text ≡ true
  pub value : number_of text ≡ n
  pub low : least ≤ n
  pub high : n ≤ most
