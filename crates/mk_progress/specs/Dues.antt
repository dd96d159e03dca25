-- When the clock is asked, and when the next line is due.
use Rattle.std.specs.Prelude.{ℕ, ◌+◌, Bool, ◌||◌, nat_le}
use Rattle.mk_progress.specs.Numbers.{in_64_bits}

-- whether the clock is asked: at a pause, or after 15 looks at which it wasn't
abbrev pub is_asking : Bool → ℕ → Bool
is_asking pause looks = pause || nat_le 15 looks

-- when a line is due after one that was put at this millisecond
abbrev pub next_due : ℕ → ℕ
next_due passed = in_64_bits (passed + 200)
