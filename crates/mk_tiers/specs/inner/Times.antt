-- For proofs alone. Beside `Times`, which has what a reader needs.
use Rattle.std.specs.Prelude.{◌≡◌, ℕ, ◌+◌, ◌-◌, ◌*◌, ◌≤◌, ◌/◌, ◌%◌, nat_abs, ◌==◌, nat_lt, if◌then◌else◌, ◌⊎◌}
use Rattle.mk_base.specs.declared.tier.Tier.{Tier}
use Rattle.mk_tiers.specs.Times.{never}
use Rattle.mk_base.specs.Limits.{most_loops}

-- times from here on, in units, are not told apart from none
abbrev pub end_of_time : ℕ
end_of_time = 140737488355328

-- the time, and the tier in the lowest 16 bits
abbrev pub packed : Tier → ℕ
packed x = nat_abs x.time * 65536 + x.tier

-- when what starts at x comes over such a way
unfoldable pub over : ℕ → ℕ → ℕ
over x way =
    if way == 0 then x
    else (if way == 1 then (if nat_lt x never then x + 1 else never)
    else (if nat_lt (x / 65536 + (way - 1)) end_of_time then (x / 65536 + (way - 1)) * 65536
    else never))

-- the number is that of a start within the limits, or there is none
abbrev pub IsStart : ℕ → Type 0
IsStart x = (x ≡ never) ⊎ ((x / 65536 ≤ 1000000000) × (x % 65536 ≤ most_loops))
