-- How much a write takes, and how a clock goes.
use Rattle.std.specs.Prelude.{ℕ, ◌%◌, ◌==◌, Bool, not, ◌&&◌, nat_lt}
use Rattle.mk_fakes.specs.declared.bites.Pace.{Pace}
use Rattle.mk_fakes.specs.Fakes.{next_count}
use Rattle.mk_fakes.specs.Telling.{Biting}

-- no write was made yet
abbrev pub no_writes : ℕ → ℕ → Biting
no_writes bite balk = record { bite = bite; balk = balk; writes = 0 }

-- after one more write
abbrev pub one_more_write : Biting → Biting
one_more_write b = record { bite = b.bite; balk = b.balk; writes = next_count b.writes }

-- the next write takes nothing: its number, counted from 1, is a multiple of `balk`, and that isn't
-- 0
abbrev pub balks : Biting → Bool
balks b = not (b.balk == 0) && (next_count b.writes % b.balk == 0)

-- no sleep was made yet
abbrev pub no_sleeps : ℕ → ℕ → Pace
no_sleeps tick naps = record { tick = tick; naps = naps; slept = 0 }

-- after one more sleep
abbrev pub one_more_sleep : Pace → Pace
one_more_sleep p = record { tick = p.tick; naps = p.naps; slept = next_count p.slept }

-- the next sleep ends well: its number, counted from 0, is below `naps`
abbrev pub does_sleep : Pace → Bool
does_sleep p = nat_lt p.slept p.naps
