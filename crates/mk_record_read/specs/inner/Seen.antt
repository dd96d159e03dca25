-- For proofs alone. Beside `Seen`, which has what a reader needs.
use Rattle.std.specs.Prelude.{map, Bool, true, false}
use Rattle.mk_record_read.specs.declared.kinds.Version.{Version}
use Rattle.mk_record_read.specs.declared.kinds.Version.TheVariants.{First, Second}
use Rattle.mk_record_read.specs.declared.saved.Saved.{Saved}
use Rattle.mk_record_read.specs.declared.saved.Progress.{Progress}
use Rattle.mk_record_read.specs.Reading.{State}
use Rattle.mk_record_read.specs.Seen.{came}

-- the version is 2
abbrev pub is_second : Version → Bool
is_second First = false
is_second Second = true

-- what stands in the lines that were read
abbrev pub state_of : Progress → State
state_of p = record { last = p.last; plan = p.plan; arrivals = map came p.arrivals; asks = p.asks }

-- what is saved of the lines that were read
abbrev pub saved_in : Progress → Saved
saved_in p = record { plan = p.plan; arrivals = p.arrivals; asks = p.asks }
