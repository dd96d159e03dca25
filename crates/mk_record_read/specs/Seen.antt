-- What the program keeps of a record, as the definitions name it.
use Rattle.std.specs.Prelude.{map}
use Rattle.mk_plan.specs.Journals as journals
use Rattle.mk_record_read.specs.declared.saved.Arrival.{Arrival}
use Rattle.mk_record_read.specs.declared.saved.Saved.{Saved}
use Rattle.mk_record_read.specs.Reading.{Reading, Said}

-- a message that came
abbrev pub came : Arrival → journals.Arrival
came a = record { sim = a.sim.0; message = a.message }

-- what a saved record says
abbrev pub said_by : Saved → Reading
said_by s = Said s.plan (map came s.arrivals) s.asks
