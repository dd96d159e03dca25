-- What a fleet that notes what it was asked tells.
use Rattle.std.specs.Prelude.{List, map}
use Rattle.mk_outside.specs.Asked.{Asked, to_listen, to_start}
use Rattle.mk_fakes.specs.declared.asking.Ask.{Ask}
use Rattle.mk_fakes.specs.declared.asking.Ask.TheVariants as ask

-- a note
abbrev pub ask_of : Ask → Asked
ask_of (ask.Listened port) = to_listen port
ask_of (ask.Begun start) = to_start start

-- all notes
abbrev pub asks_of : List Ask → List Asked
asks_of asks = map ask_of asks
