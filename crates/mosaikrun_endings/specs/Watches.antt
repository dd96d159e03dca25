-- What is said of a file that says no watches.
use Rattle.std.specs.Prelude.{ℕ, List, ◌++◌, codes}
use Rattle.mk_watch_read.specs.declared.fault.WatchFault.{WatchFault}
use Rattle.mk_watch_read.specs.declared.fault.WatchFault.TheVariants.{NotToml, Missing, WrongKind, UnknownKey, OutOfRange, NoRule, NoEntity, Mem}

abbrev pub text_of_watches : WatchFault → List ℕ
text_of_watches NotToml = codes "watch 1: not TOML"
text_of_watches (Missing key) = codes "watch 2: missing " ++ key
text_of_watches (WrongKind key) = codes "watch 3: wrong kind " ++ key
text_of_watches (UnknownKey key) = codes "watch 4: unknown key " ++ key
text_of_watches (OutOfRange key value) = codes "watch 5: out of range " ++ key ++ codes " " ++ value
text_of_watches (NoRule key rule) = codes "watch 6: no rule " ++ rule ++ codes " at " ++ key
text_of_watches (NoEntity key entity) = codes "watch 7: no entity " ++ entity ++ codes " at " ++ key
text_of_watches Mem = codes "out of memory"
