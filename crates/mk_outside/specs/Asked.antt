-- What a fleet was asked and has done: the ports at which it listened, and the links that it started.
use Rattle.std.specs.Prelude.{◌≡◌, ℕ, List, [], ◌∷◌, ◌++◌, Option, None, Some, ⊤}
use Rattle.mk_outside.specs.declared.fleet.Start.{Start}
use Rattle.mk_outside.specs.declared.fleet.Listened.{Listened}
use Rattle.mk_outside.specs.declared.fleet.Listened.TheVariants as listened
use Rattle.mk_outside.specs.declared.fleet.Started.{Started}
use Rattle.mk_outside.specs.declared.fleet.Started.TheVariants as started

-- it was asked to listen, and gave this port; or it was asked for this start, and gave a link
pub data Asked : Type 0 where
  to_listen : ℕ → Asked
  to_start : Start → Asked

-- what was asked and is still told was told before, and these came last
abbrev pub Asks : List Asked → Option (List Asked) → Option (List Asked) → Type 0
Asks more old None = ⊤
Asks more old (Some after) = (before : List Asked) × (old ≡ Some before) × (after ≡ before ++ more)

-- what listening adds
abbrev pub listen_asks : Listened → List Asked
listen_asks (listened.At port) = to_listen port ∷ []
listen_asks listened.Failed = []
listen_asks listened.Mem = []

-- what a start adds
abbrev pub start_asks : Started → Start → List Asked
start_asks (started.Link link) start = to_start start ∷ []
start_asks started.Failed start = []
start_asks started.Mem start = []
