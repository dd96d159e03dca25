-- For proofs alone. How one simulator is begun.
use Rattle.std.specs.Prelude.{◌≡◌, ◌+◌, List, [], ◌∷◌, ◌++◌, Option, Some, None, option_to_list}
use Rattle.std.specs.Bool.{⊤}
use Rattle.std.specs.Result.{result_err}
use Rattle.mk_base.specs.declared.LinkNo.{LinkNo}
use Rattle.mk_base.specs.Links.{without}
use Rattle.mk_outside.specs.Asked.{Asked, to_start}
use Rattle.mk_outside.specs.declared.fleet.Start.{Start}
use Rattle.mk_scenario.specs.declared.parts.Begin.{Begin}
use Rattle.mk_scenario.specs.declared.parts.Begin.TheVariants.{Command, Connect, Local}
use Rattle.mk_launch.specs.declared.starting.Begun.{Begun}
use Rattle.mk_launch.specs.declared.starting.Begun.TheVariants.{Place, Failed, Mem}
use Rattle.mk_launch.specs.Words.{template_words}
use Rattle.mk_launch.specs.Asking.{AsksFor, AsksSome}
use Rattle.mk_launch.specs.Starts.{Links, link_of, link_count, place_of}

-- a command has words
abbrev pub CanStart : Begin → Type 0
CanStart (Command template) = result_err (template_words template) ≡ None
CanStart (Connect port) = ⊤
CanStart (Local kind) = ⊤

-- the links are as before
abbrev pub AreSame : Links → Links → Type 0
AreSame old new = (new.started ≡ old.started) × (new.links ≡ old.links)

-- this place was given
abbrev pub IsGiven : Option LinkNo → Links → Links → Type 0
IsGiven place old new = (new.started ≡ old.started + link_count place)
    × (new.links ≡ old.links ++ option_to_list place)

-- a simulator was begun so
abbrev pub BegunAs : Begun → Begin → Links → Links → Type 0
BegunAs (Place place) begin old new = (place ≡ place_of old.started begin) × IsGiven place old new
BegunAs Failed begin old new = AreSame old new
BegunAs Mem begin old new = AreSame old new

-- a link was started
abbrev pub BegunLink : Begun → Links → Links → Type 0
BegunLink (Place place) old new = (place ≡ Some (link_of old.started)) × IsGiven place old new
BegunLink Failed old new = AreSame old new
BegunLink Mem old new = AreSame old new

-- the links without that of a place
abbrev pub without_place : Option LinkNo → List LinkNo → List LinkNo
without_place None links = links
without_place (Some link) links = without link links

-- what the start of a link adds to what the fleet was asked: nothing where it gave no link
abbrev pub begun_asks : Begun → Start → List Asked
begun_asks (Place place) start = to_start start ∷ []
begun_asks Failed start = []
begun_asks Mem start = []

-- what the start of one simulator adds to that: all of it where the simulator has come to its place
abbrev pub BegunAsks : Begun → Begin → List Asked → Type 0
BegunAsks (Place place) begin asks = AsksFor begin asks
BegunAsks Failed begin asks = AsksSome begin asks
BegunAsks Mem begin asks = AsksSome begin asks
