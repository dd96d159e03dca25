-- Worked examples: the first test that a document fails, or the scenario that it is.
use Rattle.std.proofs.Common.{◌≡◌, ℕ, pos, true, false, List, [], ◌∷◌, ◌++◌, Ok, Err, refl, codes}
use Rattle.mk_base.specs.declared.tier.Via.TheVariants.{Weak}
use Rattle.mk_base.specs.declared.json.Json.{Json}
use Rattle.mk_base.specs.declared.json.Json as tree
use Rattle.mk_base.proofs.OnTrees.{trees_compute}
use Rattle.mk_scenario_keys.specs.declared.fault.ScenarioFault.TheVariants.{Missing, WrongKind, UnknownKey, OutOfRange, UnknownSim, UnknownGroup, TwoKinds, Uneven, Taken}
use Rattle.mk_scenario.specs.References.{place_of}
use Rattle.mk_scenario.specs.Blocks.{block_at}
use Rattle.mk_scenario.specs.Scenarios.{scenario_in}
use Rattle.mk_scenario.specs.declared.parts.Begin.TheVariants.{Command, Connect}
use Rattle.mk_scenario.specs.declared.parts.Place.TheVariants.{Whole, Full}
use Rattle.mk_scenario.specs.declared.parts.Scenario.{Scenario}

-- a member of a table
abbrev number : List ℕ → ℕ → List ℕ × Json
number key n = (key, tree.Whole (pos n))

abbrev word : List ℕ → List ℕ → List ℕ × Json
word key text = (key, tree.Text text)

abbrev tables : List ℕ → List Json → List ℕ × Json
tables key items = (key, tree.List items)

-- ---- the top table

pub empty_document : scenario_in (tree.Object []) ≡ Err (Missing (codes "until"))
unfolding trees_compute place_of block_at
empty_document = refl

pub until_as_text : scenario_in (tree.Object (word (codes "until") (codes "3") ∷ [])) ≡ Err (WrongKind (codes "until"))
unfolding trees_compute place_of block_at
until_as_text = refl

pub until_nothing : scenario_in (tree.Object (number (codes "until") 0 ∷ [])) ≡ Err (OutOfRange (codes "until") (codes "0"))
unfolding trees_compute place_of block_at
until_nothing = refl

pub speed : scenario_in (tree.Object (number (codes "speed") 1 ∷ number (codes "until") 3 ∷ [])) ≡ Err (UnknownKey (codes "speed"))
unfolding trees_compute place_of block_at
speed = refl

pub no_simulators : scenario_in (tree.Object (number (codes "until") 3 ∷ [])) ≡ Err (Missing (codes "sim"))
unfolding trees_compute place_of block_at
no_simulators = refl

-- ---- simulators

abbrev of_sims : List Json → Json
of_sims sims = tree.Object (tables (codes "sim") sims ∷ number (codes "until") 3 ∷ [])

abbrev run : List ℕ × Json
run = word (codes "command") (codes "run")

abbrev named : List (List ℕ × Json) → Json
named more = tree.Object (more ++ word (codes "name") (codes "A") ∷ [])

pub not_begun : scenario_in (of_sims (named [] ∷ [])) ≡ Err (Missing (codes "sim[0].command"))
unfolding trees_compute place_of block_at
not_begun = refl

pub begun_twice : scenario_in (of_sims (named (run ∷ word (codes "local") (codes "clock") ∷ []) ∷ [])) ≡ Err (TwoKinds (codes "sim[0]"))
unfolding trees_compute place_of block_at
begun_twice = refl

pub leading_zero : scenario_in (of_sims (named (word (codes "connect") (codes "localhost:08") ∷ []) ∷ [])) ≡ Err (OutOfRange (codes "sim[0].connect") (codes "localhost:08"))
unfolding trees_compute place_of block_at
leading_zero = refl

pub odd_name : scenario_in (of_sims (tree.Object (run ∷ word (codes "name") (codes "1A") ∷ []) ∷ [])) ≡ Err (OutOfRange (codes "sim[0].name") (codes "1A"))
unfolding trees_compute place_of block_at
odd_name = refl

pub own_resolution : scenario_in (of_sims (named (run ∷ []) ∷ tree.Object (run ∷ word (codes "name") (codes "A") ∷ (codes "params", tree.Object (number (codes "time_resolution") 1 ∷ [])) ∷ []) ∷ [])) ≡ Err (UnknownKey (codes "sim[1].params.time_resolution"))
unfolding trees_compute place_of block_at
own_resolution = refl

-- ---- groups

abbrev of_groups : List Json → Json
of_groups groups = tree.Object (tables (codes "entities") groups ∷ tables (codes "sim") (named (run ∷ []) ∷ []) ∷ number (codes "until") 3 ∷ [])

-- a group of so many entities
abbrev group : List ℕ → List ℕ → ℕ → Json
group id sim num = tree.Object (word (codes "id") id ∷ word (codes "model") (codes "M") ∷ number (codes "num") num ∷ word (codes "sim") sim ∷ [])

pub of_nobody : scenario_in (of_groups (group (codes "g") (codes "B-0") 3 ∷ [])) ≡ Err (UnknownSim (codes "entities[0].sim") (codes "B-0"))
unfolding trees_compute place_of block_at
of_nobody = refl

pub twice_g : scenario_in (of_groups (group (codes "g") (codes "A-0") 3 ∷ group (codes "g") (codes "A-0") 1 ∷ [])) ≡ Err (Taken (codes "g"))
unfolding trees_compute place_of block_at
twice_g = refl

-- ---- blocks, between the groups g of three entities and h of two

abbrev of_block : List (List ℕ × Json) → Json
of_block block = tree.Object (tables (codes "connect") (tree.Object block ∷ []) ∷ tables (codes "entities") (group (codes "g") (codes "A-0") 3 ∷ group (codes "h") (codes "A-0") 2 ∷ []) ∷ tables (codes "sim") (named (run ∷ []) ∷ []) ∷ number (codes "until") 3 ∷ [])

abbrev flag : List ℕ → List ℕ × Json
flag key = (key, tree.Bool true)

abbrev from : List ℕ → List ℕ × Json
from = word (codes "from")

abbrev to : List ℕ → List ℕ × Json
to = word (codes "to")

pub from_no_group : scenario_in (of_block (from (codes "k") ∷ to (codes "g") ∷ [])) ≡ Err (UnknownGroup (codes "connect[0].from") (codes "k"))
unfolding trees_compute place_of block_at
from_no_group = refl

pub to_nobody : scenario_in (of_block (from (codes "g") ∷ to (codes "B-0.x") ∷ [])) ≡ Err (UnknownSim (codes "connect[0].to") (codes "B-0"))
unfolding trees_compute place_of block_at
to_nobody = refl

pub beyond_the_group : scenario_in (of_block (from (codes "h") ∷ to (codes "g[3]") ∷ [])) ≡ Err (OutOfRange (codes "connect[0].to") (codes "g[3]"))
unfolding trees_compute place_of block_at
beyond_the_group = refl

pub shifted_and_weak : scenario_in (of_block (from (codes "g") ∷ flag (codes "time_shifted") ∷ to (codes "h") ∷ flag (codes "weak") ∷ [])) ≡ Err (TwoKinds (codes "connect[0]"))
unfolding trees_compute place_of block_at
shifted_and_weak = refl

pub initial_without_delay : scenario_in (of_block ((codes "attrs", tree.List (tree.Text (codes "a") ∷ [])) ∷ from (codes "g") ∷ (codes "initial_data", tree.Object (number (codes "a") 1 ∷ [])) ∷ to (codes "g") ∷ [])) ≡ Err (UnknownKey (codes "connect[0].initial_data"))
unfolding trees_compute place_of block_at
initial_without_delay = refl

pub initial_of_no_source : scenario_in (of_block (from (codes "g") ∷ (codes "initial_data", tree.Object (number (codes "a") 1 ∷ [])) ∷ to (codes "g") ∷ flag (codes "weak") ∷ [])) ≡ Err (UnknownKey (codes "connect[0].initial_data.a"))
unfolding trees_compute place_of block_at
initial_of_no_source = refl

pub pair_of_three : scenario_in (of_block ((codes "attrs", tree.List (tree.Text (codes "a") ∷ tree.List (tree.Text (codes "a") ∷ tree.Text (codes "b") ∷ tree.Text (codes "c") ∷ []) ∷ [])) ∷ from (codes "g") ∷ to (codes "g") ∷ [])) ≡ Err (WrongKind (codes "connect[0].attrs[1]"))
unfolding trees_compute place_of block_at
pair_of_three = refl

pub two_to_three : scenario_in (of_block (from (codes "h") ∷ to (codes "g") ∷ [])) ≡ Err (Uneven (codes "connect[0]") 2 3)
unfolding trees_compute place_of block_at
two_to_three = refl

-- ---- a scenario: two simulators of one name, a group, and a weak block with a value at first

abbrev limit : Json
limit = tree.Object (number (codes "limit") 5 ∷ [])

abbrev small_document : Json
small_document = tree.Object (
    tables (codes "connect") (tree.Object (
    (codes "attrs", tree.List (tree.List (tree.Text (codes "a") ∷ tree.Text (codes "b") ∷ []) ∷ []))
    ∷ from (codes "g")
    ∷ (codes "initial_data", tree.Object (number (codes "a") 1 ∷ []))
    ∷ to (codes "A-1.x.y")
    ∷ flag (codes "weak")
    ∷ []) ∷ [])
    ∷ tables (codes "entities") (group (codes "g") (codes "A-0") 3 ∷ [])
    ∷ number (codes "max_loop_iterations") 7
    ∷ tables (codes "sim") (
    tree.Object (run ∷ (codes "initial_events", tree.List (tree.Whole (pos 2) ∷ [])) ∷ word (codes "name") (codes "A") ∷ (codes "params", limit) ∷ [])
    ∷ named (word (codes "connect") (codes "127.0.0.1:5000") ∷ [])
    ∷ [])
    ∷ number (codes "until") 3
    ∷ [])

abbrev small_scenario : Scenario
small_scenario = record {
  until = pos 3;
  loops = 7;
  entries = 2000000;
  sims = record { id = codes "A-0"; begin = Command (codes "run"); params = limit; initial = pos 2 ∷ [] }
      ∷ record { id = codes "A-1"; begin = Connect 5000; params = tree.Object []; initial = [] }
      ∷ [];
  groups = record { id = codes "g"; sim = record { 0 = 0 }; model = codes "M"; num = 3; params = tree.Object [] } ∷ [];
  blocks = record {
    from = Whole 0;
    to = Full (record { 0 = 1 }) (codes "x.y");
    attrs = record { from = codes "a"; to = codes "b" } ∷ [];
    via = Weak;
    async_requests = false;
    initial = tree.Object (number (codes "a") 1 ∷ []);
  } ∷ [];
}

pub good_document : scenario_in small_document ≡ Ok small_scenario
unfolding trees_compute place_of block_at
good_document = refl
