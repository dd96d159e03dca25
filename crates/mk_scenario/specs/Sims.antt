-- A `sim` table: a simulator.
use Rattle.std.specs.Prelude.{ℕ, pos, not, List, [], ◌++◌, length, codes, Option, Some, None, is_some, option_and_then, Result, Ok, Err}
use Rattle.std.specs.Fmt.{decimal}
use Rattle.std.specs.List.{filter, filter_map}
use Rattle.mk_base.specs.declared.json.Json.{Json}
use Rattle.mk_base.specs.declared.json.Json as tree
use Rattle.mk_base.specs.Lists.{same_text}
use Rattle.mk_base.specs.Trees.{text_in, member}
use Rattle.mk_base.specs.Verdicts.{held, no_text, passed}
use Rattle.mk_scenario_keys.specs.Known.{sim_keys}
use Rattle.mk_scenario_keys.specs.Tests.{key_in, item_in}
use Rattle.mk_scenario_keys.specs.Keys.{required, optional, first_unknown, wholes_within, some_text, name, some_port, values}
use Rattle.mk_scenario_keys.specs.declared.fault.ScenarioFault.{ScenarioFault}
use Rattle.mk_scenario_keys.specs.declared.fault.ScenarioFault.TheVariants.{Missing, UnknownKey, TwoKinds}
use Rattle.mk_scenario.specs.declared.parts.Begin.{Begin}
use Rattle.mk_scenario.specs.declared.parts.Begin.TheVariants.{Command, Connect, Local}
use Rattle.mk_scenario.specs.declared.parts.SimPart.{SimPart}
use Rattle.mk_base.specs.Limits.{latest_end}

-- the texts that these tables have under a key
abbrev pub texts_under : List ℕ → List Json → List (List ℕ)
texts_under key tables = filter_map (λ t. option_and_then text_in (member key t)) tables

-- the id of a simulator of this name after those of these names: the name, `-`, and how many of
-- them have the same name
abbrev pub sim_id : List (List ℕ) → List ℕ → List ℕ
sim_id names name = name ++ (codes "-" ++ decimal (length (filter (λ n. same_text n name) names)))

-- how a simulator is begun: in exactly one way
abbrev pub begin_of : List ℕ → Option (List ℕ) → Option ℕ → Option (List ℕ)
    → Result Begin ScenarioFault
begin_of path (Some command) None None = Ok (Command command)
begin_of path None (Some port) None = Ok (Connect port)
begin_of path None None (Some kind) = Ok (Local kind)
begin_of path None None None = Err (Missing (key_in path (codes "command")))
begin_of path command connect kind = Err (TwoKinds path)

-- parameters without the time resolution, which is the run's
abbrev pub own_params : List ℕ → Json → Result Json ScenarioFault
own_params path params = held
    (UnknownKey (key_in (key_in path (codes "params")) (codes "time_resolution")))
    (not (is_some (member (codes "time_resolution") params))) (Ok params)

-- the simulator of this name that the table of this path says, begun in one of these ways, after
-- these tables
abbrev pub sim_made : List ℕ → List Json → Json → List ℕ → Option (List ℕ) → Option ℕ
    → Option (List ℕ) → Result SimPart ScenarioFault
sim_made path earlier table name command connect kind =
    passed (optional (tree.Object []) (key_in path (codes "params")) values
    (member (codes "params") table)) (λ params.
    passed (optional [] (key_in path (codes "initial_events"))
    (wholes_within (pos 0) latest_end) (member (codes "initial_events") table)) (λ initial.
    passed (begin_of path command connect kind) (λ begin.
    passed (own_params path params) (λ own.
    Ok (record {
      id = sim_id (texts_under (codes "name") earlier) name;
      begin = begin;
      params = params;
      initial = initial;
    })))))

-- the simulator of the table of this path, after these tables
abbrev pub sim_at : List ℕ → List Json → Json → Result SimPart ScenarioFault
sim_at path earlier table =
    no_text (λ key. UnknownKey (key_in path key)) (first_unknown sim_keys table) (
    passed (required (key_in path (codes "name")) name (member (codes "name") table)) (λ name.
    passed (optional None (key_in path (codes "command")) some_text
    (member (codes "command") table)) (λ command.
    passed (optional None (key_in path (codes "connect")) some_port
    (member (codes "connect") table)) (λ connect.
    passed (optional None (key_in path (codes "local")) some_text (member (codes "local") table))
    (λ kind.
    sim_made path earlier table name command connect kind)))))

-- the simulator of the table at place i, after these tables
abbrev pub sim_in : List Json → ℕ → Json → Result SimPart ScenarioFault
sim_in earlier i table = sim_at (item_in (codes "sim") i) earlier table
