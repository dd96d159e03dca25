-- What a request that was heard asks a simulator for: a call before the run or the stop, or an item
-- of the run. A request that has neither form is unknown.
use Rattle.std.specs.Prelude.{ℕ, pos, negsuc, Bool, false, ◌&&◌, ◌==◌, List, [], ◌∷◌, map, length, Option, Some, None, nat_abs, unwrap_or, option_map, option_and_then, if◌then◌else◌, codes}
use Rattle.std.specs.List.{flat_map}
use Rattle.mk_base.specs.declared.json.Json.{Json}
use Rattle.mk_base.specs.Lists.{same_text}
use Rattle.mk_base.specs.Texts.{text_of}
use Rattle.mk_base.specs.Trees.{text_in, members_in, texts_in}
use Rattle.mk_plan.specs.Asks.{Named, argument, members_by, datum_in}
use Rattle.mk_plan.specs.declared.Call.{Call}
use Rattle.mk_plan.specs.declared.Call.TheVariants.{Init, Create, SetupDone, Stop}
use Rattle.mk_plan.specs.declared.Input.{Input}
use Rattle.mk_plan.specs.declared.Want.{Want}
use Rattle.mk_plan.specs.declared.Item.{Item}
use Rattle.mk_plan.specs.declared.Item.TheVariants.{Step, GetData}
use Rattle.mk_message.specs.Messages.{three_of}
use Rattle.mk_local.specs.Calls.{whole_from_to}
use Rattle.mk_base.specs.Limits.{latest_end}

-- the one positional argument
abbrev pub one_of : List Json → Option Json
one_of [] = None
one_of (a ∷ []) = Some a
one_of (a ∷ b ∷ more) = None

-- the two positional arguments
abbrev pub two_of : List Json → Option (Json × Json)
two_of [] = None
two_of (a ∷ []) = None
two_of (a ∷ b ∷ []) = Some (a, b)
two_of (a ∷ b ∷ c ∷ more) = None

-- there is no keyword argument
abbrev pub is_unnamed : Json → Bool
is_unnamed named = unwrap_or
    (option_map (λ (ms : List (List ℕ × Json)). length ms == 0) (members_in named)) false

-- there is no argument at all
abbrev pub is_bare : List Json → Json → Bool
is_bare args named = (length args == 0) && is_unnamed named

-- ---- calls before the run, and the stop

-- the simulator's id, and its parameters by keyword
abbrev pub init_in : List Json → Json → Option Call
init_in args named = option_map (λ sim. Init sim named) (option_and_then text_in (one_of args))

-- how many, of a model
abbrev pub create_of : Json → Json → Json → Option Call
create_of num model named = option_and_then
    (λ n. option_map (λ name. Create (nat_abs n) name named) (text_in model))
    (whole_from_to (pos 0) (pos 4294967295) num)

-- the same, and the model's parameters by keyword
abbrev pub create_in : List Json → Json → Option Call
create_in args named = option_and_then (λ (p : Json × Json). create_of p.0 p.1 named) (two_of args)

-- a call without arguments
abbrev pub bare_in : Call → List Json → Json → Option Call
bare_in call args named = if is_bare args named then Some call else None

abbrev pub call_in : List ℕ → List Json → Json → Option Call
call_in name args named = if same_text name (codes "init") then init_in args named
    else if same_text name (codes "create") then create_in args named
    else if same_text name (codes "setup_done") then bare_in SetupDone args named
    else if same_text name (codes "stop") then bare_in Stop args named
    else None

-- ---- items of the run

-- the inputs of a step: {eid: {attribute: {source: value}}}, each value a datum
abbrev pub inputs_of : List (Named (List (Named (List (Named Json))))) → List Input
inputs_of entities = flat_map
    (λ e. flat_map (λ a. map
    (λ s. record { eid = e.name; attr = a.name; source = s.name; value = text_of s.value }) a.value)
    e.value) entities

abbrev pub inputs_in : Json → Option (List Input)
inputs_in tree = option_map inputs_of (members_by (members_by (members_by datum_in)) tree)

-- a time from 0 to 10^9, the inputs, and how far time may advance
abbrev pub step_of : Json → Json → Json → Option Item
step_of time inputs advance = option_and_then
    (λ t. option_and_then
    (λ ins. option_map (λ a. Step (record { time = t; tier = 0 }) ins a)
    (whole_from_to (negsuc 9223372036854775807) (pos 9223372036854775807) advance))
    (inputs_in inputs)) (whole_from_to (pos 0) latest_end time)

abbrev pub step_in : List Json → Json → Option Item
step_in args named = if is_unnamed named
    then option_and_then (λ (p : Json × Json × Json). step_of p.0 p.1 p.2) (three_of args) else None

-- what is wanted: {eid: [attribute, ..]}
abbrev pub wants_of : List (Named (List (List ℕ))) → List Want
wants_of entities = flat_map
    (λ e. map (λ attr. record { eid = e.name; attr = attr }) e.value) entities

abbrev pub wants_in : Json → Option (List Want)
wants_in tree = option_map wants_of (members_by texts_in tree)

abbrev pub data_in : List Json → Json → Option Item
data_in args named = option_map GetData (option_and_then wants_in (argument args named))

abbrev pub item_in : List ℕ → List Json → Json → Option Item
item_in name args named = if same_text name (codes "step") then step_in args named
    else if same_text name (codes "get_data") then data_in args named
    else None
