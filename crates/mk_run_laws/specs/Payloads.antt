-- The payloads of a run's items, and all that may be said on a link.
use Rattle.std.specs.Prelude.{ℕ, ◌≤◌, Bool, true, false, List, [], ◌∷◌, ◌++◌, length, take}
use Rattle.mk_base.specs.Lists.{Each}
use Rattle.mk_frame.specs.Frames.{limit}
use Rattle.mk_plan.specs.declared.Call.TheVariants.{Stop}
use Rattle.mk_plan.specs.declared.Item.{Item}
use Rattle.mk_plan.specs.Sequential.{id_after}
use Rattle.mk_message.specs.Written.{item_text, call_text}
use Rattle.mk_scenario.specs.declared.parts.Scenario.{Scenario}
use Rattle.mk_run_laws.specs.Handshake.{setup_payloads}

-- the payload is no longer than a frame's may be
abbrev pub IsFramed : List ℕ → Type 0
IsFramed payload = length payload ≤ limit

-- and so is each of these
abbrev pub AreFramed : List (List ℕ) → Type 0
AreFramed payloads = Each IsFramed payloads

-- the payloads of these items, with ids that count up from id
abbrev pub item_payloads : ℕ → List Item → List (List ℕ)
item_payloads id [] = []
item_payloads id (item ∷ items) = item_text id item ∷ item_payloads (id_after id (item ∷ [])) items

-- the payload of a stop with this id, if there is one
abbrev pub stop_payloads : Bool → ℕ → List (List ℕ)
stop_payloads true id = call_text id Stop ∷ []
stop_payloads false id = []

-- what is said to simulator i: the first n requests of its handshake, these items, and a stop if
-- there is one
abbrev pub link_payloads : Scenario → ℕ → ℕ → List Item → Bool → List (List ℕ)
link_payloads S i n items stopped = take n (setup_payloads S i) ++ item_payloads n items
    ++ stop_payloads stopped (id_after n items)
