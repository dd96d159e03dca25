-- What a text of watches says, or the first test that it fails.
use Rattle.std.specs.Prelude.{ℕ, ◌<◌, All, List, [], ◌∷◌, length, map, codes, Option, Some, None, Result, Ok, Err}
use Rattle.std.specs.List.{enumerate_from}
use Rattle.mk_base.specs.declared.json.Json.{Json}
use Rattle.mk_base.specs.Trees.{member}
use Rattle.mk_base.specs.Verdicts.{all_well, after_found, IsFaultOrWant}
use Rattle.mk_plan.specs.declared.Plan.{Plan}
use Rattle.mk_plan.specs.Asks.{entity_of}
use Rattle.mk_scenario_toml.specs.Document.{toml_of}
use Rattle.mk_scenario_keys.specs.Tests.{key_in, item_in}
use Rattle.mk_scenario_keys.specs.Keys.{required, text, tables_within, first_unknown}
use Rattle.mk_scenario_keys.specs.declared.fault.ScenarioFault.{ScenarioFault}
use Rattle.mk_scenario_keys.specs.declared.fault.ScenarioFault.TheVariants as keys
use Rattle.mk_watch_read.specs.declared.fault.WatchFault.{WatchFault}
use Rattle.mk_watch_read.specs.declared.fault.WatchFault.TheVariants.{NotToml, Missing, WrongKind, UnknownKey, OutOfRange, NoRule, NoEntity, Mem}
use Rattle.mk_watch_read.specs.declared.known.Table.{Table}
use Rattle.mk_watch_read.specs.declared.known.Table.TheVariants as tables
use Rattle.mk_watch_read.specs.declared.watches.Watch.{Watch}
use Rattle.mk_watch_read.specs.Rules.{place_of}

-- a fault of a key's value, as one of a text of watches; the tests that are made here give the
-- first five and want of memory alone
abbrev pub of_key : ScenarioFault → WatchFault
of_key keys.NotToml = NotToml
of_key (keys.Missing key) = Missing key
of_key (keys.WrongKind key) = WrongKind key
of_key (keys.UnknownKey key) = UnknownKey key
of_key (keys.OutOfRange key value) = OutOfRange key value
of_key (keys.UnknownSim key name) = NoEntity key name
of_key (keys.UnknownGroup key name) = NoEntity key name
of_key (keys.TwoKinds key) = WrongKind key
of_key (keys.Uneven key left right) = WrongKind key
of_key (keys.Taken key) = WrongKind key
of_key keys.Mem = Mem

-- the fault is the verdict's, or want of memory
abbrev pub IsFaultOf : {A : Type 0} → Result A WatchFault → WatchFault → Type 0
IsFaultOf = IsFaultOrWant Mem

-- what follows a test of a key that gives something
abbrev pub keyed : {A B : Type 0} → Result A ScenarioFault → (A → Result B WatchFault)
    → Result B WatchFault
keyed (Ok x) next = next x
keyed (Err fault) next = Err (of_key fault)

-- what follows where there is no unknown key, and the fault of the one that there is
abbrev pub known : {B : Type 0} → (List ℕ → List ℕ) → Option (List ℕ) → Result B WatchFault
    → Result B WatchFault
known path None next = next
known path (Some key) next = Err (UnknownKey (path key))

-- the keys of the document, and of each table
abbrev pub top_keys : List (List ℕ)
top_keys = codes "watch" ∷ []

abbrev pub watch_keys : List (List ℕ)
watch_keys = codes "entity" ∷ codes "attr" ∷ codes "rule" ∷ []

abbrev pub keys_of : Table → List (List ℕ)
keys_of tables.Top = top_keys
keys_of tables.Watch = watch_keys

-- the watch of these texts in the table of this path: its rule is there, and then its entity
abbrev pub watch_named : Plan → List (List ℕ) → List ℕ → List ℕ → List ℕ → List ℕ
    → Result Watch WatchFault
watch_named P names path entity attr rule =
    after_found (NoRule (key_in path (codes "rule")) rule) (place_of rule names) (λ r.
    after_found (NoEntity (key_in path (codes "entity")) entity) (entity_of P entity) (λ e.
    Ok (record { entity = e; attr = attr; rule = r })))

-- the watch of the table of this path: its keys are known, and all three stand there and are texts
abbrev pub watch_at : Plan → List (List ℕ) → List ℕ → Json → Result Watch WatchFault
watch_at P names path table =
    known (key_in path) (first_unknown watch_keys table) (
    keyed (required (key_in path (codes "entity")) text (member (codes "entity") table)) (λ entity.
    keyed (required (key_in path (codes "attr")) text (member (codes "attr") table)) (λ attr.
    keyed (required (key_in path (codes "rule")) text (member (codes "rule") table)) (λ rule.
    watch_named P names path entity attr rule))))

-- the watch of the table that stands beside its place, from 0
abbrev pub watch_in : Plan → List (List ℕ) → ℕ × Json → Result Watch WatchFault
watch_in P names t = watch_at P names (item_in (codes "watch") t.0) t.1

-- the watches of these tables, in order
abbrev pub watches_in : Plan → List (List ℕ) → List Json → Result (List Watch) WatchFault
watches_in P names found = all_well (map (watch_in P names) (enumerate_from 0 found))

-- the watches of a document: it has no other key, and one to a thousand tables `watch`
abbrev pub document_watches : Plan → List (List ℕ) → Json → Result (List Watch) WatchFault
document_watches P names document =
    known (λ key. key) (first_unknown top_keys document) (
    keyed (required (codes "watch") (tables_within 1 1000) (member (codes "watch") document))
    (watches_in P names))

-- the watches of a text: it is TOML, and the document passes its tests
abbrev pub watches_of : Plan → List (List ℕ) → List ℕ → Result (List Watch) WatchFault
watches_of P names bytes = after_found NotToml (toml_of bytes) (document_watches P names)

-- the numbers of the watches are those of entities and rules that there are
abbrev pub AreInside : Plan → ℕ → List Watch → Type 0
AreInside P rules watches = All (λ w. (w.entity < length P.entities) × (w.rule < rules)) watches
