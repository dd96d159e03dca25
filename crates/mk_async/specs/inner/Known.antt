-- For proofs alone. The tests of a request's names and pairs, as they go through the argument.
use Rattle.std.specs.Prelude.{ℕ, Bool, true, List, ◌&&◌, is_some, ◌==◌}
use Rattle.std.specs.List.{list_all}
use Rattle.mk_base.specs.declared.json.Json.{Json}
use Rattle.mk_base.specs.Trees.{text_in, items_in, members_in}
use Rattle.mk_plan.specs.declared.Plan.{Plan}
use Rattle.mk_plan.specs.Plans.{owner, has_pair}
use Rattle.mk_plan.specs.Asks.{entity_of, of_entity, gives_attr, takes_attr}
use Rattle.mk_async.specs.Forms.{is_such}
use Rattle.mk_async.specs.declared.request.Asked.{Asked}
use Rattle.mk_async.specs.declared.request.Asked.TheVariants as as_asked

-- the members of an object
abbrev pub Members : Type 0
Members = List (List ℕ × Json)

-- each of these trees is an attribute that is taken from the entity
abbrev pub gives_each : Plan → ℕ → List Json → Bool
gives_each P e trees = list_all (λ t. is_such (gives_attr P e) (text_in t)) trees

abbrev pub knows_want : Plan → List ℕ → Json → Bool
knows_want P id tree = of_entity P id (λ e. is_such (gives_each P e) (items_in tree))

abbrev pub knows_wants : Plan → Members → Bool
knows_wants P ms = list_all (λ (m : List ℕ × Json). knows_want P m.0 m.1) ms

-- the entity may be given each of these attributes
abbrev pub takes_each : Plan → ℕ → Members → Bool
takes_each P e ms = list_all (λ (m : List ℕ × Json). takes_attr P e m.0) ms

abbrev pub knows_destination : Plan → List ℕ → Json → Bool
knows_destination P id tree = of_entity P id (λ e. is_such (takes_each P e) (members_in tree))

abbrev pub knows_destinations : Plan → Members → Bool
knows_destinations P ms = list_all (λ (m : List ℕ × Json). knows_destination P m.0 m.1) ms

-- the entity is one of the simulator's own
abbrev pub is_own : Plan → ℕ → List ℕ → Bool
is_own P s id = of_entity P id (λ e. owner P e == s)

abbrev pub knows_source : Plan → ℕ → List ℕ → Json → Bool
knows_source P s id tree = is_own P s id && is_such (knows_destinations P) (members_in tree)

abbrev pub knows_sources : Plan → ℕ → Members → Bool
knows_sources P s ms = list_all (λ (m : List ℕ × Json). knows_source P s m.0 m.1) ms

abbrev pub is_known : Plan → List ℕ → Bool
is_known P id = is_some (entity_of P id)

abbrev pub are_known : Plan → List Json → Bool
are_known P trees = list_all (λ t. is_such (is_known P) (text_in t)) trees

-- each entity and attribute of what s asks for is known
abbrev pub knows_asked : Plan → ℕ → Asked → Bool
knows_asked P s (as_asked.Get ms) = knows_wants P ms.now
knows_asked P s (as_asked.Set ms) = knows_sources P s ms.now
knows_asked P s (as_asked.Related text) = is_known P text.now
knows_asked P s (as_asked.RelatedOfEach trees) = are_known P trees.now

-- the entity's simulator lends to s
abbrev pub lends : Plan → ℕ → List ℕ → Bool
lends P s id = of_entity P id (λ e. has_pair P (owner P e) s)

abbrev pub lends_each : Plan → ℕ → Members → Bool
lends_each P s ms = list_all (λ (m : List ℕ × Json). lends P s m.0) ms

abbrev pub lends_destinations : Plan → ℕ → Json → Bool
lends_destinations P s tree = is_such (lends_each P s) (members_in tree)

abbrev pub lends_sources : Plan → ℕ → Members → Bool
lends_sources P s ms = list_all (λ (m : List ℕ × Json). lends_destinations P s m.1) ms

-- the asynchronous connections that what s asks for needs are there
abbrev pub permits_asked : Plan → ℕ → Asked → Bool
permits_asked P s (as_asked.Get ms) = lends_each P s ms.now
permits_asked P s (as_asked.Set ms) = lends_sources P s ms.now
permits_asked P s (as_asked.Related text) = true
permits_asked P s (as_asked.RelatedOfEach trees) = true
