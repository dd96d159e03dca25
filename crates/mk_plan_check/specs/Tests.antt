-- The five parts of a valid plan as tests, and the first that fails.
use Rattle.std.specs.Prelude.{ℕ, ℤ, pos, int_le, Bool, true, false, not, ◌&&◌, ◌||◌, List, [], ◌∷◌, length, count_by, Option, Some, None, is_some, option_map, unwrap_or, ◌==◌, nat_le, nat_lt, if◌then◌else◌}
use Rattle.std.specs.List.{list_all, range_with_len}
use Rattle.mk_base.specs.declared.SimKind.{SimKind}
use Rattle.mk_base.specs.declared.SimKind.TheVariants.{TimeBased, EventBased, Hybrid}
use Rattle.mk_base.specs.declared.tier.Via.{Via}
use Rattle.mk_base.specs.declared.tier.Via.TheVariants.{Plain, Shift, Weak}
use Rattle.mk_base.specs.Lists.{same_text}
use Rattle.mk_base.specs.Trees.{value_depth}
use Rattle.mk_base.specs.Names.{is_eid}
use Rattle.mk_base.specs.Tiers.{is_plain}
use Rattle.mk_plan.specs.declared.Plan.{Plan}
use Rattle.mk_plan.specs.declared.PlanSim.{PlanSim}
use Rattle.mk_plan.specs.declared.PlanEntity.{PlanEntity}
use Rattle.mk_plan.specs.declared.Conn.{Conn}
use Rattle.mk_plan.specs.declared.AsyncPair.{AsyncPair}
use Rattle.mk_plan.specs.Plans.{owner, eid_of, kind_of, rank_of, dot}
use Rattle.mk_plan_check.specs.Nesting.{nesting_of}
use Rattle.mk_base.specs.Limits.{highest_rank, latest_end, most_loops, most_entries, most_sims, most_models, most_entities, most_conns, most_requests, widest}

-- the test holds between each item and each later one
abbrev pub all_apart : {X : Type 0} → (X → X → Bool) → List X → Bool
all_apart fits [] = true
all_apart fits (x ∷ xs) = list_all (fits x) xs && all_apart fits xs

-- the first is false, or the second is true
abbrev pub implies : Bool → Bool → Bool
implies a b = not a || b

-- the run's end, the loop limit and the limit of entries
abbrev pub numbers_fit : Plan → Bool
numbers_fit P = int_le (pos 1) P.until && int_le P.until latest_end && nat_le 1 P.loops
    && nat_le P.loops most_loops && nat_le 1 P.entries && nat_le P.entries most_entries

-- how many simulators, entities and connections there are
abbrev pub sizes_fit : Plan → Bool
sizes_fit P = nat_le 1 (length P.sims) && nat_le (length P.sims) most_sims
    && nat_le (length P.entities) most_entities && nat_le (length P.conns) most_conns

abbrev pub event_fits : ℤ → Bool
event_fits e = int_le (pos 0) e && int_le e latest_end

abbrev pub sim_fits : PlanSim → Bool
sim_fits s = nat_le s.rank highest_rank && nat_le s.first_id most_requests
    && list_all event_fits s.initial

-- how many models a simulator has
abbrev pub models_of : Plan → ℕ → ℕ
models_of P i = count_by (λ m. m.sim.0 == i) P.models

abbrev pub models_fit : Plan → Bool
models_fit P = list_all (λ i. nat_le (models_of P i) most_models) (range_with_len 0 (length P.sims))

-- an initial value nests no deeper than a value may
abbrev pub initial_fits : Option (List ℕ) → Bool
initial_fits o = unwrap_or (option_map (λ t. nat_le (nesting_of t) value_depth) o) true

-- a time shift is by 1 to 1,000,000 times
abbrev pub width_fits : Via → Bool
width_fits Plain = true
width_fits (Shift width) = nat_le 1 width && nat_le width widest
width_fits Weak = true

abbrev pub is_within_limits : Plan → Bool
is_within_limits P = numbers_fit P && sizes_fit P && list_all sim_fits P.sims && models_fit P
    && list_all (λ c. initial_fits c.initial) P.conns && list_all (λ c. width_fits c.via) P.conns

abbrev pub entity_refers : Plan → PlanEntity → Bool
entity_refers P n = nat_lt n.model (length P.models)
    && list_all (λ (r : ℕ). nat_lt r (length P.entities)) n.related

abbrev pub conn_refers : Plan → Conn → Bool
conn_refers P c = nat_lt c.from (length P.entities) && nat_lt c.to (length P.entities)

abbrev pub pair_refers : Plan → AsyncPair → Bool
pair_refers P p = nat_lt p.from.0 (length P.sims) && nat_lt p.to.0 (length P.sims)

abbrev pub refers_inside : Plan → Bool
refers_inside P = list_all (λ m. nat_lt m.sim.0 (length P.sims)) P.models
    && list_all (entity_refers P) P.entities && list_all (conn_refers P) P.conns
    && list_all (pair_refers P) P.asyncs

abbrev pub sims_apart : Plan → Bool
sims_apart P = all_apart (λ s t. not (same_text s.id t.id)) P.sims

abbrev pub has_no_dot : List ℕ → Bool
has_no_dot id = list_all (λ b. not (b == dot)) id

-- the entities aren't of one simulator, or their names differ
abbrev pub eids_differ : Plan → ℕ → ℕ → Bool
eids_differ P d e = not ((owner P d == owner P e) && same_text (eid_of P d) (eid_of P e))

-- the entities' names differ within each simulator
abbrev pub eids_apart : Plan → Bool
eids_apart P = all_apart (eids_differ P) (range_with_len 0 (length P.entities))

abbrev pub has_distinct_names : Plan → Bool
has_distinct_names P = sims_apart P && list_all (λ s. has_no_dot s.id) P.sims
    && list_all (λ n. is_eid n.eid) P.entities && eids_apart P

abbrev pub is_well_formed : Plan → Bool
is_well_formed P = is_within_limits P && refers_inside P && has_distinct_names P

-- how many simulators have that rank
abbrev pub ranked : Plan → ℕ → ℕ
ranked P r = count_by (λ s. s.rank == r) P.sims

-- a plain connection goes to a higher rank
abbrev pub conn_rises : Plan → Conn → Bool
conn_rises P c = implies (is_plain c.via)
    (nat_lt (rank_of P (owner P c.from)) (rank_of P (owner P c.to)))

abbrev pub pair_rises : Plan → AsyncPair → Bool
pair_rises P p = nat_lt (rank_of P p.from.0) (rank_of P p.to.0)

abbrev pub has_ranks : Plan → Bool
has_ranks P = list_all (λ s. nat_lt s.rank (length P.sims)) P.sims
    && list_all (λ r. ranked P r == 1) (range_with_len 0 (length P.sims))
    && list_all (conn_rises P) P.conns && list_all (pair_rises P) P.asyncs

-- one source entity, target entity and target attribute
abbrev pub same_way : Conn → Conn → Bool
same_way c d = (c.from == d.from) && (c.to == d.to) && same_text c.to_attr d.to_attr

abbrev pub has_one_connection_each : Plan → Bool
has_one_connection_each P = all_apart (λ c d. not (same_way c d)) P.conns

-- a time-shifted persistent connection has an initial value, a plain one has none
abbrev pub initial_stands : Via → Bool → Bool → Bool
initial_stands Plain persistent given = not given
initial_stands (Shift width) persistent given = implies persistent given
initial_stands Weak persistent given = true

abbrev pub has_initial_values : Plan → Bool
has_initial_values P = list_all (λ c. initial_stands c.via c.persistent (is_some c.initial)) P.conns

abbrev pub persistence_fits : SimKind → Bool → Bool
persistence_fits TimeBased persistent = persistent
persistence_fits EventBased persistent = not persistent
persistence_fits Hybrid persistent = true

abbrev pub triggering_fits : SimKind → Bool → Bool
triggering_fits TimeBased triggering = not triggering
triggering_fits EventBased triggering = triggering
triggering_fits Hybrid triggering = true

abbrev pub kinds_fit : Plan → Conn → Bool
kinds_fit P c = persistence_fits (kind_of P (owner P c.from)) c.persistent
    && triggering_fits (kind_of P (owner P c.to)) c.triggering

abbrev pub same_bool : Bool → Bool → Bool
same_bool true b = b
same_bool false b = not b

abbrev pub same_source : Conn → Conn → Bool
same_source c d = (c.from == d.from) && same_text c.from_attr d.from_attr

abbrev pub same_target : Conn → Conn → Bool
same_target c d = (c.to == d.to) && same_text c.to_attr d.to_attr

abbrev pub sources_agree : Plan → Bool
sources_agree P = all_apart
    (λ c d. implies (same_source c d) (same_bool c.persistent d.persistent)) P.conns

abbrev pub targets_agree : Plan → Bool
targets_agree P = all_apart
    (λ c d. implies (same_target c d) (same_bool c.triggering d.triggering)) P.conns

abbrev pub has_kinds_of_connections : Plan → Bool
has_kinds_of_connections P = list_all (kinds_fit P) P.conns && sources_agree P && targets_agree P

-- the number of the first part that fails
abbrev pub first_bad : Plan → Option ℕ
first_bad P = if not (is_well_formed P) then Some 1 else if not (has_ranks P) then Some 2
    else if not (has_one_connection_each P) then Some 3 else if not (has_initial_values P)
    then Some 4 else if not (has_kinds_of_connections P) then Some 5 else None
