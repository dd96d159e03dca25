-- For proofs alone. What a line adds where the texts and numbers of its fields are read.
use Rattle.std.specs.Prelude.{ℕ, ℤ, nat_abs, Bool, ◌&&◌, List, [], ◌∷◌, ◌++◌, length, map, Option, Result}
use Rattle.mk_base.specs.declared.tier.Via.{Via}
use Rattle.mk_base.specs.Names.{kind_named}
use Rattle.mk_plan.specs.declared.Plan.{Plan}
use Rattle.mk_message.specs.Messages.{tested}
use Rattle.mk_record_read.specs.Fields.{out_of_limits, limited, is_below}
use Rattle.mk_record_read.specs.Lines.{run_fits, sim_fits, entity_fits}

abbrev pub run_put : Plan → ℤ → ℤ → ℤ → Result Plan ℕ
run_put P until loops entries = limited (run_fits until loops entries)
    (record P { until = until; loops = nat_abs loops; entries = nat_abs entries })

abbrev pub sim_put : Plan → List ℕ → List ℕ → ℤ → ℤ → List ℤ → Result Plan ℕ
sim_put P id type first rank events = tested out_of_limits (kind_named type) (λ k.
    limited (sim_fits first rank events)
    (record P {
      sims = P.sims
          ++ record {
            id = id;
            kind = k;
            first_id = nat_abs first;
            rank = nat_abs rank;
            initial = events;
          } ∷ [];
    }))

abbrev pub model_put : Plan → ℤ → List ℕ → List (List ℕ) → Bool → Result Plan ℕ
model_put P sim name attrs any = limited (is_below (length P.sims) sim)
    (record P {
      models = P.models
          ++ record {
            sim = record { 0 = nat_abs sim };
            name = name;
            attrs = attrs;
            any_inputs = any;
          } ∷ [];
    })

abbrev pub entity_put : Plan → ℤ → List ℕ → List ℤ → Result Plan ℕ
entity_put P model eid related = limited (entity_fits (length P.models) model related)
    (record P {
      entities = P.entities
          ++ record { model = nat_abs model; eid = eid; related = map nat_abs related } ∷ [];
    })

abbrev pub conn_put : Plan → ℤ → List ℕ → ℤ → List ℕ → Via → Bool → Bool → Option (List ℕ)
    → Result Plan ℕ
conn_put P from from_attr to to_attr via persistent triggering initial =
    limited (is_below (length P.entities) from && is_below (length P.entities) to)
    (record P {
      conns = P.conns
          ++ record {
            from = nat_abs from;
            from_attr = from_attr;
            to = nat_abs to;
            to_attr = to_attr;
            via = via;
            persistent = persistent;
            triggering = triggering;
            initial = initial;
          } ∷ [];
    })
