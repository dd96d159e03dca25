-- What each kind of line adds to the plan, to the messages that came, or to the steps that were
-- asked for.
use Rattle.std.specs.Prelude.{ℕ, ℤ, pos, nat_abs, Bool, ◌&&◌, List, [], ◌∷◌, ◌++◌, length, map, Result, Err, if◌then◌else◌}
use Rattle.std.specs.Result.{result_ok}
use Rattle.std.specs.List.{list_all}
use Rattle.mk_base.specs.declared.json.Json.{Json}
use Rattle.mk_base.specs.Trees.{bool_in, whole_in, text_in, texts_in}
use Rattle.mk_base.specs.Names.{kind_named}
use Rattle.mk_plan.specs.declared.Plan.{Plan}
use Rattle.mk_plan.specs.Journals.{Arrival}
use Rattle.mk_message.specs.Messages.{message_in, tested}
use Rattle.mk_record_read.specs.Fields.{misformed, out_of_limits, limited, is_between, is_below, wholes_in, initial_in, way_in, via_of}
use Rattle.mk_record_read.specs.declared.saved.Asked.{Asked}
use Rattle.mk_base.specs.Limits.{highest_rank, latest_end, most_loops, most_entries, most_entities, most_requests}

abbrev pub run_fits : ℤ → ℤ → ℤ → Bool
run_fits until loops entries = is_between (pos 1) latest_end until
    && is_between (pos 1) (pos most_loops) loops && is_between (pos 1) (pos most_entries) entries

-- `run [until,loops,entries]`
abbrev pub with_run : Plan → List Json → Result Plan ℕ
with_run P (until ∷ loops ∷ entries ∷ []) =
    tested misformed (whole_in until)
    (λ t. tested misformed (whole_in loops) (λ l. tested misformed (whole_in entries) (λ n.
    limited (run_fits t l n)
    (record P { until = t; loops = nat_abs l; entries = nat_abs n }))))
with_run P _ = Err misformed

abbrev pub event_fits : ℤ → Bool
event_fits = is_between (pos 0) latest_end

abbrev pub sim_fits : ℤ → ℤ → List ℤ → Bool
sim_fits first_id rank events = is_between (pos 0) (pos most_requests) first_id
    && is_between (pos 0) (pos highest_rank) rank && list_all event_fits events

-- `sim [id,type,first_id,rank,[initial events]]`
abbrev pub with_sim : Plan → List Json → Result Plan ℕ
with_sim P (id ∷ type ∷ first ∷ rank ∷ events ∷ []) =
    tested misformed (text_in id)
    (λ i. tested misformed (text_in type)
    (λ t. tested misformed (whole_in first)
    (λ f. tested misformed (whole_in rank) (λ r. tested misformed (wholes_in events) (λ es.
    tested out_of_limits (kind_named t) (λ k.
    limited (sim_fits f r es)
    (record P {
      sims = P.sims
          ++ record { id = i; kind = k; first_id = nat_abs f; rank = nat_abs r; initial = es }
          ∷ [];
    })))))))
with_sim P _ = Err misformed

-- `model [sim,name,[attrs],any_inputs]`
abbrev pub with_model : Plan → List Json → Result Plan ℕ
with_model P (sim ∷ name ∷ attrs ∷ any ∷ []) =
    tested misformed (whole_in sim)
    (λ s. tested misformed (text_in name)
    (λ n. tested misformed (texts_in attrs) (λ ts. tested misformed (bool_in any) (λ a.
    limited (is_below (length P.sims) s)
    (record P {
      models = P.models
          ++ record { sim = record { 0 = nat_abs s }; name = n; attrs = ts; any_inputs = a } ∷ [];
    })))))
with_model P _ = Err misformed

abbrev pub entity_fits : ℕ → ℤ → List ℤ → Bool
entity_fits count model related = is_below count model && list_all (is_below most_entities) related

-- `entity [model,eid,[related]]`
abbrev pub with_entity : Plan → List Json → Result Plan ℕ
with_entity P (model ∷ eid ∷ related ∷ []) =
    tested misformed (whole_in model)
    (λ m. tested misformed (text_in eid) (λ e. tested misformed (wholes_in related) (λ rs.
    limited (entity_fits (length P.models) m rs)
    (record P {
      entities = P.entities
          ++ record { model = nat_abs m; eid = e; related = map nat_abs rs } ∷ [];
    }))))
with_entity P _ = Err misformed

-- how a connection delivers, in version 2 or in version 1, `[via,persistent,triggering,initial]`,
-- where its ends are read
abbrev pub with_way : Bool → Plan → ℤ → List ℕ → ℤ → List ℕ → List Json → Result Plan ℕ
with_way second P from from_attr to to_attr (via ∷ persistent ∷ triggering ∷ initial ∷ []) =
    tested misformed (way_in second via)
    (λ v. tested misformed (bool_in persistent)
    (λ p. tested misformed (bool_in triggering) (λ g. tested misformed (initial_in initial) (λ i.
    tested out_of_limits (via_of second v) (λ way.
    limited (is_below (length P.entities) from && is_below (length P.entities) to)
    (record P {
      conns = P.conns
          ++ record {
            from = nat_abs from;
            from_attr = from_attr;
            to = nat_abs to;
            to_attr = to_attr;
            via = way;
            persistent = p;
            triggering = g;
            initial = i;
          } ∷ [];
    }))))))
with_way second P from from_attr to to_attr _ = Err misformed

-- `conn [from,from_attr,to,to_attr,via,persistent,triggering,initial]`, of version 2 or of version
-- 1
abbrev pub with_conn : Bool → Plan → List Json → Result Plan ℕ
with_conn second P (from ∷ from_attr ∷ to ∷ to_attr ∷ way) =
    tested misformed (whole_in from)
    (λ f. tested misformed (text_in from_attr)
    (λ fa. tested misformed (whole_in to)
    (λ t. tested misformed (text_in to_attr) (λ ta. with_way second P f fa t ta way))))
with_conn second P _ = Err misformed

-- `async [from,to]`
abbrev pub with_async : Plan → List Json → Result Plan ℕ
with_async P (from ∷ to ∷ []) =
    tested misformed (whole_in from) (λ f. tested misformed (whole_in to) (λ t.
    limited (is_below (length P.sims) f && is_below (length P.sims) t)
    (record P {
      asyncs = P.asyncs
          ++ record { from = record { 0 = nat_abs f }; to = record { 0 = nat_abs t } } ∷ [];
    })))
with_async P _ = Err misformed

-- `got [sim,message]`
abbrev pub arrival_in : Plan → List Json → Result Arrival ℕ
arrival_in P (sim ∷ message ∷ []) =
    tested misformed (whole_in sim) (λ s. tested misformed (result_ok (message_in message)) (λ m.
    limited (is_below (length P.sims) s) (record { sim = nat_abs s; message = m })))
arrival_in P _ = Err misformed

abbrev pub step_fits : ℤ → ℤ → ℤ → Bool
step_fits time tier advance = is_between (pos 0) latest_end time
    && is_between (pos 0) (pos most_loops) tier && is_between (pos 0) latest_end advance

-- the step of a simulator, where so many messages came before, if its numbers are within their
-- limits
abbrev pub step_asked : ℕ → ℕ → ℤ → ℤ → ℤ → Result Asked ℕ
step_asked before sim time tier advance = limited (step_fits time tier advance)
    (record {
      before = before;
      sim = record { 0 = sim };
      at = record { time = time; tier = nat_abs tier };
      max_advance = advance;
    })

-- `ask [sim,time,tier,max_advance]`, where so many messages came before
abbrev pub asked_in : Plan → ℕ → List Json → Result Asked ℕ
asked_in P before (sim ∷ time ∷ tier ∷ advance ∷ []) =
    tested misformed (whole_in sim)
    (λ s. tested misformed (whole_in time)
    (λ t. tested misformed (whole_in tier) (λ k. tested misformed (whole_in advance) (λ a.
    if is_below (length P.sims) s then step_asked before (nat_abs s) t k a
    else Err out_of_limits))))
asked_in P before _ = Err misformed
