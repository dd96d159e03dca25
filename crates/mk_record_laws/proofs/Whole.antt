-- For proofs alone. A whole record, read again as what it was written of.
use Rattle.std.proofs.Common.{◌≡◌, ℕ, ◌≤◌, ◌&&◌, nat_le, nat_lt, pos, Bool, true, List, [], ◌∷◌, ◌++◌, length, flat_map, Some, None, refl, sym, ap, ◌∙◌, arith, append_assoc, int_le}
use Rattle.std.specs.Prelude.{codes, IfSome}
use Rattle.std.specs.List.{list_all, slice_split}
use Rattle.std.specs.Str.{is_utf8}
use Rattle.std.specs.Fmt.{decimal}
use Rattle.std.proofs.lemmas.Bool.{and_parts, ltb-true, leb-true}
use Rattle.mk_base.specs.Data.{IsDatumText}
use Rattle.mk_base.specs.Lists.{Each}
use Rattle.mk_base.proofs.Lists.{append_nil}
use Rattle.mk_plan.specs.declared.Plan.{Plan}
use Rattle.mk_plan.specs.declared.PlanSim.{PlanSim}
use Rattle.mk_plan.specs.declared.PlanModel.{PlanModel}
use Rattle.mk_plan.specs.declared.PlanEntity.{PlanEntity}
use Rattle.mk_plan.specs.declared.Conn.{Conn}
use Rattle.mk_plan.specs.declared.AsyncPair.{AsyncPair}
use Rattle.mk_plan.specs.declared.Entry.{Entry}
use Rattle.mk_plan.specs.Journals.{Arrival, arrivals}
use Rattle.mk_plan_check.specs.Tests as tests
use Rattle.mk_plan_check.specs.Tests.{first_bad}
use Rattle.mk_plan_check.proofs.Meaning.{is_valid, from_well_formed}
use Rattle.mk_record_read.specs.Entries.{RecordEntry, entries_of}
use Rattle.mk_record_read.specs.Reading.{State, Said, is_feed, reading, reading_from, before_lines}
use Rattle.mk_record_read.specs.Texts.{record_text, plan_text, run_line, sim_line, model_line, entity_line, conn_line, async_line, entry_line}
use Rattle.mk_record_read.proofs.Splitting.{reads_end}
use Rattle.mk_record_laws.specs.Again.{IsRecordable, model_is_text, conn_is_text, steps_of, steps_after}
use Rattle.mk_record_laws.proofs.Clean.{clean-append, clean-decimal}
use Rattle.mk_record_laws.proofs.Lines.{state, Reads, joined, cut_line, a_line, begun, no_plan, run_read, SimFits, with_sims, sim_read, ModelFits, with_models, model_read, EntityFits, with_entities, entity_read, ConnFits, with_conns, conn_read, PairFits, with_asyncs, async_read, reads_parts, stands}
use Rattle.mk_record_laws.proofs.Entries.{said, arrivals_said, counted, reads_entries, end_read}
use Rattle.mk_base.specs.Limits.{latest_end}

-- ---- what is known of the parts of a valid plan

sims_fit : (ss : List PlanSim) → list_all tests.sim_fits ss ≡ true → list_all (λ (s : PlanSim). is_utf8 s.id) ss ≡ true → Each SimFits ss
sims_fit [] h t = tt
sims_fit (s ∷ ss) h t =
    let p = and_parts (tests.sim_fits s) (list_all tests.sim_fits ss) h in
    let q = and_parts (nat_le s.rank 199 && nat_le s.first_id 1000000) (list_all tests.event_fits s.initial) p.0 in
    let r = and_parts (nat_le s.rank 199) (nat_le s.first_id 1000000) q.0 in
    let u = and_parts (is_utf8 s.id) (list_all (λ (s : PlanSim). is_utf8 s.id) ss) t in
    (record { rank = leb-true s.rank 199 r.0; first_id = leb-true s.first_id 1000000 r.1; events = q.1; text = u.0 }, sims_fit ss p.1 u.1)

models_fit : (n : ℕ) (ms : List PlanModel) → list_all (λ (m : PlanModel). nat_lt m.sim.0 n) ms ≡ true → list_all model_is_text ms ≡ true → Each (ModelFits n) ms
models_fit n [] h t = tt
models_fit n (m ∷ ms) h t =
    let p = and_parts (nat_lt m.sim.0 n) (list_all (λ (m : PlanModel). nat_lt m.sim.0 n) ms) h in
    let u = and_parts (model_is_text m) (list_all model_is_text ms) t in
    (record { sim = ltb-true m.sim.0 n p.0; texts = u.0 }, models_fit n ms p.1 u.1)

entities_fit : (P : Plan) (es : List PlanEntity) → list_all (tests.entity_refers P) es ≡ true → list_all (λ (e : PlanEntity). is_utf8 e.eid) es ≡ true → Each (EntityFits (length P.models) (length P.entities)) es
entities_fit P [] h t = tt
entities_fit P (e ∷ es) h t =
    let p = and_parts (tests.entity_refers P e) (list_all (tests.entity_refers P) es) h in
    let q = and_parts (nat_lt e.model (length P.models)) (list_all (λ (r : ℕ). nat_lt r (length P.entities)) e.related) p.0 in
    let u = and_parts (is_utf8 e.eid) (list_all (λ (e : PlanEntity). is_utf8 e.eid) es) t in
    (record { model = ltb-true e.model (length P.models) q.0; related = q.1; text = u.0 }, entities_fit P es p.1 u.1)

conns_fit : (P : Plan) (cs : List Conn) → list_all (tests.conn_refers P) cs ≡ true → list_all (λ (c : Conn). tests.width_fits c.via) cs ≡ true → list_all conn_is_text cs ≡ true → Each (λ (c : Conn). IfSome c.initial IsDatumText) cs → list_all (λ (c : Conn). tests.initial_fits c.initial) cs ≡ true
    → Each (ConnFits (length P.entities)) cs
conns_fit P [] h w t i d = tt
conns_fit P (c ∷ cs) h w t i d =
    let p = and_parts (tests.conn_refers P c) (list_all (tests.conn_refers P) cs) h in
    let q = and_parts (nat_lt c.from (length P.entities)) (nat_lt c.to (length P.entities)) p.0 in
    let v = and_parts (tests.width_fits c.via) (list_all (λ (c : Conn). tests.width_fits c.via) cs) w in
    let u = and_parts (conn_is_text c) (list_all conn_is_text cs) t in
    let e = and_parts (tests.initial_fits c.initial) (list_all (λ (c : Conn). tests.initial_fits c.initial) cs) d in
    (record { from = ltb-true c.from (length P.entities) q.0; to = ltb-true c.to (length P.entities) q.1; width = v.0; texts = u.0; initial = i.0; shallow = e.0 }, conns_fit P cs p.1 v.1 u.1 i.1 e.1)

pairs_fit : (P : Plan) (ps : List AsyncPair) → list_all (tests.pair_refers P) ps ≡ true → Each (PairFits (length P.sims)) ps
pairs_fit P [] h = tt
pairs_fit P (a ∷ ps) h =
    let p = and_parts (tests.pair_refers P a) (list_all (tests.pair_refers P) ps) h in
    let q = and_parts (nat_lt a.from.0 (length P.sims)) (nat_lt a.to.0 (length P.sims)) p.0 in
    (record { from = ltb-true a.from.0 (length P.sims) q.0; to = ltb-true a.to.0 (length P.sims) q.1 }, pairs_fit P ps p.1)

-- the tests of a valid plan, one by one
record Tested (P : Plan) : Type 0 where
  until : (int_le (pos 1) P.until && int_le P.until latest_end) ≡ true
  loops : (1 ≤ P.loops) × (P.loops ≤ 1000)
  entries : (1 ≤ P.entries) × (P.entries ≤ 20000000)
  some : 1 ≤ length P.sims
  few : length P.sims ≤ 200
  entity_count : length P.entities ≤ 10000
  sims : list_all tests.sim_fits P.sims ≡ true
  initials : list_all (λ (c : Conn). tests.initial_fits c.initial) P.conns ≡ true
  widths : list_all (λ (c : Conn). tests.width_fits c.via) P.conns ≡ true
  models : list_all (λ (m : PlanModel). nat_lt m.sim.0 (length P.sims)) P.models ≡ true
  entities : list_all (tests.entity_refers P) P.entities ≡ true
  conns : list_all (tests.conn_refers P) P.conns ≡ true
  asyncs : list_all (tests.pair_refers P) P.asyncs ≡ true

tested : (P : Plan) → tests.is_well_formed P ≡ true → Tested P
tested P wf =
    let a = and_parts (tests.is_within_limits P && tests.refers_inside P) (tests.has_distinct_names P) wf in
    let b = and_parts (tests.is_within_limits P) (tests.refers_inside P) a.0 in
    let inits : Bool = list_all (λ (c : Conn). tests.initial_fits c.initial) P.conns in
    let widths : Bool = list_all (λ (c : Conn). tests.width_fits c.via) P.conns in
    let sims : Bool = list_all tests.sim_fits P.sims in
    let c = and_parts ((((tests.numbers_fit P && tests.sizes_fit P) && sims) && tests.models_fit P) && inits) widths b.0 in
    let d = and_parts (((tests.numbers_fit P && tests.sizes_fit P) && sims) && tests.models_fit P) inits c.0 in
    let e = and_parts ((tests.numbers_fit P && tests.sizes_fit P) && sims) (tests.models_fit P) d.0 in
    let f = and_parts (tests.numbers_fit P && tests.sizes_fit P) sims e.0 in
    let g = and_parts (tests.numbers_fit P) (tests.sizes_fit P) f.0 in
    let u : Bool = int_le (pos 1) P.until && int_le P.until latest_end in
    let h = and_parts ((((u && nat_le 1 P.loops) && nat_le P.loops 1000)) && nat_le 1 P.entries) (nat_le P.entries 20000000) g.0 in
    let i = and_parts ((u && nat_le 1 P.loops) && nat_le P.loops 1000) (nat_le 1 P.entries) h.0 in
    let j = and_parts (u && nat_le 1 P.loops) (nat_le P.loops 1000) i.0 in
    let k = and_parts u (nat_le 1 P.loops) j.0 in
    let l = and_parts ((nat_le 1 (length P.sims) && nat_le (length P.sims) 200) && nat_le (length P.entities) 10000) (nat_le (length P.conns) 100000) g.1 in
    let m = and_parts (nat_le 1 (length P.sims) && nat_le (length P.sims) 200) (nat_le (length P.entities) 10000) l.0 in
    let n = and_parts (nat_le 1 (length P.sims)) (nat_le (length P.sims) 200) m.0 in
    let models : Bool = list_all (λ (m : PlanModel). nat_lt m.sim.0 (length P.sims)) P.models in
    let entities : Bool = list_all (tests.entity_refers P) P.entities in
    let conns : Bool = list_all (tests.conn_refers P) P.conns in
    let asyncs : Bool = list_all (tests.pair_refers P) P.asyncs in
    let o = and_parts ((models && entities) && conns) asyncs b.1 in
    let p = and_parts (models && entities) conns o.0 in
    let q = and_parts models entities p.0 in
    record {
      until = k.0;
      loops = (leb-true 1 P.loops k.1, leb-true P.loops 1000 j.1);
      entries = (leb-true 1 P.entries i.1, leb-true P.entries 20000000 h.1);
      some = leb-true 1 (length P.sims) n.0;
      few = leb-true (length P.sims) 200 n.1;
      entity_count = leb-true (length P.entities) 10000 m.1;
      sims = f.1;
      initials = d.1;
      widths = c.1;
      models = q.0;
      entities = q.1;
      conns = p.1;
      asyncs = o.1;
    }

-- ---- the lines of a plan

sims_read : (P : Plan) (ss : List PlanSim) → 1 ≤ length ss → Each SimFits ss → (l : ℕ) × (3 ≤ l) × (l ≤ 3) × Reads (state 2 (with_sims P []) [] []) (flat_map sim_line ss) (state l (with_sims P ss) [] [])
sims_read P [] some fits = absurd (omega arith)
sims_read P (s ∷ ss) some fits =
    let r = reads_parts SimFits sim_line (with_sims P) 3 (omega arith) (λ last done x a b f. sim_read P last done x (stands last 3 a b) f) ss (s ∷ []) 3 (omega arith) (omega arith) fits.1 in
    (r.0, r.1, r.2, joined (state 2 (with_sims P []) [] []) (state 3 (with_sims P (s ∷ [])) [] []) (state r.0 (with_sims P (s ∷ ss)) [] []) (sim_line s) (flat_map sim_line ss) (sim_read P 2 [] s refl fits.0) r.3)

plan_read : (P : Plan) (J : List Entry) → IsRecordable P J → Tested P → (l : ℕ) × (3 ≤ l) × (l ≤ 8) × Reads before_lines (plan_text P) (state l P [] [])
plan_read P J ok t =
    let head : Reads before_lines (codes "mosaikrun 2\n") (state 1 no_plan [] []) = a_line before_lines (state 1 no_plan [] []) (codes "mosaikrun 2") refl refl in
    let run : Reads (state 1 no_plan [] []) (run_line P) (state 2 (begun P) [] []) = run_read P t.until t.loops.0 t.loops.1 t.entries.0 t.entries.1 in
    let sims = sims_read P P.sims t.some (sims_fit P.sims t.sims ok.texts.sims) in
    let models = reads_parts (ModelFits (length P.sims)) model_line (with_models P) 4 (omega arith) (λ last done x a b f. model_read P t.few last done x a b f) P.models [] sims.0 sims.1 (let h = sims.2 in omega arith) (models_fit (length P.sims) P.models t.models ok.texts.models) in
    let entities = reads_parts (EntityFits (length P.models) (length P.entities)) entity_line (with_entities P) 5 (omega arith) (λ last done x a b f. entity_read P (length P.entities) t.entity_count ok.models last done x a b f) P.entities [] models.0 models.1
    (let h = models.2 in omega arith) (entities_fit P P.entities t.entities ok.texts.entities) in
    let conns = reads_parts (ConnFits (length P.entities)) conn_line (with_conns P) 6 (omega arith) (λ last done x a b f. conn_read P t.entity_count last done x a b f) P.conns [] entities.0 entities.1
    (let h = entities.2 in omega arith) (conns_fit P P.conns t.conns t.widths ok.texts.conns ok.texts.initials t.initials) in
    let asyncs = reads_parts (PairFits (length P.sims)) async_line (with_asyncs P) 7 (omega arith) (λ last done x a b f. async_read P t.few last done x a b f) P.asyncs [] conns.0 conns.1 (let h = conns.2 in omega arith) (pairs_fit P P.asyncs t.asyncs) in
    let S1 : State = state 1 no_plan [] [] in
    let S2 : State = state 2 (begun P) [] [] in
    let S3 : State = state sims.0 (with_sims P P.sims) [] [] in
    let S4 : State = state models.0 (with_models P P.models) [] [] in
    let S5 : State = state entities.0 (with_entities P P.entities) [] [] in
    let S6 : State = state conns.0 (with_conns P P.conns) [] [] in
    let S7 : State = state asyncs.0 P [] [] in
    let t1 : List ℕ = codes "mosaikrun 2\n" in
    let t2 : List ℕ = t1 ++ run_line P in
    let t3 : List ℕ = t2 ++ flat_map sim_line P.sims in
    let t4 : List ℕ = t3 ++ flat_map model_line P.models in
    let t5 : List ℕ = t4 ++ flat_map entity_line P.entities in
    let t6 : List ℕ = t5 ++ flat_map conn_line P.conns in (
      asyncs.0,
      asyncs.1,
      (let h = asyncs.2 in omega arith),
      joined before_lines S6 S7 t6 (flat_map async_line P.asyncs)
          (joined before_lines S5 S6 t5 (flat_map conn_line P.conns)
          (joined before_lines S4 S5 t4 (flat_map entity_line P.entities)
          (joined before_lines S3 S4 t3 (flat_map model_line P.models)
          (joined before_lines S2 S3 t2 (flat_map sim_line P.sims)
          (joined before_lines S1 S2 t1 (run_line P) head run) sims.3) models.3) entities.3) conns.3) asyncs.3,
    )

-- ---- the whole

-- the end of a record, put behind what stands before it
behind : (before word number feed : List ℕ) → before ++ word ++ number ++ feed ≡ before ++ (((word ++ number) ++ feed) ++ [])
behind before word number feed =
    append_assoc (before ++ word) number feed ∙ append_assoc before word (number ++ feed)
    ∙ ap (λ l. before ++ l) (sym (append_assoc word number feed) ∙ sym (append_nil ((word ++ number) ++ feed)))

-- the record of a plan and of a journal, read again
pub read_again : (P : Plan) (J : List Entry) → IsRecordable P J → reading (record_text P J) ≡ Said P (arrivals J) (Some (steps_of J))
read_again P J ok =
    let t = tested P (from_well_formed P ok.valid.well_formed) in
    let valid : first_bad P ≡ None = is_valid P ok.valid in
    let plan = plan_read P J ok t in
    let es : List RecordEntry = entries_of J in
    let entries = reads_entries P valid t.few es plan.0 [] [] plan.1 plan.2 ok.entries in
    let S : State = state plan.0 P [] [] in
    let U : State = state entries.0 P (said es) (steps_after 0 es) in
    let text : List ℕ = plan_text P ++ flat_map entry_line es in
    let whole : Reads before_lines text U = joined before_lines S U (plan_text P) (flat_map entry_line es) plan.3 entries.3 in
    let number : List ℕ = decimal (length es) in
    let end : List ℕ = codes "end " ++ number in
    let last = whole 1 ((end ++ codes "\n") ++ []) in
    ap (λ l. reading_from before_lines 1 (slice_split is_feed l)) (behind text (codes "end ") number (codes "\n"))
    ∙ last.1
    ∙ ap (reading_from U last.0) (cut_line end [] (clean-append (codes "end ") number refl (clean-decimal (length es) ok.count)))
    ∙ reads_end U last.0 end [] (end_read P valid entries.0 (said es) (steps_after 0 es) (length es) entries.1 entries.2 (counted 0 es)) refl
    ∙ ap (λ (A : List Arrival). Said P A (Some (steps_of J))) (sym (arrivals_said J))
