-- For proofs alone. What the lines of a record say is made of texts, and its messages may stand in
-- a line again.
use Rattle.std.proofs.Common.{◌≡◌, ℕ, ◌+◌, ◌&&◌, nat_le, ℤ, nat_abs, Bool, true, false, not, List, [], ◌∷◌, ◌++◌, length, map, Option, Some, None, is_none, refl, sym, ap, ◌∙◌, subst, arith, if◌then◌else◌}
use Rattle.std.specs.Prelude.{⊤, Result, Ok, Err, IfSome, codes}
use Rattle.std.specs.Result.{result_ok}
use Rattle.std.specs.List.{list_all, slice_split}
use Rattle.std.specs.Str.{is_utf8}
use Rattle.std.proofs.lemmas.Bool.{and_parts, and_from, leb-true}
use Rattle.mk_base.specs.declared.json.Json as tree
use Rattle.mk_base.specs.declared.json.Json.{Json}
use Rattle.mk_base.specs.declared.json.Json.TheVariants as v
use Rattle.mk_base.specs.Data.{IsDatumText}
use Rattle.mk_base.specs.Lists.{Each, same_text}
use Rattle.mk_base.specs.Texts.{text_of}
use Rattle.mk_base.specs.Trees.{bool_in, whole_in, text_in, items_in, is_whole, is_datum, is_in_range, nesting, value_depth, texts_in}
use Rattle.mk_base.proofs.Lists.{some_same, none_some}
use Rattle.mk_plan.specs.declared.Plan.{Plan}
use Rattle.mk_plan.specs.declared.PlanSim.{PlanSim}
use Rattle.mk_plan.specs.declared.PlanEntity.{PlanEntity}
use Rattle.mk_plan.specs.declared.Conn.{Conn}
use Rattle.mk_plan.specs.Journals.{Arrival}
use Rattle.mk_base.specs.Proper.{is_proper}
use Rattle.mk_base.specs.Names.{kind_named}
use Rattle.mk_json.proofs.LevelTests.{range-List, proper-List}
use Rattle.mk_message.specs.Messages.{message_in, tested}
use Rattle.mk_plan_check.specs.Tests.{first_bad}
use Rattle.mk_record_read.specs.declared.kinds.LineKind.{LineKind}
use Rattle.mk_record_read.specs.declared.kinds.LineKind.TheVariants.{Head, Run, Sim, Model, Entity, Conn as ConnLine, Async, Ask, Got, End}
use Rattle.mk_record_read.specs.declared.saved.Asked.{Asked}
use Rattle.mk_record_read.specs.Fields.{misformed, out_of_limits, limited, is_below, wholes_in, initial_in, way_in, via_of}
use Rattle.mk_record_read.specs.Lines.{with_run, run_fits, with_sim, sim_fits, with_model, with_entity, entity_fits, with_way, with_conn, with_async, arrival_in, asked_in}
use Rattle.mk_record_read.specs.Reading.{State, before_lines, Step, Going, Ended, Bad, Reading, Said, Faulty, planned, arrived, asked, items_read, end_step, with_part, is_second, steps_in, plan_step, head_step, part_step, kind_step, known_step, line_step, kind_of_word, word_of, rest_of, ends_plan, may_stand, invalid, closed, reading_from, reading, is_feed, is_number, miscounted}
use Rattle.std.specs.Fmt.{decimal}
use Rattle.mk_record_laws.specs.Again.{HasTexts, is_sayable, model_is_text, conn_is_text}
use Rattle.mk_record_laws.proofs.Trees.{IsSoundField, read_sound, items_are, text_utf8, texts_utf8}
use Rattle.mk_record_laws.proofs.Messages.{message_sayable}
use Rattle.mk_base.proofs.Items.{each_behind, list_all_push}
use Rattle.mk_record_read.proofs.Known.{ok-is}

-- ---- what a line's fields give

-- what is given passes
abbrev Passes : {Y : Type 0} → (Y → Type 0) → Result Y ℕ → Type 0
Passes Q (Ok y) = Q y
Passes Q (Err n) = ⊤

found_passes : {X Y : Type 0} (Q : Y → Type 0) (n : ℕ) (o : Option X) (f : X → Result Y ℕ) → ((x : X) → o ≡ Some x → Passes Q (f x)) → Passes Q (tested n o f)
found_passes Q n None f h = tt
found_passes Q n (Some x) f h = h x refl

limited_passes : {Y : Type 0} (Q : Y → Type 0) (b : Bool) (y : Y) → Q y → Passes Q (limited b y)
limited_passes Q true y h = h
limited_passes Q false y h = tt

run_passes : (P : Plan) (items : List Json) → HasTexts P → Passes HasTexts (with_run P items)
run_passes P [] h = tt
run_passes P (a ∷ []) h = tt
run_passes P (a ∷ b ∷ []) h = tt
run_passes P (until ∷ loops ∷ entries ∷ []) h =
    found_passes HasTexts misformed (whole_in until) _ (λ t _. found_passes HasTexts misformed (whole_in loops) _ (λ l _. found_passes HasTexts misformed (whole_in entries) _ (λ n _.
    limited_passes HasTexts (run_fits t l n) (record P { until = t; loops = nat_abs l; entries = nat_abs n }) (record { sims = h.sims; models = h.models; entities = h.entities; conns = h.conns; initials = h.initials }))))
run_passes P (a ∷ b ∷ c ∷ d ∷ more) h = tt

sim_passes : (P : Plan) (items : List Json) → Each IsSoundField items → HasTexts P → Passes HasTexts (with_sim P items)
sim_passes P [] s h = tt
sim_passes P (a ∷ []) s h = tt
sim_passes P (a ∷ b ∷ []) s h = tt
sim_passes P (a ∷ b ∷ c ∷ []) s h = tt
sim_passes P (a ∷ b ∷ c ∷ d ∷ []) s h = tt
sim_passes P (id ∷ type ∷ first ∷ rank ∷ events ∷ []) s h =
    found_passes HasTexts misformed (text_in id) _ (λ i is. found_passes HasTexts misformed (text_in type) _ (λ t _. found_passes HasTexts misformed (whole_in first) _ (λ f _. found_passes HasTexts misformed (whole_in rank) _ (λ r _. found_passes HasTexts misformed (wholes_in events) _ (λ es _.
    found_passes HasTexts out_of_limits (kind_named t) _ (λ k _.
    let sim : PlanSim = record { id = i; kind = k; first_id = nat_abs f; rank = nat_abs r; initial = es } in
    limited_passes HasTexts (sim_fits f r es) (record P { sims = P.sims ++ sim ∷ [] }) (record {
      sims = list_all_push (λ (s : PlanSim). is_utf8 s.id) P.sims sim h.sims (text_utf8 id i is s.0.proper);
      models = h.models;
      entities = h.entities;
      conns = h.conns;
      initials = h.initials;
    })))))))
sim_passes P (a ∷ b ∷ c ∷ d ∷ e ∷ f ∷ more) s h = tt

model_passes : (P : Plan) (items : List Json) → Each IsSoundField items → HasTexts P → Passes HasTexts (with_model P items)
model_passes P [] s h = tt
model_passes P (a ∷ []) s h = tt
model_passes P (a ∷ b ∷ []) s h = tt
model_passes P (a ∷ b ∷ c ∷ []) s h = tt
model_passes P (sim ∷ name ∷ attrs ∷ any ∷ []) s h =
    found_passes HasTexts misformed (whole_in sim) _ (λ z _. found_passes HasTexts misformed (text_in name) _ (λ n is. found_passes HasTexts misformed (texts_in attrs) _ (λ ts are. found_passes HasTexts misformed (bool_in any) _ (λ a _.
    limited_passes HasTexts (is_below (length P.sims) z) (record P { models = P.models ++ record { sim = record { 0 = nat_abs z }; name = n; attrs = ts; any_inputs = a } ∷ [] }) (record {
      sims = h.sims;
      models = list_all_push model_is_text P.models (record { sim = record { 0 = nat_abs z }; name = n; attrs = ts; any_inputs = a }) h.models (and_from _ _ (text_utf8 name n is s.1.0.proper) (texts_utf8 attrs ts are s.1.1.0.proper));
      entities = h.entities;
      conns = h.conns;
      initials = h.initials;
    })))))
model_passes P (a ∷ b ∷ c ∷ d ∷ e ∷ more) s h = tt

entity_passes : (P : Plan) (items : List Json) → Each IsSoundField items → HasTexts P → Passes HasTexts (with_entity P items)
entity_passes P [] s h = tt
entity_passes P (a ∷ []) s h = tt
entity_passes P (a ∷ b ∷ []) s h = tt
entity_passes P (model ∷ eid ∷ related ∷ []) s h =
    found_passes HasTexts misformed (whole_in model) _ (λ m _. found_passes HasTexts misformed (text_in eid) _ (λ e is. found_passes HasTexts misformed (wholes_in related) _ (λ rs _.
    limited_passes HasTexts (entity_fits (length P.models) m rs) (record P { entities = P.entities ++ record { model = nat_abs m; eid = e; related = map nat_abs rs } ∷ [] }) (record {
      sims = h.sims;
      models = h.models;
      entities = list_all_push (λ (e : PlanEntity). is_utf8 e.eid) P.entities (record { model = nat_abs m; eid = e; related = map nat_abs rs }) h.entities (text_utf8 eid e is s.1.0.proper);
      conns = h.conns;
      initials = h.initials;
    }))))
entity_passes P (a ∷ b ∷ c ∷ d ∷ more) s h = tt

-- the data in a list of at most one
listed_data : (js : List Json) (o : Option (List ℕ)) → list_all is_proper js ≡ true → list_all is_in_range js ≡ true → initial_in (tree.List js) ≡ Some o → IfSome o IsDatumText
listed_data [] o p r e =
    let here : initial_in (tree.List []) ≡ Some None = rw (v.outs-List []) refl in
    subst (λ (x : Option (List ℕ)). IfSome x IsDatumText) (some_same (sym here ∙ e)) tt
listed_data (value ∷ []) o p r e =
    let here : initial_in (tree.List (value ∷ [])) ≡ (if is_datum value then Some (Some (text_of value)) else None) = rw (v.outs-List (value ∷ [])) refl in
    by (is_datum value) refl (sym here ∙ e)
  where
    by : (b : Bool) → is_datum value ≡ b → (if b then Some (Some (text_of value)) else None) ≡ Some o → IfSome o IsDatumText
    by true is e =
        let q = and_parts (is_whole value) (nat_le (nesting value) value_depth) is in
        let low = leb-true (nesting value) value_depth q.1 in
        subst (λ (x : Option (List ℕ)). IfSome x IsDatumText) (some_same e) (record {
          tree = value;
          proper = (and_parts (is_proper value) true p).0;
          whole = q.0;
          in_range = (and_parts (is_in_range value) true r).0;
          deep = omega (arith, low);
          is = refl;
        })
    by false is e = absurd (none_some e)
listed_data (value ∷ more ∷ rest) o p r e =
    let none : initial_in (tree.List (value ∷ more ∷ rest)) ≡ None = rw (v.outs-List (value ∷ more ∷ rest)) refl in
    absurd (none_some (sym none ∙ e))

initial_data : (t : Json) (o : Option (List ℕ)) → IsSoundField t → initial_in t ≡ Some o → IfSome o IsDatumText
initial_data t o s e = by (items_in t) refl e
  where
    by : (q : Option (List Json)) → items_in t ≡ q → initial_in t ≡ Some o → IfSome o IsDatumText
    by None is e =
        let none : initial_in t ≡ None = rw is refl in
        absurd (none_some (sym none ∙ e))
    by (Some js) is e =
        let whole = items_are t js is in
        listed_data js o (sym (proper-List js) ∙ sym (ap is_proper whole) ∙ s.proper) (sym (range-List js) ∙ sym (ap is_in_range whole) ∙ s.in_range) (sym (ap initial_in whole) ∙ e)

way_passes : (second : Bool) (P : Plan) (from : ℤ) (from_attr : List ℕ) (to : ℤ) (to_attr : List ℕ) (way : List Json) → is_utf8 from_attr ≡ true → is_utf8 to_attr ≡ true → Each IsSoundField way → HasTexts P → Passes HasTexts (with_way second P from from_attr to to_attr way)
way_passes second P from from_attr to to_attr [] x y s h = tt
way_passes second P from from_attr to to_attr (a ∷ []) x y s h = tt
way_passes second P from from_attr to to_attr (a ∷ b ∷ []) x y s h = tt
way_passes second P from from_attr to to_attr (a ∷ b ∷ c ∷ []) x y s h = tt
way_passes second P from from_attr to to_attr (via ∷ persistent ∷ triggering ∷ initial ∷ []) x y s h =
    found_passes HasTexts misformed (way_in second via) _ (λ v _. found_passes HasTexts misformed (bool_in persistent) _ (λ p _. found_passes HasTexts misformed (bool_in triggering) _ (λ g _. found_passes HasTexts misformed (initial_in initial) _ (λ i is.
    found_passes HasTexts out_of_limits (via_of second v) _ (λ w _.
    let conn : Conn = record { from = nat_abs from; from_attr = from_attr; to = nat_abs to; to_attr = to_attr; via = w; persistent = p; triggering = g; initial = i } in
    limited_passes HasTexts (is_below (length P.entities) from && is_below (length P.entities) to) (record P { conns = P.conns ++ conn ∷ [] }) (record {
      sims = h.sims;
      models = h.models;
      entities = h.entities;
      conns = list_all_push conn_is_text P.conns conn h.conns (and_from _ _ x y);
      initials = each_behind (λ (c : Conn). IfSome c.initial IsDatumText) P.conns conn h.initials (initial_data initial i s.1.1.1.0 is);
    }))))))
way_passes second P from from_attr to to_attr (a ∷ b ∷ c ∷ d ∷ e ∷ more) x y s h = tt

conn_passes : (second : Bool) (P : Plan) (items : List Json) → Each IsSoundField items → HasTexts P → Passes HasTexts (with_conn second P items)
conn_passes second P [] s h = tt
conn_passes second P (a ∷ []) s h = tt
conn_passes second P (a ∷ b ∷ []) s h = tt
conn_passes second P (a ∷ b ∷ c ∷ []) s h = tt
conn_passes second P (from ∷ from_attr ∷ to ∷ to_attr ∷ way) s h =
    found_passes HasTexts misformed (whole_in from) _ (λ f _. found_passes HasTexts misformed (text_in from_attr) _ (λ fa is. found_passes HasTexts misformed (whole_in to) _ (λ t _. found_passes HasTexts misformed (text_in to_attr) _ (λ ta it.
    way_passes second P f fa t ta way (text_utf8 from_attr fa is s.1.0.proper) (text_utf8 to_attr ta it s.1.1.1.0.proper) s.1.1.1.1 h))))

async_passes : (P : Plan) (items : List Json) → HasTexts P → Passes HasTexts (with_async P items)
async_passes P [] h = tt
async_passes P (a ∷ []) h = tt
async_passes P (from ∷ to ∷ []) h =
    found_passes HasTexts misformed (whole_in from) _ (λ f _. found_passes HasTexts misformed (whole_in to) _ (λ t _.
    limited_passes HasTexts (is_below (length P.sims) f && is_below (length P.sims) t) (record P { asyncs = P.asyncs ++ record { from = record { 0 = nat_abs f }; to = record { 0 = nat_abs t } } ∷ [] }) (record { sims = h.sims; models = h.models; entities = h.entities; conns = h.conns; initials = h.initials })))
async_passes P (a ∷ b ∷ c ∷ more) h = tt

part_passes : (second : Bool) (kind : LineKind) (P : Plan) (items : List Json) → Each IsSoundField items → HasTexts P → Passes HasTexts (with_part second kind P items)
part_passes second Run P items s h = run_passes P items h
part_passes second Sim P items s h = sim_passes P items s h
part_passes second Model P items s h = model_passes P items s h
part_passes second Entity P items s h = entity_passes P items s h
part_passes second ConnLine P items s h = conn_passes second P items s h
part_passes second Async P items s h = async_passes P items h
part_passes second Head P items s h = tt
part_passes second Ask P items s h = tt
part_passes second Got P items s h = tt
part_passes second End P items s h = tt

-- ---- messages

abbrev pub CanBeSaid : Arrival → Type 0
CanBeSaid a = is_sayable a.message ≡ true

arrival_passes : (P : Plan) (items : List Json) → Each IsSoundField items → Passes CanBeSaid (arrival_in P items)
arrival_passes P [] s = tt
arrival_passes P (a ∷ []) s = tt
arrival_passes P (sim ∷ message ∷ []) s =
    found_passes CanBeSaid misformed (whole_in sim) _ (λ z _. found_passes CanBeSaid misformed (result_ok (message_in message)) _ (λ m is.
    limited_passes CanBeSaid (is_below (length P.sims) z) (record { sim = nat_abs z; message = m }) (message_sayable message m (ok-is (message_in message) m is) s.1.0)))
arrival_passes P (a ∷ b ∷ c ∷ more) s = tt

-- ---- line by line

-- the lines so far are made of texts
pub record IsMade (S : State) : Type 0 where
  pub texts : HasTexts S.plan
  pub messages : Each CanBeSaid S.arrivals

abbrev Keeps : Step → Type 0
Keeps (Going T) = IsMade T
Keeps Ended = ⊤
Keeps (Bad n) = ⊤

planned_keeps : (S : State) (kind : LineKind) (r : Result Plan ℕ) → IsMade S → Passes HasTexts r → Keeps (planned S kind r)
planned_keeps S kind (Ok P) made h = record { texts = h; messages = made.messages }
planned_keeps S kind (Err n) made h = tt

arrived_keeps : (S : State) (r : Result Arrival ℕ) → IsMade S → Passes CanBeSaid r → Keeps (arrived S r)
arrived_keeps S (Ok a) made h = record { texts = made.texts; messages = each_behind CanBeSaid S.arrivals a made.messages h }
arrived_keeps S (Err n) made h = tt

asked_keeps : (S : State) (steps : List Asked) (r : Result Asked ℕ) → IsMade S → Keeps (asked S steps r)
asked_keeps S steps (Ok a) made = record { texts = made.texts; messages = made.messages }
asked_keeps S steps (Err n) made = tt

either : (b : Bool) (x y : Step) → Keeps x → Keeps y → Keeps (if b then x else y)
either true x y h k = h
either false x y h k = k

plan_keeps : (S : State) (kind : LineKind) (text : List ℕ) → IsMade S → Keeps (plan_step S kind text)
plan_keeps S kind text made = planned_keeps S kind (tested misformed (items_read text) (with_part (is_second S) kind S.plan)) made
    (found_passes HasTexts misformed (items_read text) (with_part (is_second S) kind S.plan) (λ items is. part_passes (is_second S) kind S.plan items (read_sound text items is) made.texts))

head_keeps : (S : State) (text : List ℕ) → IsMade S → Keeps (head_step S text)
head_keeps S text made = either (same_text text (codes "1")) (Going (record S { last = 1; asks = None })) _ (record { texts = made.texts; messages = made.messages })
    (either (same_text text (codes "2")) (Going (record S { last = 1; asks = Some [] })) (Bad misformed) (record { texts = made.texts; messages = made.messages }) tt)

end_keeps : (n : ℕ) (text : List ℕ) → Keeps (end_step n text)
end_keeps n text = either (same_text text (decimal n)) Ended _ tt (either (is_number text) (Bad miscounted) (Bad misformed) tt tt)

part_keeps : (S : State) (kind : LineKind) (text : List ℕ) → IsMade S → Keeps (part_step S kind text)
part_keeps S Head text made = head_keeps S text made
part_keeps S Run text made = plan_keeps S Run text made
part_keeps S Sim text made = plan_keeps S Sim text made
part_keeps S Model text made = plan_keeps S Model text made
part_keeps S Entity text made = plan_keeps S Entity text made
part_keeps S ConnLine text made = plan_keeps S ConnLine text made
part_keeps S Async text made = plan_keeps S Async text made
part_keeps S Ask text made = asked_keeps S (steps_in S) (tested misformed (items_read text) (asked_in S.plan (length S.arrivals))) made
part_keeps S Got text made = arrived_keeps S (tested misformed (items_read text) (arrival_in S.plan)) made
    (found_passes CanBeSaid misformed (items_read text) (arrival_in S.plan) (λ items is. arrival_passes S.plan items (read_sound text items is)))
part_keeps S End text made = end_keeps (length S.arrivals + length (steps_in S)) text

kind_keeps : (S : State) (kind : LineKind) (text : List ℕ) → IsMade S → Keeps (kind_step S kind text)
kind_keeps S kind text made = either (ends_plan S.last kind && not (is_none (first_bad S.plan))) (Bad invalid) _ tt (either (may_stand S.last kind) (part_step S kind text) (Bad misformed) (part_keeps S kind text made) tt)

known_keeps : (S : State) (o : Option LineKind) (text : List ℕ) → IsMade S → Keeps (known_step S o text)
known_keeps S None text made = tt
known_keeps S (Some kind) text made = kind_keeps S kind text made

line_keeps : (S : State) (line : List ℕ) → IsMade S → Keeps (line_step S line)
line_keeps S line made = known_keeps S (kind_of_word (is_second S) (word_of line)) (rest_of line) made

-- what is said is made of texts
pub record IsSaidWell (P : Plan) (A : List Arrival) : Type 0 where
  pub texts : HasTexts P
  pub messages : Each CanBeSaid A

abbrev Gives : Reading → Type 0
Gives (Said P A steps) = IsSaidWell P A
Gives (Faulty line n) = ⊤

closed_gives : (S : State) (line : ℕ) (pieces : List (List ℕ)) → IsMade S → Gives (closed S line pieces)
closed_gives S line [] made = tt
closed_gives S line ([] ∷ []) made = record { texts = made.texts; messages = made.messages }
closed_gives S line ([] ∷ piece ∷ pieces) made = tt
closed_gives S line ((b ∷ bs) ∷ pieces) made = tt

reading_gives : (S : State) (line : ℕ) (pieces : List (List ℕ)) → IsMade S → Gives (reading_from S line pieces)
reading_gives S line [] made = tt
reading_gives S line (piece ∷ []) made = tt
reading_gives S line (piece ∷ next ∷ pieces) made = by (line_step S piece) (line_keeps S piece made) (λ T m. reading_gives T (line + 1) (next ∷ pieces) m)
  where
    by : (step : Step) → Keeps step → ((T : State) → IsMade T → Gives (reading_from T (line + 1) (next ∷ pieces))) → Gives (elim step [ Going T ↦ reading_from T (line + 1) (next ∷ pieces) | Ended ↦ closed S line (next ∷ pieces) | Bad n ↦ Faulty line n ])
    by (Going T) keeps more = more T keeps
    by Ended keeps more = closed_gives S line (next ∷ pieces) made
    by (Bad n) keeps more = tt

-- what a record says is made of texts
pub said_well : (bytes : List ℕ) (P : Plan) (A : List Arrival) (steps : Option (List Asked)) → reading bytes ≡ Said P A steps → IsSaidWell P A
said_well bytes P A steps e = subst Gives e (reading_gives before_lines 1 (slice_split is_feed bytes) (record { texts = record { sims = refl; models = refl; entities = refl; conns = refl; initials = tt }; messages = tt }))
