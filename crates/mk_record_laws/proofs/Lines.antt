-- For proofs alone. Each line of a plan, read again as what it was written of.
use Rattle.std.proofs.Common.{◌≡◌, ℕ, ◌+◌, ◌^◌, ◌<◌, ◌≤◌, ◌==◌, ◌&&◌, nat_le, nat_lt, ℤ, pos, negsuc, Bool, true, false, cond, List, [], ◌∷◌, ◌++◌, length, map, flat_map, Option, Some, None, refl, sym, ap, ◌∙◌, subst, arith, append_assoc}
use Rattle.std.specs.Prelude.{not, codes, is_none, Ok, IfSome}
use Rattle.std.specs.List.{list_all, slice_split, onto_first}
use Rattle.std.specs.Str.{is_utf8, chars}
use Rattle.std.specs.Fmt.{decimal, signed_decimal}
use Rattle.std.proofs.lemmas.Bool.{and_parts, and_from, ltb-true, leb-true}
use Rattle.std.proofs.lemmas.Int.{ints}
use Rattle.mk_base.specs.declared.SimKind.{SimKind}
use Rattle.mk_base.specs.declared.SimKind.TheVariants.{TimeBased, EventBased, Hybrid}
use Rattle.mk_base.specs.declared.tier.Via.{Via}
use Rattle.mk_base.specs.declared.tier.Via.TheVariants.{Plain, Shift, Weak}
use Rattle.mk_base.specs.declared.json.Json as tree
use Rattle.mk_base.specs.declared.json.Json.{Json}
use Rattle.mk_base.specs.Lists.{Each}
use Rattle.mk_base.specs.Texts.{quoted, list_text, text_of}
use Rattle.mk_base.specs.Data.{IsDatumText}
use Rattle.mk_base.specs.Trees.{in_range, is_whole, is_datum, nesting, value_depth}
use Rattle.mk_base.proofs.Lists.{append_nil}
use Rattle.mk_base.specs.Names.{kind_named, kind_name}
use Rattle.mk_plan.specs.declared.Plan.{Plan}
use Rattle.mk_plan.specs.declared.PlanSim.{PlanSim}
use Rattle.mk_plan.specs.declared.PlanModel.{PlanModel}
use Rattle.mk_plan.specs.declared.PlanEntity.{PlanEntity}
use Rattle.mk_plan.specs.declared.Conn.{Conn}
use Rattle.mk_plan.specs.declared.AsyncPair.{AsyncPair}
use Rattle.mk_plan.specs.Journals.{Arrival}
use Rattle.mk_json.proofs.Layers.{folded-Bool}
use Rattle.mk_plan_check.specs.Nesting.{nesting_of}
use Rattle.mk_plan_check.specs.Tests as tests
use Rattle.mk_plan_check.specs.Tests.{first_bad}
use Rattle.mk_plan_check.proofs.Scanning.{nesting_is}
use Rattle.mk_message.specs.Messages.{tested}
use Rattle.mk_record_read.specs.declared.kinds.LineKind.{LineKind}
use Rattle.mk_record_read.specs.declared.kinds.LineKind.TheVariants as kinds
use Rattle.mk_record_read.specs.declared.saved.Asked.{Asked}
use Rattle.mk_record_read.specs.Fields.{misformed, is_between, is_below, way_in, via_of, initial_in}
use Rattle.mk_record_read.specs.Lines as lines
use Rattle.mk_record_read.specs.Lines.{with_run, with_sim, with_model, with_entity, with_conn, with_async}
use Rattle.mk_record_read.specs.Reading.{State, Going, Bad, invalid, is_feed, line_step, kind_step, part_step, plan_step, planned, with_part, place, may_stand, ends_plan, items_read, reading_from}
use Rattle.mk_record_read.specs.Texts.{via_text, bool_text, initial_text, run_line, sim_line, model_line, entity_line, conn_line, async_line}
use Rattle.mk_record_read.proofs.Splitting.{reads_on}
use Rattle.mk_record_laws.specs.Again.{model_is_text, conn_is_text}
use Rattle.mk_record_laws.proofs.Clean.{clean, all_clean, clean-append, clean-text}
use Rattle.mk_record_laws.proofs.Fields.{Field, text_field, whole_field, bool_field, list_field, natural_field, text_fields, text_of_list, bool_of, read_items, cons_same, quoted_is, signed_is, decimal_is, list_is, wholes, naturals, texts, signed_each, decimal_each, quoted_each, wholes_there, naturals_there, texts_there, same_naturals}
use Rattle.mk_base.specs.Limits.{latest_end}
use Rattle.mk_base.proofs.Bools.{and_false}
use Rattle.mk_base.proofs.Views.{items_in_list, text_in_text, whole_in_whole}

-- what stands in the lines so far, in version 2
abbrev pub state : ℕ → Plan → List Arrival → List Asked → State
state last P A steps = record { last = last; plan = P; arrivals = A; asks = Some steps }

-- a text is read from one state to another, whatever stands after it
abbrev pub Reads : State → List ℕ → State → Type 0
Reads S text T = (n : ℕ) (rest : List ℕ) → (m : ℕ) × (reading_from S n (slice_split is_feed (text ++ rest)) ≡ reading_from T m (slice_split is_feed rest))

pub nothing : (S : State) → Reads S [] S
nothing S n rest = (n, refl)

pub joined : (S T U : State) (a b : List ℕ) → Reads S a T → Reads T b U → Reads S (a ++ b) U
joined S T U a b f g n rest =
    let p = f n (b ++ rest) in
    let q = g p.0 rest in
    (q.0, ap (λ l. reading_from S n (slice_split is_feed l)) (append_assoc a b rest) ∙ p.1 ∙ q.1)

not_is : (b : Bool) → not b ≡ true → b ≡ false
not_is true h = cc
not_is false h = refl

-- a line without a line feed in it is cut off whole
pub cut_line : (line rest : List ℕ) → all_clean line ≡ true → slice_split is_feed ((line ++ codes "\n") ++ rest) ≡ line ∷ slice_split is_feed rest
cut_line [] rest h = refl
cut_line (b ∷ line) rest h =
    let p = and_parts (clean b) (all_clean line) h in
    ap (λ c. cond c ([] ∷ slice_split is_feed ((line ++ codes "\n") ++ rest)) (onto_first b (slice_split is_feed ((line ++ codes "\n") ++ rest)))) (not_is (is_feed b) p.0) ∙ ap (onto_first b) (cut_line line rest p.1)

pub a_line : (S T : State) (line : List ℕ) → all_clean line ≡ true → line_step S line ≡ Going T → Reads S (line ++ codes "\n") T
a_line S T line h e n rest = (n + 1, ap (reading_from S n) (cut_line line rest h) ∙ reads_on S T n line rest e)

-- the tests of a line of the plan
pub plan_kind : (last : ℕ) (P : Plan) (A : List Arrival) (steps : List Asked) (kind : LineKind) (text : List ℕ) → nat_le 8 (place kind) ≡ false → may_stand last kind ≡ true
    → kind_step (state last P A steps) kind text ≡ part_step (state last P A steps) kind text
plan_kind last P A steps kind text early may =
    ap (λ b. cond (b && not (is_none (first_bad P))) (Bad invalid) (cond (may_stand last kind) (part_step (state last P A steps) kind text) (Bad misformed))) (ap (λ b. nat_lt last 8 && b) early ∙ and_false (nat_lt last 8))
    ∙ ap (λ b. cond b (part_step (state last P A steps) kind text) (Bad misformed)) may

-- those of a line behind a valid plan
pub entry_kind : (last : ℕ) (P : Plan) (A : List Arrival) (steps : List Asked) (kind : LineKind) (text : List ℕ) → first_bad P ≡ None → may_stand last kind ≡ true
    → kind_step (state last P A steps) kind text ≡ part_step (state last P A steps) kind text
entry_kind last P A steps kind text valid may =
    ap (λ b. cond b (Bad invalid) (cond (may_stand last kind) (part_step (state last P A steps) kind text) (Bad misformed))) (ap (λ o. ends_plan last kind && not (is_none o)) valid ∙ and_false (ends_plan last kind))
    ∙ ap (λ b. cond b (part_step (state last P A steps) kind text) (Bad misformed)) may

pub stands : (last p : ℕ) → 3 ≤ last → last ≤ p → cond (nat_lt last 3) (p == last + 1) (nat_le last p) ≡ true
stands last p low high = grind arith

-- no line feed is in a line of these fields
pub clean_line : (word : List ℕ) (fields : List (List ℕ)) (ts : List Json) → all_clean word ≡ true → fields ≡ map text_of ts → Each (Field 126) ts → all_clean (word ++ list_text fields) ≡ true
clean_line word fields ts bare are each = clean-append word (list_text fields) bare (ap all_clean (list_is ts fields are) ∙ clean-text (tree.List ts) (list_field 126 ts each).ranges)

a_plan_line : (last : ℕ) (P Q : Plan) (kind : LineKind) (fields : List (List ℕ)) (ts : List Json) → fields ≡ map text_of ts → Each (Field 126) ts → with_part true kind P ts ≡ Ok Q
    → plan_step (state last P [] []) kind (list_text fields) ≡ Going (state (place kind) Q [] [])
a_plan_line last P Q kind fields ts are each ok =
    ap (λ o. planned (state last P [] []) kind (tested misformed o (with_part true kind P))) (ap (λ fs. items_read (list_text fs)) are ∙ read_items ts each) ∙ ap (planned (state last P [] []) kind) ok

-- a line of the plan
a_part : (last : ℕ) (P Q : Plan) (kind : LineKind) (word : List ℕ) (fields : List (List ℕ)) (ts : List Json) → all_clean word ≡ true → ((S : State) (X : List ℕ) → line_step S (word ++ X) ≡ kind_step S kind X)
    → ((S : State) (X : List ℕ) → part_step S kind X ≡ plan_step S kind X) → nat_le 8 (place kind) ≡ false → may_stand last kind ≡ true → fields ≡ map text_of ts → Each (Field 126) ts → with_part true kind P ts ≡ Ok Q
    → Reads (state last P [] []) (word ++ list_text fields ++ codes "\n") (state (place kind) Q [] [])
a_part last P Q kind word fields ts bare named part early may are each ok =
    a_line (state last P [] []) (state (place kind) Q [] []) (word ++ list_text fields) (clean_line word fields ts bare are each)
    (named (state last P [] []) (list_text fields) ∙ plan_kind last P [] [] kind (list_text fields) early may ∙ part (state last P [] []) (list_text fields) ∙ a_plan_line last P Q kind fields ts are each ok)

bool_is : (b : Bool) → bool_text b ≡ text_of (tree.Bool b)
bool_is b = sym (folded-Bool _ _ b)

-- ---- numbers within their limits

between : (n k : ℕ) → n ≤ k → is_between (pos 0) (pos k) (pos n) ≡ true
between n k h = grind (arith, ints)

between_from_1 : (n k : ℕ) → 1 ≤ n → n ≤ k → is_between (pos 1) (pos k) (pos n) ≡ true
between_from_1 n k low high = grind (arith, ints)

pub below : (n s : ℕ) → s < n → is_below n (pos s) ≡ true
below n s h = grind (arith, ints)

pub small : (z : ℤ) (k : ℕ) → k < 2 ^ 63 → is_between (pos 0) (pos k) z ≡ true → in_range z ≡ true
small (pos n) k low h = grind (arith, ints, h)
small (negsuc n) k low h = grind (arith, ints, h)

small_1 : (z : ℤ) (k : ℕ) → k < 2 ^ 63 → is_between (pos 1) (pos k) z ≡ true → in_range z ≡ true
small_1 (pos n) k low h = grind (arith, ints, h)
small_1 (negsuc n) k low h = grind (arith, ints, h)

-- ---- `run`

abbrev pub begun : Plan → Plan
begun P = record { until = P.until; loops = P.loops; entries = P.entries; sims = []; models = []; entities = []; conns = []; asyncs = [] }

abbrev pub no_plan : Plan
no_plan = record { until = pos 0; loops = 0; entries = 0; sims = []; models = []; entities = []; conns = []; asyncs = [] }

pub run_read : (P : Plan) → is_between (pos 1) latest_end P.until ≡ true → 1 ≤ P.loops → P.loops ≤ 1000 → 1 ≤ P.entries → P.entries ≤ 20000000 → Reads (state 1 no_plan [] []) (run_line P) (state 2 (begun P) [] [])
run_read P until l0 l1 e0 e1 =
    let ts : List Json = tree.Whole P.until ∷ tree.Whole (pos P.loops) ∷ tree.Whole (pos P.entries) ∷ [] in
    a_part 1 no_plan (begun P) kinds.Run (codes "run ") (signed_decimal P.until ∷ decimal P.loops ∷ decimal P.entries ∷ []) ts refl (λ S X. refl) (λ S X. refl) refl refl
    (cons_same (signed_is P.until) (cons_same (decimal_is P.loops) (cons_same (decimal_is P.entries) refl)))
    (whole_field 126 P.until (small_1 P.until 1000000000 (omega arith) until), (natural_field 126 P.loops 1000 l1 (omega arith), (natural_field 126 P.entries 20000000 e1 (omega arith), tt)))
    (let fits : lines.run_fits P.until (pos P.loops) (pos P.entries) ≡ true = and_from _ _ (and_from _ _ until (between_from_1 P.loops 1000 l0 l1)) (between_from_1 P.entries 20000000 e0 e1) in
    rw (whole_in_whole P.until, whole_in_whole (pos P.loops), whole_in_whole (pos P.entries), fits) refl)

-- ---- `sim`

named_kind : (k : SimKind) → kind_named (kind_name k) ≡ Some k
named_kind TimeBased = refl
named_kind EventBased = refl
named_kind Hybrid = refl

kind_text : (k : SimKind) → is_utf8 (kind_name k) ≡ true
unfolding is_utf8 chars lib.Utf8.encode
kind_text TimeBased = refl
kind_text EventBased = refl
kind_text Hybrid = refl

event_fields : (es : List ℤ) → list_all tests.event_fits es ≡ true → Each (Field 125) (wholes es)
event_fields [] h = tt
event_fields (e ∷ es) h = let p = and_parts (tests.event_fits e) (list_all tests.event_fits es) h in (whole_field 125 e (small e 1000000000 (omega arith) p.0), event_fields es p.1)

-- a simulator within the limits, and with an id in UTF-8
pub record SimFits (s : PlanSim) : Type 0 where
  pub rank : s.rank ≤ 199
  pub first_id : s.first_id ≤ 1000000
  pub events : list_all tests.event_fits s.initial ≡ true
  pub text : is_utf8 s.id ≡ true

abbrev pub with_sims : Plan → List PlanSim → Plan
with_sims P done = record (begun P) { sims = done }

pub sim_read : (P : Plan) (last : ℕ) (done : List PlanSim) (s : PlanSim) → may_stand last kinds.Sim ≡ true → SimFits s → Reads (state last (with_sims P done) [] []) (sim_line s) (state 3 (with_sims P (done ++ s ∷ [])) [] [])
sim_read P last done s may fits =
    let ts : List Json = tree.Text s.id ∷ tree.Text (kind_name s.kind) ∷ tree.Whole (pos s.first_id) ∷ tree.Whole (pos s.rank) ∷ tree.List (wholes s.initial) ∷ [] in
    a_part last (with_sims P done) (with_sims P (done ++ s ∷ [])) kinds.Sim (codes "sim ") (quoted s.id ∷ quoted (kind_name s.kind) ∷ decimal s.first_id ∷ decimal s.rank ∷ list_text (map signed_decimal s.initial) ∷ []) ts
    refl (λ S X. refl) (λ S X. refl) refl may
    (cons_same (quoted_is s.id) (cons_same (quoted_is (kind_name s.kind)) (cons_same (decimal_is s.first_id) (cons_same (decimal_is s.rank) (cons_same (list_is (wholes s.initial) (map signed_decimal s.initial) (signed_each s.initial)) refl)))))
    (text_field 126 s.id fits.text, (text_field 126 (kind_name s.kind) (kind_text s.kind), (natural_field 126 s.first_id 1000000 fits.first_id (omega arith), (natural_field 126 s.rank 199 fits.rank (omega arith), (list_field 125 (wholes s.initial) (event_fields s.initial fits.events), tt)))))
    (let limits : lines.sim_fits (pos s.first_id) (pos s.rank) s.initial ≡ true = and_from _ _ (and_from _ _ (between s.first_id 1000000 fits.first_id) (between s.rank 199 fits.rank)) fits.events in
    rw (text_in_text s.id, text_in_text (kind_name s.kind), whole_in_whole (pos s.first_id), whole_in_whole (pos s.rank), items_in_list (wholes s.initial), wholes_there s.initial, named_kind s.kind, limits) refl)

-- ---- `model`

-- a model of one of these simulators, with texts in UTF-8
pub record ModelFits (sims : ℕ) (m : PlanModel) : Type 0 where
  pub sim : m.sim.0 < sims
  pub texts : model_is_text m ≡ true

abbrev pub with_models : Plan → List PlanModel → Plan
with_models P done = record P { models = done; entities = []; conns = []; asyncs = [] }

pub model_read : (P : Plan) → length P.sims ≤ 200 → (last : ℕ) (done : List PlanModel) (m : PlanModel) → 3 ≤ last → last ≤ 4 → ModelFits (length P.sims) m
    → Reads (state last (with_models P done) [] []) (model_line m) (state 4 (with_models P (done ++ m ∷ [])) [] [])
model_read P few last done m low high fits =
    let ts : List Json = tree.Whole (pos m.sim.0) ∷ tree.Text m.name ∷ tree.List (texts m.attrs) ∷ tree.Bool m.any_inputs ∷ [] in
    let utf8 = and_parts (is_utf8 m.name) (list_all is_utf8 m.attrs) fits.texts in
    let sim : m.sim.0 ≤ 200 = (let h = fits.sim in omega arith) in
    a_part last (with_models P done) (with_models P (done ++ m ∷ [])) kinds.Model (codes "model ") (decimal m.sim.0 ∷ quoted m.name ∷ list_text (map quoted m.attrs) ∷ bool_text m.any_inputs ∷ []) ts
    refl (λ S X. refl) (λ S X. refl) refl (stands last 4 low high)
    (cons_same (decimal_is m.sim.0) (cons_same (quoted_is m.name) (cons_same (list_is (texts m.attrs) (map quoted m.attrs) (quoted_each m.attrs)) (cons_same (bool_is m.any_inputs) refl))))
    (natural_field 126 m.sim.0 200 sim (omega arith), (text_field 126 m.name utf8.0, (list_field 125 (texts m.attrs) (text_fields 125 m.attrs utf8.1), (bool_field 126 m.any_inputs, tt))))
    (rw (whole_in_whole (pos m.sim.0), text_in_text m.name, items_in_list (texts m.attrs), texts_there m.attrs, bool_of m.any_inputs, below (length P.sims) m.sim.0 fits.sim) refl)

-- ---- `entity`

-- an entity of one of these models, related to some of these entities, and with a name in UTF-8
pub record EntityFits (models entities : ℕ) (e : PlanEntity) : Type 0 where
  pub model : e.model < models
  pub related : list_all (λ (r : ℕ). nat_lt r entities) e.related ≡ true
  pub text : is_utf8 e.eid ≡ true

abbrev pub with_entities : Plan → List PlanEntity → Plan
with_entities P done = record P { entities = done; conns = []; asyncs = [] }

related_fields : (n : ℕ) (rs : List ℕ) → n ≤ 10000 → list_all (λ (r : ℕ). nat_lt r n) rs ≡ true → Each (Field 125) (naturals rs)
related_fields n [] few h = tt
related_fields n (r ∷ rs) few h = let p = and_parts (nat_lt r n) (list_all (λ (r : ℕ). nat_lt r n) rs) h in (natural_field 125 r 10000 (let low = ltb-true r n p.0 in omega arith) (omega arith), related_fields n rs few p.1)

related_below : (n : ℕ) (rs : List ℕ) → n ≤ 10000 → list_all (λ (r : ℕ). nat_lt r n) rs ≡ true → list_all (is_below 10000) (map pos rs) ≡ true
related_below n [] few h = refl
related_below n (r ∷ rs) few h = let p = and_parts (nat_lt r n) (list_all (λ (r : ℕ). nat_lt r n) rs) h in and_from (is_below 10000 (pos r)) _ (below 10000 r (let low = ltb-true r n p.0 in omega arith)) (related_below n rs few p.1)

pub entity_read : (P : Plan) (count : ℕ) → count ≤ 10000 → length P.models ≤ 2000000 → (last : ℕ) (done : List PlanEntity) (e : PlanEntity) → 3 ≤ last → last ≤ 5 → EntityFits (length P.models) count e
    → Reads (state last (with_entities P done) [] []) (entity_line e) (state 5 (with_entities P (done ++ e ∷ [])) [] [])
entity_read P count few many last done e low high fits =
    let ts : List Json = tree.Whole (pos e.model) ∷ tree.Text e.eid ∷ tree.List (naturals e.related) ∷ [] in
    let model : e.model ≤ 2000000 = (let h = fits.model in omega arith) in
    a_part last (with_entities P done) (with_entities P (done ++ e ∷ [])) kinds.Entity (codes "entity ") (decimal e.model ∷ quoted e.eid ∷ list_text (map decimal e.related) ∷ []) ts
    refl (λ S X. refl) (λ S X. refl) refl (stands last 5 low high)
    (cons_same (decimal_is e.model) (cons_same (quoted_is e.eid) (cons_same (list_is (naturals e.related) (map decimal e.related) (decimal_each e.related)) refl)))
    (natural_field 126 e.model 2000000 model (omega arith), (text_field 126 e.eid fits.text, (list_field 125 (naturals e.related) (related_fields count e.related few fits.related), tt)))
    (let limits : lines.entity_fits (length P.models) (pos e.model) (map pos e.related) ≡ true = and_from _ _ (below (length P.models) e.model fits.model) (related_below count e.related few fits.related) in
    rw (whole_in_whole (pos e.model), text_in_text e.eid, items_in_list (naturals e.related), naturals_there e.related, limits, same_naturals e.related) refl)

-- ---- `conn`

-- a connection between two of these entities, within the limits, with texts in UTF-8 and a value of
-- a simulator as its initial value
pub record ConnFits (entities : ℕ) (c : Conn) : Type 0 where
  pub from : c.from < entities
  pub to : c.to < entities
  pub width : tests.width_fits c.via ≡ true
  pub texts : conn_is_text c ≡ true
  pub initial : IfSome c.initial IsDatumText
  pub shallow : tests.initial_fits c.initial ≡ true

abbrev pub with_conns : Plan → List Conn → Plan
with_conns P done = record P { conns = done; asyncs = [] }

-- how a connection delays, as a tree
abbrev via_tree : Via → Json
via_tree Plain = tree.Text (codes "plain")
via_tree (Shift width) = tree.List (tree.Text (codes "shift") ∷ tree.Whole (pos width) ∷ [])
via_tree Weak = tree.Text (codes "weak")

via_is : (v : Via) → via_text v ≡ text_of (via_tree v)
via_is Plain = quoted_is (codes "plain")
via_is (Shift width) = list_is (tree.Text (codes "shift") ∷ tree.Whole (pos width) ∷ []) (quoted (codes "shift") ∷ decimal width ∷ []) (cons_same (quoted_is (codes "shift")) (cons_same (decimal_is width) refl))
via_is Weak = quoted_is (codes "weak")

plain_text : is_utf8 (codes "plain") ≡ true
unfolding is_utf8 chars lib.Utf8.encode
plain_text = refl

shift_text : is_utf8 (codes "shift") ≡ true
unfolding is_utf8 chars lib.Utf8.encode
shift_text = refl

weak_text : is_utf8 (codes "weak") ≡ true
unfolding is_utf8 chars lib.Utf8.encode
weak_text = refl

width_low : (w : ℕ) → tests.width_fits (Shift w) ≡ true → (1 ≤ w) × (w ≤ 1000000)
width_low w h = let p = and_parts (nat_le 1 w) (nat_le w 1000000) h in (leb-true 1 w p.0, leb-true w 1000000 p.1)

via_field : (v : Via) → tests.width_fits v ≡ true → Field 126 (via_tree v)
via_field Plain h = text_field 126 (codes "plain") plain_text
via_field (Shift w) h = list_field 125 (tree.Text (codes "shift") ∷ tree.Whole (pos w) ∷ []) (text_field 125 (codes "shift") shift_text, (natural_field 125 w 1000000 (width_low w h).1 (omega arith), tt))
via_field Weak h = text_field 126 (codes "weak") weak_text

-- how a connection delays, as it stands in a line
abbrev way_of : Via → List ℕ × Option ℤ
way_of Plain = (codes "plain", None)
way_of (Shift width) = (codes "shift", Some (pos width))
way_of Weak = (codes "weak", None)

way_read : (v : Via) → way_in true (via_tree v) ≡ Some (way_of v)
way_read Plain = rw (text_in_text (codes "plain")) refl
way_read (Shift w) = rw (text_of_list (tree.Text (codes "shift") ∷ tree.Whole (pos w) ∷ []), items_in_list (tree.Text (codes "shift") ∷ tree.Whole (pos w) ∷ []), text_in_text (codes "shift"), whole_in_whole (pos w)) refl
way_read Weak = rw (text_in_text (codes "weak")) refl

via_read : (v : Via) → tests.width_fits v ≡ true → via_of true (way_of v) ≡ Some v
via_read Plain h = refl
via_read (Shift w) h = let p = width_low w h in let fits : is_between (pos 1) (pos 1000000) (pos w) ≡ true = between_from_1 w 1000000 p.0 p.1 in rw fits refl
via_read Weak h = refl

-- an initial value, as a tree that nests as deep as its text says
initial_tree : (o : Option (List ℕ)) → IfSome o IsDatumText → tests.initial_fits o ≡ true → (t : Json) × (initial_text o ≡ text_of t) × Field 126 t × (initial_in t ≡ Some o)
initial_tree None h fits = (tree.List [], list_is [] [] refl, list_field 125 [] tt, rw (items_in_list []) refl)
initial_tree (Some text) h fits =
    let low : nat_le (nesting h.tree) value_depth ≡ true = subst (λ n. nat_le n value_depth ≡ true) (sym (ap nesting_of h.is) ∙ nesting_is h.tree) fits in
    let shallow : nesting h.tree ≤ 125 = (let q = leb-true (nesting h.tree) 100 low in omega arith) in
    let datum : is_datum h.tree ≡ true = and_from (is_whole h.tree) (nat_le (nesting h.tree) value_depth) h.whole low in (
      tree.List (h.tree ∷ []),
      list_is (h.tree ∷ []) (text ∷ []) (cons_same (sym h.is) refl),
      list_field 125 (h.tree ∷ []) (record { proper = h.proper; ranges = h.in_range; deep = shallow }, tt),
      rw (items_in_list (h.tree ∷ []), datum) (ap (λ x. Some (Some x)) h.is),
    )

pub conn_read : (P : Plan) → length P.entities ≤ 10000 → (last : ℕ) (done : List Conn) (c : Conn) → 3 ≤ last → last ≤ 6 → ConnFits (length P.entities) c
    → Reads (state last (with_conns P done) [] []) (conn_line c) (state 6 (with_conns P (done ++ c ∷ [])) [] [])
conn_read P few last done c low high fits =
    let first = initial_tree c.initial fits.initial fits.shallow in
    let ts : List Json = tree.Whole (pos c.from) ∷ tree.Text c.from_attr ∷ tree.Whole (pos c.to) ∷ tree.Text c.to_attr ∷ via_tree c.via ∷ tree.Bool c.persistent ∷ tree.Bool c.triggering ∷ first.0 ∷ [] in
    let utf8 = and_parts (is_utf8 c.from_attr) (is_utf8 c.to_attr) fits.texts in
    let from : c.from ≤ 10000 = (let h = fits.from in omega arith) in
    let to : c.to ≤ 10000 = (let h = fits.to in omega arith) in
    a_part last (with_conns P done) (with_conns P (done ++ c ∷ [])) kinds.Conn (codes "conn ")
    (decimal c.from ∷ quoted c.from_attr ∷ decimal c.to ∷ quoted c.to_attr ∷ via_text c.via ∷ bool_text c.persistent ∷ bool_text c.triggering ∷ initial_text c.initial ∷ []) ts
    refl (λ S X. refl) (λ S X. refl) refl (stands last 6 low high)
    (cons_same (decimal_is c.from) (cons_same (quoted_is c.from_attr) (cons_same (decimal_is c.to) (cons_same (quoted_is c.to_attr) (cons_same (via_is c.via) (cons_same (bool_is c.persistent) (cons_same (bool_is c.triggering) (cons_same first.1 refl)))))))) (
      natural_field 126 c.from 10000 from (omega arith),
      (
        text_field 126 c.from_attr utf8.0,
        (
          natural_field 126 c.to 10000 to (omega arith),
          (
            text_field 126 c.to_attr utf8.1,
            (via_field c.via fits.width, (bool_field 126 c.persistent, (bool_field 126 c.triggering, (first.2, tt)))),
          ),
        ),
      ),
    )
    (let inside : (is_below (length P.entities) (pos c.from) && is_below (length P.entities) (pos c.to)) ≡ true = and_from _ _ (below (length P.entities) c.from fits.from) (below (length P.entities) c.to fits.to) in
    rw (whole_in_whole (pos c.from), text_in_text c.from_attr, whole_in_whole (pos c.to), text_in_text c.to_attr, way_read c.via, bool_of c.persistent, bool_of c.triggering, first.3, via_read c.via fits.width, inside) refl)

-- ---- `async`

-- an asynchronous pair of these simulators
pub record PairFits (sims : ℕ) (p : AsyncPair) : Type 0 where
  pub from : p.from.0 < sims
  pub to : p.to.0 < sims

abbrev pub with_asyncs : Plan → List AsyncPair → Plan
with_asyncs P done = record P { asyncs = done }

pub async_read : (P : Plan) → length P.sims ≤ 200 → (last : ℕ) (done : List AsyncPair) (p : AsyncPair) → 3 ≤ last → last ≤ 7 → PairFits (length P.sims) p
    → Reads (state last (with_asyncs P done) [] []) (async_line p) (state 7 (with_asyncs P (done ++ p ∷ [])) [] [])
async_read P few last done p low high fits =
    let ts : List Json = tree.Whole (pos p.from.0) ∷ tree.Whole (pos p.to.0) ∷ [] in
    let from : p.from.0 ≤ 200 = (let h = fits.from in omega arith) in
    let to : p.to.0 ≤ 200 = (let h = fits.to in omega arith) in
    a_part last (with_asyncs P done) (with_asyncs P (done ++ p ∷ [])) kinds.Async (codes "async ") (decimal p.from.0 ∷ decimal p.to.0 ∷ []) ts
    refl (λ S X. refl) (λ S X. refl) refl (stands last 7 low high)
    (cons_same (decimal_is p.from.0) (cons_same (decimal_is p.to.0) refl))
    (natural_field 126 p.from.0 200 from (omega arith), (natural_field 126 p.to.0 200 to (omega arith), tt))
    (let inside : (is_below (length P.sims) (pos p.from.0) && is_below (length P.sims) (pos p.to.0)) ≡ true = and_from _ _ (below (length P.sims) p.from.0 fits.from) (below (length P.sims) p.to.0 fits.to) in
    rw (whole_in_whole (pos p.from.0), whole_in_whole (pos p.to.0), inside) refl)

-- ---- parts, one after another

-- lines of one kind
pub reads_parts : {X : Type 0} (Fits : X → Type 0) (line : X → List ℕ) (at : List X → Plan) (k : ℕ) → 3 ≤ k
    → ((last : ℕ) (done : List X) (x : X) → 3 ≤ last → last ≤ k → Fits x → Reads (state last (at done) [] []) (line x) (state k (at (done ++ x ∷ [])) [] []))
    → (xs done : List X) (last : ℕ) → 3 ≤ last → last ≤ k → Each Fits xs
    → (l : ℕ) × (3 ≤ l) × (l ≤ k) × Reads (state last (at done) [] []) (flat_map line xs) (state l (at (done ++ xs)) [] [])
reads_parts Fits line at k low each [] done last a b h = (last, a, b, subst (λ d. Reads (state last (at done) [] []) [] (state last (at d) [] [])) (sym (append_nil done)) (nothing (state last (at done) [] [])))
reads_parts Fits line at k low each (x ∷ xs) done last a b h =
    let r = reads_parts Fits line at k low each xs (done ++ x ∷ []) k low (omega arith) h.1 in (
      r.0,
      r.1,
      r.2,
      subst (λ d. Reads (state last (at done) [] []) (flat_map line (x ∷ xs)) (state r.0 (at d) [] [])) (append_assoc done (x ∷ []) xs)
          (joined (state last (at done) [] []) (state k (at (done ++ x ∷ [])) [] []) (state r.0 (at ((done ++ x ∷ []) ++ xs)) [] []) (line x) (flat_map line xs) (each last done x a b h.0) r.3),
    )
