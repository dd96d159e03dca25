-- A record that is cut after its first entry: mended, it is the record of a beginning of the journal.
use Rattle.std.proofs.Common.{◌≡◌, ℕ, zero, suc, ◌+◌, ◌-◌, ◌<◌, ◌≤◌, Bool, true, false, nat_le, List, [], ◌∷◌, ◌++◌, inl, inr, ◌⊎◌, length, length-append, map, flat_map, take, Some, refl, sym, ap, ◌∙◌, subst, arith, append_assoc}
use Rattle.std.specs.Prelude.{codes}
use Rattle.std.specs.Fmt.{decimal, signed_decimal}
use Rattle.std.specs.List.{filter, list_all, slice_split}
use Rattle.std.proofs.lemmas.Bool.{and_parts, and_from, leb-true, leb-false}
use Rattle.std.proofs.lemmas.List.{take-append-le, take_all}
use Rattle.std.proofs.Math.Seq.{take-append-add}
use Rattle.mk_base.specs.Names.{kind_name}
use Rattle.mk_base.specs.Texts.{list_text, quoted}
use Rattle.mk_base.proofs.Lists.{append_nil}
use Rattle.mk_plan.specs.declared.Plan.{Plan}
use Rattle.mk_plan.specs.declared.PlanSim.{PlanSim}
use Rattle.mk_plan.specs.declared.PlanModel.{PlanModel}
use Rattle.mk_plan.specs.declared.PlanEntity.{PlanEntity}
use Rattle.mk_plan.specs.declared.Conn.{Conn}
use Rattle.mk_plan.specs.declared.AsyncPair.{AsyncPair}
use Rattle.mk_plan.specs.declared.Entry.{Entry}
use Rattle.mk_plan.specs.declared.Entry.TheVariants.{Sent, Got}
use Rattle.mk_plan.specs.declared.Item.TheVariants as items
use Rattle.mk_plan.specs.Journals.{arrivals}
use Rattle.mk_record_read.specs.Entries.{RecordEntry, entries_of}
use Rattle.mk_record_read.specs.Reading.{is_feed, reading}
use Rattle.mk_record_read.specs.Texts.{async_line, bool_text, conn_line, entity_line, entry_line, initial_text, model_line, plan_text, record_text, run_line, sim_line, via_text}
use Rattle.mk_record_laws.specs.Again.{IsRecordable, entry_fits, steps_of}
use Rattle.mk_record_laws.proofs.Clean.{clean, all_clean, clean-append, clean-decimal}
use Rattle.mk_record_laws.proofs.Whole.{read_again}
use Rattle.mk_record_mend.specs.Mended.{end_line, ends_in_entry, is_entry, mended, text_of_lines}
use Rattle.mk_record_mend.specs.Whole.{IsBeginningOf}
use Rattle.mk_record_mend.proofs.Lines.{line_clean, line_is, line_of, says_entry}
use Rattle.mk_record_mend.proofs.Pieces.{last_is, lines_back, mended_cut, pieces_clean, split_clean, split_feed}
use Rattle.mk_record_mend.proofs.Reading.{end_is, whole_left}

-- ---- a beginning of a journal

-- a beginning of the entries is that of a beginning of the journal
abbrev Begun : List Entry → List RecordEntry → Type 0
Begun J done = (H : List Entry) × (more : List Entry) × (J ≡ H ++ more) × (entries_of H ≡ done)

passed : (e : Entry) (J : List Entry) (done : List RecordEntry) → ((H : List Entry) → entries_of (e ∷ H) ≡ entries_of H) → Begun J done → Begun (e ∷ J) done
passed e J done none b = (e ∷ b.0, b.1, ap (λ l. e ∷ l) b.2, none b.0 ∙ b.3)

kept : (e : Entry) (r : RecordEntry) (J : List Entry) (done : List RecordEntry) → ((H : List Entry) → entries_of (e ∷ H) ≡ r ∷ entries_of H) → Begun J done → Begun (e ∷ J) (r ∷ done)
kept e r J done one b = (e ∷ b.0, b.1, ap (λ l. e ∷ l) b.2, one b.0 ∙ ap (λ l. r ∷ l) b.3)

first_same : (x y : RecordEntry) (xs ys : List RecordEntry) → x ∷ xs ≡ y ∷ ys → x ≡ y
first_same x y xs ys e = ap (λ (l : List RecordEntry). elim l [ [] ↦ x | z ∷ zs ↦ z ]) e

rest_same : (x y : RecordEntry) (xs ys : List RecordEntry) → x ∷ xs ≡ y ∷ ys → xs ≡ ys
rest_same x y xs ys e = ap (λ (l : List RecordEntry). elim l [ [] ↦ xs | z ∷ zs ↦ zs ]) e

begun : (J : List Entry) (done rest : List RecordEntry) → entries_of J ≡ done ++ rest → Begun J done
begun J [] rest e = ([], J, refl, refl)
begun [] (r ∷ done) rest e = absurd (grind (arith, e))
begun (Sent s (items.Step at ins advance) ∷ J) (r ∷ done) rest e =
    subst (λ (y : RecordEntry). Begun (Sent s (items.Step at ins advance) ∷ J) (y ∷ done)) (first_same _ r (entries_of J) (done ++ rest) e)
    (kept (Sent s (items.Step at ins advance)) _ J done (λ H. refl) (begun J done rest (rest_same _ r (entries_of J) (done ++ rest) e)))
begun (Sent s (items.GetData wanted) ∷ J) (r ∷ done) rest e = passed (Sent s (items.GetData wanted)) J (r ∷ done) (λ H. refl) (begun J (r ∷ done) rest e)
begun (Sent s (items.Answer id content) ∷ J) (r ∷ done) rest e = passed (Sent s (items.Answer id content)) J (r ∷ done) (λ H. refl) (begun J (r ∷ done) rest e)
begun (Sent s (items.Refuse id reason) ∷ J) (r ∷ done) rest e = passed (Sent s (items.Refuse id reason)) J (r ∷ done) (λ H. refl) (begun J (r ∷ done) rest e)
begun (Got s m ∷ J) (r ∷ done) rest e =
    subst (λ (y : RecordEntry). Begun (Got s m ∷ J) (y ∷ done)) (first_same _ r (entries_of J) (done ++ rest) e)
    (kept (Got s m) _ J done (λ H. refl) (begun J done rest (rest_same _ r (entries_of J) (done ++ rest) e)))

fit_before : (P : Plan) (done rest : List RecordEntry) → list_all (entry_fits P) (done ++ rest) ≡ true → list_all (entry_fits P) done ≡ true
fit_before P [] rest h = refl
fit_before P (e ∷ done) rest h = let p = and_parts (entry_fits P e) (list_all (entry_fits P) (done ++ rest)) h in and_from (entry_fits P e) (list_all (entry_fits P) done) p.0 (fit_before P done rest p.1)

begun_recordable : (P : Plan) (J H : List Entry) (done rest : List RecordEntry) → IsRecordable P J → entries_of J ≡ done ++ rest → entries_of H ≡ done → IsRecordable P H
begun_recordable P J H done rest ok is here = record {
  valid = ok.valid;
  texts = ok.texts;
  models = ok.models;
  entries = ap (list_all (entry_fits P)) here ∙ fit_before P done rest (ap (list_all (entry_fits P)) (sym is) ∙ ok.entries);
  count = (let a = ap length is in let b = length-append done rest in let c = ap length here in let d = ok.count in omega (arith, a, b, c, d));
}

-- ---- a text of entries, cut

clean_before : (n : ℕ) (line : List ℕ) → all_clean line ≡ true → all_clean (take n line) ≡ true
clean_before zero line h = refl
clean_before (suc n) [] h = refl
clean_before (suc n) (b ∷ line) h = let p = and_parts (clean b) (all_clean line) h in and_from (clean b) (all_clean (take n line)) p.0 (clean_before n line p.1)

-- within a line
within : (n : ℕ) (line text : List ℕ) → n ≤ length line → take n ((line ++ codes "\n") ++ text) ≡ take n line
within n line text low = ap (take n) (append_assoc line (codes "\n") text) ∙ take-append-le n line (codes "\n" ++ text) low

-- after it
after : (n : ℕ) (line text : List ℕ) → length line < n → take n ((line ++ codes "\n") ++ text) ≡ (line ++ codes "\n") ++ take (n - (length line + 1)) text
after n line text high =
    let a = length-append line (codes "\n") in
    let sum : n ≡ length (line ++ codes "\n") + (n - (length line + 1)) = omega (arith, a, high) in
    ap (λ m. take m ((line ++ codes "\n") ++ text)) sum ∙ take-append-add (line ++ codes "\n") text (n - (length line + 1))

abbrev Cut : List RecordEntry → List ℕ → ℕ → Type 0
Cut es end n = (take n (flat_map entry_line es ++ (end ++ codes "\n")) ≡ flat_map entry_line es ++ (end ++ codes "\n"))
    ⊎ ((done : List RecordEntry) × (rest : List RecordEntry) × (piece : List ℕ) × (es ≡ done ++ rest) × (take n (flat_map entry_line es ++ (end ++ codes "\n")) ≡ flat_map entry_line done ++ piece) × (all_clean piece ≡ true))

cut_end : (end : List ℕ) → all_clean end ≡ true → (n : ℕ) (b : Bool) → nat_le n (length end) ≡ b → Cut [] end n
cut_end end h n true low = inr ([], [], take n end, refl, take-append-le n end (codes "\n") (leb-true n (length end) low), clean_before n end h)
cut_end end h n false high = inl (let a = length-append end (codes "\n") in let b = leb-false n (length end) high in take_all n (end ++ codes "\n") (omega (arith, a, b)))

-- the text of an entry and of what follows
abbrev entry_text : RecordEntry → List ℕ → List ℕ
entry_text e text = (line_of e ++ codes "\n") ++ text

entry_first : (e : RecordEntry) (es : List RecordEntry) (text : List ℕ) → flat_map entry_line (e ∷ es) ++ text ≡ entry_text e (flat_map entry_line es ++ text)
entry_first e es text = ap (λ l. (l ++ flat_map entry_line es) ++ text) (line_is e) ∙ append_assoc (line_of e ++ codes "\n") (flat_map entry_line es) text

cut_later : (e : RecordEntry) (es : List RecordEntry) (end : List ℕ) (n : ℕ) → length (line_of e) < n → Cut es end (n - (length (line_of e) + 1)) → Cut (e ∷ es) end n
cut_later e es end n high c =
    let z : List ℕ = end ++ codes "\n" in
    let m : ℕ = n - (length (line_of e) + 1) in
    let here : take n (flat_map entry_line (e ∷ es) ++ z) ≡ entry_text e (take m (flat_map entry_line es ++ z)) = ap (take n) (entry_first e es z) ∙ after n (line_of e) (flat_map entry_line es ++ z) high in
    elim c [
      | inl whole ↦ inl (here ∙ ap (entry_text e) whole ∙ sym (entry_first e es z))
      | inr p ↦ inr (e ∷ p.0, p.1, p.2, ap (λ l. e ∷ l) p.3, here ∙ ap (entry_text e) p.4 ∙ sym (entry_first e p.0 p.2), p.5)
    ]

cut_entries : (P : Plan) → length P.sims ≤ 200 → (end : List ℕ) → all_clean end ≡ true → (es : List RecordEntry) → list_all (entry_fits P) es ≡ true → (n : ℕ) → Cut es end n
cut_entries P few end h [] fits n = cut_end end h n (nat_le n (length end)) refl
cut_entries P few end h (e ∷ es) fits n =
    let f = and_parts (entry_fits P e) (list_all (entry_fits P) es) fits in
    let z : List ℕ = end ++ codes "\n" in
    elim (nat_le n (length (line_of e))) as (λ b. nat_le n (length (line_of e)) ≡ b → Cut (e ∷ es) end n) [
      | true ↦ λ low. inr ([], e ∷ es, take n (line_of e), refl, ap (take n) (entry_first e es z) ∙ within n (line_of e) (flat_map entry_line es ++ z) (leb-true n (length (line_of e)) low), clean_before n (line_of e) (line_clean P few e f.0))
      | false ↦ λ high. cut_later e es end n (let k = leb-false n (length (line_of e)) high in omega (arith, k)) (cut_entries P few end h es f.1 (n - (length (line_of e) + 1)))
    ] refl

-- ---- a text that ends in a line feed, and in the line of an entry

abbrev EndsInFeed : List ℕ → Type 0
EndsInFeed text = (x : List ℕ) × (text ≡ x ++ codes "\n")

more_lines : {X : Type 0} (line : X → List ℕ) → ((x : X) → EndsInFeed (line x)) → (xs : List X) (text : List ℕ) → EndsInFeed text → EndsInFeed (text ++ flat_map line xs)
more_lines line each [] text t = (t.0, append_nil text ∙ t.1)
more_lines line each (x ∷ xs) text t =
    let l = each x in
    let m = more_lines line each xs (text ++ line x) (text ++ l.0, ap (λ y. text ++ y) l.1 ∙ sym (append_assoc text l.0 (codes "\n"))) in
    (m.0, sym (append_assoc text (line x) (flat_map line xs)) ∙ m.1)

-- each line of a word and fields
line_ends : (line fields : List ℕ) → EndsInFeed (line ++ fields ++ codes "\n")
line_ends line fields = (line ++ fields, refl)

sim_ends : (x : PlanSim) → EndsInFeed (sim_line x)
sim_ends x = line_ends (codes "sim ") (list_text (quoted x.id ∷ quoted (kind_name x.kind) ∷ decimal x.first_id ∷ decimal x.rank ∷ list_text (map signed_decimal x.initial) ∷ []))

model_ends : (x : PlanModel) → EndsInFeed (model_line x)
model_ends x = line_ends (codes "model ") (list_text (decimal x.sim.0 ∷ quoted x.name ∷ list_text (map quoted x.attrs) ∷ bool_text x.any_inputs ∷ []))

entity_ends : (x : PlanEntity) → EndsInFeed (entity_line x)
entity_ends x = line_ends (codes "entity ") (list_text (decimal x.model ∷ quoted x.eid ∷ list_text (map decimal x.related) ∷ []))

conn_ends : (x : Conn) → EndsInFeed (conn_line x)
conn_ends x = line_ends (codes "conn ") (list_text (decimal x.from ∷ quoted x.from_attr ∷ decimal x.to ∷ quoted x.to_attr ∷ via_text x.via ∷ bool_text x.persistent ∷ bool_text x.triggering ∷ initial_text x.initial ∷ []))

async_ends : (x : AsyncPair) → EndsInFeed (async_line x)
async_ends x = line_ends (codes "async ") (list_text (decimal x.from.0 ∷ decimal x.to.0 ∷ []))

run_ends : (P : Plan) → EndsInFeed (codes "mosaikrun 2\n" ++ run_line P)
run_ends P = line_ends (codes "mosaikrun 2\nrun ") (list_text (signed_decimal P.until ∷ decimal P.loops ∷ decimal P.entries ∷ []))

plan_ends : (P : Plan) → EndsInFeed (plan_text P)
plan_ends P =
    let t2 : List ℕ = codes "mosaikrun 2\n" ++ run_line P in
    let t3 : List ℕ = t2 ++ flat_map sim_line P.sims in
    let t4 : List ℕ = t3 ++ flat_map model_line P.models in
    let t5 : List ℕ = t4 ++ flat_map entity_line P.entities in
    let t6 : List ℕ = t5 ++ flat_map conn_line P.conns in
    more_lines async_line async_ends P.asyncs t6 (more_lines conn_line conn_ends P.conns t5 (more_lines entity_line entity_ends P.entities t4 (more_lines model_line model_ends P.models t3 (more_lines sim_line sim_ends P.sims t2 (run_ends P)))))

-- the lines of a text, the last of which is an entry
abbrev EndsInLine : List ℕ → Type 0
EndsInLine text = (x : List ℕ) × (text ≡ x ++ 10 ∷ []) × (ends_in_entry (slice_split is_feed x) ≡ true)

with_entry : (P : Plan) → length P.sims ≤ 200 → (text : List ℕ) → EndsInFeed text → (e : RecordEntry) → entry_fits P e ≡ true → EndsInLine (text ++ entry_line e)
with_entry P few text t e fits =
    let line : List ℕ = line_of e in
    let x : List ℕ = t.0 ++ 10 ∷ line in
    let split : slice_split is_feed x ≡ slice_split is_feed t.0 ++ line ∷ [] = split_feed t.0 line ∙ ap (λ l. slice_split is_feed t.0 ++ l) (split_clean line (line_clean P few e fits)) in (
      x,
      ap (λ l. text ++ l) (line_is e) ∙ ap (λ l. l ++ (line ++ codes "\n")) t.1 ∙ append_assoc t.0 (codes "\n") (line ++ codes "\n") ∙ sym (append_assoc t.0 (10 ∷ line) (10 ∷ [])),
      ap ends_in_entry split ∙ last_is (slice_split is_feed t.0) line ∙ says_entry e,
    )

with_entries : (P : Plan) → length P.sims ≤ 200 → (es : List RecordEntry) → list_all (entry_fits P) es ≡ true → (text : List ℕ) → EndsInLine text → EndsInLine (text ++ flat_map entry_line es)
with_entries P few [] fits text t = subst EndsInLine (sym (append_nil text)) t
with_entries P few (e ∷ es) fits text t =
    let f = and_parts (entry_fits P e) (list_all (entry_fits P) es) fits in
    subst EndsInLine (append_assoc text (entry_line e) (flat_map entry_line es)) (with_entries P few es f.1 (text ++ entry_line e) (with_entry P few text (t.0, t.1) e f.0))

-- ---- the whole

-- the record of a plan and of a journal: what stands before its last line, and this line
whole_is : (P : Plan) (J : List Entry) → record_text P J ≡ (plan_text P ++ flat_map entry_line (entries_of J)) ++ end_line (length (entries_of J))
whole_is P J =
    let body : List ℕ = plan_text P ++ flat_map entry_line (entries_of J) in
    let number : List ℕ = decimal (length (entries_of J)) in
    append_assoc (body ++ codes "end ") number (codes "\n") ∙ append_assoc body (codes "end ") (number ++ codes "\n") ∙ ap (λ t. body ++ t) (sym (append_assoc (codes "end ") number (codes "\n")))

-- a text of the plan and of a beginning of the entries, cut after these
mended_body : (P : Plan) (H : List Entry) → IsRecordable P H → (piece : List ℕ) → all_clean piece ≡ true → EndsInLine (plan_text P ++ flat_map entry_line (entries_of H))
    → mended ((plan_text P ++ flat_map entry_line (entries_of H)) ++ piece) ≡ record_text P H
mended_body P H ok piece h t =
    let body : List ℕ = plan_text P ++ flat_map entry_line (entries_of H) in
    let n : ℕ = length (entries_of H) in
    let lines : List (List ℕ) = slice_split is_feed t.0 in
    let back : text_of_lines lines ≡ body = lines_back t.0 ∙ sym t.1 in
    ap (λ b. mended (b ++ piece)) t.1 ∙ ap mended (append_assoc t.0 (10 ∷ []) piece) ∙ mended_cut t.0 piece h t.2
    ∙ ap (λ b. b ++ end_line (length (filter is_entry lines))) (sym t.1)
    ∙ ap (λ l. body ++ l) (sym (end_is P (arrivals H) (Some (steps_of H)) lines (pieces_clean t.0) n ok.count (ap (λ b. reading (b ++ end_line n)) back ∙ ap reading (sym (whole_is P H)) ∙ read_again P H ok)))
    ∙ sym (whole_is P H)

begins : (P : Plan) (J H more : List Entry) → J ≡ H ++ more → IsRecordable P H → (text : List ℕ) → mended text ≡ record_text P H → IsBeginningOf P J text
begins P J H more is ok text e = record { beginning = H; begins = (more, is); recorded = e; read = ap reading e ∙ read_again P H ok }

pub cut_is_read : (P : Plan) (J : List Entry) (first : RecordEntry) (others : List RecordEntry) (n : ℕ) → IsRecordable P J → entries_of J ≡ first ∷ others → length (plan_text P) + length (entry_line first) ≤ n
    → IsBeginningOf P J (take n (record_text P J))
cut_is_read P J first others n ok is long =
    let few : length P.sims ≤ 200 = ok.valid.well_formed.limits.sims.1 in
    let plan : List ℕ = plan_text P in
    let end : List ℕ = codes "end " ++ decimal (length (entries_of J)) in
    let z : List ℕ = end ++ codes "\n" in
    let fits : list_all (entry_fits P) (first ∷ others) ≡ true = ap (list_all (entry_fits P)) (sym is) ∙ ok.entries in
    let f = and_parts (entry_fits P first) (list_all (entry_fits P) others) fits in
    let body : List ℕ = plan ++ entry_line first in
    let m : ℕ = n - length body in
    let text : record_text P J ≡ body ++ (flat_map entry_line others ++ z) =
    whole_is P J ∙ ap (λ es. (plan ++ flat_map entry_line es) ++ z) is ∙ ap (λ t. t ++ z) (sym (append_assoc plan (entry_line first) (flat_map entry_line others))) ∙ append_assoc body (flat_map entry_line others) z in
    let cut : take n (record_text P J) ≡ body ++ take m (flat_map entry_line others ++ z) =
    (let a = length-append plan (entry_line first) in
    let sum : n ≡ length body + m = omega (arith, a, long) in
    ap (take n) text ∙ ap (λ k. take k (body ++ (flat_map entry_line others ++ z))) sum ∙ take-append-add body (flat_map entry_line others ++ z) m) in
    elim (cut_entries P few end (clean-append (codes "end ") (decimal (length (entries_of J))) refl (clean-decimal (length (entries_of J)) ok.count)) others f.1 m) [
      | inl whole ↦ (let same : take n (record_text P J) ≡ record_text P J = cut ∙ ap (λ t. body ++ t) whole ∙ sym text in
          begins P J J [] (sym (append_nil J)) ok (take n (record_text P J)) (ap mended same ∙ whole_left (record_text P J) P (arrivals J) (Some (steps_of J)) (read_again P J ok)))
      | inr c ↦ (let done : List RecordEntry = first ∷ c.0 in
          let split : entries_of J ≡ done ++ c.1 = is ∙ ap (λ l. first ∷ l) c.3 in
          let b = begun J done c.1 split in
          let H : List Entry = b.0 in
          let here : entries_of H ≡ done = b.3 in
          let good = begun_recordable P J H done c.1 ok split here in
          let ends : EndsInLine (plan ++ flat_map entry_line (entries_of H)) =
          subst (λ (es : List RecordEntry). EndsInLine (plan ++ flat_map entry_line es)) (sym here)
          (subst EndsInLine (append_assoc plan (entry_line first) (flat_map entry_line c.0)) (with_entries P few c.0 (and_parts (entry_fits P first) (list_all (entry_fits P) c.0) (ap (list_all (entry_fits P)) (sym here) ∙ good.entries)).1 body (with_entry P few plan (plan_ends P) first f.0))) in
          let shown : take n (record_text P J) ≡ (plan ++ flat_map entry_line (entries_of H)) ++ c.2 =
          cut ∙ ap (λ t. body ++ t) c.4 ∙ sym (append_assoc body (flat_map entry_line c.0) c.2)
          ∙ ap (λ t. t ++ c.2) (append_assoc plan (entry_line first) (flat_map entry_line c.0)) ∙ ap (λ es. (plan ++ flat_map entry_line es) ++ c.2) (sym here) in
          begins P J H b.1 b.2 good (take n (record_text P J)) (ap mended shown ∙ mended_body P H good c.2 c.5 ends))
    ]
