-- The lines of a record's entries: each is one line, whose word says what it is.
use Rattle.std.proofs.Common.{◌≡◌, ℕ, ◌^◌, ◌<◌, ◌≤◌, ◌&&◌, nat_le, nat_lt, ℤ, pos, true, List, [], ◌∷◌, ◌++◌, length, map, refl, arith}
use Rattle.std.specs.Prelude.{codes}
use Rattle.std.specs.Fmt.{decimal, signed_decimal}
use Rattle.std.proofs.lemmas.Bool.{and_parts, ltb-true, leb-true}
use Rattle.mk_base.specs.declared.tier.Tier.{Tier}
use Rattle.mk_base.specs.declared.json.Json as tree
use Rattle.mk_base.specs.declared.json.Json.{Json}
use Rattle.mk_base.specs.Limits.{latest_end}
use Rattle.mk_base.specs.Lists.{Each}
use Rattle.mk_base.specs.Proper.{is_proper}
use Rattle.mk_base.specs.Texts.{list_text, text_of}
use Rattle.mk_base.specs.Trees as trees
use Rattle.mk_base.specs.Trees.{is_object, nesting}
use Rattle.mk_json.proofs.Layers.{folded-Text}
use Rattle.mk_plan.specs.declared.Plan.{Plan}
use Rattle.mk_plan.specs.declared.Message.{Message}
use Rattle.mk_plan.specs.declared.Message.TheVariants as messages
use Rattle.mk_plan.specs.Journals.{Arrival}
use Rattle.mk_plan.specs.Messages.{is_message_in_range}
use Rattle.mk_message.specs.Written.{is_readable, message_text, message_tree}
use Rattle.mk_message.proofs.ReadBack.{range-framed, range-request}
use Rattle.mk_record_read.specs.Entries.{RecordEntry, StepOf, MessageOf}
use Rattle.mk_record_read.specs.Fields.{is_between}
use Rattle.mk_record_read.specs.Lines.{step_fits}
use Rattle.mk_record_read.specs.Texts.{entry_line}
use Rattle.mk_record_laws.specs.Again.{entry_fits, is_sayable}
use Rattle.mk_record_laws.proofs.Clean.{all_clean}
use Rattle.mk_record_laws.proofs.Fields.{Field, cons_same, decimal_is, natural_field, signed_is, whole_field}
use Rattle.mk_record_laws.proofs.Lines.{clean_line, small}
use Rattle.mk_record_mend.specs.Mended.{is_entry}

-- the line of an entry, without its line feed
abbrev pub line_of : RecordEntry → List ℕ
line_of (StepOf sim at advance) = codes "ask " ++ list_text (decimal sim ∷ signed_decimal at.time ∷ decimal at.tier ∷ signed_decimal advance ∷ [])
line_of (MessageOf a) = codes "got " ++ list_text (decimal a.sim ∷ message_text a.message ∷ [])

pub line_is : (e : RecordEntry) → entry_line e ≡ line_of e ++ codes "\n"
line_is (StepOf sim at advance) = refl
line_is (MessageOf a) = refl

pub says_entry : (e : RecordEntry) → is_entry (line_of e) ≡ true
says_entry (StepOf sim at advance) = refl
says_entry (MessageOf a) = refl

id_low : (id : ℕ) → nat_lt id (2 ^ 63) ≡ true → id < 2 ^ 64
id_low id h = let low = ltb-true id (2 ^ 63) h in omega (arith, low)

tree_ranges : (m : Message) → is_readable m ≡ true → is_message_in_range m ≡ true → trees.is_in_range (message_tree m) ≡ true
tree_ranges (messages.Ask id name args named) r h =
    let p = and_parts (nat_lt id (2 ^ 63)) (is_object named) r in
    let request : Json = tree.List (tree.Text name ∷ tree.List args ∷ named ∷ []) in
    range-framed _ request 0 id refl (omega arith) (id_low id p.0) (range-request request named name args refl h)
tree_ranges (messages.Success id content) r h = range-framed _ content 1 id refl (omega arith) (id_low id r) h
tree_ranges (messages.Failure id text) r h = range-framed _ (tree.Text text) 2 id refl (omega arith) (id_low id r) (folded-Text _ _ text)

message_field : (m : Message) → is_sayable m ≡ true → Field 126 (message_tree m)
message_field m h =
    let p = and_parts ((is_readable m && is_message_in_range m) && is_proper (message_tree m)) (nat_le (nesting (message_tree m)) 126) h in
    let q = and_parts (is_readable m && is_message_in_range m) (is_proper (message_tree m)) p.0 in
    let r = and_parts (is_readable m) (is_message_in_range m) q.0 in
    record { proper = q.1; ranges = tree_ranges m r.0 r.1; deep = leb-true (nesting (message_tree m)) 126 p.1 }

got_clean : (P : Plan) → length P.sims ≤ 200 → (a : Arrival) → entry_fits P (MessageOf a) ≡ true → all_clean (line_of (MessageOf a)) ≡ true
got_clean P few a fits =
    let p = and_parts (nat_lt a.sim (length P.sims)) (is_sayable a.message) fits in
    let inside : a.sim < length P.sims = ltb-true a.sim (length P.sims) p.0 in
    let ts : List Json = tree.Whole (pos a.sim) ∷ message_tree a.message ∷ [] in
    let fields : List (List ℕ) = decimal a.sim ∷ message_text a.message ∷ [] in
    let are : fields ≡ map text_of ts = cons_same (decimal_is a.sim) refl in
    clean_line (codes "got ") fields ts refl are (natural_field 126 a.sim 200 (omega (arith, few, inside)) (omega arith), (message_field a.message p.1, tt))

ask_clean : (P : Plan) → length P.sims ≤ 200 → (sim : ℕ) (at : Tier) (advance : ℤ) → entry_fits P (StepOf sim at advance) ≡ true → all_clean (line_of (StepOf sim at advance)) ≡ true
ask_clean P few sim at advance fits =
    let p = and_parts (nat_lt sim (length P.sims)) (step_fits at.time (pos at.tier) advance) fits in
    let q = and_parts (is_between (pos 0) latest_end at.time && is_between (pos 0) (pos 1000) (pos at.tier)) (is_between (pos 0) latest_end advance) p.1 in
    let r = and_parts (is_between (pos 0) latest_end at.time) (is_between (pos 0) (pos 1000) (pos at.tier)) q.0 in
    let inside : sim < length P.sims = ltb-true sim (length P.sims) p.0 in
    let ts : List Json = tree.Whole (pos sim) ∷ tree.Whole at.time ∷ tree.Whole (pos at.tier) ∷ tree.Whole advance ∷ [] in
    let fields : List (List ℕ) = decimal sim ∷ signed_decimal at.time ∷ decimal at.tier ∷ signed_decimal advance ∷ [] in
    let are : fields ≡ map text_of ts = cons_same (decimal_is sim) (cons_same (signed_is at.time) (cons_same (decimal_is at.tier) (cons_same (signed_is advance) refl))) in
    let each : Each (Field 126) ts = (natural_field 126 sim 200 (omega (arith, few, inside)) (omega arith), (whole_field 126 at.time (small at.time 1000000000 (omega arith) r.0), (whole_field 126 (pos at.tier) (small (pos at.tier) 1000 (omega arith) r.1), (whole_field 126 advance (small advance 1000000000 (omega arith) q.1), tt)))) in
    clean_line (codes "ask ") fields ts refl are each

pub line_clean : (P : Plan) → length P.sims ≤ 200 → (e : RecordEntry) → entry_fits P e ≡ true → all_clean (line_of e) ≡ true
line_clean P few (StepOf sim at advance) fits = ask_clean P few sim at advance fits
line_clean P few (MessageOf a) fits = got_clean P few a fits
