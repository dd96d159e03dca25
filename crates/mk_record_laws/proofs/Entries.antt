-- For proofs alone. Each line of an entry, and the last line, read again as what it was written of.
use Rattle.std.proofs.Common.{◌≡◌, ℕ, ◌+◌, ◌^◌, ◌<◌, ◌≤◌, ◌&&◌, nat_le, nat_lt, ℤ, pos, nat_abs, true, cond, List, [], ◌∷◌, ◌++◌, length, map, flat_map, Some, None, refl, sym, ap, ◌∙◌, subst, arith, append_assoc, length-append}
use Rattle.std.specs.Prelude.{codes, Ok}
use Rattle.std.specs.Result.{result_ok}
use Rattle.std.specs.List.{list_all}
use Rattle.std.specs.Fmt.{decimal, signed_decimal}
use Rattle.std.proofs.lemmas.Bool.{and_parts, ltb-true, leb-true}
use Rattle.mk_base.specs.declared.tier.Tier.{Tier}
use Rattle.mk_base.specs.declared.json.Json as tree
use Rattle.mk_base.specs.declared.json.Json.{Json}
use Rattle.mk_base.specs.Lists.{Each}
use Rattle.mk_base.specs.Texts.{text_of, list_text}
use Rattle.mk_base.specs.Trees as trees
use Rattle.mk_base.specs.Trees.{nesting, whole_in, is_object, in_range}
use Rattle.mk_base.proofs.Lists.{append_nil}
use Rattle.mk_json.specs.Parsed.{parsed}
use Rattle.mk_base.specs.Proper.{is_proper}
use Rattle.mk_json.proofs.Back.{parsed-text_of}
use Rattle.mk_json.proofs.Layers.{folded-Text}
use Rattle.mk_plan.specs.declared.Plan.{Plan}
use Rattle.mk_plan.specs.declared.Message.{Message}
use Rattle.mk_plan.specs.declared.Message.TheVariants as messages
use Rattle.mk_plan.specs.declared.Item.TheVariants as items
use Rattle.mk_plan.specs.declared.Entry.{Entry}
use Rattle.mk_plan.specs.declared.Entry.TheVariants.{Sent, Got}
use Rattle.mk_plan.specs.Journals.{Arrival, arrivals}
use Rattle.mk_message.specs.Messages.{message_in, tested}
use Rattle.mk_message.specs.Written.{message_tree, message_text, is_readable}
use Rattle.mk_message.proofs.ReadBack.{message_of-written, range-framed, range-request}
use Rattle.mk_plan_check.specs.Tests.{first_bad}
use Rattle.mk_record_read.specs.declared.kinds.LineKind.TheVariants as kinds
use Rattle.mk_record_read.specs.declared.saved.Asked.{Asked}
use Rattle.mk_record_read.specs.Entries.{RecordEntry, StepOf, MessageOf, entries_of}
use Rattle.mk_record_read.specs.Fields.{misformed, limited, is_between, is_below}
use Rattle.mk_record_read.specs.Lines.{arrival_in, asked_in, step_fits}
use Rattle.mk_record_read.specs.Reading.{State, Ended, Bad, line_step, arrived, asked, end_step, is_number, miscounted, items_read}
use Rattle.mk_record_read.specs.Texts.{got_line, ask_line, entry_line}
use Rattle.mk_record_laws.specs.Again.{steps_after, is_sayable, entry_fits}
use Rattle.mk_record_laws.proofs.Fields.{Field, whole_field, natural_field, read_items, cons_same, signed_is, decimal_is}
use Rattle.mk_record_laws.proofs.Lines.{state, Reads, nothing, joined, a_line, entry_kind, stands, clean_line, below, small}
use Rattle.mk_base.specs.Limits.{latest_end}
use Rattle.mk_base.proofs.Views.{whole_in_whole}
use Rattle.mk_base.proofs.Items.{same_text_self}
use Rattle.mk_plan.specs.Messages.{is_message_in_range}
use Rattle.mk_plan.proofs.Sending.{arrival_of}

-- ---- messages

id_low : (m : Message) (id : ℕ) → nat_lt id (2 ^ 63) ≡ true → id < 2 ^ 64
id_low m id h = let low = ltb-true id (2 ^ 63) h in omega (arith, low)

tree_in_range : (m : Message) → is_readable m ≡ true → is_message_in_range m ≡ true → trees.is_in_range (message_tree m) ≡ true
tree_in_range (messages.Ask id name args named) r h =
    let p = and_parts (nat_lt id (2 ^ 63)) (is_object named) r in
    range-framed _ (tree.List (tree.Text name ∷ tree.List args ∷ named ∷ [])) 0 id refl (omega arith) (id_low (messages.Ask id name args named) id p.0) (range-request (tree.List (tree.Text name ∷ tree.List args ∷ named ∷ [])) named name args refl h)
tree_in_range (messages.Success id content) r h = range-framed _ content 1 id refl (omega arith) (id_low (messages.Success id content) id r) h
tree_in_range (messages.Failure id text) r h = range-framed _ (tree.Text text) 2 id refl (omega arith) (id_low (messages.Failure id text) id r) (folded-Text _ _ text)

-- what is known of a message that may stand in a line
record Sayable (m : Message) : Type 0 where
  readable : is_readable m ≡ true
  field : Field 126 (message_tree m)

sayable : (m : Message) → is_sayable m ≡ true → Sayable m
sayable m h =
    let p = and_parts ((is_readable m && is_message_in_range m) && is_proper (message_tree m)) (nat_le (nesting (message_tree m)) 126) h in
    let q = and_parts (is_readable m && is_message_in_range m) (is_proper (message_tree m)) p.0 in
    let r = and_parts (is_readable m) (is_message_in_range m) q.0 in
    record { readable = r.0; field = record { proper = q.1; ranges = tree_in_range m r.0 r.1; deep = leb-true (nesting (message_tree m)) 126 p.1 } }

message_again : (m : Message) → Sayable m → message_in (message_tree m) ≡ Ok m
message_again m s =
    let shallow : nesting (message_tree m) ≤ 127 = (let h = s.field.deep in omega arith) in
    let back : parsed (text_of (message_tree m)) ≡ Some (message_tree m) = parsed-text_of (message_tree m) s.field.proper s.field.ranges shallow in
    sym (ap (λ o. tested 1 o message_in) back) ∙ message_of-written m (message_tree m) (text_of (message_tree m)) [] refl refl refl (λ _. back) s.readable shallow

arrival_again : (P : Plan) (s : ℕ) (m : Message) → s < length P.sims → Sayable m → arrival_in P (tree.Whole (pos s) ∷ message_tree m ∷ []) ≡ Ok (arrival_of s m)
arrival_again P s m low say =
    ap (λ o. tested misformed o (λ z. tested misformed (result_ok (message_in (message_tree m))) (λ n. limited (is_below (length P.sims) z) (arrival_of (nat_abs z) n)))) (whole_in_whole (pos s))
    ∙ ap (λ r. tested misformed (result_ok r) (λ n. limited (is_below (length P.sims) (pos s)) (arrival_of s n))) (message_again m say)
    ∙ ap (λ b. limited b (arrival_of s m)) (below (length P.sims) s low)

got_read : (P : Plan) → first_bad P ≡ None → length P.sims ≤ 200 → (last : ℕ) (A : List Arrival) (steps : List Asked) (a : Arrival) → 3 ≤ last → last ≤ 8 → entry_fits P (MessageOf a) ≡ true
    → Reads (state last P A steps) (got_line a) (state 8 P (A ++ a ∷ []) steps)
got_read P valid few last A steps a low high fits =
    let p = and_parts (nat_lt a.sim (length P.sims)) (is_sayable a.message) fits in
    let inside : a.sim < length P.sims = ltb-true a.sim (length P.sims) p.0 in
    let say = sayable a.message p.1 in
    let ts : List Json = tree.Whole (pos a.sim) ∷ message_tree a.message ∷ [] in
    let fields : List (List ℕ) = decimal a.sim ∷ message_text a.message ∷ [] in
    let are : fields ≡ map text_of ts = cons_same (decimal_is a.sim) refl in
    let each : Each (Field 126) ts = (natural_field 126 a.sim 200 (omega arith) (omega arith), (say.field, tt)) in
    let S : State = state last P A steps in
    a_line S (state 8 P (A ++ a ∷ []) steps) (codes "got " ++ list_text fields) (clean_line (codes "got ") fields ts refl are each)
    (entry_kind last P A steps kinds.Got (list_text fields) valid (stands last 8 low high)
    ∙ ap (λ o. arrived S (tested misformed o (arrival_in P))) (ap (λ fs. items_read (list_text fs)) are ∙ read_items ts each)
    ∙ ap (arrived S) (arrival_again P a.sim a.message inside say))

-- ---- steps

ask_read : (P : Plan) → first_bad P ≡ None → length P.sims ≤ 200 → (last : ℕ) (A : List Arrival) (steps : List Asked) (sim : ℕ) (at : Tier) (advance : ℤ) → 3 ≤ last → last ≤ 8 → entry_fits P (StepOf sim at advance) ≡ true
    → Reads (state last P A steps) (ask_line sim at advance) (state 8 P A (steps ++ record { before = length A; sim = record { 0 = sim }; at = at; max_advance = advance } ∷ []))
ask_read P valid few last A steps sim at advance low high fits =
    let p = and_parts (nat_lt sim (length P.sims)) (step_fits at.time (pos at.tier) advance) fits in
    let q = and_parts (is_between (pos 0) latest_end at.time && is_between (pos 0) (pos 1000) (pos at.tier)) (is_between (pos 0) latest_end advance) p.1 in
    let r = and_parts (is_between (pos 0) latest_end at.time) (is_between (pos 0) (pos 1000) (pos at.tier)) q.0 in
    let inside : sim < length P.sims = ltb-true sim (length P.sims) p.0 in
    let ts : List Json = tree.Whole (pos sim) ∷ tree.Whole at.time ∷ tree.Whole (pos at.tier) ∷ tree.Whole advance ∷ [] in
    let fields : List (List ℕ) = decimal sim ∷ signed_decimal at.time ∷ decimal at.tier ∷ signed_decimal advance ∷ [] in
    let are : fields ≡ map text_of ts = cons_same (decimal_is sim) (cons_same (signed_is at.time) (cons_same (decimal_is at.tier) (cons_same (signed_is advance) refl))) in
    let each : Each (Field 126) ts = (natural_field 126 sim 200 (omega arith) (omega arith), (whole_field 126 at.time (small at.time 1000000000 (omega arith) r.0), (whole_field 126 (pos at.tier) (small (pos at.tier) 1000 (omega arith) r.1), (whole_field 126 advance (small advance 1000000000 (omega arith) q.1), tt)))) in
    let S : State = state last P A steps in
    let within : is_below (length P.sims) (pos sim) ≡ true = below (length P.sims) sim inside in
    let limits : step_fits at.time (pos at.tier) advance ≡ true = p.1 in
    let again : asked_in P (length A) ts ≡ Ok (record { before = length A; sim = record { 0 = sim }; at = at; max_advance = advance }) = rw (whole_in_whole (pos sim), whole_in_whole at.time, whole_in_whole (pos at.tier), whole_in_whole advance, within, limits) refl in
    a_line S (state 8 P A (steps ++ record { before = length A; sim = record { 0 = sim }; at = at; max_advance = advance } ∷ [])) (codes "ask " ++ list_text fields) (clean_line (codes "ask ") fields ts refl are each)
    (entry_kind last P A steps kinds.Ask (list_text fields) valid (stands last 8 low high)
    ∙ ap (λ o. asked S steps (tested misformed o (asked_in P (length A)))) (ap (λ fs. items_read (list_text fs)) are ∙ read_items ts each)
    ∙ ap (asked S steps) again)

-- ---- one after another

-- the messages among entries
abbrev pub said : List RecordEntry → List Arrival
said [] = []
said (StepOf sim at advance ∷ es) = said es
said (MessageOf a ∷ es) = a ∷ said es

pub arrivals_said : (J : List Entry) → arrivals J ≡ said (entries_of J)
arrivals_said [] = refl
arrivals_said (Sent s (items.Step at ins advance) ∷ J) = arrivals_said J
arrivals_said (Sent s (items.GetData wanted) ∷ J) = arrivals_said J
arrivals_said (Sent s (items.Answer id content) ∷ J) = arrivals_said J
arrivals_said (Sent s (items.Refuse id reason) ∷ J) = arrivals_said J
arrivals_said (Got s m ∷ J) = ap (λ l. arrival_of s.0 m ∷ l) (arrivals_said J)

pub counted : (n : ℕ) (es : List RecordEntry) → length es ≡ length (said es) + length (steps_after n es)
counted n [] = refl
counted n (StepOf sim at advance ∷ es) = let h = counted n es in omega (arith, h)
counted n (MessageOf a ∷ es) = let h = counted (n + 1) es in omega (arith, h)

pub reads_entries : (P : Plan) → first_bad P ≡ None → length P.sims ≤ 200 → (es : List RecordEntry) (last : ℕ) (A : List Arrival) (steps : List Asked) → 3 ≤ last → last ≤ 8 → list_all (entry_fits P) es ≡ true
    → (l : ℕ) × (3 ≤ l) × (l ≤ 8) × Reads (state last P A steps) (flat_map entry_line es) (state l P (A ++ said es) (steps ++ steps_after (length A) es))
reads_entries P valid few [] last A steps low high fits =
    (last, low, high, subst (λ (B : List Arrival). Reads (state last P A steps) [] (state last P B (steps ++ []))) (sym (append_nil A)) (subst (λ (s : List Asked). Reads (state last P A steps) [] (state last P A s)) (sym (append_nil steps)) (nothing (state last P A steps))))
reads_entries P valid few (StepOf sim at advance ∷ es) last A steps low high fits =
    let p = and_parts (entry_fits P (StepOf sim at advance)) (list_all (entry_fits P) es) fits in
    let one : Asked = record { before = length A; sim = record { 0 = sim }; at = at; max_advance = advance } in
    let r = reads_entries P valid few es 8 A (steps ++ one ∷ []) (omega arith) (omega arith) p.1 in (
      r.0,
      r.1,
      r.2,
      subst (λ (s : List Asked). Reads (state last P A steps) (flat_map entry_line (StepOf sim at advance ∷ es)) (state r.0 P (A ++ said es) s)) (append_assoc steps (one ∷ []) (steps_after (length A) es))
          (joined (state last P A steps) (state 8 P A (steps ++ one ∷ [])) (state r.0 P (A ++ said es) ((steps ++ one ∷ []) ++ steps_after (length A) es)) (ask_line sim at advance) (flat_map entry_line es)
          (ask_read P valid few last A steps sim at advance low high p.0) r.3),
    )
reads_entries P valid few (MessageOf a ∷ es) last A steps low high fits =
    let p = and_parts (entry_fits P (MessageOf a)) (list_all (entry_fits P) es) fits in
    let r = reads_entries P valid few es 8 (A ++ a ∷ []) steps (omega arith) (omega arith) p.1 in
    let counts : length (A ++ a ∷ []) ≡ length A + 1 = length-append A (a ∷ []) in (
      r.0,
      r.1,
      r.2,
      subst (λ (B : List Arrival). Reads (state last P A steps) (flat_map entry_line (MessageOf a ∷ es)) (state r.0 P B (steps ++ steps_after (length A + 1) es))) (append_assoc A (a ∷ []) (said es))
          (subst (λ (n : ℕ). Reads (state last P A steps) (flat_map entry_line (MessageOf a ∷ es)) (state r.0 P ((A ++ a ∷ []) ++ said es) (steps ++ steps_after n es))) counts
          (joined (state last P A steps) (state 8 P (A ++ a ∷ []) steps) (state r.0 P ((A ++ a ∷ []) ++ said es) (steps ++ steps_after (length (A ++ a ∷ [])) es)) (got_line a) (flat_map entry_line es)
          (got_read P valid few last A steps a low high p.0) r.3)),
    )

-- ---- the last line

pub end_read : (P : Plan) → first_bad P ≡ None → (last : ℕ) (A : List Arrival) (steps : List Asked) (count : ℕ) → 3 ≤ last → last ≤ 8 → count ≡ length A + length steps → line_step (state last P A steps) (codes "end " ++ decimal count) ≡ Ended
end_read P valid last A steps count low high is =
    entry_kind last P A steps kinds.End (decimal count) valid (stands last 9 low (omega arith))
    ∙ ap (λ n. end_step n (decimal count)) (sym is)
    ∙ ap (λ b. cond b Ended (cond (is_number (decimal count)) (Bad miscounted) (Bad misformed))) (same_text_self (decimal count))
