-- What is written plainly is read as it stands.
use Rattle.std.proofs.Common.{◌≡◌, ℕ, ℤ, suc, ◌<◌, ◌≤◌, ◌^◌, pos, true, List, [], ◌∷◌, length, map, Some, Ok, option_and_then, decimal, refl, sym, ap, ap₂, ◌∙◌, subst, arith}
use Rattle.std.proofs.lemmas.Bool.{and_from}
use Rattle.std.proofs.lemmas.Int.{ints}
use Rattle.std.specs.List.{list_all}
use Rattle.mk_base.specs.declared.json.Json as tree
use Rattle.mk_base.specs.declared.json.Json.{Json}
use Rattle.mk_base.specs.Proper.{is_proper}
use Rattle.mk_base.specs.Texts.{text_of, list_text}
use Rattle.mk_base.specs.Trees.{is_in_range, items_in, nesting}
use Rattle.mk_base.proofs.Counts.{pos_in_range}
use Rattle.mk_base.proofs.Views.{items_in_list, whole_in_whole}
use Rattle.mk_json.specs.Parsed.{parsed}
use Rattle.mk_json.proofs.Back.{parsed-text_of}
use Rattle.mk_json.proofs.Layers.{folded-List, folded-Whole}
use Rattle.mk_json.proofs.LevelTests.{range-List, proper-List}
use Rattle.mk_json.proofs.OfOutlines.{range-Whole, proper-Whole}
use Rattle.mk_json.proofs.Values.{nesting-more}
use Rattle.mk_message.specs.Messages.{message_in, message_of, tested}
use Rattle.mk_message.specs.Written.{message_tree, message_text}
use Rattle.mk_message_plain.specs.Plain.{IsWritten}
use Rattle.mk_message_plain.proofs.Members.{max_up_to}
use Rattle.mk_plan.specs.declared.Message.{Message}
use Rattle.mk_plan.specs.declared.Plan.{Plan}
use Rattle.mk_record_read.specs.declared.saved.Asked.{Asked}
use Rattle.mk_plan.specs.Journals.{Arrival}
use Rattle.mk_record_read.specs.Fields.{misformed, is_below}
use Rattle.mk_record_read.specs.Lines.{arrival_in, asked_in, step_asked}
use Rattle.mk_record_read.specs.Reading.{items_read}
use Rattle.mk_record_read.specs.inner.PlainLines.{AreSmall}

-- the text of a proper list is read as its items
read_items : (ts : List Json) (text : List ℕ) → text ≡ text_of (tree.List ts) → list_all is_proper ts ≡ true → list_all is_in_range ts ≡ true → nesting (tree.List ts) ≤ 127 → items_read text ≡ Some ts
read_items ts text is proper ranges shallow =
    ap (option_and_then items_in) (ap parsed is ∙ parsed-text_of (tree.List ts) (proper-List ts ∙ proper) (range-List ts ∙ ranges) shallow) ∙ items_in_list ts

-- ---- how deep a list nests

one_more : (n : ℕ) (t : Json) (ts : List Json) → nesting t ≤ n → nesting (tree.List ts) ≤ suc n → nesting (tree.List (t ∷ ts)) ≤ suc n
one_more n t ts h k = subst (λ m. m ≤ suc n) (sym (nesting-more t ts)) (max_up_to (nesting t) (nesting (tree.List ts)) n h k)

none_yet : (n : ℕ) → nesting (tree.List []) ≤ suc n
none_yet n = subst (λ m. m ≤ suc n) (sym (folded-List _ _ [])) (omega arith)

number_flat : (n : ℕ) (z : ℤ) → nesting (tree.Whole z) ≤ n
number_flat n z = subst (λ m. m ≤ n) (sym (folded-Whole _ _ z)) (omega arith)

number_in_range : (n : ℕ) → n < 10 ^ 18 → is_in_range (tree.Whole (pos n)) ≡ true
number_in_range n small = range-Whole (pos n) ∙ pos_in_range n (omega (arith, small))

-- ---- a message

abbrev pair : ℕ → Message → List Json
pair sim m = tree.Whole (pos sim) ∷ message_tree m ∷ []

pair_text : (sim : ℕ) (m : Message) → text_of (tree.List (pair sim m)) ≡ list_text (decimal sim ∷ message_text m ∷ [])
pair_text sim m = folded-List _ _ (pair sim m) ∙ ap (λ (t : List ℕ). list_text (t ∷ message_text m ∷ [])) (folded-Whole _ _ (pos sim))

pair_read : (sim : ℕ) (m : Message) (text payload : List ℕ) → text ≡ list_text (decimal sim ∷ payload ∷ []) → sim < 10 ^ 18 → IsWritten m payload → items_read text ≡ Some (pair sim m)
pair_read sim m text payload is small w =
    let shallow : nesting (message_tree m) ≤ 126 = let deep = w.shallow in omega (arith, deep) in
    read_items (pair sim m) text (is ∙ ap (λ (p : List ℕ). list_text (decimal sim ∷ p ∷ [])) w.text ∙ sym (pair_text sim m)) (and_from _ _ (proper-Whole (pos sim)) (and_from _ _ w.proper refl))
    (and_from _ _ (number_in_range sim small) (and_from _ _ w.in_range refl))
    (one_more 126 (tree.Whole (pos sim)) (message_tree m ∷ []) (number_flat 126 (pos sim)) (one_more 126 (message_tree m) [] shallow (none_yet 126)))

message_there : (m : Message) (payload : List ℕ) → IsWritten m payload → message_of payload ≡ Ok m → message_in (message_tree m) ≡ Ok m
message_there m payload w told =
    let deep = w.shallow in
    sym (ap (λ o. tested 1 o message_in) (ap parsed w.text ∙ parsed-text_of (message_tree m) w.proper w.in_range (omega (arith, deep)))) ∙ told

below_there : (count sim : ℕ) → sim < count → is_below count (pos sim) ≡ true
below_there count sim less = grind (arith, ints)

pub arrives : (P : Plan) (text payload : List ℕ) (number sim : ℕ) (m : Message) → text ≡ list_text (decimal number ∷ payload ∷ []) → number < 10 ^ 18 → sim ≡ number → sim < length P.sims → IsWritten m payload → message_of payload ≡ Ok m
    → tested misformed (items_read text) (arrival_in P) ≡ Ok (record { sim = sim; message = m })
arrives P text payload number sim m is small same less w told =
    let here : is_below (length P.sims) (pos number) ≡ true = below_there (length P.sims) number (subst (λ n. n < length P.sims) same less) in
    ap (λ o. tested misformed o (arrival_in P)) (pair_read number m text payload is small w) ∙ rw (whole_in_whole (pos number), message_there m payload w told, here) (ap (λ n. let a : Arrival = record { sim = n; message = m } in Ok a) (sym same))

-- ---- a step

abbrev wholes : List ℕ → List Json
wholes ns = map (λ n. tree.Whole (pos n)) ns

wholes_text : (ns : List ℕ) → map text_of (wholes ns) ≡ map decimal ns
wholes_text [] = refl
wholes_text (n ∷ ns) = ap₂ (λ (x : List ℕ) (xs : List (List ℕ)). x ∷ xs) (folded-Whole _ _ (pos n)) (wholes_text ns)

wholes_proper : (ns : List ℕ) → list_all is_proper (wholes ns) ≡ true
wholes_proper [] = refl
wholes_proper (n ∷ ns) = and_from _ _ (proper-Whole (pos n)) (wholes_proper ns)

wholes_in_range : (ns : List ℕ) → AreSmall ns → list_all is_in_range (wholes ns) ≡ true
wholes_in_range [] small = refl
wholes_in_range (n ∷ ns) small = and_from _ _ (number_in_range n small.0) (wholes_in_range ns small.1)

wholes_shallow : (ns : List ℕ) → nesting (tree.List (wholes ns)) ≤ 1
wholes_shallow [] = none_yet 0
wholes_shallow (n ∷ ns) = one_more 0 (tree.Whole (pos n)) (wholes ns) (number_flat 0 (pos n)) (wholes_shallow ns)

wholes_read : (ns : List ℕ) (text : List ℕ) → text ≡ list_text (map decimal ns) → AreSmall ns → items_read text ≡ Some (wholes ns)
wholes_read ns text is small =
    let shallow = wholes_shallow ns in
    read_items (wholes ns) text (is ∙ sym (folded-List _ _ (wholes ns) ∙ ap list_text (wholes_text ns))) (wholes_proper ns) (wholes_in_range ns small) (omega (arith, shallow))

pub asks : (P : Plan) (before : ℕ) (text : List ℕ) (number time tier advance sim : ℕ) (t k v : ℤ) (a : Asked) → text ≡ list_text (decimal number ∷ decimal time ∷ decimal tier ∷ decimal advance ∷ []) → AreSmall (number ∷ time ∷ tier ∷ advance ∷ [])
    → sim ≡ number → sim < length P.sims → step_asked before sim t k v ≡ Ok a → t ≡ pos time → k ≡ pos tier → v ≡ pos advance → tested misformed (items_read text) (asked_in P before) ≡ Ok a
asks P before text number time tier advance sim t k v a is small same less told at_time at_tier at_advance =
    let here : is_below (length P.sims) (pos number) ≡ true = below_there (length P.sims) number (subst (λ n. n < length P.sims) same less) in
    ap (λ o. tested misformed o (asked_in P before)) (wholes_read (number ∷ time ∷ tier ∷ advance ∷ []) text is small)
    ∙ rw (whole_in_whole (pos number), whole_in_whole (pos time), whole_in_whole (pos tier), whole_in_whole (pos advance), here)
    (ap (λ n. step_asked before n (pos time) (pos tier) (pos advance)) (sym same) ∙ ap (λ z. step_asked before sim z (pos tier) (pos advance)) (sym at_time) ∙ ap (λ z. step_asked before sim t z (pos advance)) (sym at_tier) ∙ ap (step_asked before sim t k) (sym at_advance) ∙ told)
