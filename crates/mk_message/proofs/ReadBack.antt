-- The payload of a message has that message.
use Rattle.std.proofs.Common.{◌≡◌, ℕ, ◌<◌, ◌≤◌, ◌^◌, ◌++◌, ◌&&◌, ℤ, pos, true, List, [], ◌∷◌, Some, Ok, option_and_then, refl, sym, ap, ◌∙◌, subst, arith, nat_lt, int_le, int_lt}
use Rattle.std.proofs.lemmas.Bool.{and_parts, and_from, ltb-true}
use Rattle.std.proofs.lemmas.Int.{ints}
use Rattle.std.specs.List.{list_all}
use Rattle.mk_base.specs.declared.json.Json as tree
use Rattle.mk_base.specs.declared.json.Json.{Json}
use Rattle.mk_base.specs.Texts.{text_of}
use Rattle.mk_base.specs.Trees as trees
use Rattle.mk_base.specs.Trees.{whole_in, text_in, items_in, is_object, nesting, in_range}
use Rattle.mk_plan.specs.declared.Message.{Message}
use Rattle.mk_plan.specs.declared.Message.TheVariants.{Ask, Success, Failure}
use Rattle.mk_json.specs.Parsed.{parsed}
use Rattle.mk_json.proofs.LevelTests.{range-List}
use Rattle.mk_json.proofs.OfOutlines.{range-Whole}
use Rattle.mk_json.proofs.Layers.{folded-Text}
use Rattle.mk_message.specs.declared.reading.Kind.{Kind}
use Rattle.mk_message.specs.declared.reading.Kind.TheVariants as kind
use Rattle.mk_message.specs.Messages.{three_of, three_in, kind_numbered, kind_in, id_numbered, id_in, request_in, content_in, tested, message_in, message_of}
use Rattle.mk_message.specs.Written.{message_tree, is_readable}
use Rattle.mk_base.proofs.Views.{items_in_list, text_in_text, whole_in_whole}
use Rattle.mk_base.proofs.Counts.{pos_in_range}

-- ---- trees that are made, looked into

three_in-List : (a b c : Json) → three_in (tree.List (a ∷ b ∷ c ∷ [])) ≡ Some (a, b, c)
three_in-List a b c = ap (option_and_then three_of) (items_in_list (a ∷ b ∷ c ∷ []))

id_in-Whole : (id : ℕ) → id < 2 ^ 63 → id_in (tree.Whole (pos id)) ≡ Some id
id_in-Whole id h =
    let low : int_le (pos 0) (pos id) ≡ true = grind (arith, ints) in
    let high : int_lt (pos id) (pos (2 ^ 63)) ≡ true = grind (arith, ints) in
    ap (option_and_then id_numbered) (whole_in_whole (pos id)) ∙ rw (low, high) refl

message_in-framed : (k : ℤ) (kd : Kind) (id : ℕ) (content : Json) → kind_numbered k ≡ Some kd → id < 2 ^ 63
    → message_in (tree.List (tree.Whole k ∷ tree.Whole (pos id) ∷ content ∷ [])) ≡ tested 5 (content_in kd id content) (λ m. Ok m)
message_in-framed k kd id content is h =
    ap (λ o. tested 2 o (λ (p : Json × Json × Json). tested 3 (kind_in p.0) (λ kind. tested 4 (id_in p.1) (λ id. tested 5 (content_in kind id p.2) (λ m. Ok m))))) (three_in-List (tree.Whole k) (tree.Whole (pos id)) content)
    ∙ ap (λ o. tested 3 o (λ kind. tested 4 (id_in (tree.Whole (pos id))) (λ id. tested 5 (content_in kind id content) (λ m. Ok m)))) (ap (option_and_then kind_numbered) (whole_in_whole k) ∙ is)
    ∙ ap (λ o. tested 4 o (λ id. tested 5 (content_in kd id content) (λ m. Ok m))) (id_in-Whole id h)

request_in-List : (id : ℕ) (name : List ℕ) (args : List Json) (named : Json) → is_object named ≡ true → request_in id (tree.List (tree.Text name ∷ tree.List args ∷ named ∷ [])) ≡ Some (Ask id name args named)
request_in-List id name args named obj = rw (three_in-List (tree.Text name) (tree.List args) named, text_in_text name, items_in_list args, obj) refl

message_in-message_tree : (m : Message) → is_readable m ≡ true → message_in (message_tree m) ≡ Ok m
message_in-message_tree (Ask id name args named) h =
    let p = and_parts (nat_lt id (2 ^ 63)) (is_object named) h in
    message_in-framed (pos 0) kind.Request id (tree.List (tree.Text name ∷ tree.List args ∷ named ∷ [])) refl (ltb-true _ _ p.0) ∙ ap (λ o. tested 5 o (λ m. Ok m)) (request_in-List id name args named p.1)
message_in-message_tree (Success id content) h = message_in-framed (pos 1) kind.Success id content refl (ltb-true _ _ h)
message_in-message_tree (Failure id text) h =
    message_in-framed (pos 2) kind.Failure id (tree.Text text) refl (ltb-true _ _ h) ∙ rw (text_in_text text) refl

pub message_of-written : (m : Message) (t : Json) (out before : List ℕ) → t ≡ message_tree m → before ≡ [] → out ≡ before ++ text_of t → (nesting t ≤ 127 → parsed (text_of t) ≡ Some t)
    → is_readable m ≡ true → nesting (message_tree m) ≤ 127 → message_of out ≡ Ok m
message_of-written m t out before is none text back readable shallow =
    let read = back (subst (λ (u : Json). nesting u ≤ 127) (sym is) shallow) in
    ap message_of (text ∙ ap (λ l. l ++ text_of t) none) ∙ ap (λ o. tested 1 o message_in) read ∙ ap message_in is ∙ message_in-message_tree m readable

-- ---- numbers in range

pub range-framed : (t content : Json) (k id : ℕ) → t ≡ tree.List (tree.Whole (pos k) ∷ tree.Whole (pos id) ∷ content ∷ []) → k < 2 ^ 8 → id < 2 ^ 64 → trees.is_in_range content ≡ true → trees.is_in_range t ≡ true
range-framed t content k id is small fits h =
    ap trees.is_in_range is ∙ range-List (tree.Whole (pos k) ∷ tree.Whole (pos id) ∷ content ∷ [])
    ∙ and_from _ _ (range-Whole (pos k) ∙ pos_in_range k (omega arith)) (and_from _ _ (range-Whole (pos id) ∙ pos_in_range id fits) (and_from _ _ h refl))

pub range-request : (t named : Json) (name : List ℕ) (args : List Json) → t ≡ tree.List (tree.Text name ∷ tree.List args ∷ named ∷ []) → (list_all trees.is_in_range args && trees.is_in_range named) ≡ true → trees.is_in_range t ≡ true
range-request t named name args is h =
    let p = and_parts (list_all trees.is_in_range args) (trees.is_in_range named) h in
    ap trees.is_in_range is ∙ range-List (tree.Text name ∷ tree.List args ∷ named ∷ []) ∙ and_from _ _ (folded-Text _ _ name) (and_from _ _ (range-List args ∙ p.0) (and_from _ _ p.1 refl))
