-- The numbers of a message are those of its tree.
use Rattle.std.proofs.Common.{◌≡◌, ℕ, Bool, true, false, List, [], ◌∷◌, Option, Some, None, Result, Ok, option_map, option_and_then, if◌then◌else◌, refl, sym, ap, ◌∙◌, subst}
use Rattle.std.proofs.lemmas.Bool.{and_parts, and_from}
use Rattle.std.specs.List.{list_all}
use Rattle.std.specs.Prelude.{Err, IfOk}
use Rattle.mk_base.specs.declared.json.Json as tree
use Rattle.mk_base.specs.declared.json.Json.{Json}
use Rattle.mk_base.specs.declared.json.Json.TheVariants as v
use Rattle.mk_base.specs.Trees as trees
use Rattle.mk_base.specs.Trees.{text_in, items_in, is_object}
use Rattle.mk_base.proofs.Lists.{some_same, none_some}
use Rattle.mk_plan.specs.declared.Message.{Message}
use Rattle.mk_plan.specs.declared.Message.TheVariants.{Ask, Failure}
use Rattle.mk_json.specs.Parsed.{parsed}
use Rattle.mk_json.proofs.LevelTests.{range-List}
use Rattle.mk_json.proofs.Layers as layers
use Rattle.mk_json.proofs.Layers.{Held, Steps, by_layers}
use Rattle.mk_json.proofs.Values.{parsed-in_range}
use Rattle.mk_message.specs.declared.reading.Kind.{Kind}
use Rattle.mk_message.specs.declared.reading.Kind.TheVariants as kind
use Rattle.mk_message.specs.Messages.{three_of, three_in, kind_in, id_in, content_in, tested, message_in, message_of}
use Rattle.mk_base.proofs.Views.{items_in_list}
use Rattle.mk_plan.specs.Messages.{is_message_in_range}

abbrev Fits : Json → Type 0
Fits t = trees.is_in_range t ≡ true

-- the items of a list in range are in range
abbrev ItemsFit : Json → Type 0
ItemsFit t = (ts : List Json) → items_in t ≡ Some ts → Fits t → list_all trees.is_in_range ts ≡ true

not_list : (t : Json) → items_in t ≡ None → ItemsFit t
not_list t none ts e r = absurd (none_some (sym none ∙ e))

fits_list : (hs : List (Held ItemsFit)) → ItemsFit (tree.List (layers.trees hs))
fits_list hs ts e r = subst (λ us. list_all trees.is_in_range us ≡ true) (some_same (sym (items_in_list (layers.trees hs)) ∙ e)) (sym (range-List (layers.trees hs)) ∙ r)

fits_each : Steps ItemsFit
fits_each = record {
  null = not_list tree.Null (rw v.outs-Null refl);
  bool = λ b. not_list (tree.Bool b) (rw (v.outs-Bool b) refl);
  whole = λ n. not_list (tree.Whole n) (rw (v.outs-Whole n) refl);
  odd = not_list tree.Odd (rw v.outs-Odd refl);
  text = λ s. not_list (tree.Text s) (rw (v.outs-Text s) refl);
  list = fits_list;
  object = λ hs. not_list (tree.Object (layers.members hs)) (rw (v.outs-Object (layers.members hs)) refl);
}

items_fit : (t : Json) → ItemsFit t
items_fit t = by_layers ItemsFit fits_each t

abbrev AllFit : Json × Json × Json → Type 0
AllFit p = Fits p.0 × Fits p.1 × Fits p.2

list_of_three : (ts : List Json) (p : Json × Json × Json) → three_of ts ≡ Some p → list_all trees.is_in_range ts ≡ true → AllFit p
list_of_three [] p e r = absurd (none_some e)
list_of_three (a ∷ []) p e r = absurd (none_some e)
list_of_three (a ∷ b ∷ []) p e r = absurd (none_some e)
list_of_three (a ∷ b ∷ c ∷ []) p e r =
    let x = and_parts (trees.is_in_range a) _ r in
    let y = and_parts (trees.is_in_range b) _ x.1 in
    let z = and_parts (trees.is_in_range c) _ y.1 in
    subst AllFit (some_same e) (x.0, y.0, z.0)
list_of_three (a ∷ b ∷ c ∷ d ∷ more) p e r = absurd (none_some e)

three_at : (t : Json) (o : Option (List Json)) (p : Json × Json × Json) → items_in t ≡ o → option_and_then three_of o ≡ Some p → Fits t → AllFit p
three_at t None p is e r = absurd (none_some e)
three_at t (Some ts) p is e r = list_of_three ts p e (items_fit t ts is r)

three_fit : (t : Json) (p : Json × Json × Json) → three_in t ≡ Some p → Fits t → AllFit p
three_fit t p e r = three_at t (items_in t) p refl e r

asked_fits : (id : ℕ) (p : Json × Json × Json) (name : Option (List ℕ)) (args : Option (List Json)) (b : Bool) (m : Message) → items_in p.1 ≡ args
    → option_and_then (λ n. option_and_then (λ a. if b then Some (Ask id n a p.2) else None) args) name ≡ Some m → Fits p.1 → Fits p.2 → is_message_in_range m ≡ true
asked_fits id p None args b m is e r s = absurd (none_some e)
asked_fits id p (Some n) None b m is e r s = absurd (none_some e)
asked_fits id p (Some n) (Some a) false m is e r s = absurd (none_some e)
asked_fits id p (Some n) (Some a) true m is e r s = subst (λ x. is_message_in_range x ≡ true) (some_same e) (and_from _ _ (items_fit p.1 a is r) s)

abbrev asked : ℕ → Json × Json × Json → Option Message
asked id p = option_and_then (λ n. option_and_then (λ a. if is_object p.2 then Some (Ask id n a p.2) else None) (items_in p.1)) (text_in p.0)

request_at : (id : ℕ) (t : Json) (o : Option (Json × Json × Json)) (m : Message) → three_in t ≡ o → option_and_then (asked id) o ≡ Some m → Fits t → is_message_in_range m ≡ true
request_at id t None m is e r = absurd (none_some e)
request_at id t (Some p) m is e r = let f = three_fit t p is r in asked_fits id p (text_in p.0) (items_in p.1) (is_object p.2) m refl e f.1 f.2

failure_at : (id : ℕ) (o : Option (List ℕ)) (m : Message) → option_map (λ text. Failure id text) o ≡ Some m → is_message_in_range m ≡ true
failure_at id None m e = absurd (none_some e)
failure_at id (Some s) m e = subst (λ x. is_message_in_range x ≡ true) (some_same e) refl

content_fits : (k : Kind) (id : ℕ) (t : Json) (m : Message) → content_in k id t ≡ Some m → Fits t → is_message_in_range m ≡ true
content_fits kind.Request id t m e r = request_at id t (three_in t) m refl e r
content_fits kind.Success id t m e r = subst (λ x. is_message_in_range x ≡ true) (some_same e) r
content_fits kind.Failure id t m e r = failure_at id (text_in t) m e

-- what passed, where the message came of it
pub passed : {A : Type 0} (n : ℕ) (o : Option A) (next : A → Result Message ℕ) (m : Message) → tested n o next ≡ Ok m → (x : A) × (o ≡ Some x) × (next x ≡ Ok m)
passed n None next m e = cc
passed n (Some x) next m e = (x, refl, e)

pub same_ok : (r : Result Message ℕ) (m n : Message) → r ≡ Ok m → r ≡ Ok n → m ≡ n
same_ok r m n e f = cc

pub fits_in : (t : Json) (m : Message) → message_in t ≡ Ok m → trees.is_in_range t ≡ true → is_message_in_range m ≡ true
fits_in t m e r =
    let p = passed 2 (three_in t) (λ (p : Json × Json × Json). tested 3 (kind_in p.0) (λ kind. tested 4 (id_in p.1) (λ id. tested 5 (content_in kind id p.2) (λ m. Ok m)))) m e in
    let k = passed 3 (kind_in p.0.0) (λ kind. tested 4 (id_in p.0.1) (λ id. tested 5 (content_in kind id p.0.2) (λ m. Ok m))) m p.2 in
    let i = passed 4 (id_in p.0.1) (λ id. tested 5 (content_in k.0 id p.0.2) (λ m. Ok m)) m k.2 in
    let c = passed 5 (content_in k.0 i.0 p.0.2) (λ m. Ok m) m i.2 in
    content_fits k.0 i.0 p.0.2 m (c.1 ∙ ap Some (same_ok (Ok c.0) c.0 m refl c.2)) (three_fit t p.0 p.1 r).2

-- what was read of a tree in range is in range
pub fits_taken : (t : Json) (r : Result Message ℕ) → r ≡ message_in t → IfOk r (λ m. trees.is_in_range t ≡ true → is_message_in_range m ≡ true)
fits_taken t (Ok m) e = fits_in t m (sym e)
fits_taken t (Err n) e = tt

message_fits : (payload : List ℕ) (o : Option Json) (m : Message) → parsed payload ≡ o → tested 1 o message_in ≡ Ok m → is_message_in_range m ≡ true
message_fits payload None m is e = cc
message_fits payload (Some t) m is e = fits_in t m e (parsed-in_range payload t is)

-- and so is what was read of bytes
pub read_in_range : (payload : List ℕ) (m : Message) → message_of payload ≡ Ok m → is_message_in_range m ≡ true
read_in_range payload m e = message_fits payload (parsed payload) m refl e
