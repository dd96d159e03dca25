-- A message whose content is plain, and its payload.
use Rattle.std.proofs.Common.{◌≡◌, ℕ, ◌<◌, ◌≤◌, ◌^◌, ◌++◌, ℤ, pos, true, length, List, [], ◌∷◌, codes, Ok, refl, sym, ap, ◌∙◌, subst, arith, append-nil}
use Rattle.std.proofs.lemmas.Bool.{and_from}
use Rattle.std.proofs.lemmas.Fmt.{decimal_digit}
use Rattle.std.specs.Fmt.{signed_decimal}
use Rattle.mk_base.specs.declared.json.Json as tree
use Rattle.mk_base.specs.declared.json.Json.{Json}
use Rattle.mk_base.specs.Lists.{same_text}
use Rattle.mk_base.specs.Proper.{is_proper}
use Rattle.mk_base.specs.Texts.{text_of, list_text}
use Rattle.mk_base.specs.Trees.{is_in_range, nesting}
use Rattle.mk_base.proofs.Counts.{pos_in_range, less_test}
use Rattle.mk_json.proofs.Back.{parsed-text_of}
use Rattle.mk_json.proofs.Layers.{folded-Null, folded-Whole, folded-List, folded-Object}
use Rattle.mk_json.proofs.LevelTests.{range-List, proper-List, proper-Object, range-Object}
use Rattle.mk_json.proofs.OfOutlines.{range-Whole, proper-Whole, proper-Null}
use Rattle.mk_json.proofs.Values.{nesting-more}
use Rattle.mk_message.specs.Messages.{message_of}
use Rattle.mk_message.specs.Written.{message_text, message_tree, success_text}
use Rattle.mk_message.proofs.ReadBack.{message_of-written}
use Rattle.mk_plan.specs.declared.Message.TheVariants.{Success}
use Rattle.mk_message_plain.specs.Plain.{IsWritten}
use Rattle.mk_message_plain.specs.inner.Members.{IsContent}
use Rattle.mk_message_plain.proofs.Members.{max_up_to}
use Rattle.mk_base.proofs.Guessing.{text_is}

-- ---- contents of one part

pub null_content : (depth : ℕ) → IsContent depth tree.Null
null_content depth = record { proper = proper-Null; in_range = folded-Null _ _; shallow = subst (λ n. n ≤ depth) (sym (folded-Null _ _)) (omega arith) }

pub empty_content : (ms : List (List ℕ × Json)) → ms ≡ [] → IsContent 2 (tree.Object ms)
empty_content ms none = subst (λ (l : List (List ℕ × Json)). IsContent 2 (tree.Object l)) (sym none) (record { proper = proper-Object []; in_range = range-Object []; shallow = subst (λ n. n ≤ 2) (sym (folded-Object _ _ [])) (omega arith) })

pub null_text : (text : List ℕ) → same_text text (codes "null") ≡ true → text ≡ text_of tree.Null
null_text text h = text_is text (codes "null") h ∙ sym (folded-Null _ _)

pub empty_text : (rest : List ℕ) (ms : List (List ℕ × Json)) → same_text rest (codes "}") ≡ true → ms ≡ [] → 123 ∷ rest ≡ text_of (tree.Object ms)
empty_text rest ms h none = ap (λ l. 123 ∷ l) (text_is rest (codes "}") h) ∙ sym (folded-Object _ _ []) ∙ ap (λ (l : List (List ℕ × Json)). text_of (tree.Object l)) (sym none)

empty : (rest : List ℕ) → length rest < 1 → rest ≡ []
empty [] h = refl
empty (b ∷ rest) h = absurd (omega (arith, h))

pub number_text : (text rest : List ℕ) (z : ℤ) → text ≡ signed_decimal z ++ rest → length rest < 1 → text ≡ text_of (tree.Whole z)
number_text text rest z is none = is ∙ ap (λ l. signed_decimal z ++ l) (empty rest none) ∙ append-nil (signed_decimal z) ∙ sym (folded-Whole _ _ z)

-- ---- the message

module _ (id : ℕ) (content : Json) (c : IsContent 2 content) where
  message_proper : is_proper (message_tree (Success id content)) ≡ true
  message_proper = proper-List (tree.Whole (pos 1) ∷ tree.Whole (pos id) ∷ content ∷ []) ∙ and_from _ _ (proper-Whole (pos 1)) (and_from _ _ (proper-Whole (pos id)) (and_from _ _ c.proper refl))

  message_in_range : id < 2 ^ 63 → is_in_range (message_tree (Success id content)) ≡ true
  message_in_range small =
      range-List (tree.Whole (pos 1) ∷ tree.Whole (pos id) ∷ content ∷ [])
      ∙ and_from _ _ (range-Whole (pos 1) ∙ pos_in_range 1 (omega arith)) (and_from _ _ (range-Whole (pos id) ∙ pos_in_range id (omega (arith, small))) (and_from _ _ c.in_range refl))

  no_deeper : (t : Json) (ts : List Json) → nesting t ≤ 2 → nesting (tree.List ts) ≤ 3 → nesting (tree.List (t ∷ ts)) ≤ 3
  no_deeper t ts h k = subst (λ n. n ≤ 3) (sym (nesting-more t ts)) (max_up_to (nesting t) (nesting (tree.List ts)) 2 h k)

  number_flat : (z : ℤ) → nesting (tree.Whole z) ≤ 2
  number_flat z = subst (λ n. n ≤ 2) (sym (folded-Whole _ _ z)) (omega arith)

  message_shallow : nesting (message_tree (Success id content)) ≤ 3
  message_shallow =
      no_deeper (tree.Whole (pos 1)) _ (number_flat (pos 1)) (no_deeper (tree.Whole (pos id)) _ (number_flat (pos id)) (no_deeper content [] c.shallow (subst (λ n. n ≤ 3) (sym (folded-List _ _ [])) (omega arith))))

  success-is : message_text (Success id content) ≡ success_text id (text_of content)
  success-is =
      folded-List _ _ (tree.Whole (pos 1) ∷ tree.Whole (pos id) ∷ content ∷ [])
      ∙ ap (λ (t : List ℕ). list_text (t ∷ text_of (tree.Whole (pos id)) ∷ text_of content ∷ [])) (folded-Whole _ _ (pos 1) ∙ decimal_digit 1 (omega arith))
      ∙ ap (λ (t : List ℕ). list_text (codes "1" ∷ t ∷ text_of content ∷ [])) (folded-Whole _ _ (pos id))

  module _ (payload text : List ℕ) (small : id < 2 ^ 63) (is : payload ≡ success_text id text) (told : text ≡ text_of content) where
    pub written : IsWritten (Success id content) payload
    written = record {
      text = is ∙ ap (success_text id) told ∙ sym success-is;
      proper = message_proper;
      in_range = message_in_range small;
      shallow = message_shallow;
    }

    pub told_back : message_of payload ≡ Ok (Success id content)
    told_back =
        let shallow = message_shallow in
        message_of-written (Success id content) (message_tree (Success id content)) payload [] refl refl written.text
        (λ h. parsed-text_of (message_tree (Success id content)) message_proper (message_in_range small) h) (less_test id (2 ^ 63) small) (omega (arith, shallow))
