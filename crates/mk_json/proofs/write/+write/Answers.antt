-- Answers to the goals of `write::+write` that the prover leaves.
use Rattle.std.proofs.Common.{rules, ◌≡◌, ℕ, true, ◌++◌, ◌∷◌, [], List, map, drop, ◌+◌, codes, refl, sym, ap, ◌∙◌, subst}
use Rattle.std.specs.Fmt.{signed_decimal}
use Rattle.std.proofs.lemmas.Str.{is_utf8-from_IsUtf8}
use Rattle.std.proofs.lemmas.Bool.{and_from}
use Rattle.std.specs.List.{list_all}
use Rattle.std.specs.Map.{keys_of}
use Rattle.std.specs.Str.{is_utf8}
use Rattle.std.specs.Prelude.{IsUtf8}
use Rattle.json.specs.Json as json
use Rattle.json.specs.Token.{Token, begin_array, begin_object}
use Rattle.json.specs.Tree.{json_tokens, items_tokens, members_tokens}
use Rattle.mk_base.specs.declared.json.Json.{Json, the_lemmas}
use Rattle.mk_base.specs.Trees.{is_in_range}
use Rattle.mk_json.specs.inner.Outline.{outline, items_in, members_in}
use Rattle.mk_base.specs.Proper.{is_proper}
use Rattle.mk_base.specs.inner.Proper.{are_proper}
use Rattle.mk_json.proofs.LevelTests.{range-List, range-Object, proper-List, proper-Object}
use Rattle.mk_json.proofs.OfOutlines.{IsNumber-half, on_ok_always, on_ok_test, on_ok_tokens, on_ok_more, outline-Null, outline-Bool, outline-Whole, outline-Odd, outline-Text, outline-List, outline-Object, left_is, none_left, names_rise-sorted, member_tokens, next_passes, same_test, range-Whole, proper-Null, proper-Bool, proper-Whole, proper-Odd, proper-Text}
use Rattle.mk_json.proofs.write.+write.Goals as goal

pub write-number-requires : goal.write-number-requires
write-number-requires t c = IsNumber-half

pub write-whole-requires : goal.write-whole-requires
write-whole-requires t c = sym (range-Whole c.in-Whole.n) ∙ ap is_in_range (sym c.in-Whole.is) ∙ c.requires

pub write-write_items-requires : goal.write-write_items-requires
write-write_items-requires t c = (search (rules, the_lemmas), sym (range-List c.in-List.items) ∙ ap is_in_range (sym c.in-List.is) ∙ c.requires)

pub write-write_members-requires : goal.write-write_members-requires
write-write_members-requires t c = (search (rules, the_lemmas), sym (range-Object c.in-Object.members) ∙ ap is_in_range (sym c.in-Object.is) ∙ c.requires)

pub write-returns-in-Null-clause-ok : goal.write-returns-in-Null-clause-ok
write-returns-in-Null-clause-ok t c = on_ok_tokens c.null.result c.null.new.self.tokens c.args.out.now.tokens (Token.null ∷ []) c.args.tree.now (ap json_tokens (ap outline c.in-Null.is ∙ outline-Null)) c.null.ensures.ok

pub write-returns-in-Null-clause-proper : goal.write-returns-in-Null-clause-proper
write-returns-in-Null-clause-proper t c = on_ok_always c.null.result (ap is_proper c.in-Null.is ∙ proper-Null)

pub write-returns-in-Bool-clause-ok : goal.write-returns-in-Bool-clause-ok
write-returns-in-Bool-clause-ok t c = on_ok_tokens c.boolean.result c.boolean.new.self.tokens c.args.out.now.tokens (Token.boolean c.in-Bool.b ∷ []) c.args.tree.now (ap json_tokens (ap outline c.in-Bool.is ∙ outline-Bool c.in-Bool.b)) c.boolean.ensures.ok

pub write-returns-in-Bool-clause-proper : goal.write-returns-in-Bool-clause-proper
write-returns-in-Bool-clause-proper t c = on_ok_always c.boolean.result (ap is_proper c.in-Bool.is ∙ proper-Bool c.in-Bool.b)

pub write-returns-in-Whole-clause-ok : goal.write-returns-in-Whole-clause-ok
write-returns-in-Whole-clause-ok t c = on_ok_tokens c.whole.result c.whole.new.out.tokens c.args.out.now.tokens (Token.number (signed_decimal c.in-Whole.n) ∷ []) c.args.tree.now (ap json_tokens (ap outline c.in-Whole.is ∙ outline-Whole c.in-Whole.n)) c.whole.ensures.ok

pub write-returns-in-Whole-clause-proper : goal.write-returns-in-Whole-clause-proper
write-returns-in-Whole-clause-proper t c = on_ok_always c.whole.result (ap is_proper c.in-Whole.is ∙ proper-Whole c.in-Whole.n)

pub write-returns-in-Odd-clause-ok : goal.write-returns-in-Odd-clause-ok
write-returns-in-Odd-clause-ok t c = on_ok_tokens c.number.result c.number.new.self.tokens c.args.out.now.tokens (Token.number (codes "0.5") ∷ []) c.args.tree.now (ap json_tokens (ap outline c.in-Odd.is ∙ outline-Odd)) c.number.ensures.ok

pub write-returns-in-Odd-clause-proper : goal.write-returns-in-Odd-clause-proper
write-returns-in-Odd-clause-proper t c = on_ok_always c.number.result (ap is_proper c.in-Odd.is ∙ proper-Odd)

pub write-returns-in-Text-clause-ok : goal.write-returns-in-Text-clause-ok
write-returns-in-Text-clause-ok t c = on_ok_tokens c.string.result c.string.new.self.tokens c.args.out.now.tokens (Token.string c.as_str.result.now ∷ []) c.args.tree.now (ap json_tokens (ap outline c.in-Text.is ∙ outline-Text c.in-Text.text ∙ ap json.string (sym c.as_str.ensures))) c.string.ensures.ok

pub write-returns-in-Text-clause-proper : goal.write-returns-in-Text-clause-proper
write-returns-in-Text-clause-proper t c = on_ok_always c.string.result (ap is_proper c.in-Text.is ∙ proper-Text c.in-Text.text ∙ is_utf8-from_IsUtf8 c.in-Text.text (subst IsUtf8 c.as_str.ensures c.as_str.utf8))

pub write-returns-in_ok-begin_array-in-List-clause-ok : goal.write-returns-in_ok-begin_array-in-List-clause-ok
write-returns-in_ok-begin_array-in-List-clause-ok t c =
    let ts = c.in-List.items in
    on_ok_more c.write_items.result c.write_items.new.out.tokens c.args.out.now.tokens c.begin_array.new.self.tokens begin_array (items_tokens (items_in (map outline ts))) c.args.tree.now
    (ap json_tokens (ap outline c.in-List.is ∙ outline-List ts)) c.in_ok-begin_array-in-List.ensures.ok c.write_items.ensures.ok

pub write-returns-in_ok-begin_array-in-List-clause-proper : goal.write-returns-in_ok-begin_array-in-List-clause-proper
write-returns-in_ok-begin_array-in-List-clause-proper t c = on_ok_test c.write_items.result (list_all is_proper c.in-List.items) (is_proper c.args.tree.now) (ap is_proper c.in-List.is ∙ proper-List c.in-List.items) c.write_items.ensures.proper

pub write-returns-in_ok-begin_object-in-Object-clause-ok : goal.write-returns-in_ok-begin_object-in-Object-clause-ok
write-returns-in_ok-begin_object-in-Object-clause-ok t c =
    let ms = c.in-Object.members in
    on_ok_more c.write_members.result c.write_members.new.out.tokens c.args.out.now.tokens c.begin_object.new.self.tokens begin_object (members_tokens (members_in (map (λ (m : List ℕ × Json). (m.0, outline m.1)) ms))) c.args.tree.now
    (ap json_tokens (ap outline c.in-Object.is ∙ outline-Object ms)) c.in_ok-begin_object-in-Object.ensures.ok c.write_members.ensures.ok

pub write-returns-in_ok-begin_object-in-Object-clause-proper : goal.write-returns-in_ok-begin_object-in-Object-clause-proper
write-returns-in_ok-begin_object-in-Object-clause-proper t c = on_ok_test c.write_members.result (are_proper c.in-Object.members) (is_proper c.args.tree.now) (ap is_proper c.in-Object.is ∙ proper-Object c.in-Object.members) c.write_members.ensures.proper

pub write_members-loop-name-preserved : goal.write_members-loop-name-preserved
write_members-loop-name-preserved t c =
    let l = c.loop-name in
    let m : List ℕ × Json = c.loop-name-item.result in
    let left = drop l.name-index c.entries-entries.result.now in
    let more = drop (l.name-index + 1) c.entries-entries.result.now in
    let next : left ≡ m ∷ more = left_is c.entries-entries.result.now l.name-index m c.loop-name-test.true c.loop-name-item.is in
    let ranges = next_passes (λ (m : List ℕ × Json). is_in_range m.1) left more m next l.invariant.in_range in
    let text : is_utf8 m.0 ≡ true = is_utf8-from_IsUtf8 m.0 (subst IsUtf8 c.as_str.ensures c.as_str.utf8) in
    record {
      before = c.write.ensures.before ∙ c.key.ensures.room.0 ∙ l.invariant.before;
      same = l.invariant.same;
      tokens = member_tokens l.out.tokens c.key.new.self.tokens c.write.new.out.tokens _ left more m next (c.in_ok-key.ensures.ok ∙ ap (λ k. l.out.tokens ++ Token.key k ∷ []) c.as_str.ensures) c.in_ok-write.ensures.ok l.invariant.tokens;
      in_range = ranges.1;
      texts = same_test is_utf8 _ (keys_of left) (keys_of more) m.0 (ap keys_of next) text l.invariant.texts;
      proper = same_test (λ (m : List ℕ × Json). is_proper m.1) _ left more m next c.in_ok-write.ensures.proper l.invariant.proper;
    }

pub write_members-returns-clause-proper : goal.write_members-returns-clause-proper
write_members-returns-clause-proper t c =
    let l = c.loop-name in
    let rise = names_rise-sorted (keys_of c.args.members.now) c.entries-entries.ensures.sorted in
    let texts = l.invariant.texts ∙ none_left (λ (ms : List (List ℕ × Json)). list_all is_utf8 (keys_of ms)) c.entries-entries.result.now l.name-index c.loop-name-test.false refl in
    let values = l.invariant.proper ∙ none_left (λ (ms : List (List ℕ × Json)). list_all (λ (m : List ℕ × Json). is_proper m.1) ms) c.entries-entries.result.now l.name-index c.loop-name-test.false refl in
    on_ok_always c.end_object.result (and_from _ _ (and_from _ _ rise texts) values)
