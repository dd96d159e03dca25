-- Answers to the goals of `read::+convert` that the prover leaves.
use Rattle.std.proofs.Common.{◌≡◌, ℕ, List, [], ◌∷◌, ◌++◌, take, map, String, Global, string_bytes, sym, ap, ap₂, ◌∙◌, append_assoc, append-nil, subst, arith}
use Rattle.std.proofs.lemmas.Int.{ints}
use Rattle.std.proofs.lemmas.List.{take_all}
use Rattle.std.specs.List.{list_all}
use Rattle.std.specs.Ordering.{nat_cmp}
use Rattle.std.specs.Cmp.Lexicographic.{slice_cmp}
use Rattle.std.specs.List.Sorted.{IsStrictlySortedBy}
use Rattle.std.specs.Map.{keys_of}
use Rattle.toml.specs.View.{view}
use Rattle.toml.specs.declared.value.Value.{Value}
use Rattle.mk_base.specs.declared.json.Json.{Json}
use Rattle.mk_base.specs.Trees.{is_in_range}
use Rattle.mk_base.proofs.Lists.{map_append}
use Rattle.mk_scenario_toml.specs.Document.{tree_of}
use Rattle.mk_scenario_toml.proofs.Levels.{range_bool, range_number, range_odd, range_text, range_items, range_members}
use Rattle.mk_scenario_toml.proofs.Values.{items_of-items_view, members_of-members_view, member_of, sorted-member_of}
use Rattle.mk_scenario_toml.proofs.read.+convert.Goals as goal
use Rattle.mk_base.proofs.Items.{list_all_push}

-- where nothing is left all is done
all_done : {X : Type 0} (all done left : List X) → all ≡ done ++ left → left ≡ [] → all ≡ done
all_done all done left e none = e ∙ ap (λ l. done ++ l) none ∙ append-nil done

pub convert-returns-in_ok-of-in-String-clause-in_range : goal.convert-returns-in_ok-of-in-String-clause-in_range
convert-returns-in_ok-of-in-String-clause-in_range t c = range_text _

pub convert-returns-in-Integer-clause-in_range : goal.convert-returns-in-Integer-clause-in_range
convert-returns-in-Integer-clause-in_range t c = range_number _ ∙ grind (arith, ints)

pub convert-returns-in-Float-clause-in_range : goal.convert-returns-in-Float-clause-in_range
convert-returns-in-Float-clause-in_range t c = range_odd

pub convert-returns-in-Boolean-clause-in_range : goal.convert-returns-in-Boolean-clause-in_range
convert-returns-in-Boolean-clause-in_range t c = range_bool _

pub convert-returns-in-Datetime-clause-in_range : goal.convert-returns-in-Datetime-clause-in_range
convert-returns-in-Datetime-clause-in_range t c = range_odd

pub convert-returns-in_ok-convert_items-in-Array-clause-in_range : goal.convert-returns-in_ok-convert_items-in-Array-clause-in_range
convert-returns-in_ok-convert_items-in-Array-clause-in_range t c = range_items _ ∙ c.in_ok-convert_items-in-Array.ensures.in_range

pub convert-returns-in_ok-convert_members-in-Table-clause-in_range : goal.convert-returns-in_ok-convert_members-in-Table-clause-in_range
convert-returns-in_ok-convert_members-in-Table-clause-in_range t c = range_members _ ∙ c.in_ok-convert_members-in-Table.ensures.in_range

pub convert_items-returns-clause-trees : goal.convert_items-returns-clause-trees
convert_items-returns-clause-trees t c =
    let vs = c.args.items.now.items in
    let whole : take c.loop-item.item-index c.deref-item-items.result.now ≡ vs =
    take_all c.loop-item.item-index c.deref-item-items.result.now c.loop-item-test.false ∙ c.deref-item-items.ensures.value in
    c.loop-item.invariant.0 ∙ ap (map (λ v. tree_of (view v))) whole ∙ sym (items_of-items_view vs)

pub convert_members-loop-name-preserved : goal.convert_members-loop-name-preserved
convert_members-loop-name-preserved t c =
    let l = c.loop-name in
    let done = l.invariant.0 in
    let e : String Global × Value = (c.in-Some.name.now, c.in-Some.member.now) in
    let left = c.next.new.self in
    let named : c.in_ok-name.name ≡ string_bytes e.0 = c.in_ok-name.ensures ∙ c.as_str.ensures.value in (
      done ++ e ∷ [],
      l.invariant.1 ∙ ap (λ es. done ++ es) c.in-Some.ensures.steps ∙ sym (append_assoc done (e ∷ []) left),
      c.in_ok-push.ensures.ok ∙ ap₂ (λ ms m. ms ++ m ∷ []) l.invariant.2 (ap₂ (λ (k : List ℕ) (t : Json). (k, t)) named c.in_ok-convert.ensures.tree) ∙ sym (map_append member_of done (e ∷ [])),
      ap (list_all (λ (m : List ℕ × Json). is_in_range m.1)) c.in_ok-push.ensures.ok ∙ list_all_push (λ (m : List ℕ × Json). is_in_range m.1) l.found _ l.invariant.3 c.in_ok-convert.ensures.in_range,
    )

pub convert_members-from_sorted-requires : goal.convert_members-from_sorted-requires
convert_members-from_sorted-requires t c =
    let whole = all_done c.args.members.now.entries c.loop-name.invariant.0 c.loop-name.name-iterator c.loop-name.invariant.1 c.in-None.ensures.steps.0 in
    subst (λ ms. IsStrictlySortedBy (slice_cmp nat_cmp) (keys_of ms)) (ap (map member_of) whole ∙ sym c.loop-name.invariant.2) (sorted-member_of c.args.members.now.entries c.iter-name-items.ensures.ordered)

pub convert_members-returns-clause-trees : goal.convert_members-returns-clause-trees
convert_members-returns-clause-trees t c =
    let whole = all_done c.args.members.now.entries c.loop-name.invariant.0 c.loop-name.name-iterator c.loop-name.invariant.1 c.in-None.ensures.steps.0 in
    c.from_sorted.ensures ∙ c.loop-name.invariant.2 ∙ ap (map member_of) (sym whole) ∙ sym (members_of-members_view c.args.members.now.entries)
