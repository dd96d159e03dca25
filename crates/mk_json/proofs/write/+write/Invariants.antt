-- The invariants and measures of the loops of `write::+write`.
use Rattle.std.proofs.Common.{◌≡◌, ℕ, ◌++◌, true, List, map, drop}
use Rattle.std.specs.List.{list_all}
use Rattle.std.specs.Map.{keys_of}
use Rattle.std.specs.Str.{is_utf8}
use Rattle.json.specs.Tree.{items_tokens, members_tokens}
use Rattle.mk_base.specs.declared.json.Json.{Json}
use Rattle.mk_base.specs.Trees.{is_in_range}
use Rattle.mk_json.specs.inner.Outline.{outline, items_in, members_in}
use Rattle.mk_base.specs.Proper.{is_proper}
use Rattle.mk_json.proofs.write.+write.Given as goal

abbrev pub invariant-write_items-loop-item : goal.invariant-write_items-loop-item
invariant-write_items-loop-item l =
    let left = drop l.item-index l.item-items in
    record {
      before : l.out.before ≡ l.initial.out.before;
      same : l.item-items ≡ l.items;
      tokens : l.out.tokens ++ items_tokens (items_in (map outline left)) ≡ l.initial.out.tokens ++ items_tokens (items_in (map outline l.items));
      in_range : list_all is_in_range left ≡ true;
      proper : list_all is_proper l.items ≡ list_all is_proper left;
    }

abbrev pub invariant-write_members-loop-name : goal.invariant-write_members-loop-name
invariant-write_members-loop-name l =
    let left = drop l.name-index l.entries in
    record {
      before : l.out.before ≡ l.initial.out.before;
      same : l.entries ≡ l.members;
      tokens : l.out.tokens ++ members_tokens (members_in (map (λ (m : List ℕ × Json). (m.0, outline m.1)) left))
          ≡ l.initial.out.tokens ++ members_tokens (members_in (map (λ (m : List ℕ × Json). (m.0, outline m.1)) l.members));
      in_range : list_all (λ (m : List ℕ × Json). is_in_range m.1) left ≡ true;
      texts : list_all is_utf8 (keys_of l.members) ≡ list_all is_utf8 (keys_of left);
      proper : list_all (λ (m : List ℕ × Json). is_proper m.1) l.members ≡ list_all (λ (m : List ℕ × Json). is_proper m.1) left;
    }
