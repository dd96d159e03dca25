-- The invariants and measures of the loops of `calls::put_following`.
use Rattle.std.proofs.Common.{◌≡◌, ℕ, true, List, ◌++◌, drop, flat_map, codes}
use Rattle.std.specs.List.{list_all}
use Rattle.mk_base.specs.declared.json.Json.{Json}
use Rattle.mk_base.specs.Trees.{is_in_range}
use Rattle.mk_message.specs.Written.{texts_of}
use Rattle.mk_message.specs.inner.Written.{member_text}
use Rattle.mk_message.proofs.calls.put_following.Given as goal

abbrev pub invariant-loop-name : goal.invariant-loop-name
invariant-loop-name l =
    let left = drop l.name-index l.members in
    record {
      text : l.out.items ++ flat_map (λ m. codes "," ++ member_text m) (texts_of left) ≡ l.fn.out.items ++ flat_map (λ m. codes "," ++ member_text m) (texts_of l.members);
      in_range : list_all (λ (m : List ℕ × Json). is_in_range m.1) left ≡ true;
    }
