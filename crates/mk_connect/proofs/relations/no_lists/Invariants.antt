-- The invariants and measures of the loops of `relations::no_lists`.
use Rattle.std.proofs.Common.{◌≡◌, ℕ, map, []}
use Rattle.std.specs.List.{range_with_len}
use Rattle.mk_connect.proofs.relations.no_lists.Given as goal

abbrev pub invariant-loop : goal.invariant-loop
invariant-loop l = l.lists.items ≡ map (λ (k : ℕ). []) (range_with_len 0 l.counter)
