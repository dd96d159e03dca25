-- A table whose places were lent has as many places as before.
use Rattle.std.proofs.Common.{◌≡◌, List, length, ap, ◌∙◌}
use Rattle.std.proofs.lemmas.List.{with_items_is}
use Rattle.std.specs.Vec.{with_items}
use Rattle.std.specs.declared.vec.Vec.{Vec}

pub same_count : {X Z : Type 0} (table : Vec X Z) (lent left : List X) → lent ≡ table.items → length lent ≡ table.len → length left ≡ length lent → length (with_items table left).items ≡ length table.items
same_count table lent left is whole same = ap length (with_items_is table left (same ∙ whole)) ∙ same ∙ ap length is
