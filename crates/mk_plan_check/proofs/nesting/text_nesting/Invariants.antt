-- The invariants and measures of the loops of `nesting::text_nesting`.
use Rattle.std.proofs.Common.{◌≡◌, ◌≤◌, take, fold}
use Rattle.mk_plan_check.specs.declared.nesting.Place.TheVariants.{Outside}
use Rattle.mk_plan_check.specs.Nesting.{scanned}
use Rattle.mk_plan_check.proofs.nesting.text_nesting.Given as goal

abbrev pub invariant-loop-byte : goal.invariant-loop-byte
invariant-loop-byte l = (l.scan ≡ fold scanned (record { place = Outside; depth = 0; most = 0 }) (take l.byte-index l.text)) × (l.scan.depth ≤ l.byte-index)
