-- The invariants and measures of the loops of `writing::write_verdict`.
use Rattle.std.proofs.Common.{◌≡◌, true, take, flat_map}
use Rattle.std.specs.List.{list_all}
use Rattle.mk_blame.specs.Written.{lines_of, may_be_written}
use Rattle.mk_blame.proofs.writing.write_verdict.Given as goal

abbrev pub invariant-loop-one : goal.invariant-loop-one
invariant-loop-one l = record {
  items : l.one-items ≡ l.blamed;
  writable : list_all may_be_written l.blamed ≡ true;
  text : l.out.items ≡ flat_map (lines_of l.plan) (take l.one-index l.blamed);
}
