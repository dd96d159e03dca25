-- proofs/parts/put_sims/Invariants.antt
use Rattle.std.proofs.Common.{◌≡◌, ◌++◌, true, flat_map, take}
use Rattle.std.specs.List.{list_all}
use Rattle.std.specs.Str.{is_utf8}
use Rattle.mk_record_read.specs.Texts.{sim_line}
use Rattle.mk_record_write.proofs.parts.put_sims.Given as goal

abbrev pub invariant-loop-sim : goal.invariant-loop-sim
invariant-loop-sim l = record {
  written : l.out.items ≡ l.fn.out.items ++ flat_map sim_line (take l.sim-index l.sims);
  utf8 : list_all (λ s. is_utf8 s.id) (take l.sim-index l.sims) ≡ true;
}
