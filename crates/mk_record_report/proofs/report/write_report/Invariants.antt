-- The invariants and measures of the loops of `report::write_report`.
use Rattle.std.proofs.Common.{◌≡◌, ◌≤◌, ◌*◌, ◌-◌, ◌^◌, take, flat_map, sum, map, length}
use Rattle.std.specs.List.{enumerate_from}
use Rattle.mk_plan.specs.Journals.{sent}
use Rattle.mk_plan.specs.Report.{part_of, steps_in}
use Rattle.mk_record_report.specs.inner.Parts.{AreParts}
use Rattle.mk_record_report.proofs.report.write_report.Given as goal

abbrev pub invariant-loop-place : goal.invariant-loop-place
invariant-loop-place l = record {
  same : l.sim-items ≡ l.plan.sims;
  parts : AreParts (length l.plan.sims) l.journal.entries l.parts.items;
  text : l.out.items ≡ flat_map (λ s. part_of s.1.id (sent l.journal.entries s.0)) (take l.place (enumerate_from 0 l.plan.sims));
  steps : l.total ≡ sum (map (λ s. length (steps_in (sent l.journal.entries s.0))) (take l.place (enumerate_from 0 l.plan.sims)));
  small : l.total ≤ l.place * (2 ^ 64 - 1);
}
