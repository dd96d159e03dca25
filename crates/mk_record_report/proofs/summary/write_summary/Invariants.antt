-- The invariants and measures of the loops of `summary::write_summary`.
use Rattle.std.proofs.Common.{◌≡◌, ◌<◌, ◌≤◌, ◌*◌, ◌-◌, ◌^◌, ◌++◌, [], take, flat_map, sum, map, length}
use Rattle.std.specs.List.{enumerate_from}
use Rattle.mk_plan.specs.Journals.{sent}
use Rattle.mk_plan.specs.Report.{steps_in, values_sent, counts, last_stepped}
use Rattle.mk_record_report.specs.inner.Summary.{AreTallies, all_values, steps_at}
use Rattle.mk_record_report.proofs.summary.write_summary.Given as goal

abbrev pub invariant-loop-place : goal.invariant-loop-place
invariant-loop-place l = record {
  same : l.sim-items ≡ l.plan.sims;
  tallies : AreTallies (length l.plan.sims) l.entries l.tallies.items;
  within : all_values l.tallies.items < 2 ^ 128;
  text : l.out.items ≡ flat_map (λ s. s.1.id ++ counts (length (steps_in (sent l.entries s.0))) (values_sent (sent l.entries s.0))) (take l.place (enumerate_from 0 l.plan.sims));
  steps : l.steps ≡ sum (map (λ s. length (steps_in (sent l.entries s.0))) (take l.place (enumerate_from 0 l.plan.sims)));
  small : l.steps ≤ l.place * (2 ^ 64 - 1);
  values : l.values ≡ sum (map (λ s. values_sent (sent l.entries s.0)) (take l.place (enumerate_from 0 l.plan.sims)));
  bounded : l.values ≡ all_values (take l.place l.tallies.items);
  last : steps_at (sent l.entries) l.last ≡ last_stepped (map (λ s. sent l.entries s.0) (take l.place (enumerate_from 0 l.plan.sims))) [];
}
