-- The invariants and measures of the loops of `blaming::blame`.
use Rattle.std.proofs.Common.{map}
use Rattle.mk_blame.specs.inner.Parted.{AreTalks, IsJudged}
use Rattle.mk_blame.proofs.blaming.blame.Given as goal

abbrev pub invariant-loop-sim : goal.invariant-loop-sim
invariant-loop-sim l = record {
  talks : AreTalks l.count l.first.entries (map (λ t. map (λ e. e.now) t.items) l.talks.items);
  others : AreTalks l.count l.second.entries (map (λ t. map (λ e. e.now) t.items) l.others.items);
  judged : IsJudged l.first.entries l.second.entries l.sim l.equal l.blamed;
}
