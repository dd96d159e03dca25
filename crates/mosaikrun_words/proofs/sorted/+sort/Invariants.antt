-- The invariants and measures of the loops of `sorted::+sort`.
use Rattle.std.proofs.Common.{length}
use Rattle.mosaikrun_words.proofs.sorted.+sort.Given as goal

abbrev pub decreases-sort : goal.decreases-sort
decreases-sort l = length l.words.now
