-- The invariants and measures of the loops of `asking::copy_words`.
use Rattle.std.proofs.Common.{◌≡◌, take}
use Rattle.mk_fakes.proofs.asking.copy_words.Given as goal

abbrev pub invariant-loop-word : goal.invariant-loop-word
invariant-loop-word l = l.copy ≡ take l.word-index l.words
