-- The texts so far are those gone through.
use Rattle.std.proofs.Common.{◌≡◌, take}
use Rattle.mk_meta.proofs.texts.texts_of.Given as goal

abbrev pub invariant-loop-text : goal.invariant-loop-text
invariant-loop-text l = l.made ≡ take l.text-index l.text-items
