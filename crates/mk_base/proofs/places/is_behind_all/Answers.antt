-- Answers to the goals of `places::is_behind_all` that the prover leaves.
use Rattle.std.proofs.Common.{sym, ◌∙◌}
use Rattle.mk_base.proofs.Searching.{past_end}
use Rattle.mk_base.proofs.places.is_behind_all.Goals as goal

pub returns-in-Some : goal.returns-in-Some
returns-in-Some g c = λ h. past_end c.args.name.now c.args.entries.now _ c.requires (sym c.in-Some.ensures.value) (sym c.is_greater.ensures ∙ h)
