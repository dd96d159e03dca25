-- Whether a mark has a reason: an arc at its place is among its row.
use Rattle.std.proofs.Common.{inr}
use Rattle.mk_base.proofs.Lists.{at_in}
use Rattle.mk_tiers.proofs.search.is_held.Goals as goal

pub returns-in-Some-clause-held : goal.returns-in-Some-clause-held
returns-in-Some-clause-held c = λ _. let t = c.in-Some.ensures in inr (t.0, at_in t.0 c.args.row.now c.in-Some.place t.1, t.2)
