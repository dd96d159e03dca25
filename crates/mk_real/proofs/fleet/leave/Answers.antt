-- Answers to the goals of `fleet::leave` that the prover leaves.
use Rattle.std.proofs.Common.{rules, ◌≡◌, not, refl}
use Rattle.mk_base.specs.Links.{same_link}
use Rattle.mk_base.proofs.Filtering.{filtered}
use Rattle.mk_real.proofs.fleet.leave.Goals as goal

pub returns : goal.returns
returns c = filtered _ (λ other. not (same_link other c.args.link)) (λ p. p.0.now ≡ c.args.link.0) (λ p x b q holds says. search rules) _ _ _ refl c.retain.ensures.filtered
