-- Answers to the goals of `catching::accept` that the prover leaves.
use Rattle.std.proofs.Common.{ℕ, ◌<◌, Some, Option, sym, ap, ◌∙◌, subst}
use Rattle.mk_resume_loop.specs.declared.behind.Standing.{Standing}
use Rattle.mk_resume_loop.proofs.catching.accept.Goals as goal

pub standing-requires : goal.standing-requires
standing-requires g c = let t = c.requires.heard in subst (λ (n : ℕ). c.args.sim.0 < n) (sym t.4.1.sims) c.requires.there

pub repeat-requires-clause-stands : goal.repeat-requires-clause-stands
repeat-requires-clause-stands g c = c.standing.ensures ∙ ap (λ (o : Option Standing). Some o) c.in-Some.is

pub take-requires-clause-caught : goal.take-requires-clause-caught
take-requires-clause-caught g c = c.standing.ensures ∙ ap (λ (o : Option Standing). Some o) c.in-None.is
