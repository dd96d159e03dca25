-- Answers to the goals of `taking::take_done` that the prover leaves.
use Rattle.std.proofs.Common.{None, ap, sym, subst}
use Rattle.mk_setup.specs.declared.progress.Progress.{Progress}
use Rattle.mk_setup.specs.Kept.{state_of}
use Rattle.mk_setup.specs.inner.Standing.{IsSoundSetup}
use Rattle.mk_setup.proofs.Stepping.{done_stands}
use Rattle.mk_setup.proofs.taking.take_done.Goals as goal

pub returns-clause-kept : goal.returns-clause-kept
returns-clause-kept c = subst (λ (q : Progress). IsSoundSetup (state_of q None) q.ids q.plan) (sym c.note_reply.ensures.moved) (done_stands (state_of c.args.progress.now None) c.args.progress.now.ids c.note_reply.new.progress.ids c.args.progress.now.plan c.requires.kept c.requires.stage c.note_reply.ensures.counted)

pub returns-clause-moved : goal.returns-clause-moved
returns-clause-moved c = ap (λ (q : Progress). state_of q None) c.note_reply.ensures.moved
