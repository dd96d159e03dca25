-- Answers to the goals of `taking::take_meta` that the prover leaves.
use Rattle.std.proofs.Common.{◌<◌, ℕ, None, sym, subst, length}
use Rattle.mk_setup.specs.declared.progress.Progress.{Progress}
use Rattle.mk_setup.specs.Kept.{state_of}
use Rattle.mk_setup.specs.inner.Standing.{IsSoundSetup}
use Rattle.mk_setup.proofs.Stepping.{said_stands, to_init}
use Rattle.mk_setup.proofs.taking.take_meta.Goals as goal

pub note_reply-requires-clause-next : goal.note_reply-requires-clause-next
note_reply-requires-clause-next c = to_init c.args.progress.now.scenario c.args.progress.now.answered c.args.sim.0 c.requires.stage c.requires.there

pub returns-in_ok-push-in-Ok-clause-kept : goal.returns-in_ok-push-in-Ok-clause-kept
returns-in_ok-push-in-Ok-clause-kept c = let early : c.args.progress.now.answered < length c.args.progress.now.scenario.sims = subst (λ (n : ℕ). n < length c.args.progress.now.scenario.sims) (sym c.requires.stage) c.requires.there in
    subst (λ (q : Progress). IsSoundSetup (state_of q None) q.ids q.plan) (sym c.note_reply.ensures.moved)
    (said_stands (state_of c.args.progress.now None) c.args.progress.now.ids c.note_reply.new.progress.ids c.args.progress.now.plan c.in-Ok.meta c.push.new.self c.requires.kept early c.in-Ok.ensures.listed c.in_ok-push-in-Ok.ensures.ok c.note_reply.ensures.counted)
