-- Answers to the goals of `taking::take` that the prover leaves.
use Rattle.std.proofs.Common.{◌∙◌, None, sym, refl}
use Rattle.mk_setup.specs.Kept.{state_of}
use Rattle.mk_setup.proofs.Heard.{heard, taken_ok, taken_untaken}
use Rattle.mk_setup.proofs.taking.take.Goals as goal

pub returns-then-is_awaited-clause-ok : goal.returns-then-is_awaited-clause-ok
returns-then-is_awaited-clause-ok c = taken_ok (state_of c.args.progress.now None) (state_of c.take_content.new.progress None) c.args.sim c.in-Success.id c.in-Success.content c.args.message.now c.take_content.result refl c.in-Success.is
    (heard (state_of c.args.progress.now None) c.args.sim.0 c.in-Success.id (sym c.is_awaited.ensures ∙ c.if-is_awaited.true)) c.take_content.ensures.ok

pub returns-then-is_awaited-clause-untaken : goal.returns-then-is_awaited-clause-untaken
returns-then-is_awaited-clause-untaken c = taken_untaken (state_of c.args.progress.now None) (state_of c.take_content.new.progress None) c.args.sim c.in-Success.id c.in-Success.content c.args.message.now c.take_content.result refl c.in-Success.is
    (heard (state_of c.args.progress.now None) c.args.sim.0 c.in-Success.id (sym c.is_awaited.ensures ∙ c.if-is_awaited.true)) c.take_content.ensures.untaken
