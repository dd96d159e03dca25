-- Answers to the goals of `pacing::answer` that the prover leaves.
use Rattle.std.proofs.Common.{inl, refl, sym, ◌∙◌}
use Rattle.mk_pace_loop.proofs.Answering.{none_held, sent_or_not, some_held}
use Rattle.mk_pace_loop.proofs.pacing.answer.Goals as goal

pub returns-then-is_held-clause-answered : goal.returns-then-is_held-clause-answered
returns-then-is_held-clause-answered g c = λ item id ends. inl (
  some_held c.args.waiting.now c.args.sim.0 c.is_held.ensures.0 c.is_held.ensures.1 (sym c.is_held.ensures.2 ∙ c.if-is_held.true),
  refl,
  c.in_ok-hold_last.ensures.held item id ends,
)

pub send_last-requires-clause-due : goal.send_last-requires-clause-due
send_last-requires-clause-due g c = c.requires.due (none_held c.args.waiting.now c.args.sim.0 c.is_held.ensures.0 c.is_held.ensures.1 (sym c.is_held.ensures.2 ∙ c.if-is_held.false))

pub returns-clause-answered : goal.returns-clause-answered
returns-clause-answered g c =
    sent_or_not c.args.core.now c.args.sim c.args.crew.now c.send_last.new.crew c.args.waiting.now c.send_last.result
    (none_held c.args.waiting.now c.args.sim.0 c.is_held.ensures.0 c.is_held.ensures.1 (sym c.is_held.ensures.2 ∙ c.if-is_held.false)) c.send_last.ensures.sent c.send_last.ensures.unsent c.send_last.ensures.err
