-- Answers to the goals of `scribe::Scribe::close` that the prover leaves.
use Rattle.std.proofs.Common.{inl, inr, refl, ap}
use Rattle.mk_scribe.specs.Drafts.{draft_of}
use Rattle.mk_scribe.proofs.Closing.{closes_idle}
use Rattle.mk_scribe.proofs.scribe.Scribe.close.Goals as goal

pub returns-in-Unbegun-clause-closes : goal.returns-in-Unbegun-clause-closes
returns-in-Unbegun-clause-closes g c = closes_idle _ _ c.args.self.sheet (ap (draft_of g.S.Sink.written g.S.Sink.faults g.S.Sink.shortages) c.in-Some.is) refl (inl c.in-Unbegun.is)

pub returns-in-Lost-clause-closes : goal.returns-in-Lost-clause-closes
returns-in-Lost-clause-closes g c = closes_idle _ _ c.args.self.sheet (ap (draft_of g.S.Sink.written g.S.Sink.faults g.S.Sink.shortages) c.in-Some.is) refl (inr c.in-Lost.is)
