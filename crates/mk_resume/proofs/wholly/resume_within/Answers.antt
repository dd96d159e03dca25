-- Answers to the goals of `wholly::resume_within` that the prover leaves.
use Rattle.mk_local.specs.Registries.{rows_in}
use Rattle.mk_resume.proofs.Linkless.{over_any}
use Rattle.mk_resume.proofs.wholly.resume_within.Goals as goal

pub returns-clause-ran : goal.returns-clause-ran
returns-clause-ran g c started faults =
    let r = c.resume_over.ensures.ran in
    over_any c.args.scenario c.requires.wholly started faults c.args.ranks (rows_in c.args.kinds.now) c.args.saved r.0 c.resume_over.result.taken c.resume_over.result.plan c.resume_over.result.journal c.resume_over.result.end r.2
