-- Answers to the goals of `buffers::Buffers::deliver` that the prover leaves.
use Rattle.std.proofs.Common.{sym, ◌∙◌, true≢false}
use Rattle.mk_buffers.proofs.buffers.Buffers.deliver.Goals as goal

pub returns-in-Some-clause-ok : goal.returns-in-Some-clause-ok
returns-in-Some-clause-ok c = λ P S st given text. c.deliver_to.ensures.ok P S c.args.entity c.args.attr.now st c.in-Some.ensures.found text

pub returns-in-None-clause-ok : goal.returns-in-None-clause-ok
returns-in-None-clause-ok c = λ P S st given text.
    let f = st.of_plan.found c.args.entity c.args.attr.now given in
    absurd (true≢false (sym f.key ∙ c.in-None.ensures.none f.home f.at_home f.place f.first f.end))
