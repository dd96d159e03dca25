-- Answers to the goals of `requests::item_in` that the prover leaves.
use Rattle.std.proofs.Common.{codes, ◌∙◌}
use Rattle.mk_simapi.proofs.Answering.{differs, neither}
use Rattle.mk_simapi.proofs.requests.item_in.Goals as goal

pub returns-in_default-clause-item : goal.returns-in_default-clause-item
returns-in_default-clause-item c = neither c.args.name.now c.args.args.now c.args.named.now (differs c.args.name.now (codes "step") (λ e. c.in_default.not-step (c.as_str.ensures ∙ e))) (differs c.args.name.now (codes "get_data") (λ e. c.in_default.not-get_data (c.as_str.ensures ∙ e)))
