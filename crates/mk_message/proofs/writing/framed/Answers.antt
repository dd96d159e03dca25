-- Answers to the goals of `writing::framed` that the prover leaves.
use Rattle.std.proofs.Common.{◌≡◌, pos, [], ◌∷◌, ap, arith, rules}
use Rattle.mk_base.specs.declared.json.Json as tree
use Rattle.mk_message.proofs.ReadBack.{range-framed}
use Rattle.mk_message.proofs.writing.framed.Goals as goal

pub returns-clause-in_range : goal.returns-clause-in_range
returns-clause-in_range c =
    let items : c.push-3.new.self ≡ tree.Whole (pos c.args.kind) ∷ tree.Whole (pos c.args.id) ∷ c.args.content ∷ [] = search rules in
    range-framed (tree.List c.push-3.new.self) c.args.content c.args.kind c.args.id (ap tree.List items) (omega arith) (omega arith)
