-- Answers to the goals of `writing::write` that the prover leaves.
use Rattle.mk_message.proofs.ReadBack.{message_of-written}
use Rattle.mk_message.proofs.writing.write.Goals as goal

pub put_json-requires : goal.put_json-requires
put_json-requires c = c.in_ok-tree.ensures.in_range c.requires

pub returns-clause-reads_back : goal.returns-clause-reads_back
returns-clause-reads_back c = message_of-written c.args.message.now c.in_ok-tree.tree c.put_json.new.out.items c.new-out.result.items c.in_ok-tree.ensures.tree c.new-out.ensures.items c.in_ok-put_json.ensures.ok c.in_ok-put_json.ensures.reads_back
