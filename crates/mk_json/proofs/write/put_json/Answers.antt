-- Answers to the goals of `write::put_json` that the prover leaves.
use Rattle.std.proofs.Common.{ap, ◌∙◌, length}
use Rattle.mk_json.proofs.Back.{parsed-text_of}
use Rattle.mk_json.proofs.Compact.{appended, taken_back}
use Rattle.mk_json.proofs.write.put_json.Goals as goal

pub returns-in-Ok-clause-ok : goal.returns-in-Ok-clause-ok
returns-in-Ok-clause-ok c = appended c.args.out.now.items c.into_inner.result.items c.write.new.out.before c.new-writer.result.tokens c.write.new.out.tokens c.args.tree.now
    c.new-writer.ensures.tokens (c.write.ensures.before ∙ c.new-writer.ensures.before ∙ ap (λ v. v.items) c.replace.ensures.value) c.in-Ok.ensures.ok c.into_inner.ensures.items

pub returns-in-Ok-clause-reads_back : goal.returns-in-Ok-clause-reads_back
returns-in-Ok-clause-reads_back c = parsed-text_of c.args.tree.now c.in-Ok.ensures.proper c.requires

pub returns-in-Err-clause-err : goal.returns-in-Err-clause-err
returns-in-Err-clause-err c = taken_back c.args.out.now.items c.truncate.new.self.items c.write.new.out.before c.into_inner-in-Err.result.items c.write.new.out.tokens (length c.as_slice-kept.result.now)
    (ap length c.as_slice-kept.ensures.value) (c.write.ensures.before ∙ c.new-writer.ensures.before ∙ ap (λ v. v.items) c.replace.ensures.value) c.into_inner-in-Err.ensures.items c.truncate.ensures.items
