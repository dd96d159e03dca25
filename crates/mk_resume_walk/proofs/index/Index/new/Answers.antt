-- Answers to the goals of `index::Index::new` that the prover leaves.
use Rattle.std.proofs.Common.{ap, ◌∙◌, length, arith}
use Rattle.std.proofs.lemmas.List.{length-append}
use Rattle.mk_resume_walk.proofs.Indexing.{empty_more}
use Rattle.mk_resume_walk.proofs.index.Index.new.Goals as goal

pub loop-alloc-preserved : goal.loop-alloc-preserved
loop-alloc-preserved c = record {
  few = let longer = ap length c.in_ok-push.ensures.items ∙ length-append c.loop-alloc.own.items _ in omega (arith, longer, c.len.ensures, c.loop-alloc-test.true);
  empty = empty_more (λ v. v.items) c.loop-alloc.own.items c.push.new.self.items c.new.result c.loop-alloc.invariant.empty c.new.ensures.items c.in_ok-push.ensures.items;
}
