-- Answers to the goals of `data::put_more_wants` that the prover leaves.
use Rattle.std.proofs.Common.{ℕ, List, ◌++◌, flat_map, codes, append-nil, arith, sym, ap, ◌∙◌, subst}
use Rattle.std.proofs.lemmas.List.{take_all}
use Rattle.mk_base.specs.declared.json.Json.{Json}
use Rattle.mk_plan.specs.Inputs.{value_at}
use Rattle.mk_async.specs.inner.Content.{AreContents, IsContent, values_of, want_text}
use Rattle.mk_async.specs.inner.Known.{knows_want}
use Rattle.mk_async.proofs.Writing.{commas_more, each_more}
use Rattle.mk_async.proofs.data.put_more_wants.Goals as goal
use Rattle.mk_base.proofs.Items.{passes_at}

pub put_want-requires-clause-known : goal.put_want-requires-clause-known
put_want-requires-clause-known c = passes_at (λ (m : List ℕ × Json). knows_want c.args.plan.now m.0 m.1) c.args.wants.now c.loop-want.want-index c.want-item.result c.requires.known c.loop-want-test.true c.want-item.is

pub loop-want-init : goal.loop-want-init
loop-want-init c = ((λ S stands. sym (append-nil c.args.text.now.items)), λ S stands. tt)

pub loop-want-preserved : goal.loop-want-preserved
loop-want-preserved c = (
  λ S stands. commas_more c.args.wants.now c.loop-want.want-index c.want-item.result c.loop-want-test.true c.want-item.is (λ m. want_text c.args.plan.now (value_at S c.args.at) m)
      c.args.text.now.items c.loop-want.text.items c.put.new.out.items c.put_want.new.text.items (c.loop-want.invariant.0 S stands) c.in_ok-put.ensures (c.in_ok-put_want.ensures.written S stands),
  λ S stands. each_more c.args.wants.now c.loop-want.want-index c.want-item.result c.loop-want-test.true c.want-item.is (λ m. IsContent m.0 (values_of c.args.plan.now (value_at S c.args.at) m.0 m.1))
      (c.loop-want.invariant.1 S stands) (c.in_ok-put_want.ensures.content S stands),
)

pub returns-clause-written : goal.returns-clause-written
returns-clause-written c = λ S stands. c.loop-want.invariant.0 S stands ∙ ap (λ l. c.args.text.now.items ++ flat_map (λ m. codes "," ++ want_text c.args.plan.now (value_at S c.args.at) m) l) (take_all c.loop-want.want-index c.args.wants.now (omega arith))

pub returns-clause-content : goal.returns-clause-content
returns-clause-content c = λ S stands. subst (AreContents c.args.plan.now (value_at S c.args.at)) (take_all c.loop-want.want-index c.args.wants.now (omega arith)) (c.loop-want.invariant.1 S stands)
