-- The answers of `put_wants`.
use Rattle.std.proofs.Common.{ℕ, List, ◌-◌, length, take, drop, arith, subst, sym, ap, ◌∙◌}
use Rattle.mk_base.specs.declared.json.Json.{Json}
use Rattle.mk_plan.specs.Inputs.{value_at}
use Rattle.mk_json.proofs.OfOutlines.{split_first}
use Rattle.mk_async.specs.inner.Content.{AreContents}
use Rattle.mk_async.specs.inner.Known.{Members, knows_want, knows_wants}
use Rattle.mk_async.proofs.Writing.{wants_written}
use Rattle.mk_async.proofs.data.put_wants.Goals as goal
use Rattle.mk_base.proofs.Bools.{first_holds, second_holds}

pub put_want-requires-clause-known : goal.put_want-requires-clause-known
put_want-requires-clause-known c =
    let ms : Members = c.args.wants.now in
    let m : List ℕ × Json = c.first-item.result in
    let rest : Members = take (length ms - 1) (drop 1 ms) in
    first_holds (knows_want c.args.plan.now m.0 m.1) (knows_wants c.args.plan.now rest) (ap (knows_wants c.args.plan.now) (sym (split_first ms m (omega arith) c.first-item.is)) ∙ c.requires.known)

pub put_more_wants-requires-clause-known : goal.put_more_wants-requires-clause-known
put_more_wants-requires-clause-known c =
    let ms : Members = c.args.wants.now in
    let m : List ℕ × Json = c.first-item.result in
    let rest : Members = take (length ms - 1) (drop 1 ms) in
    second_holds (knows_want c.args.plan.now m.0 m.1) (knows_wants c.args.plan.now rest) (ap (knows_wants c.args.plan.now) (sym (split_first ms m (omega arith) c.first-item.is)) ∙ c.requires.known)

pub returns-in_ok-put-in-len1-up-2-clause-written : goal.returns-in_ok-put-in-len1-up-2-clause-written
returns-in_ok-put-in-len1-up-2-clause-written c = λ S stands.
    let ms : Members = c.args.wants.now in
    let m : List ℕ × Json = c.first-item.result in
    wants_written (value_at S c.args.at) c.args.plan.now ms (take (length ms - 1) (drop 1 ms)) m c.args.text.now.items c.put-in-len1-up.new.out.items c.put_want.new.text.items c.put_more_wants.new.text.items c.put-in-len1-up-2.new.out.items
    (split_first ms m (omega arith) c.first-item.is) c.in_ok-put-in-len1-up.ensures (c.in_ok-put_want-in-len1-up.ensures.written S stands) (c.in_ok-put_more_wants-in-len1-up.ensures.written S stands) c.in_ok-put-in-len1-up-2.ensures

pub returns-in_ok-put-in-len1-up-2-clause-content : goal.returns-in_ok-put-in-len1-up-2-clause-content
returns-in_ok-put-in-len1-up-2-clause-content c = λ S stands.
    let ms : Members = c.args.wants.now in
    let m : List ℕ × Json = c.first-item.result in
    subst (AreContents c.args.plan.now (value_at S c.args.at)) (sym (split_first ms m (omega arith) c.first-item.is)) (c.in_ok-put_want-in-len1-up.ensures.content S stands, c.in_ok-put_more_wants-in-len1-up.ensures.content S stands)
