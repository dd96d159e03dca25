-- The answers of `put_values`.
use Rattle.std.proofs.Common.{ℕ, List, ◌-◌, length, take, drop, arith, subst, sym}
use Rattle.mk_json.proofs.OfOutlines.{split_first}
use Rattle.mk_async.specs.inner.Content.{AreNamed, Texts}
use Rattle.mk_async.proofs.Writing.{object_written}
use Rattle.mk_async.proofs.data.put_values.Goals as goal

pub returns-in_ok-put-in-len1-up-2-clause-written : goal.returns-in_ok-put-in-len1-up-2-clause-written
returns-in_ok-put-in-len1-up-2-clause-written c =
    let ms : Texts = c.args.values.now in
    let m : List ℕ × List ℕ = c.first-item.result in
    object_written ms (take (length ms - 1) (drop 1 ms)) m c.args.text.now.items c.put-in-len1-up.new.out.items c.put_member.new.text.items c.put_more_values.new.text.items c.put-in-len1-up-2.new.out.items
    (split_first ms m (omega arith) c.first-item.is) c.in_ok-put-in-len1-up.ensures c.in_ok-put_member-in-len1-up.ensures.written c.in_ok-put_more_values-in-len1-up.ensures.written c.in_ok-put-in-len1-up-2.ensures

pub returns-in_ok-put-in-len1-up-2-clause-named : goal.returns-in_ok-put-in-len1-up-2-clause-named
returns-in_ok-put-in-len1-up-2-clause-named c =
    let ms : Texts = c.args.values.now in
    let m : List ℕ × List ℕ = c.first-item.result in
    subst AreNamed (sym (split_first ms m (omega arith) c.first-item.is)) (c.in_ok-put_member-in-len1-up.ensures.named, c.in_ok-put_more_values-in-len1-up.ensures.named)
