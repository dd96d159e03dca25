-- Answers to the goals of `members::put_few` that the prover leaves.
use Rattle.std.proofs.Common.{sym, ap, ap₂, ◌∙◌}
use Rattle.mk_json.specs.inner.Gathered.{put_all}
use Rattle.mk_json.proofs.members.put_few.Goals as goal
use Rattle.mk_base.proofs.Items.{none_left}

pub loop-name-init : goal.loop-name-init
loop-name-init c = ap₂ put_all c.new-found.ensures (c.into_iter-name-iterator.ensures.into_iter_gives.0 ∙ c.into_vec-name-items.ensures)

pub loop-name-preserved : goal.loop-name-preserved
loop-name-preserved c =
    let l = c.loop-name in
    let rest = c.next.new.self.rest.items in
    ap (λ es. put_all es rest) c.in_ok-put.ensures.ok ∙ ap (put_all l.found) (sym c.in-Some.ensures.steps.0) ∙ l.invariant

pub returns : goal.returns
returns c =
    let l = c.loop-name in
    ap (put_all l.found) (sym (none_left l.name-iterator.rest.items l.name-iterator.rest.len l.name-iterator.rest.ok.0 c.in-None.ensures.steps.0)) ∙ l.invariant
