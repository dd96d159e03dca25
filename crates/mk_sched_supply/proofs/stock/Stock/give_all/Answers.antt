-- Answers to the goals of `stock::Stock::give_all` that the prover leaves.
use Rattle.std.proofs.Common.{List, [], ◌∷◌, ◌++◌, refl, sym, ap, ◌∙◌, subst, append_assoc, inl}
use Rattle.mk_base.specs.declared.tier.Tier.{Tier}
use Rattle.mk_base.specs.Lists.{IsIn}
use Rattle.mk_base.proofs.Lists.{all_in, append_nil, in_back}
use Rattle.mk_plan.specs.declared.SetValue.{SetValue}
use Rattle.mk_async.specs.Asked.{IsGivenBy}
use Rattle.mk_buffers.specs.Held.{with_gift}
use Rattle.mk_buffers.specs.Standing.{StandFor}
use Rattle.mk_sched_supply.specs.inner.Gifts.{HasGivenAll, gifts_in}
use Rattle.mk_sched_supply.proofs.Replying.{given_more}
use Rattle.mk_sched_supply.proofs.stock.Stock.give_all.Goals as goal
use Rattle.mk_base.proofs.Items.{none_left}

pub loop-set-init : goal.loop-set-init
loop-set-init c = record {
  done = [];
  split = sym (c.into_iter-set-iterator.ensures.into_iter_gives.0 ∙ c.into_vec-set-items.ensures);
  rest = record { names = refl; feeds = refl; marks = refl };
  next = c.after-next.ensures;
  given = λ P s S stands all. record { supply = S; stands = stands; more = record { outputs = refl; behind = λ e low. sym (append_nil (S.gifts e)) } };
}

pub loop-set-preserved : goal.loop-set-preserved
loop-set-preserved c =
    let l = c.loop-set in
    let done : List SetValue = l.invariant.done in
    let w : SetValue = c.in-Some.set in
    record {
      done = done ++ w ∷ [];
      split = l.invariant.split ∙ ap (λ ws. done ++ ws) c.in-Some.ensures.steps.0 ∙ sym (append_assoc done (w ∷ []) c.next.new.self.rest.items);
      rest = record { names = l.invariant.rest.names; feeds = l.invariant.rest.feeds; marks = c.give.ensures.marks ∙ l.invariant.rest.marks };
      next = l.invariant.next;
      given = λ P s S stands all. given_more P s S c.args.at done w l.self.buffers c.give.new.self (l.invariant.given P s S stands all)
          (all_in (IsGivenBy P s) c.args.sets w all (subst (IsIn w) (sym (l.invariant.split ∙ ap (λ ws. done ++ ws) c.in-Some.ensures.steps.0)) (in_back w done (w ∷ c.next.new.self.rest.items) (inl refl))))
          (λ U e holds source. subst (λ (x : Tier). StandFor P c.give.new.self (with_gift U e (record { at = x; given = w }))) l.invariant.next (c.in_ok-give.ensures.ok P U e holds source));
    }

pub returns-clause-given : goal.returns-clause-given
returns-clause-given c = λ P s S stands all.
    let i = c.loop-set.invariant in
    subst (λ (ws : List SetValue). HasGivenAll P (gifts_in c.args.at ws) S c.loop-set.self.buffers) (sym (i.split ∙ ap (λ ws. i.done ++ ws) (none_left c.loop-set.set-iterator.rest.items c.loop-set.set-iterator.rest.len c.loop-set.set-iterator.rest.ok.0 c.in-None.ensures.steps.0) ∙ append_nil i.done)) (i.given P s S stands all)
