-- Answers to the goals of `outlets::Outlet::give_up` that the prover leaves.
use Rattle.std.proofs.Common.{refl, subst, List}
use Rattle.mk_base.specs.declared.tier.Via.{Via}
use Rattle.mk_buffers_log.specs.Logs.{AnswersFrom, IsFew}
use Rattle.mk_buffers.proofs.outlets.Outlet.give_up.Goals as goal

pub returns-clause-thinned : goal.returns-clause-thinned
returns-clause-thinned c = record {
  sim = refl;
  entity = refl;
  attr = refl;
  vias = refl;
  answers = subst (λ (vs : List Via). AnswersFrom vs c.args.until.now c.args.mark c.forget.new.self c.args.self.now.log) c.as_slice.ensures.value c.forget.ensures.answers;
  among = c.forget.ensures.among;
}

pub returns-clause-few : goal.returns-clause-few
returns-clause-few c = subst (λ (vs : List Via). IsFew vs c.args.until.now c.args.mark c.forget.new.self) c.as_slice.ensures.value c.forget.ensures.few

pub returns-clause-next : goal.returns-clause-next
returns-clause-next c = c.next_mark.ensures (subst (λ (vs : List Via). IsFew vs c.args.until.now c.args.mark c.forget.new.self) c.as_slice.ensures.value c.forget.ensures.few)
