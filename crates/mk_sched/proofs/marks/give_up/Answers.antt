-- Answers to the goals of `marks::give_up` that the prover leaves.
use Rattle.std.proofs.Common.{◌∙◌, ap, refl, sym, is_some, true≢false}
use Rattle.mk_plan.specs.Journals.{view}
use Rattle.mk_sched.proofs.GivingUp.{all_given_up}
use Rattle.mk_sched.proofs.marks.give_up.Goals as goal

pub returns-then-is_some : goal.returns-then-is_some
returns-then-is_some c = λ J derived had. (derived, (λ going. absurd (true≢false (sym (sym c.is_some.ensures ∙ c.if-is_some.true) ∙ ap is_some going))), had)

pub returns-in-Some : goal.returns-in-Some
returns-in-Some c = λ J derived had. (
  derived,
  (λ going nobody.
      let P = c.args.plan.now in
      let first = c.in-Some.ensures P (view P J) c.requires.valid (derived.current going).agenda in
      absurd (nobody (_, _, first.0))),
  had,
)

pub returns-in-None : goal.returns-in-None
returns-in-None c = λ J derived had.
    let P = c.args.plan.now in
    let K = c.args.derived.now in
    all_given_up P J K (record { sims = K.sims; agenda = K.agenda; stock = c.tell_all.new.stock; untold = c.tell_all.new.untold }) c.args.ended refl refl c.tell_all.ensures.stock c.tell_all.ensures.told derived had
