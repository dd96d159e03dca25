-- Answers to the goals of `marks::tell_all` that the prover leaves.
use Rattle.std.proofs.Common.{arith, refl}
use Rattle.mk_tiers.proofs.Counting.{taken_falls}
use Rattle.mk_sched.proofs.GivingUp.{told_all, told_more}
use Rattle.mk_sched.proofs.marks.tell_all.Goals as goal

pub telling-init : goal.telling-init
telling-init c = record { plan = refl; agenda = refl; stock = λ V mirrors stock. stock; told = λ V mirrors stock told. told }

pub telling-smaller : goal.telling-smaller
telling-smaller c = taken_falls c.telling.untold c.in-Some.number c.take_from.new.self 256 (omega arith) c.in-Some.ensures.taken.below c.in-Some.ensures.taken

pub telling-preserved : goal.telling-preserved
telling-preserved c =
    let I = c.telling.invariant in
    let P = c.args.plan.now in
    record {
      plan = I.plan;
      agenda = I.agenda;
      stock = λ V mirrors stock. c.tell.ensures.stock V mirrors (I.stock V mirrors stock);
      told = λ V mirrors stock told. told_more P c.args.agenda.now.bounds c.telling.stock c.tell.new.stock c.telling.untold c.take_from.new.self c.in-Some.number c.in-Some.ensures.taken
          (c.tell.ensures.told V mirrors (I.stock V mirrors stock)) (c.tell.ensures.others V mirrors (I.stock V mirrors stock)) (I.told V mirrors stock told);
    }

pub returns-clause-stock : goal.returns-clause-stock
returns-clause-stock c = c.telling.invariant.stock

pub returns-clause-told : goal.returns-clause-told
returns-clause-told c = λ V mirrors stock told. told_all c.args.plan.now c.args.agenda.now.bounds c.telling.stock c.telling.untold c.in_default.ensures.taken (c.telling.invariant.told V mirrors stock told)
