-- Answers to the goals of `summary::put_last` that the prover leaves.
use Rattle.mk_record_report.proofs.Lasts.{no_last, a_last}
use Rattle.mk_record_report.proofs.summary.put_last.Goals as goal

pub returns-in-None-last_step : goal.returns-in-None-last_step
returns-in-None-last_step c = no_last c.args.entries.now c.args.out.now.items c.args.sim c.in-Some.place c.in-Some.is c.in-None-last_step.ensures

pub returns-in_ok-put-in-Some-last_step : goal.returns-in_ok-put-in-Some-last_step
returns-in_ok-put-in-Some-last_step c = a_last c.put_line.result c.args.entries.now c.args.out.now.items c.put.new.out.items c.put_line.new.out.items c.args.sim c.in-Some.place c.in-Some-last_step.item.now c.in-Some.is c.in-Some-last_step.ensures
    c.in_ok-put-in-Some-last_step.ensures c.put_line.ensures
