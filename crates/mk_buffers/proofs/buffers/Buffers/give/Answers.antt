-- Answers to the goals of `buffers::Buffers::give` that the prover leaves.
use Rattle.std.proofs.Common.{subst}
use Rattle.mk_buffers.specs.inner.Standing.{TargetOf}
use Rattle.mk_plan_judge.proofs.Putting.{on_ok}
use Rattle.mk_buffers.proofs.Giving.{stands_target, stands_past}
use Rattle.mk_buffers.proofs.buffers.Buffers.give.Goals as goal

pub returns-in-Some-clause-ok : goal.returns-in-Some-clause-ok
returns-in-Some-clause-ok c = λ P S e st src. on_ok c.give_to.result (λ d. stands_target P S e (record { at = c.args.at; given = c.args.set }) src st.of_plan.valid c.args.self.now c.give_to.new.self c.in-Some.target (subst (TargetOf c.args.self.now c.args.set.entity) c.in-Some.is c.in_ok-target.ensures.target) d st) c.give_to.ensures.ok

pub returns-in-None-clause-ok : goal.returns-in-None-clause-ok
returns-in-None-clause-ok c = λ P S e st src. stands_past P S e (record { at = c.args.at; given = c.args.set }) src st.of_plan.valid c.args.self.now (subst (TargetOf c.args.self.now c.args.set.entity) c.in-None.is c.in_ok-target.ensures.target) st
