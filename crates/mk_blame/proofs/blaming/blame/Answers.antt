-- Answers to the goals of `blaming::blame` that the prover leaves.
use Rattle.std.proofs.Common.{◌<◌, Bool, sym, subst, arith}
use Rattle.mk_plan.specs.Plans.{sim_count}
use Rattle.mk_blame.specs.inner.Parted.{BeginsWithStep, IsJudged}
use Rattle.mk_blame.proofs.Grouping.{as_many, talk_said}
use Rattle.mk_blame.proofs.Judging.{judged_blamed, judged_equal, judged_no, judged_yes}
use Rattle.mk_blame.proofs.Talking.{begun}
use Rattle.mk_blame.proofs.blaming.blame.Goals.{then-not-branch, else-not-branch}
use Rattle.mk_blame.proofs.blaming.blame.Goals as goal

pub judge-requires : goal.judge-requires
judge-requires c =
    let low : c.loop-sim.sim < sim_count c.args.plan.now = subst (λ n. c.loop-sim.sim < n) c.len-count.ensures c.loop-sim-test.true in
    let inside = subst (λ n. c.loop-sim.sim < n) (sym (as_many _ c.len-count.result c.args.first.now.entries c.in_ok-talks.talks.items c.loop-sim.invariant.talks)) c.loop-sim-test.true in
    subst BeginsWithStep (sym (talk_said (λ e. e.now) (λ t. t.items) c.len-count.result c.args.first.now.entries c.in_ok-talks.talks.items c.loop-sim.sim c.index.result.now c.as_slice-in-loop-sim.result.now inside c.index.ensures c.as_slice-in-loop-sim.ensures.value c.loop-sim.invariant.talks))
    (begun c.args.plan.now c.requires.valid c.args.first.now.entries c.requires.first_orderly c.requires.first_finished c.loop-sim.sim low)

pub loop-sim-preserved : goal.loop-sim-preserved
loop-sim-preserved c =
    let J = c.args.first.now.entries in
    let K = c.args.second.now.entries in
    let inside = subst (λ n. c.loop-sim.sim < n) (sym (as_many _ c.len-count.result J c.in_ok-talks.talks.items c.loop-sim.invariant.talks)) c.loop-sim-test.true in
    let under = subst (λ n. c.loop-sim.sim < n) (sym (as_many _ c.len-count.result K c.in_ok-others.others.items c.loop-sim.invariant.others)) c.loop-sim-test.true in
    let one = talk_said (λ e. e.now) (λ t. t.items) c.len-count.result J c.in_ok-talks.talks.items c.loop-sim.sim c.index.result.now c.as_slice-in-loop-sim.result.now inside c.index.ensures c.as_slice-in-loop-sim.ensures.value c.loop-sim.invariant.talks in
    let other = talk_said (λ e. e.now) (λ t. t.items) c.len-count.result K c.in_ok-others.others.items c.loop-sim.sim c.index-in-loop-sim.result.now c.as_slice-in-loop-sim-2.result.now under c.index-in-loop-sim.ensures c.as_slice-in-loop-sim-2.ensures.value c.loop-sim.invariant.others in
    record {
      talks = c.loop-sim.invariant.talks;
      others = c.loop-sim.invariant.others;
      judged = elim c.if-not-branch.branch [
        | then-not-branch w ↦ judged_no J K c.loop-sim.sim c.loop-sim.equal c.if-not-branch.equal c.in_ok-judge.field-0 c.loop-sim.blamed c.judge.new.blamed _ _ c.loop-sim.invariant.judged c.in_ok-judge.ensures one other w.if-not-branch.true w.equal-is
        | else-not-branch w ↦ judged_yes J K c.loop-sim.sim c.loop-sim.equal c.if-not-branch.equal c.in_ok-judge.field-0 c.loop-sim.blamed c.judge.new.blamed _ _ c.loop-sim.invariant.judged c.in_ok-judge.ensures one other w.if-not-branch.false w.equal-is
      ];
    }

pub returns-then-equal : goal.returns-then-equal
returns-then-equal c =
    judged_equal c.args.plan.now c.requires.valid c.args.first.now.entries c.args.second.now.entries c.requires.first_orderly c.requires.first_finished c.requires.second_orderly c.requires.second_finished c.loop-sim.sim c.loop-sim.blamed
    (let past = c.loop-sim-test.false in let end = c.loop-sim.auto.sim-end in let count = c.len-count.ensures in omega (arith, past, end, count))
    (subst (λ (b : Bool). IsJudged c.args.first.now.entries c.args.second.now.entries c.loop-sim.sim b c.loop-sim.blamed) c.if-equal.true c.loop-sim.invariant.judged)

pub returns : goal.returns
returns c =
    judged_blamed c.args.plan.now c.requires.valid c.args.first.now.entries c.args.second.now.entries c.requires.first_orderly c.requires.first_finished c.requires.second_orderly c.requires.second_finished c.loop-sim.sim c.loop-sim.blamed
    (let past = c.loop-sim-test.false in let end = c.loop-sim.auto.sim-end in let count = c.len-count.ensures in omega (arith, past, end, count))
    (subst (λ (b : Bool). IsJudged c.args.first.now.entries c.args.second.now.entries c.loop-sim.sim b c.loop-sim.blamed) c.if-equal.false c.loop-sim.invariant.judged)
