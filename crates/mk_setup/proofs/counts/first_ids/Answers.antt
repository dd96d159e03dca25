-- Answers to the goals of `counts::first_ids` that the prover leaves.
use Rattle.std.proofs.Common.{◌≡◌, ◌<◌, ◌∙◌, ℕ, ap, length, arith, get_or, List, take, replicate}
use Rattle.mk_scenario.specs.declared.parts.Group.{Group}
use Rattle.mk_setup.proofs.Counting.{after_length, group_sim, group_small, group_step, group_there, groups_counted, none_counted}
use Rattle.mk_setup.proofs.counts.first_ids.Goals as goal

pub loop-group-init : goal.loop-group-init
loop-group-init c = (c.as_slice-group-items.ensures, none_counted (length c.args.scenario.now.sims) c.in_ok-ids.ids (c.in_ok-ids.ensures ∙ ap (λ (n : ℕ). replicate n 2) c.len.ensures))

pub count_one-requires-clause-there : goal.count_one-requires-clause-there
count_one-requires-clause-there c =
    let here : c.group-item.result ≡ get_or c.args.scenario.now.groups c.loop-group.group-index c.group-item.result = c.group-item.is ∙ ap (λ (l : List Group). get_or l c.loop-group.group-index c.group-item.result) c.as_slice-group-items.ensures in
    let same : length c.as_slice-group-items.result.now ≡ length c.args.scenario.now.groups = ap length c.as_slice-group-items.ensures in
    let there = group_sim c.args.scenario.now c.requires c.loop-group.group-index c.group-item.result (group_there c.args.scenario.now c.requires c.loop-group.group-index c.group-item.result (omega arith) here) in
    let long = after_length (take c.loop-group.group-index c.args.scenario.now.groups) (length c.args.scenario.now.sims) c.loop-group.ids c.loop-group.invariant.1 in
    omega arith

pub count_one-requires-clause-few : goal.count_one-requires-clause-few
count_one-requires-clause-few c = λ n at. group_small c.args.scenario.now c.requires c.loop-group.group-index c.group-item.result.sim.0 n c.loop-group.ids c.loop-group.invariant.1 at

pub loop-group-preserved : goal.loop-group-preserved
loop-group-preserved c =
    let here : c.group-item.result ≡ get_or c.args.scenario.now.groups c.loop-group.group-index c.group-item.result = c.group-item.is ∙ ap (λ (l : List Group). get_or l c.loop-group.group-index c.group-item.result) c.as_slice-group-items.ensures in
    let same : length c.as_slice-group-items.result.now ≡ length c.args.scenario.now.groups = ap length c.as_slice-group-items.ensures in
    let below : c.loop-group.group-index < length c.args.scenario.now.groups = omega arith in
    (c.as_slice-group-items.ensures, group_step c.args.scenario.now c.requires c.loop-group.group-index c.group-item.result c.loop-group.ids c.count_one.new.counts below here c.loop-group.invariant.1 c.count_one.ensures)

pub returns : goal.returns
returns c =
    let same : length c.as_slice-group-items.result.now ≡ length c.args.scenario.now.groups = ap length c.as_slice-group-items.ensures in
    groups_counted c.args.scenario.now c.requires c.loop-group.group-index c.loop-group.ids (omega arith) c.loop-group.invariant.1
