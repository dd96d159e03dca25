-- Answers to the goals of `taking::take_content` that the prover leaves.
use Rattle.std.proofs.Common.{◌≡◌, ◌+◌, ◌≤◌, None, length, option_map, sym, ap, ◌∙◌, arith}
use Rattle.std.proofs.lemmas.Option.{slice_get_past}
use Rattle.mk_base.proofs.Lists.{none_some}
use Rattle.mk_run_laws.specs.Handshake.{Request, setup_requests}
use Rattle.mk_setup.specs.inner.Counts.{sim_after}
use Rattle.mk_setup.specs.Kept.{state_of}
use Rattle.mk_setup.proofs.Sequence.{request_count}
use Rattle.mk_setup.proofs.Heard.{create_ok, create_sim, create_untaken, done_ok, init_ok, init_sim, init_untaken}
use Rattle.mk_setup.proofs.taking.take_content.Goals as goal

pub take_meta-requires-clause-stage : goal.take_meta-requires-clause-stage
take_meta-requires-clause-stage c = init_sim c.args.progress.now.scenario c.args.progress.now.answered c.in-Init.field-0 c.args.sim.0 c.requires.next c.in-Init.ensures.0 c.in-Init.ensures.1

pub take_meta-requires-clause-there : goal.take_meta-requires-clause-there
take_meta-requires-clause-there c =
    let same = init_sim c.args.progress.now.scenario c.args.progress.now.answered c.in-Init.field-0 c.args.sim.0 c.requires.next c.in-Init.ensures.0 c.in-Init.ensures.1 in
    let at = c.in-Init.ensures.0 in
    let below = c.in-Init.ensures.1 in
    omega (arith, same, at, below)

pub take_entities-requires-clause-there : goal.take_entities-requires-clause-there
take_entities-requires-clause-there c = create_sim c.args.progress.now.scenario c.args.progress.now.answered c.in-Create.group c.args.sim.0 c.requires.next c.in-Create.ensures.0 c.in-Create.ensures.1

pub returns-in-Init-clause-ok : goal.returns-in-Init-clause-ok
returns-in-Init-clause-ok c = init_ok (state_of c.args.progress.now None) (state_of c.take_meta.new.progress None) c.args.sim c.args.content.now c.in-Init.field-0 c.take_meta.result c.in-Init.ensures.0 c.in-Init.ensures.1 c.take_meta.ensures.ok

pub returns-in-Init-clause-untaken : goal.returns-in-Init-clause-untaken
returns-in-Init-clause-untaken c = init_untaken (state_of c.args.progress.now None) (state_of c.take_meta.new.progress None) c.args.sim c.args.content.now c.in-Init.field-0 c.take_meta.result c.in-Init.ensures.0 c.in-Init.ensures.1 c.take_meta.ensures.untaken

pub returns-in-Create-clause-ok : goal.returns-in-Create-clause-ok
returns-in-Create-clause-ok c = create_ok (state_of c.args.progress.now None) (state_of c.take_entities.new.progress None) c.args.sim c.args.content.now c.in-Create.group c.take_entities.result c.in-Create.ensures.0 c.in-Create.ensures.1 c.take_entities.ensures.ok

pub returns-in-Create-clause-untaken : goal.returns-in-Create-clause-untaken
returns-in-Create-clause-untaken c = create_untaken (state_of c.args.progress.now None) (state_of c.take_entities.new.progress None) c.args.sim c.args.content.now c.in-Create.group c.take_entities.result c.in-Create.ensures.0 c.in-Create.ensures.1 c.take_entities.ensures.untaken

pub returns-in-Done-clause-ok : goal.returns-in-Done-clause-ok
returns-in-Done-clause-ok c =
    let at = c.in-Done.ensures.0 in
    let late : length c.args.progress.now.scenario.sims + length c.args.progress.now.scenario.groups ≤ c.args.progress.now.answered = omega (arith, at) in
    done_ok (state_of c.args.progress.now None) (state_of c.take_done.new.progress None) c.args.sim c.args.content.now late c.take_done.ensures.moved

pub unreachable-requires : goal.unreachable-requires
unreachable-requires c =
    let S = c.args.progress.now.scenario in
    let all = request_count S in
    let over = c.in-Over.ensures in
    let none : sim_after S c.args.progress.now.answered ≡ None = ap (option_map (λ (r : Request). r.sim)) (slice_get_past (setup_requests S) c.args.progress.now.answered (omega (arith, all, over))) in
    none_some (sym none ∙ c.requires.next)
