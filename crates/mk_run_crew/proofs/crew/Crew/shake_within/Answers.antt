-- Answers to the goals of `crew::Crew::shake_within` that the prover leaves.
use Rattle.std.proofs.Common.{[], ap, subst, ◌∙◌}
use Rattle.mk_local.specs.Registries.{rows_in}
use Rattle.mk_run_links.specs.Places.{Channels, at}
use Rattle.mk_run_crew.specs.declared.asking.Stage.{Stage}
use Rattle.mk_run_crew.specs.Attempts.{attempt}
use Rattle.mk_run_crew.specs.inner.Asking.{ComesTo}
use Rattle.mk_run_crew.proofs.Looping.{next_linked, starts}
use Rattle.mk_run_crew.proofs.Unlinked.{halted_within, never_linked}
use Rattle.mk_run_crew.proofs.crew.Crew.shake_within.Goals as goal

pub set_up_within-requires : goal.set_up_within-requires
set_up_within-requires g c =
    let rows = rows_in c.args.kinds.now in
    (attempt 0 c.args.setup.scenario c.args.setup.ranks rows [], starts c.replies_make.ensures 0 c.args.setup.scenario c.args.setup.ranks rows [] c.args.self c.args.setup c.requires.prepared (c.requires.new 0) c.requires.begun)

-- no simulator has a link
pub unreachable-requires : goal.unreachable-requires
unreachable-requires g c =
    let rows = rows_in c.args.kinds.now in
    let A = attempt 0 c.args.setup.scenario c.args.setup.ranks rows [] in
    let n = subst (λ (x : Stage). ComesTo A x c.set_up_within.new.self c.set_up_within.new.setup) c.in-Ok-Linked.field-0-is
    (c.in-Ok-Linked.ensures.ok A (starts c.replies_make.ensures 0 c.args.setup.scenario c.args.setup.ranks rows [] c.args.self c.args.setup c.requires.prepared (c.requires.new 0) c.requires.begun)) in
    let l = next_linked c.replies_make.ensures A c.set_up_within.new.self n.state n.so_far c.set_up_within.new.setup _ _ _ n.requested n.away in
    never_linked 0 c.args.setup.scenario c.requires.wholly _ l.0 l.1

pub returns-in-Ok-Planned-clause-begun : goal.returns-in-Ok-Planned-clause-begun
returns-in-Ok-Planned-clause-begun g c started =
    let rows = rows_in c.args.kinds.now in
    let A = attempt started c.args.setup.scenario c.args.setup.ranks rows [] in
    subst (λ (x : Stage). ComesTo A x c.set_up_within.new.self c.set_up_within.new.setup) c.in-Ok-Planned.field-0-is
    (c.in-Ok-Planned.ensures.ok A (starts c.replies_make.ensures started c.args.setup.scenario c.args.setup.ranks rows [] c.args.self c.args.setup c.requires.prepared (c.requires.new started) c.requires.begun))

pub returns-in-Ok-Planned-clause-linkless : goal.returns-in-Ok-Planned-clause-linkless
returns-in-Ok-Planned-clause-linkless g c i = ap (λ (L : Channels). at L i) c.in-Ok-Planned.ensures.same_channels ∙ c.requires.linkless i

pub returns-in-Err-clause-halted : goal.returns-in-Err-clause-halted
returns-in-Err-clause-halted g c started faults new_faults =
    let rows = rows_in c.args.kinds.now in
    halted_within started c.args.setup.scenario c.args.setup.ranks rows faults new_faults c.in-Err.halt c.set_up_within.new.self (λ i. ap (λ (L : Channels). at L i) c.in-Err.ensures.same_channels ∙ c.requires.linkless i)
    (c.in-Err.ensures.err (attempt started c.args.setup.scenario c.args.setup.ranks rows [])
    (starts c.replies_make.ensures started c.args.setup.scenario c.args.setup.ranks rows [] c.args.self c.args.setup c.requires.prepared (c.requires.new started) c.requires.begun))
