-- Answers to the goals of `driving::ask_all` that the prover leaves.
use Rattle.std.proofs.Common.{sym, ap, ◌∙◌, subst, Result, Err, IfErr}
use Rattle.std.proofs.lemmas.Result.{err_from_is_err_and}
use Rattle.mk_local.specs.Registries.{rows_in}
use Rattle.mk_sched.specs.declared.faults.Next.{Next}
use Rattle.mk_sched.specs.declared.faults.Next.TheVariants as next
use Rattle.mk_sched.specs.Cores.{CoreState}
use Rattle.mk_sched.specs.Answers.{NextOf, IsAsked, AwaitsMessage, IsOver}
use Rattle.mk_run_crew.specs.Seen.{CrewSeen}
use Rattle.mk_run.specs.declared.outcome.Outcome.{Outcome}
use Rattle.mk_run.specs.inner.Turns.{IsLinkedIfLong, IsStopping, AsksAllAs}
use Rattle.mk_run.proofs.Endings.{done_ends, full_ends, mem_ends}
use Rattle.mk_run.proofs.Turning.{can_ask, asked_there, asked_on, asked_not, waiting_on, waits_so}
use Rattle.mk_run.proofs.Growing.{items_next, items_on, items_out, unsent_linked}
use Rattle.mk_run.proofs.driving.ask_all.Goals as goal

pub returns-in_err-sim-clause-asked_all : goal.returns-in_err-sim-clause-asked_all
returns-in_err-sim-clause-asked_all g c =
    let e = err_from_is_err_and c.from_residual.result c.from_residual.ensures.1 in
    subst (λ (r : Result (Unit {0}) Outcome). AsksAllAs r c.args.core.now c.args.crew.now c.next.new.self c.asking.crew) (sym (e.1 ∙ ap (λ (end : Outcome). Err end) e.2))
    (λ T log u. mem_ends T ⊥ c.asking.core c.next.new.self log _ _ (c.asking.invariant.goes T log u) c.in_err-sim.ensures.err)

pub send_last-requires-clause-there : goal.send_last-requires-clause-there
send_last-requires-clause-there g c =
    let a : IsAsked c.asking.core c.in-Ask.sim c.next.new.self = subst (λ (n : Next). NextOf c.asking.core n c.next.new.self) c.in-Ask.is c.in_ok-sim.ensures.ok in
    let t = c.requires.underway in
    asked_there t.0 c.asking.core c.next.new.self t.1 c.asking.crew c.in-Ask.sim (c.asking.invariant.goes t.0 t.1 t.2) c.next.ensures.stands a

pub send_last-requires-clause-due : goal.send_last-requires-clause-due
send_last-requires-clause-due g c =
    let a : IsAsked c.asking.core c.in-Ask.sim c.next.new.self = subst (λ (n : Next). NextOf c.asking.core n c.next.new.self) c.in-Ask.is c.in_ok-sim.ensures.ok in
    let t = c.requires.underway in
    can_ask t.0 c.asking.core c.next.new.self t.1 c.asking.crew c.in-Ask.sim (c.asking.invariant.goes t.0 t.1 t.2) c.next.ensures.stands a

pub asking-preserved : goal.asking-preserved
asking-preserved g c =
    let a : IsAsked c.asking.core c.in-Ask.sim c.next.new.self = subst (λ (n : Next). NextOf c.asking.core n c.next.new.self) c.in-Ask.is c.in_ok-sim.ensures.ok in
    let so_far = c.asking.invariant in
    let sent = c.in_ok-send_last-in-Ask.ensures in
    record {
      going = ap (λ (k : CoreState). k.ended) a.moved;
      items = items_on c.args.core.now c.asking.core c.next.new.self so_far.items (items_next c.asking.core c.next.new.self (next.Ask c.in-Ask.sim) a);
      known = sent.kinds (rows_in c.args.kinds.now) so_far.known;
      still = record { places = sent.same_places ∙ so_far.still.places; kinds = λ rows known. sent.kinds rows (so_far.still.kinds rows known) };
      same_halt = sent.same_halt ∙ so_far.same_halt;
      goes = λ T log u. asked_on T c.asking.core c.next.new.self log c.asking.crew c.in-Ask.sim (so_far.goes T log u) c.next.ensures.stands a c.replies_are_kinds.ensures c.send_last.new.crew sent.sent;
    }

pub returns-in_err-send_last-in-Ask-clause-asked_all : goal.returns-in_err-send_last-in-Ask-clause-asked_all
returns-in_err-send_last-in-Ask-clause-asked_all g c =
    let a : IsAsked c.asking.core c.in-Ask.sim c.next.new.self = subst (λ (n : Next). NextOf c.asking.core n c.next.new.self) c.in-Ask.is c.in_ok-sim.ensures.ok in
    let e = err_from_is_err_and c.from_residual-in_err-send_last-in-Ask.result c.from_residual-in_err-send_last-in-Ask.ensures.1 in
    let unsent = c.in_err-send_last-in-Ask.ensures in
    subst (λ (r : Result (Unit {0}) Outcome). AsksAllAs r c.args.core.now c.args.crew.now c.next.new.self c.send_last.new.crew) (sym (e.1 ∙ ap (λ (end : Outcome). Err end) e.2))
    (λ T log u. subst (λ (D : CrewSeen). IsStopping ⊥ T c.next.new.self log D c.in_err-send_last-in-Ask.field-0.0) (sym unsent.err)
    (asked_not T c.asking.core c.next.new.self log c.asking.crew c.in-Ask.sim (c.asking.invariant.goes T log u) c.next.ensures.stands a c.in_err-send_last-in-Ask.field-0.0 unsent.unsent))

pub returns-in-Wait-clause-asked_all : goal.returns-in-Wait-clause-asked_all
returns-in-Wait-clause-asked_all g c =
    let w : AwaitsMessage c.asking.core c.next.new.self = subst (λ (n : Next). NextOf c.asking.core n c.next.new.self) c.in-Wait.is c.in_ok-sim.ensures.ok in (
      ap (λ (k : CoreState). k.ended) w.same ∙ c.asking.invariant.going,
      waits_so c.asking.core c.next.new.self w,
      (λ T log u. waiting_on T c.asking.core c.next.new.self log c.asking.crew w (c.asking.invariant.goes T log u)),
    )

pub returns-in-Done-clause-asked_all : goal.returns-in-Done-clause-asked_all
returns-in-Done-clause-asked_all g c =
    let o : IsOver c.asking.core c.next.new.self = subst (λ (n : Next). NextOf c.asking.core n c.next.new.self) c.in-Done.is c.in_ok-sim.ensures.ok in
    λ T log u. done_ends T ⊥ c.asking.core c.next.new.self log _ _ (c.asking.invariant.goes T log u) o

pub returns-in-Fault-clause-asked_all : goal.returns-in-Fault-clause-asked_all
returns-in-Fault-clause-asked_all g c = λ T log u. full_ends T ⊥ c.asking.core c.next.new.self c.in-Fault.fault log _ _ c.asking.invariant.going (c.asking.invariant.goes T log u) (subst (λ (n : Next). NextOf c.asking.core n c.next.new.self) c.in-Fault.is c.in_ok-sim.ensures.ok)

pub returns-in_err-send_last-in-Ask-clause-items : goal.returns-in_err-send_last-in-Ask-clause-items
returns-in_err-send_last-in-Ask-clause-items g c =
    let a : IsAsked c.asking.core c.in-Ask.sim c.next.new.self = subst (λ (n : Next). NextOf c.asking.core n c.next.new.self) c.in-Ask.is c.in_ok-sim.ensures.ok in
    items_on c.args.core.now c.asking.core c.next.new.self c.asking.invariant.items (items_next c.asking.core c.next.new.self (next.Ask c.in-Ask.sim) a)

pub returns-in_err-sim-clause-items : goal.returns-in_err-sim-clause-items
returns-in_err-sim-clause-items g c = items_on c.args.core.now c.asking.core c.next.new.self c.asking.invariant.items (items_out c.asking.core c.next.new.self c.in_err-sim.ensures.err)

pub returns-in-Wait-clause-items : goal.returns-in-Wait-clause-items
returns-in-Wait-clause-items g c = items_on c.args.core.now c.asking.core c.next.new.self c.asking.invariant.items (items_next c.asking.core c.next.new.self c.in_ok-sim.field-0 c.in_ok-sim.ensures.ok)

pub returns-in-Done-clause-items : goal.returns-in-Done-clause-items
returns-in-Done-clause-items g c = items_on c.args.core.now c.asking.core c.next.new.self c.asking.invariant.items (items_next c.asking.core c.next.new.self c.in_ok-sim.field-0 c.in_ok-sim.ensures.ok)

pub returns-in-Fault-clause-items : goal.returns-in-Fault-clause-items
returns-in-Fault-clause-items g c = items_on c.args.core.now c.asking.core c.next.new.self c.asking.invariant.items (items_next c.asking.core c.next.new.self c.in_ok-sim.field-0 c.in_ok-sim.ensures.ok)

pub returns-in_err-send_last-in-Ask-clause-long : goal.returns-in_err-send_last-in-Ask-clause-long
returns-in_err-send_last-in-Ask-clause-long g c =
    let a : IsAsked c.asking.core c.in-Ask.sim c.next.new.self = subst (λ (n : Next). NextOf c.asking.core n c.next.new.self) c.in-Ask.is c.in_ok-sim.ensures.ok in
    let t = c.requires.underway in
    let e = err_from_is_err_and c.from_residual-in_err-send_last-in-Ask.result c.from_residual-in_err-send_last-in-Ask.ensures.1 in
    let unsent = c.in_err-send_last-in-Ask.ensures in
    subst (λ (r : Result (Unit {0}) Outcome). IfErr r (IsLinkedIfLong c.send_last.new.crew)) (sym (e.1 ∙ ap (λ (end : Outcome). Err end) e.2))
    (subst (λ (D : CrewSeen). IsLinkedIfLong D c.in_err-send_last-in-Ask.field-0.0) (sym unsent.err)
    (unsent_linked c.next.new.self c.in-Ask.sim c.asking.crew c.in_err-send_last-in-Ask.field-0.0 (can_ask t.0 c.asking.core c.next.new.self t.1 c.asking.crew c.in-Ask.sim (c.asking.invariant.goes t.0 t.1 t.2) c.next.ensures.stands a) unsent.unsent))
