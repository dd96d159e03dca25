-- Answers to the goals of `pacing::ask_all` that the prover leaves.
use Rattle.std.proofs.Common.{sym, ap, ◌∙◌, subst, Result, Err}
use Rattle.std.proofs.lemmas.Result.{err_from_is_err_and}
use Rattle.mk_plan.specs.declared.Item.TheVariants.{Step}
use Rattle.mk_plan.specs.Journals.{sent}
use Rattle.mk_plan.specs.Plans.{first_id}
use Rattle.mk_plan.specs.Sequential.{id_after}
use Rattle.mk_sched.specs.declared.faults.Next.{Next}
use Rattle.mk_sched.specs.Cores.{CoreState}
use Rattle.mk_sched.specs.Answers.{NextOf, IsAsked, AwaitsMessage, IsOver}
use Rattle.mk_run.specs.declared.outcome.Outcome.{Outcome}
use Rattle.mk_run.proofs.Turning.{waits_so}
use Rattle.mk_pace_loop.specs.inner.Turns.{AsksAs, GoesOn, IsStopping}
use Rattle.mk_pace_loop.specs.inner.Waiting.{WaitingSeen}
use Rattle.mk_pace_laws.specs.declared.end.PaceEnd.TheVariants as pace
use Rattle.mk_run.specs.declared.outcome.Outcome.TheVariants as outcome
use Rattle.mk_pace_loop.proofs.Answering.{asked_mem}
use Rattle.mk_pace_loop.proofs.Asking.{asked_ends, asked_low, asked_on, asked_sized, asked_time}
use Rattle.mk_pace_loop.proofs.Ending.{done_ends, full_ends, mem_ends}
use Rattle.mk_pace_loop.proofs.Gaining.{gains_more, memory_gains, next_gains, nothing_gained}
use Rattle.mk_pace_loop.proofs.Turning.{on_tempo, same_tempo}
use Rattle.mk_pace_loop.proofs.pacing.ask_all.Goals as goal

pub asking-init : goal.asking-init
asking-init c = record { going = c.requires.going; gained = nothing_gained c.args.core.now; tempo = same_tempo c.args.waiting.now; goes = λ S log C u. u }

pub returns-in_err-sim-clause-asked : goal.returns-in_err-sim-clause-asked
returns-in_err-sim-clause-asked c =
    let e = err_from_is_err_and c.from_residual.result c.from_residual.ensures.1 in
    subst (λ (r : Result (Unit {0}) Outcome). AsksAs r c.args.core.now c.args.waiting.now c.next.new.self c.asking.waiting) (sym (e.1 ∙ ap (λ (end : Outcome). Err end) e.2))
    (λ S log C u. mem_ends S c.asking.core c.next.new.self log C c.asking.waiting (c.asking.invariant.goes S log C u) c.in_err-sim.ensures.err)

pub hold_last-requires-clause-there : goal.hold_last-requires-clause-there
hold_last-requires-clause-there c =
    let a : IsAsked c.asking.core c.in-Ask.sim c.next.new.self = subst (λ (n : Next). NextOf c.asking.core n c.next.new.self) c.in-Ask.is c.in_ok-sim.ensures.ok in
    let t = c.requires.underway in
    asked_low t.0 c.asking.core c.next.new.self t.1 t.2 c.asking.waiting c.in-Ask.sim (c.asking.invariant.goes t.0 t.1 t.2 t.3) c.next.ensures.stands a

pub hold_last-requires-clause-sized : goal.hold_last-requires-clause-sized
hold_last-requires-clause-sized c =
    let a : IsAsked c.asking.core c.in-Ask.sim c.next.new.self = subst (λ (n : Next). NextOf c.asking.core n c.next.new.self) c.in-Ask.is c.in_ok-sim.ensures.ok in
    let t = c.requires.underway in
    asked_sized t.0 c.asking.core c.next.new.self t.1 t.2 c.asking.waiting c.in-Ask.sim (c.asking.invariant.goes t.0 t.1 t.2 t.3) c.next.ensures.stands a

pub hold_last-requires-clause-last : goal.hold_last-requires-clause-last
hold_last-requires-clause-last c =
    let a : IsAsked c.asking.core c.in-Ask.sim c.next.new.self = subst (λ (n : Next). NextOf c.asking.core n c.next.new.self) c.in-Ask.is c.in_ok-sim.ensures.ok in
    let t = c.requires.underway in
    let u = c.asking.invariant.goes t.0 t.1 t.2 t.3 in (
      Step a.at a.inputs a.advance,
      id_after (first_id c.asking.core.plan c.in-Ask.sim.0) (sent c.asking.core.entries c.in-Ask.sim.0),
      asked_ends t.0 c.asking.core c.next.new.self t.1 t.2 c.asking.waiting c.in-Ask.sim u c.next.ensures.stands a,
      asked_time t.0 c.asking.core c.next.new.self t.1 t.2 c.asking.waiting c.in-Ask.sim u c.next.ensures.stands a,
    )

pub asking-preserved : goal.asking-preserved
asking-preserved c =
    let a : IsAsked c.asking.core c.in-Ask.sim c.next.new.self = subst (λ (n : Next). NextOf c.asking.core n c.next.new.self) c.in-Ask.is c.in_ok-sim.ensures.ok in
    let so_far = c.asking.invariant in
    let held = c.in_ok-hold_last-in-Ask.ensures in
    record {
      going = ap (λ (k : CoreState). k.ended) a.moved;
      gained = gains_more c.args.core.now c.asking.core c.next.new.self so_far.gained (next_gains c.asking.core c.next.new.self c.in_ok-sim.field-0 c.in_ok-sim.ensures.ok);
      tempo = on_tempo c.args.waiting.now c.asking.waiting c.hold_last.new.waiting so_far.tempo held.on_tempo;
      goes = λ S log C u.
          let v = so_far.goes S log C u in
          asked_on S c.asking.core c.next.new.self log C c.asking.waiting c.in-Ask.sim v c.next.ensures.stands a c.hold_last.new.waiting
          (held.held _ _ (asked_ends S c.asking.core c.next.new.self log C c.asking.waiting c.in-Ask.sim v c.next.ensures.stands a));
    }

pub returns-in_err-hold_last-in-Ask-clause-asked : goal.returns-in_err-hold_last-in-Ask-clause-asked
returns-in_err-hold_last-in-Ask-clause-asked c =
    let a : IsAsked c.asking.core c.in-Ask.sim c.next.new.self = subst (λ (n : Next). NextOf c.asking.core n c.next.new.self) c.in-Ask.is c.in_ok-sim.ensures.ok in
    let e = err_from_is_err_and c.from_residual-in_err-hold_last-in-Ask.result c.from_residual-in_err-hold_last-in-Ask.ensures.1 in
    subst (λ (r : Result (Unit {0}) Outcome). AsksAs r c.args.core.now c.args.waiting.now c.next.new.self c.hold_last.new.waiting) (sym (e.1 ∙ ap (λ (end : Outcome). Err end) e.2))
    (λ S log C u. subst (λ (W : WaitingSeen). IsStopping ⊥ S c.next.new.self log C W (pace.Outcome outcome.Mem)) (sym c.in_err-hold_last-in-Ask.ensures.err)
    (asked_mem S c.asking.core c.next.new.self log C c.asking.waiting c.in-Ask.sim (c.asking.invariant.goes S log C u) c.next.ensures.stands a))

pub returns-in-Wait-clause-asked : goal.returns-in-Wait-clause-asked
returns-in-Wait-clause-asked c =
    let w : AwaitsMessage c.asking.core c.next.new.self = subst (λ (n : Next). NextOf c.asking.core n c.next.new.self) c.in-Wait.is c.in_ok-sim.ensures.ok in (
      ap (λ (k : CoreState). k.ended) w.same ∙ c.asking.invariant.going,
      waits_so c.asking.core c.next.new.self w,
      (λ S log C u. subst (λ (k : CoreState). GoesOn S k log C c.asking.waiting) (sym w.same) (c.asking.invariant.goes S log C u)),
    )

pub returns-in-Done-clause-asked : goal.returns-in-Done-clause-asked
returns-in-Done-clause-asked c =
    let o : IsOver c.asking.core c.next.new.self = subst (λ (n : Next). NextOf c.asking.core n c.next.new.self) c.in-Done.is c.in_ok-sim.ensures.ok in
    λ S log C u. done_ends S c.asking.core c.next.new.self log C c.asking.waiting (c.asking.invariant.goes S log C u) o

pub returns-in-Fault-clause-asked : goal.returns-in-Fault-clause-asked
returns-in-Fault-clause-asked c = λ S log C u. full_ends S c.asking.core c.next.new.self log C c.asking.waiting (c.asking.invariant.goes S log C u) c.in-Fault.fault c.asking.invariant.going (subst (λ (n : Next). NextOf c.asking.core n c.next.new.self) c.in-Fault.is c.in_ok-sim.ensures.ok)

pub returns-in_err-sim-clause-items : goal.returns-in_err-sim-clause-items
returns-in_err-sim-clause-items c = gains_more c.args.core.now c.asking.core c.next.new.self c.asking.invariant.gained (memory_gains c.asking.core c.next.new.self c.in_err-sim.ensures.err)

pub returns-in_err-hold_last-in-Ask-clause-items : goal.returns-in_err-hold_last-in-Ask-clause-items
returns-in_err-hold_last-in-Ask-clause-items c = gains_more c.args.core.now c.asking.core c.next.new.self c.asking.invariant.gained (next_gains c.asking.core c.next.new.self c.in_ok-sim.field-0 c.in_ok-sim.ensures.ok)

pub returns-in-Wait-clause-items : goal.returns-in-Wait-clause-items
returns-in-Wait-clause-items c = gains_more c.args.core.now c.asking.core c.next.new.self c.asking.invariant.gained (next_gains c.asking.core c.next.new.self c.in_ok-sim.field-0 c.in_ok-sim.ensures.ok)

pub returns-in-Done-clause-items : goal.returns-in-Done-clause-items
returns-in-Done-clause-items c = gains_more c.args.core.now c.asking.core c.next.new.self c.asking.invariant.gained (next_gains c.asking.core c.next.new.self c.in_ok-sim.field-0 c.in_ok-sim.ensures.ok)

pub returns-in-Fault-clause-items : goal.returns-in-Fault-clause-items
returns-in-Fault-clause-items c = gains_more c.args.core.now c.asking.core c.next.new.self c.asking.invariant.gained (next_gains c.asking.core c.next.new.self c.in_ok-sim.field-0 c.in_ok-sim.ensures.ok)
