-- Answers to the goals of `catching::ask_all` that the prover leaves.
use Rattle.std.proofs.Common.{sym, ap, ◌∙◌, subst, refl, Result, Err}
use Rattle.std.proofs.lemmas.Result.{err_from_is_err_and}
use Rattle.mk_local.specs.Registries.{rows_in}
use Rattle.mk_plan.specs.Plans.{sim_count}
use Rattle.mk_sched.specs.declared.faults.Next.{Next}
use Rattle.mk_sched.specs.Cores.{CoreState}
use Rattle.mk_sched.specs.Answers.{NextOf, IsAsked, AwaitsMessage, IsOver}
use Rattle.mk_resume_loop.specs.declared.ending.Pause.{Pause}
use Rattle.mk_resume_loop.specs.declared.ending.ResumeEnd.{ResumeEnd}
use Rattle.mk_resume_loop.specs.inner.Turns.{AsksAllAs}
use Rattle.mk_onlooker.proofs.OnShowings.{items_more, no_items}
use Rattle.mk_resume_loop.proofs.Adding.{next_adds, out_of_memory_adds}
use Rattle.mk_resume_loop.proofs.Endings.{full_ends, mem_ends}
use Rattle.mk_resume_loop.proofs.Turning.{asked_there, can_ask, over_on, waiting_on}
use Rattle.mk_resume_loop.proofs.AskingAll.{asked_not, asked_so, over_so, waits_so}
use Rattle.mk_resume_loop.proofs.catching.ask_all.Goals as goal

pub asking-init : goal.asking-init
asking-init g c = record {
  going = c.requires.going;
  known = c.requires.known;
  still = record { places = refl; kinds = λ rows known. known };
  same_halt = refl;
  goes = λ T first heard log u. u;
  items = no_items c.args.core.now.entries;
  same_plan = refl;
}

pub returns-in_err-sim-clause-asked_all : goal.returns-in_err-sim-clause-asked_all
returns-in_err-sim-clause-asked_all g c =
    let e = err_from_is_err_and c.from_residual.result c.from_residual.ensures.1 in
    subst (λ (r : Result Pause ResumeEnd). AsksAllAs r c.args.core.now c.args.crew.now c.next.new.self c.asking.crew c.args.behind.now) (sym (e.1 ∙ ap (λ (end : ResumeEnd). Err end) e.2))
    (λ T first heard log u. (heard, mem_ends T first ⊥ c.asking.core c.next.new.self heard log _ _ (c.asking.invariant.goes T first heard log u).0 c.in_err-sim.ensures.err))

pub ask-requires-clause-there : goal.ask-requires-clause-there
ask-requires-clause-there g c =
    let a : IsAsked c.asking.core c.in-Ask.sim c.next.new.self = subst (λ (n : Next). NextOf c.asking.core n c.next.new.self) c.in-Ask.is c.in_ok-sim.ensures.ok in
    let t = c.requires.underway in
    asked_there t.0 c.asking.core c.next.new.self t.1 t.2 t.3 c.asking.crew c.args.behind.now c.in-Ask.sim (c.asking.invariant.goes t.0 t.1 t.2 t.3 t.4) c.next.ensures.stands a

pub ask-requires-clause-sized : goal.ask-requires-clause-sized
ask-requires-clause-sized g c =
    let a : IsAsked c.asking.core c.in-Ask.sim c.next.new.self = subst (λ (n : Next). NextOf c.asking.core n c.next.new.self) c.in-Ask.is c.in_ok-sim.ensures.ok in
    let t = c.requires.underway in
    (c.asking.invariant.goes t.0 t.1 t.2 t.3 t.4).1.sims ∙ sym (ap (λ (k : CoreState). sim_count k.plan) a.moved)

pub ask-requires-clause-due : goal.ask-requires-clause-due
ask-requires-clause-due g c =
    let a : IsAsked c.asking.core c.in-Ask.sim c.next.new.self = subst (λ (n : Next). NextOf c.asking.core n c.next.new.self) c.in-Ask.is c.in_ok-sim.ensures.ok in
    let t = c.requires.underway in
    can_ask t.0 c.asking.core c.next.new.self t.1 t.2 t.3 c.asking.crew c.args.behind.now c.in-Ask.sim (c.asking.invariant.goes t.0 t.1 t.2 t.3 t.4) c.next.ensures.stands a

pub asking-preserved : goal.asking-preserved
asking-preserved g c =
    let a : IsAsked c.asking.core c.in-Ask.sim c.next.new.self = subst (λ (n : Next). NextOf c.asking.core n c.next.new.self) c.in-Ask.is c.in_ok-sim.ensures.ok in
    let so_far = c.asking.invariant in
    let sent = c.in_ok-ask-in-Ask.ensures in
    record {
      going = ap (λ (k : CoreState). k.ended) a.moved;
      known = sent.still.kinds (rows_in c.args.kinds.now) so_far.known;
      still = record { places = sent.still.places ∙ so_far.still.places; kinds = λ rows known. sent.still.kinds rows (so_far.still.kinds rows known) };
      same_halt = sent.same_halt ∙ so_far.same_halt;
      goes = λ T first heard log u. asked_so T c.asking.core c.next.new.self first heard log c.asking.crew c.args.behind.now c.in-Ask.sim (so_far.goes T first heard log u) c.next.ensures.stands a c.replies_are_kinds.ensures c.ask.new.crew sent.asked;
      items = items_more c.args.core.now.entries c.asking.core.entries c.next.new.self.entries so_far.items (next_adds c.asking.core c.next.new.self _ c.in_ok-sim.ensures.ok).0;
      same_plan = (next_adds c.asking.core c.next.new.self _ c.in_ok-sim.ensures.ok).1 ∙ so_far.same_plan;
    }

pub returns-in_err-ask-in-Ask-clause-asked_all : goal.returns-in_err-ask-in-Ask-clause-asked_all
returns-in_err-ask-in-Ask-clause-asked_all g c =
    let a : IsAsked c.asking.core c.in-Ask.sim c.next.new.self = subst (λ (n : Next). NextOf c.asking.core n c.next.new.self) c.in-Ask.is c.in_ok-sim.ensures.ok in
    let e = err_from_is_err_and c.from_residual-in_err-ask-in-Ask.result c.from_residual-in_err-ask-in-Ask.ensures.1 in
    let unsent = c.in_err-ask-in-Ask.ensures in
    subst (λ (r : Result Pause ResumeEnd). AsksAllAs r c.args.core.now c.args.crew.now c.next.new.self c.ask.new.crew c.args.behind.now) (sym (e.1 ∙ ap (λ (end : ResumeEnd). Err end) e.2))
    (λ T first heard log u. asked_not T c.asking.core c.next.new.self first heard log c.asking.crew c.args.behind.now c.in-Ask.sim (c.asking.invariant.goes T first heard log u) c.next.ensures.stands a c.ask.new.crew c.in_err-ask-in-Ask.field-0.0 unsent.asked)

pub returns-in-Wait-clause-asked_all : goal.returns-in-Wait-clause-asked_all
returns-in-Wait-clause-asked_all g c =
    let w : AwaitsMessage c.asking.core c.next.new.self = subst (λ (n : Next). NextOf c.asking.core n c.next.new.self) c.in-Wait.is c.in_ok-sim.ensures.ok in
    let so = waits_so c.asking.core c.next.new.self w in (
      ap (λ (k : CoreState). k.ended) w.same ∙ c.asking.invariant.going,
      so.0,
      so.1,
      (λ T first heard log u. waiting_on T c.asking.core c.next.new.self first heard log c.asking.crew c.args.behind.now w (c.asking.invariant.goes T first heard log u)),
    )

pub returns-in-Done-clause-asked_all : goal.returns-in-Done-clause-asked_all
returns-in-Done-clause-asked_all g c =
    let o : IsOver c.asking.core c.next.new.self = subst (λ (n : Next). NextOf c.asking.core n c.next.new.self) c.in-Done.is c.in_ok-sim.ensures.ok in
    let so = over_so c.asking.core c.next.new.self o in (
      ap (λ (k : CoreState). k.ended) o.same ∙ c.asking.invariant.going,
      so.0,
      so.1,
      (λ T first heard log u. over_on T c.asking.core c.next.new.self first heard log c.asking.crew c.args.behind.now o (c.asking.invariant.goes T first heard log u)),
    )

pub returns-in-Fault-clause-asked_all : goal.returns-in-Fault-clause-asked_all
returns-in-Fault-clause-asked_all g c = λ T first heard log u.
    (heard, full_ends T first ⊥ c.asking.core c.next.new.self c.in-Fault.fault heard log _ _ c.asking.invariant.going (c.asking.invariant.goes T first heard log u).0 (subst (λ (n : Next). NextOf c.asking.core n c.next.new.self) c.in-Fault.is c.in_ok-sim.ensures.ok))

-- ---- what the journal has got

pub returns-in_err-sim-clause-items : goal.returns-in_err-sim-clause-items
returns-in_err-sim-clause-items g c = items_more c.args.core.now.entries c.asking.core.entries c.next.new.self.entries c.asking.invariant.items (out_of_memory_adds c.asking.core c.next.new.self c.in_err-sim.ensures.err).0

pub returns-in_err-sim-clause-same_plan : goal.returns-in_err-sim-clause-same_plan
returns-in_err-sim-clause-same_plan g c = (out_of_memory_adds c.asking.core c.next.new.self c.in_err-sim.ensures.err).1 ∙ c.asking.invariant.same_plan

pub returns-in_err-ask-in-Ask-clause-items : goal.returns-in_err-ask-in-Ask-clause-items
returns-in_err-ask-in-Ask-clause-items g c = items_more c.args.core.now.entries c.asking.core.entries c.next.new.self.entries c.asking.invariant.items (next_adds c.asking.core c.next.new.self _ c.in_ok-sim.ensures.ok).0

pub returns-in_err-ask-in-Ask-clause-same_plan : goal.returns-in_err-ask-in-Ask-clause-same_plan
returns-in_err-ask-in-Ask-clause-same_plan g c = (next_adds c.asking.core c.next.new.self _ c.in_ok-sim.ensures.ok).1 ∙ c.asking.invariant.same_plan

pub returns-in-Wait-clause-items : goal.returns-in-Wait-clause-items
returns-in-Wait-clause-items g c = items_more c.args.core.now.entries c.asking.core.entries c.next.new.self.entries c.asking.invariant.items (next_adds c.asking.core c.next.new.self _ c.in_ok-sim.ensures.ok).0

pub returns-in-Wait-clause-same_plan : goal.returns-in-Wait-clause-same_plan
returns-in-Wait-clause-same_plan g c = (next_adds c.asking.core c.next.new.self _ c.in_ok-sim.ensures.ok).1 ∙ c.asking.invariant.same_plan

pub returns-in-Done-clause-items : goal.returns-in-Done-clause-items
returns-in-Done-clause-items g c = items_more c.args.core.now.entries c.asking.core.entries c.next.new.self.entries c.asking.invariant.items (next_adds c.asking.core c.next.new.self _ c.in_ok-sim.ensures.ok).0

pub returns-in-Done-clause-same_plan : goal.returns-in-Done-clause-same_plan
returns-in-Done-clause-same_plan g c = (next_adds c.asking.core c.next.new.self _ c.in_ok-sim.ensures.ok).1 ∙ c.asking.invariant.same_plan

pub returns-in-Fault-clause-items : goal.returns-in-Fault-clause-items
returns-in-Fault-clause-items g c = items_more c.args.core.now.entries c.asking.core.entries c.next.new.self.entries c.asking.invariant.items (next_adds c.asking.core c.next.new.self _ c.in_ok-sim.ensures.ok).0

pub returns-in-Fault-clause-same_plan : goal.returns-in-Fault-clause-same_plan
returns-in-Fault-clause-same_plan g c = (next_adds c.asking.core c.next.new.self _ c.in_ok-sim.ensures.ok).1 ∙ c.asking.invariant.same_plan
