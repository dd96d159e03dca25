-- Answers to the goals of `agenda::Agenda::end_turn` that the prover leaves.
use Rattle.std.proofs.Common.{◌≡◌, ◌<◌, ◌∙◌, List, None, false, length, refl, sym, ap, subst, arith}
use Rattle.mk_nextstep.specs.Queues.{least}
use Rattle.mk_sched_agenda.specs.declared.outlets.Outlet.{Outlet}
use Rattle.mk_sched_agenda.specs.Mirrors.{AgendaState}
use Rattle.mk_sched_agenda.specs.Dues.{queue_in}
use Rattle.mk_sched_agenda.specs.Outlets.{outlets_in}
use Rattle.mk_plan.specs.Deliveries.{triggering_from}
use Rattle.mk_plan.specs.Journals.{view, ended_turn}
use Rattle.mk_sched_agenda.specs.inner.Coming.{IsEnding, HasCome, first_beyond}
use Rattle.mk_sched_agenda.proofs.Rows.{outlets_at}
use Rattle.mk_sched_agenda.proofs.Mirroring.{sound_same, outlets_wide, outlets_sound}
use Rattle.mk_sched_agenda.proofs.Ended.{fault_by, no_fault, is_ending, come_begun, come_closed, come_ended}
use Rattle.mk_tiers.proofs.Noting.{noted_none, noted_both}
use Rattle.mk_sched_agenda.proofs.agenda.Agenda.end_turn.Goals as goal

pub first_beyond-requires-clause-widths : goal.first_beyond-requires-clause-widths
first_beyond-requires-clause-widths c =
    let R = c.self.inside.outlets.items in
    let low : c.args.sim.0 < length R = omega (arith, c.requires.sim, ap (λ (A : AgendaState). length A.queues) c.self.view_is, c.self.invariant.0.count) in
    let os : outlets_in R c.args.sim.0 ≡ c.as_slice-outlets.result.now = outlets_at R c.args.sim.0 c.index.result.now low c.index.ensures ∙ sym c.as_slice-outlets.ensures in
    outlets_wide c.self.inside.limits R c.self.inside.dues.queues.items c.self.invariant.0 c.args.sim.0 c.as_slice-outlets.result.now os

pub returns-in-Some-clause-ends : goal.returns-in-Some-clause-ends
returns-in-Some-clause-ends c = λ P J T m h mirrors.
    let A = c.args.self.now in
    let R = c.self.inside.outlets.items in
    let low : c.args.sim.0 < length R = omega (arith, c.requires.sim, ap (λ (A : AgendaState). length A.queues) c.self.view_is, c.self.invariant.0.count) in
    let os : outlets_in A.outlets c.args.sim.0 ≡ c.as_slice-outlets.result.now = ap (λ (B : AgendaState). outlets_in B.outlets c.args.sim.0) (sym c.self.view_is) ∙ outlets_at R c.args.sim.0 c.index.result.now low c.index.ensures ∙ sym c.as_slice-outlets.ensures in
    let found : c.first_beyond.result ≡ first_beyond A.limits c.args.made (outlets_in A.outlets c.args.sim.0) c.args.given.now =
    c.first_beyond.ensures ∙ ap (λ (B : AgendaState). first_beyond B.limits c.args.made c.as_slice-outlets.result.now c.args.given.now) c.self.view_is ∙ ap (λ (l : List Outlet). first_beyond A.limits c.args.made l c.args.given.now) (sym os) in
    (fault_by P J c.args.sim T m c.args.made c.args.next c.args.given.now h A mirrors c.requires.sim c.in-Some.beyond (sym found ∙ c.in-Some.is), refl)

pub invariant_of-self : goal.invariant_of-self
invariant_of-self c = (sound_same c.self.inside.limits c.self.inside.outlets.items c.self.inside.dues.queues.items c.bring_all.new.dues.queues.items c.bring_all.ensures.count c.self.invariant.0, c.bring_all.ensures.tidy, ap length c.bring_all.ensures.lasts ∙ c.self.invariant.2 ∙ sym c.bring_all.ensures.count)

pub bring_all-requires-clause-count : goal.bring_all-requires-clause-count
bring_all-requires-clause-count c =
    let R = c.self.inside.outlets.items in
    let low : c.args.sim.0 < length R = omega (arith, c.requires.sim, ap (λ (A : AgendaState). length A.queues) c.self.view_is, c.self.invariant.0.count) in
    c.requires.given ∙ ap length (ap (λ (B : AgendaState). outlets_in B.outlets c.args.sim.0) (sym c.self.view_is) ∙ outlets_at R c.args.sim.0 c.index.result.now low c.index.ensures ∙ sym c.as_slice-outlets.ensures)

pub bring_all-requires-clause-outlets : goal.bring_all-requires-clause-outlets
bring_all-requires-clause-outlets c =
    let R = c.self.inside.outlets.items in
    let low : c.args.sim.0 < length R = omega (arith, c.requires.sim, ap (λ (A : AgendaState). length A.queues) c.self.view_is, c.self.invariant.0.count) in
    let os : outlets_in R c.args.sim.0 ≡ c.as_slice-outlets.result.now = outlets_at R c.args.sim.0 c.index.result.now low c.index.ensures ∙ sym c.as_slice-outlets.ensures in
    outlets_sound c.self.inside.limits R c.self.inside.dues.queues.items c.self.invariant.0 c.args.sim.0 c.as_slice-outlets.result.now os c.self.inside.dues.queues.items refl

pub invariant_of-self-in_err-close_turn : goal.invariant_of-self-in_err-close_turn
invariant_of-self-in_err-close_turn c = (sound_same c.self.inside.limits c.self.inside.outlets.items c.self.inside.dues.queues.items c.close_turn.new.self.queues.items (c.close_turn.ensures.count ∙ c.bring_all.ensures.count) c.self.invariant.0, c.close_turn.ensures.tidy, ap length (c.close_turn.ensures.lasts ∙ c.bring_all.ensures.lasts) ∙ c.self.invariant.2 ∙ sym (c.close_turn.ensures.count ∙ c.bring_all.ensures.count))

pub invariant_of-self-2 : goal.invariant_of-self-2
invariant_of-self-2 c = (sound_same c.self.inside.limits c.self.inside.outlets.items c.self.inside.dues.queues.items c.close_turn.new.self.queues.items (c.close_turn.ensures.count ∙ c.bring_all.ensures.count) c.self.invariant.0, c.close_turn.ensures.tidy, ap length (c.close_turn.ensures.lasts ∙ c.bring_all.ensures.lasts) ∙ c.self.invariant.2 ∙ sym (c.close_turn.ensures.count ∙ c.bring_all.ensures.count))

pub returns-clause-ends : goal.returns-clause-ends
returns-clause-ends c = rw (← c.self.view_is) (λ P J T m h mirrors.
    let R = c.self.inside.outlets.items in
    let D = c.self.inside.dues in
    let L = c.self.inside.limits in
    let s = c.args.sim.0 in
    let queued : s < length D.queues.items = omega (arith, c.requires.sim, ap (λ (A : AgendaState). length A.queues) c.self.view_is) in
    let os : c.as_slice-outlets.result.now ≡ outlets_in R s = c.as_slice-outlets.ensures ∙ sym (outlets_at R s c.index.result.now (omega (arith, queued, c.self.invariant.0.count)) c.index.ensures) in
    let fine : first_beyond L c.args.made (outlets_in R s) c.args.given.now ≡ None = ap (λ (l : List Outlet). first_beyond L c.args.made l c.args.given.now) (sym os) ∙ sym c.first_beyond.ensures ∙ c.in_default.is in
    let close = c.in_ok-close_turn.ensures in
    let ending : IsEnding P s (ended_turn T m) L c.as_slice-outlets.result.now c.args.given.now c.args.made = subst (λ (l : List Outlet). IsEnding P s (ended_turn T m) L l c.args.given.now c.args.made) (sym os) (is_ending P J c.args.sim T m c.args.made c.args.next c.args.given.now h _ mirrors queued fine) in
    let brought : HasCome P (view P J) s (ended_turn T m) false (triggering_from P s) c.bring_all.new.dues.queues.items c.bring_all.new.dues.bounds = c.in_ok-bring_all.ensures.come P (view P J) s (ended_turn T m) ending (come_begun P J c.args.sim T m c.args.made c.args.next c.args.given.now h _ mirrors queued fine) in (
      no_fault P J c.args.sim T m c.args.made c.args.next c.args.given.now h _ mirrors queued fine,
      come_ended P J c.args.sim T m c.args.made c.args.next c.args.given.now h _ mirrors queued fine c.close_turn.new.self.opened c.close_turn.new.self.queues.items c.close_turn.new.self.bounds c.close_turn.new.self.lasts.items (c.close_turn.ensures.lasts ∙ c.bring_all.ensures.lasts) c.close_turn.ensures.tidy
          (come_closed P J c.args.sim T m c.args.made c.args.next c.args.given.now h _ mirrors queued fine (triggering_from P s) c.bring_all.new.dues.queues.items c.bring_all.new.dues.opened c.bring_all.new.dues.bounds c.bring_all.ensures.tidy (omega (arith, queued, c.bring_all.ensures.count)) brought
          c.close_turn.new.self.queues.items c.close_turn.new.self.bounds close.queues (least (queue_in c.close_turn.new.self.queues.items s)) close.bounds (c.close_turn.ensures.plan P brought.plan)),
    ))

pub returns-in-Some-clause-noted : goal.returns-in-Some-clause-noted
returns-in-Some-clause-noted c = noted_none c.args.self.now.bounds c.args.noted.now

pub returns-clause-noted : goal.returns-clause-noted
returns-clause-noted c = rw (← c.self.view_is) (
    noted_both c.self.inside.dues.bounds c.bring_all.new.dues.bounds c.close_turn.new.self.bounds c.args.noted.now c.bring_all.new.noted c.close_turn.new.noted c.in_ok-bring_all.ensures.noted c.in_ok-close_turn.ensures.noted
    )
