-- proofs/ordering/round/Answers.antt
use Rattle.std.proofs.Common.{subst, sym}
use Rattle.mk_base.proofs.Lists.{none_some}
use Rattle.mk_record_replay.specs.declared.asking.Standstill.{Standstill}
use Rattle.mk_record_replay.specs.inner.Loops.{HasAskedAll}
use Rattle.mk_record_replay.specs.declared.ordering.Given.{Given}
use Rattle.mk_record_replay.specs.inner.Rounds.{GivenNext}
use Rattle.mk_record_replay.proofs.RoundsGiven.{between_mid, done_ends, ended_before, fault_ends, gone_before, moved_before, short_ends}
use Rattle.mk_record_replay.proofs.ordering.round.Goals as goal

pub returns-in-Full-clause-round : goal.returns-in-Full-clause-round
returns-in-Full-clause-round c = λ A N b. fault_ends A N c.args.core.now c.ask_all.new.core c.args.waiting.now.items c.args.number.now b c.in-Full.fault
    (subst (λ (p : Standstill). HasAskedAll c.args.core.now p c.ask_all.new.core) c.in-Full.is c.in_ok-fault.ensures)

pub returns-in-Going-clause-round : goal.returns-in-Going-clause-round
returns-in-Going-clause-round c = λ A N b. gone_before A N c.args.core.now c.ask_all.new.core c.args.waiting.now.items c.args.number.now b c.in_ok-fault.ensures.goes c.give_next.new.core c.give_next.new.waiting.items c.give_next.new.number
    (subst (λ (g : Given). GivenNext A N c.ask_all.new.core g c.give_next.new.core c.give_next.new.waiting.items c.give_next.new.number) c.in-Going.is (c.in_ok-give_next-in-Over.ensures.given A N (between_mid A N c.args.core.now c.ask_all.new.core c.args.waiting.now.items c.args.number.now b c.in_ok-fault.ensures.goes)))

pub returns-in-Stopped-clause-round : goal.returns-in-Stopped-clause-round
returns-in-Stopped-clause-round c = λ A N b. ended_before A N c.args.core.now c.ask_all.new.core c.args.waiting.now.items c.args.number.now b c.in_ok-fault.ensures.goes _ c.give_next.new.core
    (subst (λ (g : Given). GivenNext A N c.ask_all.new.core g c.give_next.new.core c.give_next.new.waiting.items c.give_next.new.number) c.in-Stopped.is (c.in_ok-give_next-in-Over.ensures.given A N (between_mid A N c.args.core.now c.ask_all.new.core c.args.waiting.now.items c.args.number.now b c.in_ok-fault.ensures.goes)))

pub returns-in-Nothing-clause-round : goal.returns-in-Nothing-clause-round
returns-in-Nothing-clause-round c = λ A N b. done_ends A N c.args.core.now c.ask_all.new.core c.args.waiting.now.items c.args.number.now b c.give_next.new.core (subst (λ (p : Standstill). HasAskedAll c.args.core.now p c.ask_all.new.core) c.in-Over.is c.in_ok-fault.ensures)
    (subst (λ (g : Given). GivenNext A N c.ask_all.new.core g c.give_next.new.core c.give_next.new.waiting.items c.give_next.new.number) c.in-Nothing.is (c.in_ok-give_next-in-Over.ensures.given A N (between_mid A N c.args.core.now c.ask_all.new.core c.args.waiting.now.items c.args.number.now b c.in_ok-fault.ensures.goes)))

pub returns-in-Going-2-clause-round : goal.returns-in-Going-2-clause-round
returns-in-Going-2-clause-round c = λ A N b. gone_before A N c.args.core.now c.ask_all.new.core c.args.waiting.now.items c.args.number.now b c.in_ok-fault.ensures.goes c.give_next-in-Waiting.new.core c.give_next-in-Waiting.new.waiting.items c.give_next-in-Waiting.new.number
    (subst (λ (g : Given). GivenNext A N c.ask_all.new.core g c.give_next-in-Waiting.new.core c.give_next-in-Waiting.new.waiting.items c.give_next-in-Waiting.new.number) c.in-Going-2.is (c.in_ok-give_next-in-Waiting.ensures.given A N (between_mid A N c.args.core.now c.ask_all.new.core c.args.waiting.now.items c.args.number.now b c.in_ok-fault.ensures.goes)))

pub returns-in-Stopped-2-clause-round : goal.returns-in-Stopped-2-clause-round
returns-in-Stopped-2-clause-round c = λ A N b. ended_before A N c.args.core.now c.ask_all.new.core c.args.waiting.now.items c.args.number.now b c.in_ok-fault.ensures.goes _ c.give_next-in-Waiting.new.core
    (subst (λ (g : Given). GivenNext A N c.ask_all.new.core g c.give_next-in-Waiting.new.core c.give_next-in-Waiting.new.waiting.items c.give_next-in-Waiting.new.number) c.in-Stopped-2.is (c.in_ok-give_next-in-Waiting.ensures.given A N (between_mid A N c.args.core.now c.ask_all.new.core c.args.waiting.now.items c.args.number.now b c.in_ok-fault.ensures.goes)))

pub returns-in-Nothing-2-clause-round : goal.returns-in-Nothing-2-clause-round
returns-in-Nothing-2-clause-round c = λ A N b. short_ends A N c.args.core.now c.ask_all.new.core c.args.waiting.now.items c.args.number.now b c.open_count.result c.give_next-in-Waiting.new.core (subst (λ (p : Standstill). HasAskedAll c.args.core.now p c.ask_all.new.core) c.in-Waiting.is c.in_ok-fault.ensures) c.open_count.ensures
    (subst (λ (g : Given). GivenNext A N c.ask_all.new.core g c.give_next-in-Waiting.new.core c.give_next-in-Waiting.new.waiting.items c.give_next-in-Waiting.new.number) c.in-Nothing-2.is (c.in_ok-give_next-in-Waiting.ensures.given A N (between_mid A N c.args.core.now c.ask_all.new.core c.args.waiting.now.items c.args.number.now b c.in_ok-fault.ensures.goes)))

pub returns-in-Going-clause-moved : goal.returns-in-Going-clause-moved
returns-in-Going-clause-moved c = λ _. moved_before c.args.core.now c.ask_all.new.core c.give_next.new.core c.give_next.new.waiting.items c.in_ok-fault.ensures.goes (c.in_ok-give_next-in-Over.ensures.moved c.in-Going.is)

pub returns-in-Going-2-clause-moved : goal.returns-in-Going-2-clause-moved
returns-in-Going-2-clause-moved c = λ _. moved_before c.args.core.now c.ask_all.new.core c.give_next-in-Waiting.new.core c.give_next-in-Waiting.new.waiting.items c.in_ok-fault.ensures.goes (c.in_ok-give_next-in-Waiting.ensures.moved c.in-Going-2.is)

pub returns-in-Full-clause-moved : goal.returns-in-Full-clause-moved
returns-in-Full-clause-moved c = λ none. absurd (none_some (sym none))

pub returns-in-Nothing-clause-moved : goal.returns-in-Nothing-clause-moved
returns-in-Nothing-clause-moved c = λ none. absurd (none_some (sym none))

pub returns-in-Stopped-clause-moved : goal.returns-in-Stopped-clause-moved
returns-in-Stopped-clause-moved c = λ none. absurd (none_some (sym none))

pub returns-in-Nothing-2-clause-moved : goal.returns-in-Nothing-2-clause-moved
returns-in-Nothing-2-clause-moved c = λ none. absurd (none_some (sym none))

pub returns-in-Stopped-2-clause-moved : goal.returns-in-Stopped-2-clause-moved
returns-in-Stopped-2-clause-moved c = λ none. absurd (none_some (sym none))
