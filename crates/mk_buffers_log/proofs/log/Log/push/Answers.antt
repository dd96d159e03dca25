-- Answers to the goals of `log::Log::push` that the prover leaves.
use Rattle.std.proofs.Common.{subst, sym, List, [], ◌∷◌, ◌++◌}
use Rattle.mk_plan_judge.proofs.Putting.{on_ok}
use Rattle.mk_plan.specs.Deliveries.{Timed}
use Rattle.mk_buffers_log.specs.Logs.{IsAmong}
use Rattle.mk_buffers_log.proofs.Keeping.{among_back, among_insert}
use Rattle.mk_buffers_log.proofs.Places.{either_way}
use Rattle.mk_buffers_log.specs.inner.Logs.{IsAscending}
use Rattle.mk_buffers_log.proofs.Ascending.{ascending_earlier, takes_back, takes_earlier}
use Rattle.mk_buffers_log.proofs.log.Log.push.Goals as goal

pub returns-then-is_earlier-clause-ok : goal.returns-then-is_earlier-clause-ok
returns-then-is_earlier-clause-ok c = on_ok c.insert_at.result (λ is. takes_earlier c.self.inside.entries.items c.args.self.now c.insert_at.new.entries.items c.args.new c.at-at.result c.self.inside.rising c.place_for-place.result c.self.view_is c.at-at.ensures.same c.place_for-place.ensures (c.is_earlier.ensures c.if-is_earlier.true) c.self.invariant is) c.insert_at.ensures.ok

pub returns-then-is_earlier-clause-among : goal.returns-then-is_earlier-clause-among
returns-then-is_earlier-clause-among c = on_ok c.insert_at.result (λ is. subst (λ (l : List Timed). IsAmong c.insert_at.new.entries.items (l ++ c.args.new ∷ [])) c.self.view_is (among_insert c.self.inside.entries.items c.insert_at.new.entries.items c.place_for-place.result c.args.new is)) c.insert_at.ensures.ok

pub invariant_of-self : goal.invariant_of-self
invariant_of-self c = either_way c.insert_at.result c.insert_at.ensures.ok c.insert_at.ensures.err
    (λ is. ascending_earlier c.self.inside.entries.items c.insert_at.new.entries.items c.args.new c.at-at.result c.self.inside.rising c.place_for-place.result c.at-at.ensures.same c.place_for-place.ensures c.self.invariant is)
    (λ is on. subst IsAscending (sym is) (c.self.invariant on))

pub returns-else-is_earlier-clause-ok : goal.returns-else-is_earlier-clause-ok
returns-else-is_earlier-clause-ok c = on_ok c.push_last.result (λ is. takes_back c.self.inside.entries.items c.args.self.now c.push_last.new.entries.items c.args.new c.self.view_is is) c.push_last.ensures.ok

pub returns-else-is_earlier-clause-among : goal.returns-else-is_earlier-clause-among
returns-else-is_earlier-clause-among c = on_ok c.push_last.result (λ is. among_back c.self.inside.entries.items c.args.self.now c.push_last.new.entries.items c.args.new c.self.view_is is) c.push_last.ensures.ok
