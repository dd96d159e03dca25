-- The invariants and measures of the loops of `triggers::bring_all`.
use Rattle.std.proofs.Common.{◌≡◌, ℕ, [], false, length, take}
use Rattle.mk_plan.specs.declared.Plan.{Plan}
use Rattle.mk_plan.specs.Acts.{Act}
use Rattle.mk_plan.specs.Journals.{View}
use Rattle.mk_tiers.specs.Noted.{HasNoted}
use Rattle.mk_plan.specs.Deliveries.{triggering_from}
use Rattle.mk_sched_agenda.specs.inner.Dues.{IsTidy}
use Rattle.mk_sched_agenda.specs.inner.Coming.{HasCome, IsEnding}
use Rattle.mk_sched_agenda.proofs.triggers.bring_all.Given as goal

abbrev pub invariant-loop-place : goal.invariant-loop-place
invariant-loop-place l = IsTidy l.dues.queues.items l.dues.opened l.dues.bounds
    × (length l.dues.queues.items ≡ length l.fn.dues.queues.items)
    × (l.dues.lasts.items ≡ l.fn.dues.lasts.items)
    × ((P : Plan) → (V : View) → (s : ℕ) → (f : Act) → IsEnding P s f l.limits l.outlets l.given l.fn.made_at → HasCome P V s f false [] l.fn.dues.queues.items l.fn.dues.bounds
    → HasCome P V s f false (take l.place (triggering_from P s)) l.dues.queues.items l.dues.bounds)
    × HasNoted l.fn.dues.bounds l.dues.bounds l.fn.noted l.noted
