-- The invariants and measures of the loops of `feeds::no_triggers`.
use Rattle.std.proofs.Common.{◌≡◌, [], map}
use Rattle.mk_base.specs.Lists.{IsIn}
use Rattle.mk_sched_supply.specs.declared.feeds.Feed.{Feed}
use Rattle.mk_sched_supply.proofs.feeds.no_triggers.Given as goal

abbrev pub invariant-loop-wants : goal.invariant-loop-wants
invariant-loop-wants l = record {
  wants : map (λ f. f.wants) l.feeds.items ≡ l.yielded;
  triggers : (f : Feed) → IsIn f l.feeds.items → f.triggers.items ≡ [];
}
