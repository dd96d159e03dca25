-- The invariants and measures of the loops of `parting::compared`.
use Rattle.std.proofs.Common.{◌≡◌, ◌≤◌, take, map, length}
use Rattle.mk_blame.specs.Talks.{said, messages, last_step}
use Rattle.mk_blame.proofs.parting.compared.Given as goal

abbrev pub invariant-loop-number : goal.invariant-loop-number
invariant-loop-number l = record {
  low : l.number ≤ length l.other;
  same : take l.number (map (λ e. said e.now) l.talk) ≡ take l.number (map (λ e. said e.now) l.other);
  place : l.place ≡ length (messages (take l.number (map (λ e. said e.now) l.talk)));
  small : l.place ≤ l.number;
  at : l.at ≡ last_step (take l.number (map (λ e. said e.now) l.talk));
}
