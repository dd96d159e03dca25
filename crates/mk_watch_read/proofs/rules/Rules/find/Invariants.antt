-- The invariants and measures of the loops of `rules::Rules::find`.
use Rattle.std.proofs.Common.{◌≡◌, drop, map}
use Rattle.std.specs.List.{position_from}
use Rattle.mk_base.specs.Lists.{same_text}
use Rattle.mk_watch_read.specs.Rules.{names_in, place_of}
use Rattle.mk_watch_read.proofs.rules.Rules.find.Given as goal

abbrev pub invariant-loop-place : goal.invariant-loop-place
invariant-loop-place g l = position_from (λ n. same_text n l.fn.name) l.place (map (λ r. r.name) (drop l.place l.self.rules))
    ≡ place_of l.fn.name (names_in l.self)
