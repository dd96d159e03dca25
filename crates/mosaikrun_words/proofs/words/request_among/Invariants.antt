-- The invariants and measures of the loops of `words::request_among`.
use Rattle.std.proofs.Common.{◌≡◌, drop, map}
use Rattle.std.specs.String.{string_bytes}
use Rattle.mosaikrun_words.specs.inner.Asked.{request_among}
use Rattle.mosaikrun_words.proofs.words.request_among.Given as goal

abbrev pub invariant-loop-name : goal.invariant-loop-name
invariant-loop-name l = request_among (λ name. name.now) (drop l.name-index l.commands) l.word (map string_bytes l.rest) ≡ request_among (λ name. name.now) l.commands l.word (map string_bytes l.rest)
