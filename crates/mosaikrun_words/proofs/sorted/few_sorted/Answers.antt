-- Answers to the goals of `sorted::few_sorted` that the prover leaves.
use Rattle.std.proofs.Common.{Global, map, length, ◌<◌, arith, sym, subst}
use Rattle.std.specs.String.{string_bytes}
use Rattle.std.proofs.lemmas.List.{length-map}
use Rattle.mosaikrun_words.proofs.Groups.{many_unsorted}
use Rattle.mosaikrun_words.proofs.sorted.few_sorted.Goals as goal

pub returns-else-words-le-MOST_WORDS : goal.returns-else-words-le-MOST_WORDS
returns-else-words-le-MOST_WORDS c =
    let more : 6 < length c.args.words.now = let h = c.if-words-le-MOST_WORDS.false in grind (arith) in
    sym (many_unsorted (map (string_bytes {Z = Global}) c.args.words.now) (subst (λ n. 6 < n) (sym (length-map c.args.words.now (string_bytes {Z = Global}))) more))
