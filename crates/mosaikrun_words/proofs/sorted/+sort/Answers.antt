-- Answers to the goals of `sorted::+sort` that the prover leaves.
use Rattle.std.proofs.Common.{Global, map, ap, ◌∙◌, sym, take, drop, length, ◌-◌, option_map}
use Rattle.std.specs.String.{string_bytes}
use Rattle.mosaikrun_words.specs.inner.Sorted.{named, seen, single, sorted_of}
use Rattle.mosaikrun_words.proofs.Groups.{none_front, word_front}
use Rattle.mosaikrun_words.proofs.sorted.+sort.Goals as goal

pub returns-in-None : goal.returns-in-None
returns-in-None t c =
    let w = string_bytes {Z = Global} c.word-item.result in
    let rest = map (string_bytes {Z = Global}) (take (length c.args.words.now - 1) (drop 1 c.args.words.now)) in
    c.single.ensures
    ∙ ap (λ x. single x (option_map seen c.sort-in-None.result)) c.as_str-in-None.ensures.value
    ∙ ap (single w) c.sort-in-None.ensures
    ∙ sym (none_front w rest (sym (c.in-None.ensures ∙ ap named c.as_str.ensures.value)))
    ∙ sym (ap sorted_of (word_front (string_bytes {Z = Global}) c.args.words.now c.word-item.result c.in-len1-up.len_at_least c.word-item.is))
