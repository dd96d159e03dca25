-- The answers of `wanted_bytes`.
use Rattle.std.proofs.Common.{◌≡◌, ◌∷◌, ◌++◌, ◌-◌, length, take, drop, arith, sym, ap, ◌∙◌}
use Rattle.mk_json.proofs.OfOutlines.{split_first}
use Rattle.mk_message.specs.Written.{wanted_text}
use Rattle.mk_message.specs.inner.Streams.{rest_of, wanted_by_entity}
use Rattle.mk_message.proofs.Gathering.{wanted_text-streamed}
use Rattle.mk_message.proofs.groups.wanted_bytes.Goals as goal

pub returns-in_ok-put_wanted-in-len1-up : goal.returns-in_ok-put_wanted-in-len1-up
returns-in_ok-put_wanted-in-len1-up c =
    let xs = c.as_slice.result.now in
    let x = c.first-item.result in
    let whole : xs ≡ x ∷ take (length xs - 1) (drop 1 xs) = split_first xs x (omega arith) c.first-item.is in
    c.in_ok-put_wanted-in-len1-up.ensures ∙ ap (λ l. l ++ (wanted_by_entity.first x ++ rest_of wanted_by_entity x (take (length xs - 1) (drop 1 xs)))) c.new-out.ensures.items ∙ sym (wanted_text-streamed x (take (length xs - 1) (drop 1 xs))) ∙ ap wanted_text (sym whole ∙ c.as_slice.ensures)
