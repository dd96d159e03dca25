-- Answers to the goals of `signs::name` that the prover leaves.
use Rattle.std.proofs.Common.{◌-◌, take, drop, length, refl, sym, ◌∙◌, arith, take_all, length-drop}
use Rattle.mk_message_plain.proofs.Bytes.{name_quoted, free_utf8}
use Rattle.mk_message_plain.proofs.signs.name.Goals as goal

pub returns-clause-text : goal.returns-clause-text
returns-clause-text c =
    let inner = c.in_ok-inner.inner.now in
    let n = c.free_bytes-count.result in
    name_quoted c.args.text.now inner (take n inner) c.in_ok-rest.rest.now n c.in_ok-inner.ensures refl
    (sym (take_all (length inner - n) (drop n inner) (omega (arith, length-drop n inner))) ∙ c.in_ok-rest.ensures) c.free_bytes-count.ensures.free

pub returns-clause-utf8 : goal.returns-clause-utf8
returns-clause-utf8 c =
    let name = take c.free_bytes-count.result c.in_ok-inner.inner.now in
    free_utf8 name name refl c.free_bytes-count.ensures.free
