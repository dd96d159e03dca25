-- Answers to the goals of `wires::Wires::coming` that the prover leaves.
use Rattle.std.proofs.Common.{◌≡◌, ap, sym, ◌∙◌, option_map, subst, drop, List, [], ◌∷◌, ◌+◌, Some}
use Rattle.std.specs.Option.{option_copied}
use Rattle.mk_fakes.specs.declared.wires.Chunk.{Chunk}
use Rattle.mk_fakes.specs.inner.Cursors.{line_of}
use Rattle.mk_fakes.specs.Scripts.{chunks_of}
use Rattle.mk_fakes.specs.Telling.{Wiring}
use Rattle.mk_fakes.proofs.Lines.{in_time, next_none, next_some, too_early}
use Rattle.mk_fakes.proofs.wires.Wires.coming.Goals as goal

pub returns-in_err-chunk : goal.returns-in_err-chunk
returns-in_err-chunk c =
    let w = c.args.self.now in
    let there = ap (option_map (line_of w.chunks c.args.link.0)) (sym c.in_ok-cursor.was) ∙ c.cursor.ensures in
    let none = subst (λ (cs : List Chunk). chunks_of c.args.link (drop c.in_ok-cursor.cursor.next cs) ≡ []) (c.as_slice.ensures ∙ ap (λ (w : Wiring). w.chunks) c.self.view_is) c.in_err-chunk.ensures.next in
    ap option_copied c.from_residual-in_err-chunk.ensures ∙ next_none w c.args.link c.in_ok-cursor.cursor there none

pub returns-then-said_to-chunk : goal.returns-then-said_to-chunk
returns-then-said_to-chunk c =
    let w = c.args.self.now in
    let there = ap (option_map (line_of w.chunks c.args.link.0)) (sym c.in_ok-cursor.was) ∙ c.cursor.ensures in
    let some = subst (λ (cs : List Chunk). chunks_of c.args.link (drop c.in_ok-cursor.cursor.next cs) ≡ c.in_ok-chunk.chunk.now ∷ chunks_of c.args.link (drop (c.in_ok-chunk.field-0-0 + 1) cs)) (c.as_slice.ensures ∙ ap (λ (w : Wiring). w.chunks) c.self.view_is) c.in_ok-chunk.ensures.next in
    too_early w c.in_ok-chunk.chunk.now c.in_ok-cursor.cursor.at c.said_to.result c.said_to.ensures c.if-said_to-chunk.true ∙ next_some w c.args.link c.in_ok-cursor.cursor c.in_ok-chunk.chunk.now _ there some

pub returns : goal.returns
returns c =
    let w = c.args.self.now in
    let there = ap (option_map (line_of w.chunks c.args.link.0)) (sym c.in_ok-cursor.was) ∙ c.cursor.ensures in
    let some = subst (λ (cs : List Chunk). chunks_of c.args.link (drop c.in_ok-cursor.cursor.next cs) ≡ c.in_ok-chunk.chunk.now ∷ chunks_of c.args.link (drop (c.in_ok-chunk.field-0-0 + 1) cs)) (c.as_slice.ensures ∙ ap (λ (w : Wiring). w.chunks) c.self.view_is) c.in_ok-chunk.ensures.next in
    ap Some (c.rest_of.ensures ∙ ap (drop c.in_ok-cursor.cursor.at) c.as_slice-2.ensures) ∙ in_time w c.in_ok-chunk.chunk.now c.in_ok-cursor.cursor.at c.said_to.result c.said_to.ensures c.if-said_to-chunk.false ∙ next_some w c.args.link c.in_ok-cursor.cursor c.in_ok-chunk.chunk.now _ there some
