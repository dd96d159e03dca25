-- Answers to the goals of `wires::Wires::pass` that the prover leaves.
use Rattle.std.proofs.Common.{◌≡◌, ap, sym, ◌∙◌, option_map, subst, List}
use Rattle.mk_fakes.specs.declared.wires.Chunk.{Chunk}
use Rattle.mk_fakes.specs.inner.Cursors.{line_of}
use Rattle.mk_fakes.specs.Scripts.{heard}
use Rattle.mk_fakes.specs.Telling.{Wiring}
use Rattle.mk_fakes.proofs.Lines.{line_changed, line_unchanged}
use Rattle.mk_fakes.proofs.wires.Wires.pass.Goals as goal

pub returns-in-Some : goal.returns-in-Some
returns-in-Some c =
    let link = c.args.link in
    let chunks = c.args.self.now.chunks in
    let same = c.as_slice.ensures ∙ ap (λ (w : Wiring). w.chunks) c.self.view_is in
    let there = ap (option_map (line_of chunks link.0)) (sym c.in-Some.is) ∙ c.cursor.ensures in
    let more = subst (λ (cs : List Chunk). line_of cs link.0 c.passed-after.result ≡ heard c.args.n (line_of cs link.0 c.in-Some.cursor)) same c.passed-after.ensures in
    c.set_cursor.ensures ∙ line_changed c.args.self.now link (heard c.args.n) _ _ there more

pub returns-in_default : goal.returns-in_default
returns-in_default c =
    line_unchanged c.args.self.now c.args.link (heard c.args.n) (ap (option_map (line_of c.args.self.now.chunks c.args.link.0)) (sym c.in_default.is) ∙ c.cursor.ensures)
