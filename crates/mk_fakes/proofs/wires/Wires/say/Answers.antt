-- Answers to the goals of `wires::Wires::say` that the prover leaves.
use Rattle.std.proofs.Common.{ap, sym, ◌∙◌, option_map}
use Rattle.mk_fakes.specs.inner.Cursors.{line_of}
use Rattle.mk_fakes.specs.Scripts.{said_more}
use Rattle.mk_fakes.proofs.Lines.{line_changed, line_unchanged, said_line}
use Rattle.mk_fakes.proofs.wires.Wires.say.Goals as goal

pub returns-in-Some : goal.returns-in-Some
returns-in-Some c =
    let chunks = c.args.self.now.chunks in
    let there = ap (option_map (line_of chunks c.args.link.0)) (sym c.in-Some.is) ∙ c.cursor.ensures in
    let more = said_line chunks c.args.link.0 c.in-Some.cursor c.args.n c.saturating_add.result c.args.held_up c.saturating_add.ensures in
    c.set_cursor.ensures ∙ line_changed c.args.self.now c.args.link (said_more c.args.n c.args.held_up) _ _ there more

pub returns-in_default : goal.returns-in_default
returns-in_default c =
    line_unchanged c.args.self.now c.args.link (said_more c.args.n c.args.held_up) (ap (option_map (line_of c.args.self.now.chunks c.args.link.0)) (sym c.in_default.is) ∙ c.cursor.ensures)
