-- Answers to the goals of `wires::Wires::set_cursor` that the prover leaves.
use Rattle.std.proofs.Common.{arith}
use Rattle.mk_fakes.proofs.Lines.{line_missing, line_unchanged, set_shows}
use Rattle.mk_fakes.proofs.wires.Wires.set_cursor.Goals as goal

pub returns-then-number-len : goal.returns-then-number-len
returns-then-number-len c =
    set_shows c.self.inside.chunks c.self.inside.cursors.items c.self.inside.links.items c.args.self.now c.args.link c.args.cursor c.self.view_is

pub returns-else-number-len : goal.returns-else-number-len
returns-else-number-len c =
    line_unchanged c.args.self.now c.args.link _ (line_missing c.self.inside.chunks c.self.inside.cursors.items c.self.inside.links.items c.args.self.now c.args.link.0 c.self.view_is (omega (arith, c.len.ensures, c.self.inside.cursors.ok.0, c.if-number-len.false)))
