-- Answers to the goals of `wires::Wires::start` that the prover leaves.
use Rattle.std.proofs.Common.{◌≡◌, ◌++◌, ◌∷◌, [], length, ap, not, arith, ◌∙◌}
use Rattle.mk_fakes.proofs.Lines.{start_shows}
use Rattle.mk_fakes.proofs.OnNotes.{appended}
use Rattle.mk_fakes.proofs.wires.Wires.start.Goals as goal

pub returns-clause-after : goal.returns-clause-after
returns-clause-after c =
    let grown = appended _ c.self.inside.cursors.items _ _ (c.is_err-2.ensures.negation ∙ ap not c.if-is_err-2.false) c.push.ensures.items in
    let number : c.len-number.result ≡ length c.self.inside.cursors.items = omega (arith, c.len-number.ensures, c.self.inside.cursors.ok.0) in
    start_shows c.self.inside.chunks c.self.inside.cursors.items c.push.new.self.items c.self.inside.links.items c.push_reserved.new.self.items c.args.self.now c.len-number.result c.self.view_is number grown (c.push_reserved.ensures.items ∙ ap (λ ls. ls ++ (record { 0 = c.len-number.result }) ∷ []) c.reserve.ensures.items)
