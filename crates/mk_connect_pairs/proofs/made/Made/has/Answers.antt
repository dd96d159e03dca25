-- Answers to the goals of `made::Made::has` that the prover leaves.
use Rattle.std.proofs.Common.{◌∙◌, ap}
use Rattle.std.specs.List.{list_any}
use Rattle.mk_connect_pairs.specs.Connections.{is_way}
use Rattle.mk_connect_pairs.specs.inner.Lookups.{way_in}
use Rattle.mk_connect_pairs.proofs.Ways.{is_same_way, way_there}
use Rattle.mk_connect_pairs.proofs.made.Made.has.Goals as goal

pub returns : goal.returns
returns c =
    c.contains.ensures
    ∙ way_there c.self.inside.ways.keys c.self.inside.conns c.self.invariant _ (c.args.from, c.args.to, c.args.attr.now) (λ k. ap (λ w. is_same_way w (way_in k)) c.in_ok-way.ensures)
    ∙ ap (list_any (is_way c.args.from c.args.to c.args.attr.now)) c.self.view_is
