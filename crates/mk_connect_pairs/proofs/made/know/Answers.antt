-- Answers to the goals of `made::know` that the prover leaves.
use Rattle.std.proofs.Common.{◌∙◌, ap}
use Rattle.mk_connect_pairs.specs.inner.Lookups.{way_in, way_of}
use Rattle.mk_connect_pairs.proofs.Ways.{is_same_way, key_eq, way_added, way_there}
use Rattle.mk_connect_pairs.proofs.made.know.Goals as goal

pub returns : goal.returns
returns c =
    let keys = c.args.ways.now.keys in
    let conns = c.args.conns.now in
    way_added keys conns c.requires.ways key_eq c.in_ok-way.way c.insert.new.self.keys c.args.conn.now c.in_ok-way.ensures
    (way_there keys conns c.requires.ways (key_eq c.in_ok-way.way) (way_of c.args.conn.now) (λ k. ap (λ w. is_same_way w (way_in k)) c.in_ok-way.ensures) ∙ c.requires.alone) c.in_ok-insert.ensures.keys
