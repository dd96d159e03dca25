-- Answers to the goals of `made::Made::with` that the prover leaves.
use Rattle.std.proofs.Common.{◌∙◌, ap}
use Rattle.std.specs.List.{list_any}
use Rattle.mk_connect_pairs.specs.Connections.{is_way}
use Rattle.mk_connect_pairs.proofs.made.Made.with.Goals as goal

pub add-requires-clause-alone : goal.add-requires-clause-alone
add-requires-clause-alone c = ap (list_any (is_way c.args.conn.from c.args.conn.to c.args.conn.to_attr)) c.self.view_is ∙ c.requires
