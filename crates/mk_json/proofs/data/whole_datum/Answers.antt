-- Answers to the goals of `data::whole_datum` that the prover leaves.
use Rattle.std.proofs.Common.{◌≡◌, sym, refl, arith, rules}
use Rattle.std.specs.Fmt.{signed_decimal}
use Rattle.mk_base.specs.declared.json.Json as tree
use Rattle.mk_base.proofs.OnTrees.{trees_compute}
use Rattle.mk_json.proofs.data.whole_datum.Goals as goal

pub copied-requires : goal.copied-requires
unfolding trees_compute
copied-requires c =
    let written : c.as_bytes.result.now ≡ signed_decimal c.args.n.now = search rules in
    record {
      tree = tree.Whole c.args.n.now;
      proper = refl;
      whole = refl;
      in_range = c.requires;
      deep = omega arith;
      is = sym written;
    }
