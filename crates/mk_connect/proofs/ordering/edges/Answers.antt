-- The edges are the scenario's, and end at its simulators.
use Rattle.std.proofs.Common.{length, refl, ap, ◌≡◌, ◌∙◌, sym, subst, List}
use Rattle.std.specs.Prelude.{flat_map}
use Rattle.mk_cycles.specs.Edges.{EndsBelow}
use Rattle.mk_cycles.specs.declared.ranking.Edge.{Edge}
use Rattle.mk_connect.specs.Edges.{edges_in, edges_of}
use Rattle.mk_connect_pairs.proofs.Usable.{usable}
use Rattle.mk_connect.proofs.Below.{edges_below}
use Rattle.mk_connect.proofs.ordering.edges.Goals as goal

pub edges_among-requires : goal.edges_among-requires
edges_among-requires c = usable c.args.scenario.now c.requires (length c.args.scenario.now.groups) refl c.as_slice.result.now c.as_slice.ensures

pub returns-clause-below : goal.returns-clause-below
returns-clause-below c =
    let S = c.args.scenario.now in
    let all : c.in_ok-edges.edges ≡ edges_of S = c.in_ok-edges.ensures ∙ ap (flat_map (edges_in S.groups)) c.as_slice.ensures in
    let P : List Edge → Type 0 = λ es. EndsBelow (length S.sims) es in
    subst P (sym all) (edges_below S c.requires)
