-- Answers to the goals of `gathering::inputs_in` that the prover leaves.
use Rattle.std.proofs.Common.{sym, ap, ◌∙◌, option_map}
use Rattle.mk_async.proofs.Giving.{range_members}
use Rattle.mk_simapi.proofs.gathering.inputs_in.Goals as goal

pub inputs_by-requires : goal.inputs_by-requires
inputs_by-requires c = range_members c.args.tree.now c.in-Some.entities.now c.requires (sym c.as_object.ensures ∙ ap (option_map (λ m. m.now)) c.in-Some.is)
