-- Answers to the goals of `asking::ask` that the prover leaves.
use Rattle.std.proofs.Common.{None, refl, arith}
use Rattle.mk_setup.specs.Kept.{state_of}
use Rattle.mk_setup.proofs.Asked.{requested}
use Rattle.mk_setup.proofs.Counting.{counted_length}
use Rattle.mk_setup.proofs.Stepping.{asked_stands, counted_of}
use Rattle.mk_setup.proofs.asking.ask.Goals as goal

pub at-id-requires : goal.at-id-requires
at-id-requires c = let long = counted_length c.args.progress.now.scenario c.args.progress.now.answered c.args.progress.now.ids (counted_of (state_of c.args.progress.now None) c.args.progress.now.ids c.args.progress.now.plan c.requires.kept) in let there = c.requires.there in omega arith

pub returns-clause-kept : goal.returns-clause-kept
returns-clause-kept c = asked_stands (state_of c.args.progress.now None) c.args.progress.now.ids c.args.progress.now.plan (record { sim = c.args.sim.0; call = c.args.call }) c.requires.kept c.requires.request c.requires.tested

pub returns-clause-asked : goal.returns-clause-asked
returns-clause-asked c = requested (state_of c.args.progress.now None) c.args.progress.now.ids c.args.progress.now.plan c.args.sim c.args.call c.at-id.result.now c.requires.kept refl c.requires.resting c.requires.request c.requires.tested c.at-id.ensures
