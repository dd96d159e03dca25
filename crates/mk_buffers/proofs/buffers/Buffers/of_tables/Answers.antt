-- Answers to the goals of `buffers::Buffers::of_tables` that the prover leaves.
use Rattle.std.proofs.Common.{refl, arith}
use Rattle.std.proofs.lemmas.Int.{ints}
use Rattle.mk_buffers.proofs.Founding.{founded}
use Rattle.mk_buffers.proofs.buffers.Buffers.of_tables.Goals as goal

pub returns : goal.returns
returns c =
    let o = c.requires.outlets in
    let i = c.requires.inlets in
    let s = c.requires.starts in
    founded c.args.plan.now c.requires.valid.well_formed.names o.0 o.1 c.args.outlets o.2 c.args.homes.items c.requires.homes i.0 i.1 _ refl refl (omega (arith, ints)) i.2 refl o.3
    (record { inlets = i.2.count; sets = s.sets.all; feeds = o.3.count; marks = s.marks }) s.sets.each c.requires.valid s.asking s.least s.starts s.noted c.requires.valid.well_formed.references
