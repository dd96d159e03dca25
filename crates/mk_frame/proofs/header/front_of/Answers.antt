-- Answers to the goals of `header::front_of` that the prover leaves.
use Rattle.std.proofs.Common.{arith, ◌∙◌, sym, ap}
use Rattle.byteorder.specs.Endian.{big_bytes}
use Rattle.mk_frame.proofs.OnFrames.{header_read, unfinished}
use Rattle.mk_frame.proofs.header.front_of.Goals as goal

pub returns-then-held-length-clause-unfinished : goal.returns-then-held-length-clause-unfinished
returns-then-held-length-clause-unfinished c =
    let held = c.args.held.now in
    let four = c.if-held-lt-HEADER.false in
    λ _. unfinished held c.read_u32-length.result four
    (header_read held four (λ i. omega (arith, c.type_inv.held i)) ∙ ap (big_bytes 4) (sym c.read_u32-length.ensures))
    (omega arith) (omega arith)
