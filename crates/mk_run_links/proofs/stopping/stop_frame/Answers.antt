-- Answers to the goals of `stopping::stop_frame` that the prover leaves.
use Rattle.std.proofs.Common.{◌∙◌, ◌++◌, ◌≤◌, ap, List, length, ℕ, subst, sym}
use Rattle.mk_run_links.proofs.OnStops.{frame_is, framed_is}
use Rattle.mk_run_links.proofs.stopping.stop_frame.Goals as goal

pub returns-clause-frame : goal.returns-clause-frame
returns-clause-frame c = frame_is c.args.id c.as_bytes-digits.result.now c.write_u32.new.buf c.put.new.frame.items c.put-2.new.frame.items c.put-3.new.frame.items c.put-4.new.frame.items (c.as_bytes-digits.ensures.value ∙ c.format.ensures.text) c.write_u32.ensures (c.put.ensures ∙ ap (λ (x : List ℕ). x ++ c.write_u32.new.buf) c.new-frame.ensures) c.put-2.ensures c.put-3.ensures c.put-4.ensures

pub returns-clause-framed : goal.returns-clause-framed
returns-clause-framed c = framed_is c.args.id c.as_bytes-digits.result.now (c.as_bytes-digits.ensures.value ∙ c.format.ensures.text) (subst (λ (t : List ℕ). length t ≤ 40) (sym c.as_bytes-digits.ensures.value) c.format.ensures.short)
