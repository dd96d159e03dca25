-- Answers to the goals of `read::read_lines` that the prover leaves.
use Rattle.std.proofs.Common.{arith}
use Rattle.mk_record_read.proofs.Sound.{reads-first, reads-next, reads-closed, reads-fault, reads-overlong, sound-closed}
use Rattle.mk_record_read.proofs.read.read_lines.Goals as goal

pub loop-line-init : goal.loop-line-init
loop-line-init c = reads-first c.args.bytes.now c.args.progress.now c.requires.empty c.requires.sound

pub returns-in-Ok-true-clause-ok : goal.returns-in-Ok-true-clause-ok
returns-in-Ok-true-clause-ok c = reads-closed c.args.bytes.now c.loop-line.rest.now c.in-Some.line.now c.in-Some.after.now c.loop-line.number c.loop-line.progress c.take_line.new.progress c.closed.result c.loop-line.invariant c.in-Some.ensures.cut (rw c.in-Ok-true.field-0-test at c.in-Ok-true.ensures.ok) c.closed.ensures.ok

pub returns-in-Ok-true-clause-sound : goal.returns-in-Ok-true-clause-sound
returns-in-Ok-true-clause-sound c = sound-closed c.take_line.new.progress c.closed.result (rw c.in-Ok-true.field-0-test at c.in-Ok-true.ensures.sound)

pub returns-in-Ok-true-clause-faulty : goal.returns-in-Ok-true-clause-faulty
returns-in-Ok-true-clause-faulty c = λ l n e. reads-overlong c.args.bytes.now c.loop-line.rest.now c.in-Some.line.now c.in-Some.after.now c.loop-line.number l n c.loop-line.progress c.take_line.new.progress c.closed.result c.loop-line.invariant c.in-Some.ensures.cut (rw c.in-Ok-true.field-0-test at c.in-Ok-true.ensures.ok) c.closed.ensures.faulty e

pub returns-in-Err-clause-faulty : goal.returns-in-Err-clause-faulty
returns-in-Err-clause-faulty c = λ l n e. reads-fault c.args.bytes.now c.loop-line.rest.now c.in-Some.line.now c.in-Some.after.now c.loop-line.number l n c.loop-line.progress c.in-Err.fault c.at_line.result c.loop-line.invariant c.in-Some.ensures.cut c.in-Err.ensures.err c.at_line.ensures (grind (arith, e))

pub loop-line-preserved : goal.loop-line-preserved
loop-line-preserved c = reads-next c.args.bytes.now c.loop-line.rest.now c.in-Some.line.now c.in-Some.after.now c.loop-line.number c.loop-line.progress c.take_line.new.progress c.loop-line.invariant c.in-Some.ensures.cut c.in-Some.ensures.shorter (rw c.in-Ok-false.field-0-test at c.in-Ok-false.ensures.ok) c.in-Ok-false.ensures.sound.sound
