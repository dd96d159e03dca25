-- The invariants and measures of the loops of `handing::put_first`.
use Rattle.std.proofs.Common.{length, take, ◌-◌, ◌≡◌, ◌≤◌}
use Rattle.mk_outside.specs.Sinks.{appended}
use Rattle.mk_scribe.proofs.handing.put_first.Given as goal

-- what the text's beginning did to the draft
abbrev pub invariant-loop-done : goal.invariant-loop-done
invariant-loop-done g l = record {
  bounded : l.done ≤ length l.text;
  counted : g.S.Sink.faults l.fn.draft ≤ g.S.Sink.faults l.draft;
  wanted : g.S.Sink.shortages l.fn.draft ≤ g.S.Sink.shortages l.draft;
  taken : g.S.Sink.written l.draft ≡ appended (take l.done l.text) (g.S.Sink.written l.fn.draft);
}

abbrev pub decreases-loop-done : goal.decreases-loop-done
decreases-loop-done g l = length l.text - l.done
