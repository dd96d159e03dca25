-- Answers to the goals of `handing::put_end` that the prover leaves.
use Rattle.std.proofs.Common.{true, refl, ◌∙◌}
use Rattle.mk_scribe.proofs.Closing.{last_piece, no_digits, no_feed, no_word, put_later}
use Rattle.mk_scribe.proofs.Pieces.{all_taken, not_all}
use Rattle.mk_scribe.proofs.handing.put_end.Goals as goal

pub returns-in_default : goal.returns-in_default
returns-in_default g c = no_word c.args.count _ c.format-digits.ensures.text _ _
    (put_later c.put_all.result _ _ _ refl c.put_all.ensures.count c.put_all.ensures.wants c.put_all.ensures.taken)
    (not_all c.put_all.result _ _ _ c.put_all.ensures.taken c.put_all.ensures.cause c.put_all.ensures.want c.in_default.not-Done)

pub returns-in_default-put_all : goal.returns-in_default-put_all
returns-in_default-put_all g c = no_digits c.args.count _ (c.as_bytes.ensures.value ∙ c.format-digits.ensures.text) _
    (record { is_there = true; written = g.S.Sink.written c.put_all.new.sink; faults = g.S.Sink.faults c.put_all.new.sink; shortages = g.S.Sink.shortages c.put_all.new.sink }) _
    (put_later c.put_all.result _ _ _ refl c.put_all.ensures.count c.put_all.ensures.wants c.put_all.ensures.taken)
    (put_later c.put_all-2.result _ _ _ refl c.put_all-2.ensures.count c.put_all-2.ensures.wants c.put_all-2.ensures.taken)
    (all_taken c.put_all.result _ _ _ c.put_all.ensures.taken c.in-Done.is)
    (not_all c.put_all-2.result _ _ _ c.put_all-2.ensures.taken c.put_all-2.ensures.cause c.put_all-2.ensures.want c.in_default-put_all.not-Done)

pub returns-in_default-put_all-2 : goal.returns-in_default-put_all-2
returns-in_default-put_all-2 g c = no_feed c.args.count _ (c.as_bytes.ensures.value ∙ c.format-digits.ensures.text) _
    (record { is_there = true; written = g.S.Sink.written c.put_all.new.sink; faults = g.S.Sink.faults c.put_all.new.sink; shortages = g.S.Sink.shortages c.put_all.new.sink })
    (record { is_there = true; written = g.S.Sink.written c.put_all-2.new.sink; faults = g.S.Sink.faults c.put_all-2.new.sink; shortages = g.S.Sink.shortages c.put_all-2.new.sink }) _
    (put_later c.put_all.result _ _ _ refl c.put_all.ensures.count c.put_all.ensures.wants c.put_all.ensures.taken)
    (put_later c.put_all-2.result _ _ _ refl c.put_all-2.ensures.count c.put_all-2.ensures.wants c.put_all-2.ensures.taken)
    (put_later c.put_all-3.result _ _ _ refl c.put_all-3.ensures.count c.put_all-3.ensures.wants c.put_all-3.ensures.taken)
    (all_taken c.put_all.result _ _ _ c.put_all.ensures.taken c.in-Done.is)
    (all_taken c.put_all-2.result _ _ _ c.put_all-2.ensures.taken c.in-Done-put_all.is)
    (not_all c.put_all-3.result _ _ _ c.put_all-3.ensures.taken c.put_all-3.ensures.cause c.put_all-3.ensures.want c.in_default-put_all-2.not-Done)

pub returns : goal.returns
returns g c = last_piece c.args.count _ (c.as_bytes.ensures.value ∙ c.format-digits.ensures.text) _
    (record { is_there = true; written = g.S.Sink.written c.put_all.new.sink; faults = g.S.Sink.faults c.put_all.new.sink; shortages = g.S.Sink.shortages c.put_all.new.sink })
    (record { is_there = true; written = g.S.Sink.written c.put_all-2.new.sink; faults = g.S.Sink.faults c.put_all-2.new.sink; shortages = g.S.Sink.shortages c.put_all-2.new.sink }) _
    (put_later c.put_all.result _ _ _ refl c.put_all.ensures.count c.put_all.ensures.wants c.put_all.ensures.taken)
    (put_later c.put_all-2.result _ _ _ refl c.put_all-2.ensures.count c.put_all-2.ensures.wants c.put_all-2.ensures.taken)
    (put_later c.put_all-3.result _ _ _ refl c.put_all-3.ensures.count c.put_all-3.ensures.wants c.put_all-3.ensures.taken)
    (all_taken c.put_all.result _ _ _ c.put_all.ensures.taken c.in-Done.is)
    (all_taken c.put_all-2.result _ _ _ c.put_all-2.ensures.taken c.in-Done-put_all.is)
    (all_taken c.put_all-3.result _ _ _ c.put_all-3.ensures.taken c.in-Done-put_all-2.is)
