-- proofs/record/write_record/Answers.antt
use Rattle.std.proofs.Common.{ap, ◌∙◌}
use Rattle.mk_record_read.specs.Reading.{reading}
use Rattle.mk_record_laws.proofs.Whole.{read_again}
use Rattle.mk_record_laws.proofs.Heard.{readable}
use Rattle.mk_record_write.proofs.record.write_record.Goals as goal

pub returns-clause-again : goal.returns-clause-again
returns-clause-again c ok =
    let P = c.args.plan.now in
    let J = c.args.journal.now.entries in
    ap reading c.in_ok-out.ensures.text ∙ read_again P J (readable P J ok c.in_ok-out.ensures.names c.in_ok-out.ensures.datums c.in_ok-out.ensures.few)
