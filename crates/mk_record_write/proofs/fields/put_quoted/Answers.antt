-- proofs/fields/put_quoted/Answers.antt
use Rattle.std.proofs.lemmas.Str.{is_utf8-from_IsUtf8}
use Rattle.mk_record_write.proofs.fields.put_quoted.Goals as goal

pub returns-clause-utf8 : goal.returns-clause-utf8
returns-clause-utf8 c = is_utf8-from_IsUtf8 c.args.text.now c.bytes.ensures.utf8
