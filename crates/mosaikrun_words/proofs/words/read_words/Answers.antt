-- Answers to the goals of `words::read_words` that the prover leaves.
use Rattle.std.proofs.Common.{◌≡◌, ◌↔◌, Option, Some, map, sym, subst}
use Rattle.std.proofs.lemmas.Result.{IfOk-weaker}
use Rattle.std.specs.String.{string_bytes}
use Rattle.mosaikrun_words.specs.declared.request.Request.{Request}
use Rattle.mosaikrun_words.specs.Requests.{IsRequest}
use Rattle.mosaikrun_words.proofs.Requested.{requested}
use Rattle.mosaikrun_words.proofs.words.read_words.Goals as goal

pub returns : goal.returns
returns c = IfOk-weaker c.request_of.result _ _ (λ found e R. subst (λ (o : Option Request). (o ≡ Some R) ↔ IsRequest (map string_bytes c.args.words.now) R) (sym e) (requested (map string_bytes c.args.words.now) R)) c.request_of.ensures
