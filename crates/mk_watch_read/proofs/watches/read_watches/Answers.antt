-- Answers to the goals of `watches::read_watches` that the prover leaves.
use Rattle.std.proofs.Common.{◌≡◌, ℕ, ◌∙◌, ap, IfOk, Option, Some, Result, Ok, Err, length, List}
use Rattle.mk_base.specs.declared.json.Json.{Json}
use Rattle.mk_base.specs.Verdicts.{after_found}
use Rattle.mk_plan.specs.declared.Plan.{Plan}
use Rattle.mk_plan_names.specs.Names.{AreNamesOf}
use Rattle.mk_plan_names.specs.declared.index.Names.{Names}
use Rattle.mk_scenario_toml.specs.Document.{toml_of}
use Rattle.mk_watch_read.specs.Rules.{names_in}
use Rattle.mk_watch_read.specs.Watches.{AreInside, document_watches}
use Rattle.mk_watch_read.specs.declared.fault.WatchFault.{WatchFault}
use Rattle.mk_watch_read.specs.declared.fault.WatchFault.TheVariants.{NotToml}
use Rattle.mk_watch_read.specs.declared.watches.Watch.{Watch}
use Rattle.mk_watch_read.proofs.Inside.{inside}
use Rattle.mk_watch_read.proofs.watches.read_watches.Goals as goal

-- what a document that is read says is there
all_there : (P : Plan) (names : Names) (rules : List (List ℕ)) (bytes : List ℕ) (document : Json) (r : Result (List Watch) WatchFault) → toml_of bytes ≡ Some document → AreNamesOf P names
    → IfOk r (λ ws. (Q : Plan) → AreNamesOf Q names → document_watches Q rules document ≡ Ok ws) → IfOk r (λ ws. AreInside P (length rules) ws)
all_there P names rules bytes document (Ok ws) read are said = inside P rules bytes ws (ap (λ (o : Option Json). after_found NotToml o (document_watches P rules)) read ∙ said P are)
all_there P names rules bytes document (Err e) read are said = tt

pub returns-in_ok-names-in-Ok-clause-inside : goal.returns-in_ok-names-in-Ok-clause-inside
returns-in_ok-names-in-Ok-clause-inside g c =
    all_there c.args.plan.now c.in_ok-names-in-Ok.names (names_in c.args.rules.now) c.args.bytes.now c.in-Ok.document c.document_watches.result c.in-Ok.ensures.ok c.in_ok-names-in-Ok.ensures c.document_watches.ensures.ok
