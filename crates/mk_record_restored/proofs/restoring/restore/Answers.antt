-- Answers to the goals of `restoring::restore` that the prover leaves.
use Rattle.std.proofs.Common.{◌≡◌, ◌∙◌, All, map, sym, ap, subst}
use Rattle.std.proofs.lemmas.List.{length-map}
use Rattle.mk_plan.specs.declared.Plan.{Plan}
use Rattle.mk_record_read.specs.Seen.{came}
use Rattle.mk_sched.specs.Cores.{CoreState}
use Rattle.mk_record_replay.specs.Runs.{CanArrive, HasReplayed}
use Rattle.mk_record_replay.proofs.Known.{messages_of_record}
use Rattle.mk_record_restored.proofs.AfterRecord.{restored_done, restored_not, restored_short}
use Rattle.mk_record_restored.proofs.restoring.restore.Goals as goal

pub give_all-requires-clause-known : goal.give_all-requires-clause-known
give_all-requires-clause-known c = let plan : c.in-Ok.core.plan ≡ c.args.plan = ap (λ (core : CoreState). core.plan) c.in-Ok.ensures in
    subst (λ (P : Plan). All (CanArrive P) c.args.arrivals) (sym plan) (messages_of_record c.args.plan c.args.arrivals c.requires.known)

pub returns-in-Core : goal.returns-in-Core
returns-in-Core c =
    let P = c.args.plan in
    let A = map came c.args.arrivals in
    let plan : c.in-Ok.core.plan ≡ P = ap (λ (core : CoreState). core.plan) c.in-Ok.ensures in
    let run = subst (λ (Q : Plan). HasReplayed Q A c.in-Ok-give_all.end c.give_all.new.core) plan c.in-Ok-give_all.ensures in
    c.faulted.ensures P A c.args.asks.now run.plan (restored_not P A c.in-Ok-give_all.end c.in-Core.fault c.give_all.new.core run c.in-Core.is)

pub returns-in-Done : goal.returns-in-Done
returns-in-Done c =
    let P = c.args.plan in
    let A = map came c.args.arrivals in
    let plan : c.in-Ok.core.plan ≡ P = ap (λ (core : CoreState). core.plan) c.in-Ok.ensures in
    let run = subst (λ (Q : Plan). HasReplayed Q A c.in-Ok-give_all.end c.give_all.new.core) plan c.in-Ok-give_all.ensures in
    c.compared.ensures P A run.plan (length-map c.args.arrivals came ∙ sym c.len-count.ensures) (restored_done P A c.in-Ok-give_all.end c.give_all.new.core run c.in-Done.is).1

pub returns-in-Short : goal.returns-in-Short
returns-in-Short c =
    let P = c.args.plan in
    let A = map came c.args.arrivals in
    let plan : c.in-Ok.core.plan ≡ P = ap (λ (core : CoreState). core.plan) c.in-Ok.ensures in
    let run = subst (λ (Q : Plan). HasReplayed Q A c.in-Ok-give_all.end c.give_all.new.core) plan c.in-Ok-give_all.ensures in
    c.compared-in-Short.ensures P A run.plan (length-map c.args.arrivals came ∙ sym c.len-count.ensures) (restored_short P A c.in-Ok-give_all.end c.in-Short.field-0 c.give_all.new.core run c.in-Short.is).1
