-- Answers to the goals of `replaying::as_recorded` that the prover leaves.
use Rattle.std.proofs.Common.{◌≡◌, ◌∙◌, List, All, map, sym, ap, subst}
use Rattle.std.proofs.lemmas.List.{length-map}
use Rattle.mk_base.specs.Lists.{BeginsWith}
use Rattle.mk_plan.specs.declared.Plan.{Plan}
use Rattle.mk_plan.specs.declared.Entry.{Entry}
use Rattle.mk_plan.specs.Journals.{arrivals}
use Rattle.mk_record_read.specs.Seen.{came}
use Rattle.mk_sched.specs.Cores.{CoreState}
use Rattle.mk_record_replay.specs.Runs.{CanArrive}
use Rattle.mk_record_replay.specs.Replays.{EndsBy}
use Rattle.mk_record_replay.proofs.Known.{messages_of_record}
use Rattle.mk_record_replay.proofs.replaying.as_recorded.Goals as goal

pub give_all-requires-clause-known : goal.give_all-requires-clause-known
give_all-requires-clause-known c = let plan : c.in-Ok.core.plan ≡ c.args.saved.plan = ap (λ (core : CoreState). core.plan) c.in-Ok.ensures in
    subst (λ (P : Plan). All (CanArrive P) c.args.saved.arrivals) (sym plan) (messages_of_record c.args.saved.plan c.args.saved.arrivals c.requires.known)

pub returns-clause-end : goal.returns-clause-end
returns-clause-end c =
    let P = c.args.saved.plan in
    let A = map came c.args.saved.arrivals in
    let end = c.in-Ok-give_all.end in
    let plan : c.in-Ok.core.plan ≡ P = ap (λ (core : CoreState). core.plan) c.in-Ok.ensures in
    let run = c.in-Ok-give_all.ensures in
    record {
      messages_end = end;
      other = c.first_other_step-other.result;
      ends = subst (λ (J : List Entry). EndsBy P A J end) (sym c.into_parts-plan.ensures.journal) (subst (λ (Q : Plan). EndsBy Q A c.give_all.new.core.entries end) plan run.ends);
      compared = c.first_other_step-other.ensures A (length-map c.args.saved.arrivals came ∙ sym c.len-count.ensures)
          (subst (λ (J : List Entry). BeginsWith A (arrivals J)) (sym c.into_parts-plan.ensures.journal) run.replay.given);
      is = c.end_with.ensures;
    }
