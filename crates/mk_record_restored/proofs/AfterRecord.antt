-- What a core is after the messages of a record.
use Rattle.std.proofs.Common.{◌≡◌, ℕ, List, [], Option, None, sym, ◌∙◌, subst}
use Rattle.mk_base.specs.Lists.{BeginsWith}
use Rattle.mk_base.proofs.Lists.{append_nil}
use Rattle.mk_plan.specs.declared.Plan.{Plan}
use Rattle.mk_plan.specs.declared.Entry.{Entry}
use Rattle.mk_plan.specs.Journals.{Arrival, arrivals}
use Rattle.mk_record_read.specs.declared.saved.Asked.{Asked}
use Rattle.mk_record_compare.specs.Differences.{IsOther}
use Rattle.mk_sched.specs.declared.faults.CoreFault.{CoreFault}
use Rattle.mk_sched.specs.Cores.{CoreState}
use Rattle.mk_record_replay.specs.declared.replaying.ReplayEnd.{ReplayEnd}
use Rattle.mk_record_replay.specs.declared.replaying.ReplayEnd.TheVariants as replay_end
use Rattle.mk_record_replay.specs.Runs.{HasReplayed}
use Rattle.mk_record_replay.proofs.Giving.{nobody_at_end}
use Rattle.mk_record_restored.specs.Restored.{IsRestored, IsFaulted}

-- all were given, and nothing is left to do
pub restored_done : (P : Plan) (A : List Arrival) (end : ReplayEnd) (core : CoreState) → HasReplayed P A end core → end ≡ replay_end.Done → (core.ended ≡ None) × IsRestored P A core.entries
restored_done P A end core run e = let r : HasReplayed P A replay_end.Done core = subst (λ (x : ReplayEnd). HasReplayed P A x core) e run in (
  r.going,
  record { replay = r.replay; given = r.ends.given; no_fault = r.ends.done.no_fault; paid = r.ends.paid; nobody = nobody_at_end P core.entries r.ends.done },
)

-- all were given, and messages are waited for
pub restored_short : (P : Plan) (A : List Arrival) (end : ReplayEnd) (n : ℕ) (core : CoreState) → HasReplayed P A end core → end ≡ replay_end.Short n → (core.ended ≡ None) × IsRestored P A core.entries
restored_short P A end n core run e = let r : HasReplayed P A (replay_end.Short n) core = subst (λ (x : ReplayEnd). HasReplayed P A x core) e run in (
  r.going,
  record { replay = r.replay; given = r.ends.given; no_fault = r.ends.no_fault; paid = r.ends.paid; nobody = r.ends.nobody },
)

-- a fault was met
pub restored_not : (P : Plan) (A : List Arrival) (end : ReplayEnd) (f : CoreFault) (core : CoreState) → HasReplayed P A end core → end ≡ replay_end.Core f → IsFaulted P A core.entries f
restored_not P A end f core run e = let r : HasReplayed P A (replay_end.Core f) core = subst (λ (x : ReplayEnd). HasReplayed P A x core) e run in record { replay = r.replay; cause = r.ends }

-- the messages are a beginning of themselves
pub given_all : (P : Plan) (A : List Arrival) (core : CoreState) → IsRestored P A core.entries → BeginsWith A (arrivals core.entries)
given_all P A core r = ([], sym (append_nil (arrivals core.entries) ∙ r.given))

-- what the comparison with a core's journal says of its entries
pub compared_with : (P : Plan) (A : List Arrival) (asks : Option (List Asked)) (core : CoreState) (J : List Entry) (found there : Option ℕ) → J ≡ core.entries → IsRestored P A core.entries → (BeginsWith A (arrivals J) → IsOther A asks J found) → found ≡ there
    → IsOther A asks core.entries there
compared_with P A asks core J found there same r compare is =
    let given : BeginsWith A (arrivals J) = subst (λ (K : List Entry). BeginsWith A (arrivals K)) (sym same) (given_all P A core r) in
    subst (IsOther A asks core.entries) is (subst (λ (K : List Entry). IsOther A asks K found) same (compare given))
