-- By what the entries grow when a message is given.
use Rattle.std.proofs.Common.{inl, inr, [], ◌∷◌, refl, ap, ◌∙◌, append_assoc}
use Rattle.std.specs.Prelude.{Some, None}
use Rattle.mk_base.specs.declared.SimNo.{SimNo}
use Rattle.mk_plan.specs.declared.Message.{Message}
use Rattle.mk_plan.specs.declared.Entry.TheVariants.{Sent, Got}
use Rattle.mk_sched.specs.declared.faults.CoreFault.{CoreFault}
use Rattle.mk_sched.specs.declared.faults.Taken.TheVariants as taken
use Rattle.mk_sched.specs.Cores.{CoreState, Stands}
use Rattle.mk_sched.specs.Answers.{ArriveOf, IsQuiet, IsAnswered}
use Rattle.mk_record_replay.specs.inner.Rounds.{GrownBy}

module _ (old new : CoreState) (sim : SimNo) (m : Message) where
  pub grown_quiet : IsQuiet old sim m new → Stands new.plan new.entries → GrownBy old (record { sim = sim.0; message = m }) None new
  grown_quiet q stands = ([], ap (λ (c : CoreState). c.entries) q.moved, refl, stands.within)

  pub grown_send : IsAnswered old sim m new → Stands new.plan new.entries → GrownBy old (record { sim = sim.0; message = m }) None new
  grown_send q stands = (Sent sim q.item ∷ [], ap (λ (c : CoreState). c.entries) q.moved ∙ append_assoc old.entries (Got sim m ∷ []) (Sent sim q.item ∷ []), refl, stands.within)

  pub grown_fault : (f : CoreFault) → ArriveOf old sim m (taken.Fault f) new → GrownBy old (record { sim = sim.0; message = m }) (Some f) new
  grown_fault f (inl was) = inl (ap (λ (c : CoreState). c.entries) was.1)
  grown_fault f (inr (inl untaken)) = inl (ap (λ (c : CoreState). c.entries) untaken.ended)
  grown_fault f (inr (inr (inl faulty))) = inr (ap (λ (c : CoreState). c.entries) faulty.ended)
  grown_fault f (inr (inr (inr full))) = inr (ap (λ (c : CoreState). c.entries) full.ended)
