-- What an entry of the journal is to the entries of the record that are left.
use Rattle.std.proofs.Common.{◌≡◌, ℕ, ℤ, ◌+◌, ◌<◌, List, [], ◌∷◌, length, drop, refl, sym, ap, ◌∙◌, arith}
use Rattle.mk_base.specs.declared.SimNo.{SimNo}
use Rattle.mk_base.specs.declared.tier.Tier.{Tier}
use Rattle.mk_plan.specs.declared.Input.{Input}
use Rattle.mk_plan.specs.declared.Message.{Message}
use Rattle.mk_plan.specs.declared.Entry.TheVariants.{Sent, Got}
use Rattle.mk_plan.specs.declared.Item.TheVariants.{Step}
use Rattle.mk_plan.specs.Journals as journals
use Rattle.mk_record_read.specs.declared.saved.Arrival.{Arrival}
use Rattle.mk_record_read.specs.declared.saved.Asked.{Asked}
use Rattle.mk_record_read.specs.Seen.{came}
use Rattle.mk_record_read.specs.Entries.{RecordEntry, StepOf, MessageOf, step_of}
use Rattle.mk_record_compare.specs.inner.Matches.{left, IsMatch, IsMessageNext}
use Rattle.mk_record_compare.specs.declared.first.Match.TheVariants.{NextMessage, Another, Behind}
use Rattle.mk_record_compare.proofs.Left.{IsStepNext}

-- a step is no message
apart : (i : ℕ) (x : Tier) (m : ℤ) (a : journals.Arrival) → StepOf i x m ≡ MessageOf a → ⊥
apart i x m a e = cc

empty : (A : List Arrival) → length A ≡ 0 → A ≡ []
empty [] e = refl
empty (a ∷ A) e = absurd (omega (arith, e))

module _ (n : ℕ) (A : List Arrival) (steps : List Asked) (sim : SimNo) (at : Tier) (ins : List Input) (advance : ℤ) where
  pub step_other : (a : Asked) → IsStepNext n A steps a → (StepOf sim.0 at advance ≡ step_of a → ⊥) → IsMatch n A steps (Sent sim (Step at ins advance)) Another
  step_other a next other = (StepOf sim.0 at advance, step_of a, left n A (drop 1 steps), refl, next.0, other)

  pub step_behind : IsMessageNext n A steps → length A ≡ 0 → IsMatch n A steps (Sent sim (Step at ins advance)) Behind
  step_behind next none = (StepOf sim.0 at advance, refl, next.none (empty A none))

pub step_for_message : (n : ℕ) (A : List Arrival) (steps : List Asked) (sim : SimNo) (at : Tier) (ins : List Input) (advance : ℤ) → IsMessageNext n A steps → 0 < length A → IsMatch n A steps (Sent sim (Step at ins advance)) Another
step_for_message n [] steps sim at ins advance next some = absurd (omega (arith, some))
step_for_message n (m ∷ A) steps sim at ins advance next some = (StepOf sim.0 at advance, MessageOf (came m), left (n + 1) A steps, refl, next.some m A refl, apart sim.0 at advance (came m))

abbrev message_of : SimNo → Message → RecordEntry
message_of sim m = MessageOf (record { sim = sim.0; message = m })

module _ (n : ℕ) (A : List Arrival) (steps : List Asked) (sim : SimNo) (m : Message) where
  pub message_for_step : (a : Asked) → IsStepNext n A steps a → IsMatch n A steps (Got sim m) Another
  message_for_step a next = (message_of sim m, step_of a, left n A (drop 1 steps), refl, next.0, λ e. apart a.sim.0 a.at a.max_advance (record { sim = sim.0; message = m }) (sym e))

  pub message_behind : IsMessageNext n A steps → length A ≡ 0 → IsMatch n A steps (Got sim m) Behind
  message_behind next none = (message_of sim m, refl, next.none (empty A none))

module _ (n : ℕ) (A : List Arrival) (steps : List Asked) (sim : SimNo) (m : Message) (next : IsMessageNext n A steps) (some : 0 < length A) where
  pub message_same : ((a : Arrival) (more : List Arrival) → A ≡ a ∷ more → message_of sim m ≡ MessageOf (came a)) → IsMatch n A steps (Got sim m) NextMessage
  message_same same = elim A as (λ B. A ≡ B → IsMatch n B steps (Got sim m) NextMessage) [
    | [] ↦ λ is. absurd (let e = ap length is in omega (arith, e, some))
    | a ∷ more ↦ λ is. (message_of sim m, refl, sym (ap (λ B. left n B steps) is) ∙ next.some a more is ∙ ap (λ x. x ∷ left (n + 1) more steps) (sym (same a more is)), omega arith)
  ] refl

  pub message_other : ((a : Arrival) (more : List Arrival) → A ≡ a ∷ more → message_of sim m ≡ MessageOf (came a) → ⊥) → IsMatch n A steps (Got sim m) Another
  message_other other = elim A as (λ B. A ≡ B → IsMatch n B steps (Got sim m) Another) [
    | [] ↦ λ is. absurd (let e = ap length is in omega (arith, e, some))
    | a ∷ more ↦ λ is. (message_of sim m, MessageOf (came a), left (n + 1) more steps, refl, sym (ap (λ B. left n B steps) is) ∙ next.some a more is, other a more is)
  ] refl
