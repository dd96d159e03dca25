-- What one more entry of the journal keeps.
use Rattle.std.proofs.Common.{◌≡◌, ℕ, true, List, [], ◌∷◌, ◌++◌, refl, sym, ap, ◌∙◌, subst, inl, inr, append_assoc}
use Rattle.mk_base.specs.declared.SimNo.{SimNo}
use Rattle.mk_base.specs.Lists.{BeginsWith}
use Rattle.mk_base.proofs.Lists.{filter_map_append}
use Rattle.mk_plan.specs.declared.Plan.{Plan}
use Rattle.mk_plan.specs.declared.Item.{Item}
use Rattle.mk_plan.specs.declared.Message.{Message}
use Rattle.mk_plan.specs.declared.Entry.{Entry}
use Rattle.mk_plan.specs.declared.Entry.TheVariants.{Sent, Got}
use Rattle.mk_plan.specs.Journals.{sent, got, sent_to, got_from}
use Rattle.mk_scenario.specs.declared.parts.Scenario.{Scenario}
use Rattle.mk_outside.specs.declared.fleet.LogEntry.{LogEntry}
use Rattle.mk_sched.proofs.Pushed.{last_or_before, sent_not_got}
use Rattle.mk_run_laws.specs.Kinds.{Replies, KeepsToKinds}
use Rattle.mk_run_laws.specs.Running.{RestsEnd}
use Rattle.mk_run_laws.specs.inner.Running.{RestsOver}
use Rattle.mk_onlooker.specs.Showings.{AreInRange}
use Rattle.mk_base.proofs.Items.{not_empty, same_heads}
use Rattle.mk_plan.specs.Messages.{is_message_in_range}
use Rattle.mk_plan.specs.Sequential.{Messages}

-- two journals that end with these entries are one
pub same_last : (J H : List Entry) (e d : Entry) → J ++ e ∷ [] ≡ H ++ d ∷ [] → (J ≡ H) × (e ≡ d)
same_last [] [] e d q = (refl, (same_heads q).0)
same_last [] (h ∷ H) e d q = absurd (not_empty H [] d (same_heads q).1)
same_last (j ∷ J) [] e d q = absurd (not_empty J [] e (sym (same_heads q).1))
same_last (j ∷ J) (h ∷ H) e d q = let t = same_last J H e d (same_heads q).1 in ((λ i. (same_heads q).0 i ∷ t.0 i), t.1)

pub range_sent : (J : List Entry) (s : SimNo) (item : Item) → AreInRange J → AreInRange (J ++ Sent s item ∷ [])
range_sent J s item fits H t m more q = elim (last_or_before J (Sent s item) H (Got t m) more q) [
  | inl z ↦ absurd (sent_not_got s t item m z.1)
  | inr z ↦ fits H t m z.0 z.1
]

pub same_message : (s t : SimNo) (m n : Message) → Got s m ≡ Got t n → m ≡ n
same_message s t m n e = cc

pub range_got : (J : List Entry) (s : SimNo) (m : Message) → AreInRange J → is_message_in_range m ≡ true → AreInRange (J ++ Got s m ∷ [])
range_got J s m fits here H t n more q = elim (last_or_before J (Got s m) H (Got t n) more q) [
  | inl z ↦ subst (λ (k : Message). is_message_in_range k ≡ true) (same_message s t m n z.1) here
  | inr z ↦ fits H t n z.0 z.1
]

pub kinds_sent : (reply : Replies) (within : ℕ → _) (P : Plan) (J : List Entry) (s : SimNo) (item : Item) → KeepsToKinds reply within P J → KeepsToKinds reply within P (J ++ Sent s item ∷ [])
kinds_sent reply within P J s item kinds H t m more is here = elim (last_or_before J (Sent s item) H (Got t m) more is) [
  | inl z ↦ absurd (sent_not_got s t item m z.1)
  | inr z ↦ kinds H t m z.0 z.1 here
]

-- what was sent and got is the front of what is sent and got with one more entry
pub sent_front : (J : List Entry) (e : Entry) (i : ℕ) → BeginsWith (sent (J ++ e ∷ []) i) (sent J i)
sent_front J e i = (sent (e ∷ []) i, filter_map_append (sent_to i) J (e ∷ []))

pub got_front : (J : List Entry) (e : Entry) (i : ℕ) → BeginsWith (got (J ++ e ∷ []) i) (got J i)
got_front J e i = (got (e ∷ []) i, filter_map_append (got_from i) J (e ∷ []))

-- the rests so far are rests of the longer journal too
pub rests_longer : (started : ℕ) (S : Scenario) (replies : Messages) (P : Plan) (J : List Entry) (e : Entry) (log : List LogEntry) → RestsOver started S replies P J log → RestsEnd started S replies P (J ++ e ∷ []) log
rests_longer started S replies P J e log rests before after is up =
    let t = rests before after is up in
    let r = t.0 in
    let b = t.1 in (
      record { at = r.at; more = r.more ++ e ∷ []; parts = ap (λ (l : List Entry). l ++ e ∷ []) r.parts ∙ append_assoc r.at r.more (e ∷ []); nobody = r.nobody; replied = r.replied; channel = r.channel },
      inr (b.0, b.1, b.2 ++ e ∷ [], b.3, ap (λ (k : List Entry). k ++ e ∷ []) b.4, b.5),
    )
