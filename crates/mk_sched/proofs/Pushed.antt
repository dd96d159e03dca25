-- What one more entry of a journal keeps, for the crates above.
use Rattle.std.proofs.Common.{◌≡◌, List, [], ◌∷◌, ◌++◌, None, refl, sym, ap, ◌∙◌, subst, ◌⊎◌, inl, inr}
use Rattle.mk_base.specs.declared.SimNo.{SimNo}
use Rattle.mk_plan.specs.declared.Plan.{Plan}
use Rattle.mk_plan.specs.declared.Item.{Item}
use Rattle.mk_plan.specs.declared.Message.{Message}
use Rattle.mk_plan.specs.declared.Entry.{Entry}
use Rattle.mk_plan.specs.declared.Entry.TheVariants.{Sent, Got}
use Rattle.mk_plan.specs.Journals.{View, view}
use Rattle.mk_plan.specs.Ready.{IsReady}
use Rattle.mk_order.proofs.Pushing.{view_push}
use Rattle.mk_sched.specs.Answers.{SomeReady}
use Rattle.mk_sched.specs.inner.Patient.{IsPatient}
use Rattle.mk_base.proofs.Items.{not_empty, same_heads}

-- ---- lists

-- what stands in a longer list is its last, or stands in the shorter
pub last_or_before : {X : Type 0} (J : List X) (e : X) (H : List X) (d : X) (more : List X) → J ++ e ∷ [] ≡ H ++ d ∷ more → ((J ≡ H) × (e ≡ d)) ⊎ ((less : List X) × (J ≡ H ++ d ∷ less))
last_or_before [] e [] d more q = inl (refl, (same_heads q).0)
last_or_before [] e (h ∷ H) d more q = absurd (not_empty H more d (same_heads q).1)
last_or_before (j ∷ J) e [] d more q = inr (J, (λ i. (same_heads q).0 i ∷ J))
last_or_before (j ∷ J) e (h ∷ H) d more q = elim (last_or_before J e H d more (same_heads q).1) [
  | inl t ↦ inl ((λ i. (same_heads q).0 i ∷ t.0 i), t.1)
  | inr t ↦ inr (t.0, (λ i. (same_heads q).0 i ∷ t.1 i))
]

-- ---- journals

pub sent_not_got : (s t : SimNo) (item : Item) (m : Message) → Sent s item ≡ Got t m → ⊥
sent_not_got s t item m e = cc

-- an item makes no fault
pub fault_after_sent : (P : Plan) (J : List Entry) (s : SimNo) (item : Item) → (view P J).fault ≡ None → (view P (J ++ Sent s item ∷ [])).fault ≡ None
fault_after_sent P J s item h = ap (λ (V : View). V.fault) (view_push P J (Sent s item)) ∙ h

pub patient_sent : (P : Plan) (J : List Entry) (s : SimNo) (item : Item) → IsPatient P J → IsPatient P (J ++ Sent s item ∷ [])
patient_sent P J s item patient H t m more q i x ready = elim (last_or_before J (Sent s item) H (Got t m) more q) [
  | inl z ↦ absurd (sent_not_got s t item m z.1)
  | inr z ↦ patient H t m z.0 z.1 i x ready
]

pub patient_got : (P : Plan) (J : List Entry) (s : SimNo) (m : Message) → IsPatient P J → (SomeReady P J → ⊥) → IsPatient P (J ++ Got s m ∷ [])
patient_got P J s m patient nobody H t n more q i x ready = elim (last_or_before J (Got s m) H (Got t n) more q) [
  | inl z ↦ nobody (i, x, subst (λ (K : List Entry). IsReady P (view P K) i x) (sym z.0) ready)
  | inr z ↦ patient H t n z.0 z.1 i x ready
]
