-- For proofs alone. Journals in which whoever was ready was asked before a message was taken.
use Rattle.std.specs.Prelude.{◌≡◌, ℕ, List, ◌∷◌, ◌++◌}
use Rattle.mk_base.specs.declared.SimNo.{SimNo}
use Rattle.mk_base.specs.declared.tier.Tier.{Tier}
use Rattle.mk_plan.specs.declared.Plan.{Plan}
use Rattle.mk_plan.specs.declared.Message.{Message}
use Rattle.mk_plan.specs.declared.Entry.{Entry}
use Rattle.mk_plan.specs.declared.Entry.TheVariants.{Got}
use Rattle.mk_plan.specs.Journals.{view}
use Rattle.mk_plan.specs.Ready.{IsReady}

-- no message came while a simulator was ready
abbrev pub IsPatient : Plan → List Entry → Type 0
IsPatient P J = (H : List Entry) (s : SimNo) (m : Message) (more : List Entry)
    → J ≡ H ++ Got s m ∷ more → (i : ℕ) (x : Tier) → IsReady P (view P H) i x → ⊥
