-- Answers to the goals of `asking::setup_halt` that the prover leaves.
use Rattle.std.proofs.Common.{◌≡◌, refl}
use Rattle.mk_setup.specs.declared.fault.SetupFault.{SetupFault}
use Rattle.mk_setup.specs.declared.fault.SetupFault.TheVariants.{Meta, Create, Connect, Unasked, Failed, Mem}
use Rattle.mk_run_crew.specs.declared.halt.Halt.TheVariants as halt
use Rattle.mk_run_crew.specs.inner.Asking.{setup_halt}
use Rattle.mk_run_crew.proofs.asking.setup_halt.Goals as goal

-- each fault but want of memory stands in the halt
stands : (f : SetupFault) → (f ≡ Mem → ⊥) → halt.Setup f ≡ setup_halt f
stands (Meta sim f) some = refl
stands (Create sim f) some = refl
stands (Connect f) some = refl
stands (Unasked sim) some = refl
stands (Failed sim text) some = refl
stands Mem some = absurd (some refl)

pub returns-in_default : goal.returns-in_default
returns-in_default c = stands _ c.in_default.not-Mem
