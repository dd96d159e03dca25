-- For proofs alone. The fault of a line, as the program answers it.
use Rattle.std.specs.Prelude.{◌≡◌, ℕ, Bool, Result, Err, Option, None, false, ⊤}
use Rattle.mk_base.specs.declared.json.Json.{Json}
use Rattle.mk_base.specs.Trees.{is_datum}
use Rattle.mk_record_read.specs.Fields.{misformed, out_of_limits}
use Rattle.mk_record_read.specs.declared.faults.LineFault.{LineFault}
use Rattle.mk_record_read.specs.declared.faults.LineFault.TheVariants.{Bad, Mem}

-- the answer is the fault that was found, but for want of memory
abbrev pub IsFaultOf : {Y : Type 0} → Result Y ℕ → LineFault → Type 0
IsFaultOf r (Bad n) = r ≡ Err n
IsFaultOf r Mem = ⊤

-- what was looked for isn't there, so the answer is that the line isn't of its form, but for want
-- of memory
abbrev pub IsMissing : {X : Type 0} → Option X → LineFault → Type 0
IsMissing o (Bad n) = (o ≡ None) × (n ≡ misformed)
IsMissing o Mem = ⊤

-- what was looked for is unknown
abbrev pub IsUnknown : {X : Type 0} → Option X → LineFault → Type 0
IsUnknown o (Bad n) = (o ≡ None) × (n ≡ out_of_limits)
IsUnknown o Mem = ⊥

-- a number is outside its limits, but for want of memory
abbrev pub IsBeyond : Bool → LineFault → Type 0
IsBeyond fits (Bad n) = (fits ≡ false) × (n ≡ out_of_limits)
IsBeyond fits Mem = ⊤

-- the tree is no datum
abbrev pub IsNoDatum : Json → LineFault → Type 0
IsNoDatum tree (Bad n) = (is_datum tree ≡ false) × (n ≡ misformed)
IsNoDatum tree Mem = ⊤
