-- For proofs alone. Beside `FirstBad`, which has what a reader needs.
use Rattle.std.specs.Prelude.{All, IfSome}
use Rattle.mk_base.specs.Data.{IsDatumText}
use Rattle.mk_plan.specs.declared.Plan.{Plan}

-- each initial value is a datum, as it is by its type
abbrev pub HasDatums : Plan → Type 0
HasDatums P = All (λ c. IfSome c.initial IsDatumText) P.conns
