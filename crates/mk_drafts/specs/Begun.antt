-- What it says that a draft was begun.
use Rattle.std.specs.Prelude.{⊤}
use Rattle.mk_drafts.specs.declared.drafts.Begun.{Begun}
use Rattle.mk_drafts.specs.declared.drafts.Begun.TheVariants as begun

-- if a draft was begun, this holds of it
abbrev pub IfBegun : {D : Type 0} → Begun D → (D → Type 0) → Type 0
IfBegun (begun.Draft draft) holds = holds draft
IfBegun begun.Nowhere holds = ⊤
IfBegun begun.Failed holds = ⊤
IfBegun begun.Mem holds = ⊤
