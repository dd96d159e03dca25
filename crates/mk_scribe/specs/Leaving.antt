-- What a scribe leaves when it closes.
use Rattle.std.specs.Prelude.{⊤, Option, Some, None}
use Rattle.mk_scribe.specs.declared.scribe.Left.{Left}
use Rattle.mk_scribe.specs.declared.scribe.Left.TheVariants as left

-- the draft that is left, if there is one
abbrev pub draft_left : {S : Type 0} → Left S → Option S
draft_left left.Nothing = None
draft_left (left.Empty draft) = Some draft
draft_left (left.Part draft) = Some draft
draft_left (left.Whole draft) = Some draft

-- if nothing was begun in the draft that is left, this holds of it
abbrev pub IfEmpty : {S : Type 0} → Left S → (S → Type 0) → Type 0
IfEmpty left.Nothing holds = ⊤
IfEmpty (left.Empty draft) holds = holds draft
IfEmpty (left.Part draft) holds = ⊤
IfEmpty (left.Whole draft) holds = ⊤

-- if a draft is left as a part of the record, this holds of it
abbrev pub IfPart : {S : Type 0} → Left S → (S → Type 0) → Type 0
IfPart left.Nothing holds = ⊤
IfPart (left.Empty draft) holds = ⊤
IfPart (left.Part draft) holds = holds draft
IfPart (left.Whole draft) holds = ⊤

-- if a draft is left as the whole record, this holds of it
abbrev pub IfWhole : {S : Type 0} → Left S → (S → Type 0) → Type 0
IfWhole left.Nothing holds = ⊤
IfWhole (left.Empty draft) holds = ⊤
IfWhole (left.Part draft) holds = ⊤
IfWhole (left.Whole draft) holds = holds draft
