-- What the draft of a run's record is.
use Rattle.std.specs.Prelude.{◌≡◌, ℕ, List}
use Rattle.mk_plan.specs.declared.Plan.{Plan}
use Rattle.mk_plan.specs.declared.Entry.{Entry}
use Rattle.mk_record_read.specs.Texts.{record_text}
use Rattle.mk_scribe.specs.Desks.{Desk, Has}

-- the desk has the journal whose record these bytes are
abbrev pub HasRecord : Desk → List ℕ → Type 0
HasRecord desk bytes = (P : Plan) × (J : List Entry) × Has desk P J × (bytes ≡ record_text P J)
