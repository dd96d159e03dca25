-- The words for the types of simulators, and which texts may name an entity.
use Rattle.std.specs.Prelude.{ℕ, Bool, not, ◌&&◌, List, [], codes, Option, Some, None, if◌then◌else◌}
use Rattle.mk_base.specs.declared.SimKind.{SimKind}
use Rattle.mk_base.specs.declared.SimKind.TheVariants.{TimeBased, EventBased, Hybrid}
use Rattle.mk_base.specs.Lists.{same_text}

-- the word for a type of simulator
abbrev pub kind_name : SimKind → List ℕ
kind_name TimeBased = codes "time-based"
kind_name EventBased = codes "event-based"
kind_name Hybrid = codes "hybrid"

-- the type of simulator that a word names
abbrev pub kind_named : List ℕ → Option SimKind
kind_named word = if same_text word (codes "time-based") then Some TimeBased
    else if same_text word (codes "event-based") then Some EventBased
    else if same_text word (codes "hybrid") then Some Hybrid else None

-- a text that may be an eid: neither empty nor `time`
abbrev pub is_eid : List ℕ → Bool
is_eid text = not (same_text text []) && not (same_text text (codes "time"))
