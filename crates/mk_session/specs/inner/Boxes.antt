-- For proofs alone. What an inbox holds.
use Rattle.std.specs.Prelude.{ℕ, ◌≤◌, List, [], Option, None, Some, length, ⊤}
use Rattle.std.specs.Global.{Vec}
use Rattle.mk_frame.specs.Frames.{frame_of, limit}

-- the frame of a payload that was taken off and not given
abbrev pub front_bytes : Option (Vec ℕ) → List ℕ
front_bytes None = []
front_bytes (Some payload) = frame_of payload.items

-- the payload is no longer than a frame's may be
abbrev pub IsAllowed : Option (Vec ℕ) → Type 0
IsAllowed None = ⊤
IsAllowed (Some payload) = length payload.items ≤ limit
