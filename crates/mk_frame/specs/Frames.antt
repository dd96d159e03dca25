-- Frames: the payload's length in four bytes, the most significant first, and then the payload.
use Rattle.std.specs.Prelude.{◌≡◌, ◌<◌, ◌≤◌, ◌⊎◌, ℕ, List, [], ◌∷◌, ◌++◌, length}
use Rattle.std.specs.List.{flat_map}
use Rattle.byteorder.specs.Endian.{big_bytes, big_number}

-- the greatest length of a payload that is allowed, in bytes
abbrev pub limit : ℕ
limit = 67108864

-- a frame: the header, which is the length as a big-endian number of four bytes, and the payload
abbrev pub frame_of : List ℕ → List ℕ
frame_of payload = big_bytes 4 (length payload) ++ payload

-- whole is part with more behind it
abbrev pub IsProperPrefix : List ℕ → List ℕ → Type 0
IsProperPrefix part whole = (more : List ℕ) × (0 < length more) × (whole ≡ part ++ more)

-- fewer than four bytes, or a proper prefix of a frame whose length is allowed
abbrev pub IsUnfinished : List ℕ → Type 0
IsUnfinished held =
    (length held < 4) ⊎ ((payload : List ℕ) × (length payload ≤ limit)
    × IsProperPrefix held (frame_of payload))

-- held begins with a header n above the limit
abbrev pub IsTooLong : ℕ → List ℕ → Type 0
IsTooLong n held = (4 ≤ length held) × (big_number 4 held ≡ n) × (limit < n)

-- held is the frame of an allowed payload, and then rest
abbrev pub BeginsWithFrame : List ℕ → List ℕ → List ℕ → Type 0
BeginsWithFrame held payload rest = (length payload ≤ limit) × (held ≡ frame_of payload ++ rest)

-- a feeder to which `fed` was fed in any pieces, which has given the payloads `given` and holds
-- `held`
pub data Feeding : List ℕ → List (List ℕ) → List ℕ → Type 0 where
  begun : Feeding [] [] []
  feeds : (fed : List ℕ) (given : List (List ℕ)) (held piece : List ℕ) → Feeding fed given held
      → Feeding (fed ++ piece) given (held ++ piece)
  takes : (fed : List ℕ) (given : List (List ℕ)) (held payload rest : List ℕ)
      → Feeding fed given held → BeginsWithFrame held payload rest
      → Feeding fed (given ++ payload ∷ []) rest

-- the frames of the payloads, joined
abbrev pub frames_of : List (List ℕ) → List ℕ
frames_of = flat_map frame_of
