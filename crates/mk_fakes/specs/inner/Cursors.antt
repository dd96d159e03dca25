-- For proofs alone. How far links are, as they are kept: by a place among all chunks.
use Rattle.std.specs.Prelude.{ℕ, ◌+◌, List, [], ◌∷◌, drop}
use Rattle.mk_fakes.specs.declared.wires.Chunk.{Chunk}
use Rattle.mk_fakes.specs.declared.wires.Cursor.{Cursor}
use Rattle.mk_fakes.specs.Scripts.{chunks_of, without_front}
use Rattle.mk_fakes.specs.Telling.{Line}

-- the chunks, the first without so many bytes
abbrev pub cut : ℕ → List Chunk → List Chunk
cut at [] = []
cut at (c ∷ cs) = without_front at c ∷ cs

-- the link of this number
abbrev pub line_of : List Chunk → ℕ → Cursor → Line
line_of chunks number cursor = record {
  rest = cut cursor.at
      (chunks_of (record { 0 = number }) (drop cursor.next chunks));
  said = cursor.said;
  held_up = cursor.held_up;
}

-- the links of this number and the next ones
abbrev pub lines_from : List Chunk → ℕ → List Cursor → List Line
lines_from chunks number [] = []
lines_from chunks number (c ∷ cs) = line_of chunks number c ∷ lines_from chunks (number + 1) cs
