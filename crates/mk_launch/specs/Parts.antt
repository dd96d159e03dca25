-- The parts within quotation marks: which spaces separate words, and which belong to one.
use Rattle.std.specs.Prelude.{ℕ, ◌==◌, List, [], ◌∷◌, Option, Some, None, Result, Ok, Err, if◌then◌else◌}
use Rattle.mk_base.specs.Verdicts.{put_first}
use Rattle.mk_launch.specs.declared.faults.LaunchFault.{LaunchFault}
use Rattle.mk_launch.specs.declared.faults.LaunchFault.TheVariants.{BadQuote}
use Rattle.mk_launch.specs.Marks.{Sign, Mark}
use Rattle.mk_launch.specs.Marks.Sign.{Byte}
use Rattle.mk_launch.specs.Marks.Mark.{Space, Quote, Plain}

-- a piece of a word, or what separates two words
abbrev pub Piece : Type 0
Piece = Option (List Sign)

-- what separates words
abbrev pub gap : Piece
gap = None

-- a piece of a word with these signs; an empty one is a piece too
abbrev pub of_word : List Sign → Piece
of_word signs = Some signs

-- the pieces of a template's marks; the quotation mark that opened the part that is being read, and
-- its byte, or none outside of parts; or the mark of a part that doesn't end
abbrev pub pieces : Option (ℕ × ℕ) → List Mark → Result (List Piece) LaunchFault
pieces None [] = Ok []
pieces None (Space ∷ marks) = put_first gap (pieces None marks)
pieces None (Quote q i ∷ marks) = put_first (of_word []) (pieces (Some (q, i)) marks)
pieces None (Plain sign ∷ marks) = put_first (of_word (sign ∷ [])) (pieces None marks)
pieces (Some (q, i)) [] = Err (BadQuote i)
pieces (Some (q, i)) (Space ∷ marks) = put_first (of_word (Byte 32 ∷ []))
    (pieces (Some (q, i)) marks)
pieces (Some (q, i)) (Quote r j ∷ marks) = if q == r then pieces None marks
    else put_first (of_word (Byte r ∷ [])) (pieces (Some (q, i)) marks)
pieces (Some (q, i)) (Plain sign ∷ marks) = put_first (of_word (sign ∷ []))
    (pieces (Some (q, i)) marks)
