-- The words of a command's template: what stands between gaps, with the address in its places.
use Rattle.std.specs.Prelude.{ℕ, List, [], ◌∷◌, ◌++◌, map, flat_map, Option, Some, None, unwrap_or, option_to_list, Result, Ok, Err, codes}
use Rattle.std.specs.Fmt.{decimal}
use Rattle.mk_launch.specs.declared.faults.LaunchFault.{LaunchFault}
use Rattle.mk_launch.specs.declared.faults.LaunchFault.TheVariants.{Empty}
use Rattle.mk_launch.specs.Marks.{Sign, Mark, marks}
use Rattle.mk_launch.specs.Marks.Sign.{Byte, Address}
use Rattle.mk_launch.specs.Parts.{Piece, pieces}

-- a word that goes up to the first gap, if there is one, and the words behind that gap
abbrev pub Cut : Type 0
Cut = Option (List Sign) × List (List Sign)

-- all the words
abbrev pub all_words : Cut → List (List Sign)
all_words cut = option_to_list cut.0 ++ cut.1

-- the words, with a piece before them
abbrev pub with_piece : Piece → Cut → Cut
with_piece None cut = (None, all_words cut)
with_piece (Some signs) cut = (Some (signs ++ unwrap_or cut.0 []), cut.1)

-- the pieces, cut at the gaps
abbrev pub cut_at_gaps : List Piece → Cut
cut_at_gaps [] = (None, [])
cut_at_gaps (piece ∷ more) = with_piece piece (cut_at_gaps more)

-- the words, if there are any
abbrev pub some_words : List (List Sign) → Result (List (List Sign)) LaunchFault
some_words [] = Err Empty
some_words (word ∷ words) = Ok (word ∷ words)

-- the words of the pieces
abbrev pub words_of_pieces : Result (List Piece) LaunchFault → Result (List (List Sign)) LaunchFault
words_of_pieces (Ok found) = some_words (all_words (cut_at_gaps found))
words_of_pieces (Err fault) = Err fault

-- the words of the marks
abbrev pub words_of_marks : Result (List Mark) LaunchFault → Result (List (List Sign)) LaunchFault
words_of_marks (Ok found) = words_of_pieces (pieces None found)
words_of_marks (Err fault) = Err fault

-- the words of a template, or its first fault: a wrong per cent sign, else a part that doesn't end,
-- else that it has no word
abbrev pub template_words : List ℕ → Result (List (List Sign)) LaunchFault
template_words template = words_of_marks (marks 0 0 template)

-- the address at which a simulator is awaited
abbrev pub address_at : ℕ → List ℕ
address_at port = codes "127.0.0.1:" ++ decimal port

-- the bytes of a sign
abbrev pub sign_text : List ℕ → Sign → List ℕ
sign_text address (Byte b) = b ∷ []
sign_text address Address = address

-- the bytes of a word
abbrev pub word_text : List ℕ → List Sign → List ℕ
word_text address = flat_map (sign_text address)

-- the words' bytes
abbrev pub word_texts : List ℕ → Result (List (List Sign)) LaunchFault
    → Result (List (List ℕ)) LaunchFault
word_texts address (Ok words) = Ok (map (word_text address) words)
word_texts address (Err fault) = Err fault

-- the words of a command for a port
abbrev pub words_of : List ℕ → ℕ → Result (List (List ℕ)) LaunchFault
words_of template port = word_texts (address_at port) (template_words template)
