-- For proofs alone. How a template is read step by step.
use Rattle.std.specs.Prelude.{◌≡◌, ℕ, ◌==◌, ◌||◌, true, List, [], ◌∷◌, ◌++◌, Option, Some, None, unwrap_or, option_to_list, Result, Ok, Err, if◌then◌else◌, codes, encode_utf8}
use Rattle.mk_launch.specs.declared.faults.LaunchFault.{LaunchFault}
use Rattle.mk_launch.specs.declared.faults.LaunchFault.TheVariants.{Empty, BadQuote}
use Rattle.mk_launch.specs.declared.marks.Front.{Front}
use Rattle.mk_launch.specs.declared.marks.Front.TheVariants.{Space, Quote, Letter, Address, Percent, Stray}
use Rattle.mk_launch.specs.inner.Reading.{Reading}

-- what a character by itself stands for
abbrev pub front_of : ℕ → Front
front_of c = if c == 32 then Space else if (c == 34) || (c == 39) then Quote c else if c == 37
    then Stray else Letter c

-- the text begins with neither of the places
abbrev pub IsNoPlace : List ℕ → Type 0
IsNoPlace text = ((v : List ℕ) → text ≡ codes "%(addr)s" ++ v → ⊥)
    × ((v : List ℕ) → text ≡ codes "%%" ++ v → ⊥)

-- what stands at the text's front, and the text after it
abbrev pub FrontOf : List ℕ → Front → List ℕ → Type 0
FrontOf text Space after = text ≡ 32 ∷ after
FrontOf text (Quote q) after = (text ≡ q ∷ after) × (((q == 34) || (q == 39)) ≡ true)
FrontOf text (Letter c) after = (text ≡ encode_utf8 c ++ after) × (front_of c ≡ Letter c)
FrontOf text Address after = text ≡ codes "%(addr)s" ++ after
FrontOf text Percent after = text ≡ codes "%%" ++ after
FrontOf text Stray after = (text ≡ 37 ∷ after) × IsNoPlace text

-- more bytes of the word
abbrev pub with_letters : List ℕ → Reading → Reading
with_letters bytes s = record s { word = Some (unwrap_or s.word [] ++ bytes) }

-- the word has ended, if there was one
abbrev pub without_word : Reading → Reading
without_word s = record s { done = s.done ++ option_to_list s.word; word = None }

-- after a space
abbrev pub after_space : Option (ℕ × ℕ) → Reading → Reading
after_space None s = without_word s
after_space (Some p) s = with_letters (encode_utf8 32) s

-- after a quotation mark
abbrev pub after_quote : ℕ → ℕ → Option (ℕ × ℕ) → Reading → Reading
after_quote q at None s = record s { word = Some (unwrap_or s.word []); part = Some (q, at) }
after_quote q at (Some p) s = if p.0 == q then record s { part = None }
    else with_letters (encode_utf8 q) s

-- after what stands at a byte
abbrev pub after_front : Front → ℕ → Reading → Reading
after_front Space at s = after_space s.part s
after_front (Quote q) at s = after_quote q at s.part s
after_front (Letter c) at s = with_letters (encode_utf8 c) s
after_front Address at s = with_letters s.address s
after_front Percent at s = with_letters (encode_utf8 37) s
after_front Stray at s = s

-- what stands at a byte was read
abbrev pub IsReadOf : Front → Reading → ℕ → Reading → Type 0
IsReadOf Space old at new = new ≡ after_front Space at old
IsReadOf (Quote q) old at new = new ≡ after_front (Quote q) at old
IsReadOf (Letter c) old at new = new ≡ after_front (Letter c) at old
IsReadOf Address old at new = new ≡ after_front Address at old
IsReadOf Percent old at new = new ≡ after_front Percent at old
IsReadOf Stray old at new = ⊥

-- the words, if there are any
abbrev pub some_texts : List (List ℕ) → Result (List (List ℕ)) LaunchFault
some_texts [] = Err Empty
some_texts (word ∷ words) = Ok (word ∷ words)

-- the words read where no part goes on
abbrev pub words_with : Option (ℕ × ℕ) → Reading → Result (List (List ℕ)) LaunchFault
words_with None s = some_texts (without_word s).done
words_with (Some p) s = Err (BadQuote p.1)

-- the words read, now that the template has ended
abbrev pub words_read : Reading → Result (List (List ℕ)) LaunchFault
words_read s = words_with s.part s
