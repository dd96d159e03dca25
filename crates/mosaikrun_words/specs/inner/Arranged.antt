-- For proofs alone. How the code goes about the words.
use Rattle.std.specs.Prelude.{ℕ, ◌&&◌, ◌==◌, nat_le, List, [], ◌∷◌, ◌++◌, length, Option, Some, None, if◌then◌else◌, codes}
use Rattle.std.specs.List.{list_all}
use Rattle.mk_base.specs.Lists.{same_text}
use Rattle.mk_base.specs.Numbers.{number_of, is_digit}
use Rattle.mosaikrun_words.specs.declared.reading.Found.{Found}
use Rattle.mosaikrun_words.specs.declared.reading.Two.{Two}
use Rattle.mosaikrun_words.specs.declared.request.OptionName.{OptionName}
use Rattle.mosaikrun_words.specs.declared.request.OptionName.TheVariants.{Record, Order, Strict}
use Rattle.mosaikrun_words.specs.Numbers.{most_digits}
use Rattle.mosaikrun_words.specs.Words.{Text, is_value}

abbrev pub name_of : OptionName → Text
name_of Record = codes "record"
name_of Order = codes "order"
name_of Strict = codes "strict"

-- an option that stands alone, before its value
abbrev pub long : Text → Text
long name = codes "--" ++ name

-- the beginning of an option that stands with its value
abbrev pub start : Text → Text
start name = long name ++ codes "="

-- what follows the beginning, if the word has it
abbrev pub value_after : Text → Text → Option Text
value_after [] word = Some word
value_after (a ∷ more) [] = None
value_after (a ∷ more) (b ∷ word) = if a == b then value_after more word else None

-- a word alone
abbrev pub alone : Text → Option Found
alone word = if is_value word then Some (record { word = word; value = None }) else None

-- a word and the value of an option
abbrev pub pair : Text → Option Text → Option Found
pair word None = None
pair word (Some value) = if is_value word && is_value value
    then Some (record { word = word; value = Some value }) else None

-- a word, and the value of an option, where there is one
abbrev pub word_with : Text → Option Text → Option Found
word_with word None = alone word
word_with word (Some value) = pair word (Some value)

-- the value, where the word before it is the option of this name
abbrev pub behind : Text → Text → Text → Option Text
behind name word value = if same_text word (long name) then Some value else None

-- one word, and the option of this name wherever it stands
abbrev pub one_word : Text → List Text → Option Found
one_word name [] = None
one_word name (a ∷ []) = alone a
one_word name (a ∷ b ∷ []) = if is_value a then pair a (value_after (start name) b)
    else pair b (value_after (start name) a)
one_word name (a ∷ b ∷ c ∷ []) = if is_value a then pair a (behind name b c)
    else pair c (behind name a b)
one_word name (a ∷ b ∷ c ∷ d ∷ more) = None

-- one word and nothing else
abbrev pub only_word : List Text → Option Text
only_word (a ∷ []) = if is_value a then Some a else None
only_word words = None

-- two words and nothing else
abbrev pub two_words : List Text → Option Two
two_words (a ∷ b ∷ []) = if is_value a && is_value b then Some (record { first = a; second = b })
    else None
two_words words = None

-- the number from the least to the most that the text writes
abbrev pub number_in : ℕ → ℕ → Text → Option ℕ
number_in least most text = if nat_le 1 (length text) && nat_le (length text) most_digits
    && list_all is_digit text && nat_le least (number_of text) && nat_le (number_of text) most
    then Some (number_of text) else None
