-- The requests, and the words that each of them is spelled by.
use Rattle.std.specs.Prelude.{◌≡◌, ℕ, true, List, [], ◌∷◌, ◌++◌, Option, Some, None, codes}
use Rattle.mk_base.specs.Lists.{Each, IsIn}
use Rattle.mosaikrun_words.specs.declared.request.PairCommand.{PairCommand}
use Rattle.mosaikrun_words.specs.declared.request.PairCommand.TheVariants.{Migrate, Watch, Blame}
use Rattle.mosaikrun_words.specs.declared.request.FileCommand.TheVariants.{Replay, Check, Pair}
use Rattle.mosaikrun_words.specs.declared.request.Request.{Request}
use Rattle.mosaikrun_words.specs.declared.request.Request.TheVariants.{Files, Run, Resume, Paced, Demo}
use Rattle.mosaikrun_words.specs.Numbers.{IsNumber}
use Rattle.mosaikrun_words.specs.Words.{Text, Given, is_value, spellings}
use Rattle.mk_base.specs.Limits.{largest_demo, most_milliseconds}

-- the words are the command's name and a spelling of these positional words and options, each of
-- which may be a value
pub record IsSpelled (name : Text) (plain : List Text) (given : List Given)
    (words : List Text) : Type 0 where
  pub rest : List Text
  pub is : words ≡ name ∷ rest
  pub spelled : IsIn rest (spellings plain given)
  pub plain_values : Each (λ p. is_value p ≡ true) plain
  pub given_values : Each (λ (g : Given). is_value g.1 ≡ true) given

-- the options where one of this name may be given
abbrev pub if_given : Text → Option Text → List Given
if_given name None = []
if_given name (Some value) = (name, value) ∷ []

-- the text writes the number that is asked for, if one is
pub data IsNumberGiven (least most : ℕ) : Option Text → Option ℕ → Type 0 where
  missing : IsNumberGiven least most None None
  there : (text : Text) (n : ℕ) → IsNumber least most n text
      → IsNumberGiven least most (Some text) (Some n)

-- the word of a command that is given two names
abbrev pub pair_word : PairCommand → Text
pair_word Migrate = codes "migrate"
pair_word Watch = codes "watch"
pair_word Blame = codes "blame"

-- the words are this request
pub data IsRequest (words : List Text) : Request → Type 0 where
  is_run : (s : Text) (f : Option Text)
      → IsSpelled (codes "run") (s ∷ []) (if_given (codes "record") f) words
      → IsRequest words (Run s f)
  is_resume : (s r : Text) (f : Option Text)
      → IsSpelled (codes "resume") (s ∷ r ∷ []) (if_given (codes "record") f) words
      → IsRequest words (Resume s r f)
  is_paced : (s t : Text) (n : ℕ) (u : Option Text) (m : Option ℕ) (f : Option Text)
      → IsSpelled (codes "paced") (s ∷ t ∷ [])
      (if_given (codes "strict") u ++ if_given (codes "record") f) words
      → IsNumber 1 most_milliseconds n t → IsNumberGiven 0 most_milliseconds u m
      → IsRequest words (Paced s n m f)
  is_replay : (r : Text) (t : Option Text) (n : Option ℕ)
      → IsSpelled (codes "replay") (r ∷ []) (if_given (codes "order") t) words
      → IsNumberGiven 0 4294967295 t n → IsRequest words (Files (Replay r n))
  is_check : (s : Text) → IsSpelled (codes "check") (s ∷ []) [] words
      → IsRequest words (Files (Check s))
  is_demo : (t : Text) (n : ℕ) → IsSpelled (codes "demo") (t ∷ []) [] words
      → IsNumber 1 largest_demo n t
      → IsRequest words (Demo n)
  is_pair : (c : PairCommand) (a b : Text) → IsSpelled (pair_word c) (a ∷ b ∷ []) [] words
      → IsRequest words (Files (Pair c a b))
