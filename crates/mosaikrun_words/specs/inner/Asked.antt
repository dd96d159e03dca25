-- For proofs alone. How the code goes from the words after a command to a request.
use Rattle.std.specs.Prelude.{Bool, true, ℕ, ◌&&◌, List, [], ◌∷◌, Option, Some, None, option_map, option_and_then, if◌then◌else◌, codes}
use Rattle.mk_base.specs.Lists.{same_text}
use Rattle.mosaikrun_words.specs.declared.reading.Found.{Found}
use Rattle.mosaikrun_words.specs.declared.reading.Two.{Two}
use Rattle.mosaikrun_words.specs.declared.words.Pace.{Pace}
use Rattle.mosaikrun_words.specs.declared.request.Command.{Command}
use Rattle.mosaikrun_words.specs.declared.request.Command.TheVariants as command
use Rattle.mosaikrun_words.specs.declared.request.Request.{Request}
use Rattle.mosaikrun_words.specs.declared.request.PairCommand.{PairCommand}
use Rattle.mosaikrun_words.specs.declared.request.FileCommand.TheVariants.{Replay, Check, Pair}
use Rattle.mosaikrun_words.specs.declared.request.Request.TheVariants.{Files, Run, Resume, Paced, Demo}
use Rattle.mosaikrun_words.specs.declared.words.TheConstants.{COMMANDS}
use Rattle.mosaikrun_words.specs.Requests.{pair_word}
use Rattle.mosaikrun_words.specs.inner.Arranged.{alone, number_in, one_word, only_word, two_words, word_with}
use Rattle.mosaikrun_words.specs.inner.Sorted.{Shape, sorted_of}
use Rattle.mosaikrun_words.specs.Words.{Text}
use Rattle.mk_base.specs.Limits.{largest_demo, most_milliseconds}

abbrev pub run_of : List Text → Option Request
run_of rest = option_map (λ (f : Found). Run f.word f.value) (one_word (codes "record") rest)

-- the run of what was found that goes on from the record of this name, if it is a value
abbrev pub resume_with : Found → Text → Option Request
resume_with f name = option_map (λ (g : Found). Resume f.word g.word f.value) (alone name)

-- the run that goes on that these words ask for
abbrev pub resume_from : Text → Text → Option Text → Option Request
resume_from scenario name save = option_and_then (λ (f : Found). resume_with f name)
    (word_with scenario save)

abbrev pub resume_in : Option Text → Option Text → Option Text → Shape → Option Request
resume_in (Some a) (Some b) None p = resume_from a b p.save
resume_in (Some a) (Some b) (Some v) p = None
resume_in (Some a) None other p = None
resume_in None second other p = None

abbrev pub resume_of : List Text → Option Request
resume_of rest = option_and_then (λ (p : Shape). resume_in p.first p.second p.strict p)
    (sorted_of rest)

-- the number of a text, where there is one
abbrev pub number_given : ℕ → ℕ → Option Text → Option (Option ℕ)
number_given least most None = Some None
number_given least most (Some text) = option_map (λ n. Some n) (number_in least most text)

abbrev pub pace_in : Found → Option Pace
pace_in f = option_and_then
    (λ n. option_map (λ s. record { factor = n; strict = s })
    (number_given 0 most_milliseconds f.value))
    (number_in 1 most_milliseconds f.word)

-- the pace that these words write
abbrev pub pace_of : Text → Option Text → Option Pace
pace_of factor strict = option_and_then pace_in (word_with factor strict)

-- the run by a clock that these words ask for
abbrev pub paced_from : Text → Text → Option Text → Option Text → Option Request
paced_from scenario factor strict save = option_and_then
    (λ (p : Pace). option_map (λ (f : Found). Paced f.word p.factor p.strict f.value)
    (word_with scenario save))
    (pace_of factor strict)

abbrev pub paced_in : Option Text → Option Text → Shape → Option Request
paced_in (Some a) (Some b) p = paced_from a b p.strict p.save
paced_in (Some a) None p = None
paced_in None second p = None

abbrev pub paced_of : List Text → Option Request
paced_of rest = option_and_then (λ (p : Shape). paced_in p.first p.second p) (sorted_of rest)

-- the order's number, where there is one
abbrev pub replay_in : Text → Option Text → Option Request
replay_in name None = Some (Files (Replay name None))
replay_in name (Some text) = option_map (λ n. Files (Replay name (Some n)))
    (number_in 0 4294967295 text)

abbrev pub replay_of : List Text → Option Request
replay_of rest = option_and_then (λ (f : Found). replay_in f.word f.value)
    (one_word (codes "order") rest)

abbrev pub check_of : List Text → Option Request
check_of rest = option_map (λ s. Files (Check s)) (only_word rest)

abbrev pub demo_of : List Text → Option Request
demo_of rest = option_map Demo (option_and_then (number_in 1 largest_demo) (only_word rest))

abbrev pub pair_of : PairCommand → List Text → Option Request
pair_of c rest = option_map (λ (t : Two). Files (Pair c t.first t.second)) (two_words rest)

-- the request of a command, by the words after it
abbrev pub request_by : Command → List Text → Option Request
request_by command.Run rest = run_of rest
request_by command.Replay rest = replay_of rest
request_by command.Check rest = check_of rest
request_by command.Demo rest = demo_of rest
request_by command.Resume rest = resume_of rest
request_by command.Paced rest = paced_of rest
request_by (command.Pair c) rest = pair_of c rest

-- the word that asks for a command
abbrev pub word_of : Command → Text
word_of command.Run = codes "run"
word_of command.Replay = codes "replay"
word_of command.Check = codes "check"
word_of command.Demo = codes "demo"
word_of command.Resume = codes "resume"
word_of command.Paced = codes "paced"
word_of (command.Pair c) = pair_word c

-- the request of the first of these commands whose word it is; `read` gives the word of a name
abbrev pub request_among : {A : Type 0} → (A → Text) → List (A × Command) → Text → List Text
    → Option Request
request_among read [] word rest = None
request_among read (t ∷ commands) word rest = if same_text word (read t.0) then request_by t.1 rest
    else request_among read commands word rest

-- each of these commands has its word
abbrev pub have_words : {A : Type 0} → (A → Text) → List (A × Command) → Bool
have_words read [] = true
have_words read (t ∷ commands) = same_text (read t.0) (word_of t.1) && have_words read commands

abbrev pub request_of : List Text → Option Request
request_of [] = None
request_of (word ∷ rest) = request_among (λ name. name.now) COMMANDS word rest

-- the request's command
abbrev pub command_of : Request → Command
command_of (Run s f) = command.Run
command_of (Resume s r f) = command.Resume
command_of (Paced s n m f) = command.Paced
command_of (Files (Replay r n)) = command.Replay
command_of (Files (Check s)) = command.Check
command_of (Demo n) = command.Demo
command_of (Files (Pair c a b)) = command.Pair c
