-- What holds of each command on files, and of each that is done over a fleet: one line, or a few, a
-- command.
use Rattle.std.proofs.Common.{◌≡◌, ℕ, ◌<◌, ◌≤◌, ◌⊎◌, inl, inr, refl, sym, ap, ◌∙◌, subst, arith, List, [], ◌∷◌, map, length, Option, None, Some, Result, Err}
use Rattle.std.specs.Prelude.{is_some}
use Rattle.mk_base.proofs.Lists.{some_same}
use Rattle.mk_outside.specs.Folders.{Files, file_limit}
use Rattle.mk_local.specs.declared.turn.Turn.{Turn}
use Rattle.mk_local.specs.Kinds.{name_of}
use Rattle.mk_record_mend.specs.Mended.{mended}
use Rattle.mosaikrun_words.specs.declared.request.FileCommand.{FileCommand}
use Rattle.mosaikrun_words.specs.declared.request.FileCommand.TheVariants.{Replay, Check, Pair}
use Rattle.mosaikrun_words.specs.declared.request.PairCommand.TheVariants.{Migrate, Watch, Blame}
use Rattle.mosaikrun_words.specs.declared.request.Request.{Request}
use Rattle.mosaikrun_words.specs.declared.request.Request.TheVariants.{Files as Reads, Run, Resume, Paced, Demo}
use Rattle.mosaikrun_endings.specs.declared.ending.Ending.{Ending}
use Rattle.mosaikrun_endings.specs.declared.ending.Ending.TheVariants.{Usage, Mem}
use Rattle.mosaikrun_endings.specs.Endings.{outcome_status}
use Rattle.mosaikrun_records.specs.Migrations.{IsMigration}
use Rattle.mosaikrun_records.specs.Reports.{IsOutcome}
use Rattle.mosaikrun_records.specs.Saved.{IsRecord}
use Rattle.mosaikrun_records.proofs.OneOutcome.{one_outcome}
use Rattle.mosaikrun_records.proofs.OneMigration.{one_migration}
use Rattle.mosaikrun_check.proofs.OneRanking.{one_status}
use Rattle.mosaikrun_blame.specs.Blames.{IsBlameOutcome}
use Rattle.mosaikrun_blame.proofs.OneBlame.{one_blame}
use Rattle.mosaikrun_watch.specs.Watched.{IsWatchOutcome}
use Rattle.mosaikrun_watch.proofs.OneWatch.{one_outcome as one_watch}
use Rattle.mosaikrun_run.specs.Outcomes.{IsRunOutcome, Outside}
use Rattle.mosaikrun_program.specs.Around.{RulesSeen}
use Rattle.mosaikrun_resume.specs.Outcomes.{IsStudy}
use Rattle.mosaikrun_paced.specs.Outcomes.{IsPacedOutcome}
use Rattle.mosaikrun_program.specs.Commands.{AreHeld, IsAccepted, IsNext, IsNoFile, IsOutcomeOf, IsReadOn, OfOne, OfTwo, OfTwoBy, files_of, read_by}
use Rattle.mosaikrun_program.specs.Running.{IsOutcomeOver}
use Rattle.mosaikrun_program.proofs.NeverUsage.{outcome_not_usage, paced_not_usage, resume_not_usage, scenario_not_usage, stopped_not_usage, unchecked_not_usage, unread_not_usage}

-- the file of this name is there, and short enough
pub record IsThere (held : Files) (name : List ℕ) : Type 0 where
  pub bytes : List ℕ
  pub is : held name ≡ Some bytes
  pub short : length bytes ≤ file_limit

pub there_not : (held : Files) (name : List ℕ) → IsThere held name → IsNoFile (held name) → ⊥
there_not held name there nothing =
    let long : file_limit < length there.bytes = subst IsNoFile there.is nothing in
    let short = there.short in
    omega (arith, long, short)

-- what came of one file came of its bytes
record OneRead (makes : List ℕ → Result (List ℕ) Ending → Type 0) (read : List (List ℕ)) (o : Result (List ℕ) Ending) : Type 0 where
  bytes : List ℕ
  is : read ≡ bytes ∷ []
  made : makes bytes o

one_read : (makes : List ℕ → Result (List ℕ) Ending → Type 0) (read : List (List ℕ)) (o : Result (List ℕ) Ending) → OfOne makes read o → OneRead makes read o
one_read makes [] o h = absurd h
one_read makes (bytes ∷ []) o h = record { bytes = bytes; is = refl; made = h }
one_read makes (bytes ∷ other ∷ more) o h = absurd h

-- what came of two files came of both, or of the first, which isn't accepted
record BothRead (makes : List ℕ → List ℕ → Result (List ℕ) Ending → Type 0) (read : List (List ℕ)) (o : Result (List ℕ) Ending) : Type 0 where
  first : List ℕ
  second : List ℕ
  is : read ≡ first ∷ second ∷ []
  made : makes first second o

record FirstRead (accepted : List ℕ → Type 0) (makes : List ℕ → List ℕ → Result (List ℕ) Ending → Type 0) (read : List (List ℕ)) (o : Result (List ℕ) Ending) : Type 0 where
  first : List ℕ
  is : read ≡ first ∷ []
  none : accepted first → ⊥
  made : (second : List ℕ) → makes first second o

two_read : (accepted : List ℕ → Type 0) (makes : List ℕ → List ℕ → Result (List ℕ) Ending → Type 0) (read : List (List ℕ)) (o : Result (List ℕ) Ending) → OfTwoBy accepted makes read o → FirstRead accepted makes read o ⊎ BothRead makes read o
two_read accepted makes [] o h = absurd h
two_read accepted makes (first ∷ []) o h = inl (record { first = first; is = refl; none = h.0; made = h.1 })
two_read accepted makes (first ∷ second ∷ []) o h = inr (record { first = first; second = second; is = refl; made = h })
two_read accepted makes (first ∷ second ∷ other ∷ more) o h = absurd h

-- the status of outcomes of the same bytes is one
abbrev OneStatus : (Result (List ℕ) Ending → Type 0) → Type 0
OneStatus Made = (o p : Result (List ℕ) Ending) → Made o → Made p → (o ≡ Err Mem → ⊥) → (p ≡ Err Mem → ⊥) → outcome_status o ≡ outcome_status p

module _ (held : Files) where
  -- the bytes of a file are one
  same_bytes : (name b c : List ℕ) → held name ≡ Some b → held name ≡ Some c → b ≡ c
  same_bytes name b c x y = some_same (sym x ∙ y)

  first_held : (name : List ℕ) (names : List (List ℕ)) (read : List (List ℕ)) (bytes : List ℕ) (more : List (List ℕ)) → read ≡ bytes ∷ more → AreHeld (Some held) (name ∷ names) read → (held name ≡ Some bytes) × (length bytes ≤ file_limit)
  first_held name names read bytes more is there = (subst (AreHeld (Some held) (name ∷ names)) is there).0

  second_held : (name next : List ℕ) (names : List (List ℕ)) (read : List (List ℕ)) (bytes other : List ℕ) (more : List (List ℕ)) → read ≡ bytes ∷ other ∷ more → AreHeld (Some held) (name ∷ next ∷ names) read → (held next ≡ Some other) × (length other ≤ file_limit)
  second_held name next names read bytes other more is there = (subst (AreHeld (Some held) (name ∷ next ∷ names)) is there).1.0

  one_of_one : (makes : List ℕ → Result (List ℕ) Ending → Type 0) → ((bytes : List ℕ) → OneStatus (makes bytes)) → (name : List ℕ) (read other : List (List ℕ)) (o p : Result (List ℕ) Ending)
      → AreHeld (Some held) (name ∷ []) read → AreHeld (Some held) (name ∷ []) other → OfOne makes read o → OfOne makes other p → (o ≡ Err Mem → ⊥) → (p ≡ Err Mem → ⊥) → outcome_status o ≡ outcome_status p
  one_of_one makes law name read other o p h k a b m n =
      let x = one_read makes read o a in
      let y = one_read makes other p b in
      let same = same_bytes name x.bytes y.bytes (first_held name [] read x.bytes [] x.is h).0 (first_held name [] other y.bytes [] y.is k).0 in
      law y.bytes o p (subst (λ (c : List ℕ). makes c o) same x.made) y.made m n

  one_of_two : (makes : List ℕ → List ℕ → Result (List ℕ) Ending → Type 0) → ((first second : List ℕ) → OneStatus (makes first second)) → (name next : List ℕ) (read other : List (List ℕ)) (o p : Result (List ℕ) Ending)
      → AreHeld (Some held) (name ∷ next ∷ []) read → AreHeld (Some held) (name ∷ next ∷ []) other → OfTwo makes read o → OfTwo makes other p → (o ≡ Err Mem → ⊥) → (p ≡ Err Mem → ⊥) → outcome_status o ≡ outcome_status p
  one_of_two makes law name next read other o p h k a b m n = by (two_read IsRecord makes read o a) (two_read IsRecord makes other p b)
    where
      by : FirstRead IsRecord makes read o ⊎ BothRead makes read o → FirstRead IsRecord makes other p ⊎ BothRead makes other p → outcome_status o ≡ outcome_status p
      by (inl x) (inl y) =
          let same = same_bytes name x.first y.first (first_held name _ read x.first [] x.is h).0 (first_held name _ other y.first [] y.is k).0 in
          law y.first [] o p (subst (λ (c : List ℕ). makes c [] o) same (x.made [])) (y.made []) m n
      by (inl x) (inr y) =
          let same = same_bytes name x.first y.first (first_held name _ read x.first [] x.is h).0 (first_held name _ other y.first (y.second ∷ []) y.is k).0 in
          law y.first y.second o p (subst (λ (c : List ℕ). makes c y.second o) same (x.made y.second)) y.made m n
      by (inr x) (inl y) =
          let same = same_bytes name x.first y.first (first_held name _ read x.first (x.second ∷ []) x.is h).0 (first_held name _ other y.first [] y.is k).0 in
          law y.first x.second o p (subst (λ (c : List ℕ). makes c x.second o) same x.made) (y.made x.second) m n
      by (inr x) (inr y) =
          let same = same_bytes name x.first y.first (first_held name _ read x.first (x.second ∷ []) x.is h).0 (first_held name _ other y.first (y.second ∷ []) y.is k).0 in
          let too = same_bytes next x.second y.second (second_held name next [] read x.first x.second [] x.is h).0 (second_held name next [] other y.first y.second [] y.is k).0 in
          law y.first y.second o p (subst (λ (d : List ℕ). makes y.first d o) too (subst (λ (c : List ℕ). makes c x.second o) same x.made)) y.made m n

  -- where something came of files, the one that comes next behind fewer of them is there
  next_of_one : (makes : List ℕ → Result (List ℕ) Ending → Type 0) (n : List ℕ) (read before : List (List ℕ)) (name : List ℕ) (o : Result (List ℕ) Ending) → AreHeld (Some held) (n ∷ []) read → OfOne makes read o → IsNext (n ∷ []) before name → IsThere held name
  next_of_one makes n read [] name o h made next =
      let x = one_read makes read o made in
      let there = first_held n [] read x.bytes [] x.is h in
      subst (IsThere held) next (record { bytes = x.bytes; is = there.0; short = there.1 })
  next_of_one makes n read (b ∷ before) name o h made next = absurd next

  next_of_two : (accepted : List ℕ → Type 0) (makes : List ℕ → List ℕ → Result (List ℕ) Ending → Type 0) (n m : List ℕ) (read before : List (List ℕ)) (name : List ℕ) (o : Result (List ℕ) Ending) → AreHeld (Some held) (n ∷ m ∷ []) read → AreHeld (Some held) (n ∷ m ∷ []) before → IsReadOn accepted before → OfTwoBy accepted makes read o → IsNext (n ∷ m ∷ []) before name → IsThere held name
  next_of_two accepted makes n m read [] name o h k on made next = elim (two_read accepted makes read o made) [
    | inl x ↦ (let there = first_held n (m ∷ []) read x.first [] x.is h in subst (IsThere held) next (record { bytes = x.first; is = there.0; short = there.1 }))
    | inr x ↦ (let there = first_held n (m ∷ []) read x.first (x.second ∷ []) x.is h in subst (IsThere held) next (record { bytes = x.first; is = there.0; short = there.1 }))
  ]
  next_of_two accepted makes n m read (b ∷ []) name o h k on made next = elim (two_read accepted makes read o made) [
    | inl x ↦ (let same = same_bytes n b x.first k.0.0 (first_held n (m ∷ []) read x.first [] x.is h).0 in absurd (x.none (subst accepted same on)))
    | inr x ↦ (let there = second_held n m [] read x.first x.second [] x.is h in subst (IsThere held) next (record { bytes = x.second; is = there.0; short = there.1 }))
  ]
  next_of_two accepted makes n m read (b ∷ c ∷ before) name o h k on made next = absurd next

-- no command says that the words are none
never_of_one : (makes : List ℕ → Result (List ℕ) Ending → Type 0) → ((bytes : List ℕ) → makes bytes (Err Usage) → ⊥) → (read : List (List ℕ)) → OfOne makes read (Err Usage) → ⊥
never_of_one makes never [] h = h
never_of_one makes never (bytes ∷ []) h = never bytes h
never_of_one makes never (bytes ∷ other ∷ more) h = h

never_of_two : (makes : List ℕ → List ℕ → Result (List ℕ) Ending → Type 0) → ((first second : List ℕ) → makes first second (Err Usage) → ⊥) → (read : List (List ℕ)) → OfTwo makes read (Err Usage) → ⊥
never_of_two makes never [] h = h
never_of_two makes never (first ∷ []) h = never first [] (h.1 [])
never_of_two makes never (first ∷ second ∷ []) h = never first second h
never_of_two makes never (first ∷ second ∷ other ∷ more) h = h

-- what comes of a command's files: its status is one; where something came of them, the file that comes
-- next behind fewer of them is there; and it never says that the words are none
pub record IsRow (names : List (List ℕ)) (outcome : List (List ℕ) → Result (List ℕ) Ending → Type 0) : Type 0 where
  pub one : (held : Files) (read other : List (List ℕ)) (o p : Result (List ℕ) Ending) → AreHeld (Some held) names read → AreHeld (Some held) names other → outcome read o → outcome other p → (o ≡ Err Mem → ⊥) → (p ≡ Err Mem → ⊥) → outcome_status o ≡ outcome_status p
  pub next : (held : Files) (read before : List (List ℕ)) (name : List ℕ) (o : Result (List ℕ) Ending) → AreHeld (Some held) names read → AreHeld (Some held) names before → IsReadOn IsRecord before → outcome read o → IsNext names before name → IsThere held name
  pub never : (read : List (List ℕ)) → outcome read (Err Usage) → ⊥

-- by what holds of what a command makes of the bytes of one file, or of two
one_row : (makes : List ℕ → Result (List ℕ) Ending → Type 0) → ((bytes : List ℕ) → OneStatus (makes bytes)) → ((bytes : List ℕ) → makes bytes (Err Usage) → ⊥) → (name : List ℕ) → IsRow (name ∷ []) (OfOne makes)
one_row makes law never name = record {
  one = λ held read other o p h k a b m n. one_of_one held makes law name read other o p h k a b m n;
  next = λ held read before next o h k on made comes. next_of_one held makes name read before next o h made comes;
  never = never_of_one makes never;
}

two_row : (makes : List ℕ → List ℕ → Result (List ℕ) Ending → Type 0) → ((first second : List ℕ) → OneStatus (makes first second)) → ((first second : List ℕ) → makes first second (Err Usage) → ⊥) → (first second : List ℕ) → IsRow (first ∷ second ∷ []) (OfTwo makes)
two_row makes law never first second = record {
  one = λ held read other o p h k a b m n. one_of_two held makes law first second read other o p h k a b m n;
  next = λ held read before next o h k on made comes. next_of_two held IsRecord makes first second read before next o h k on made comes;
  never = never_of_two makes never;
}

-- a row for each command
pub row_of : (kinds : List Turn) (rules : RulesSeen) (c : FileCommand) → IsRow (read_by c) (IsOutcomeOf kinds rules c)
row_of kinds rules (Replay name order) = one_row _ (λ bytes o p a b m n. ap outcome_status (one_outcome bytes order o p a b m n)) never name
  where
    never : (bytes : List ℕ) → IsOutcome bytes order (Err Usage) → ⊥
    never bytes (inl unread) = unread_not_usage bytes unread
    never bytes (inr stopped) = stopped_not_usage bytes order stopped
row_of kinds rules (Check scenario) = one_row _ (λ bytes o p a b m n. one_status (map name_of kinds) bytes o p a b m n) (λ bytes u. unchecked_not_usage (map name_of kinds) bytes Usage u refl) scenario
row_of kinds rules (Pair Migrate old new) = one_row _ (λ bytes o p a b m n. ap outcome_status (one_migration (mended bytes) o p a b m n)) (λ bytes. never (mended bytes)) old
  where
    never : (bytes : List ℕ) → IsMigration bytes (Err Usage) → ⊥
    never bytes (inl unread) = unread_not_usage bytes unread
    never bytes (inr none) = stopped_not_usage bytes None none.stopped
row_of kinds rules (Pair Watch name spec) = two_row _ (λ first second o p a b m n. ap outcome_status (one_watch rules.names rules.folds first second o p a b m n)) never name spec
  where
    never : (bytes spec : List ℕ) → IsWatchOutcome rules.names rules.folds bytes spec (Err Usage) → ⊥
    never bytes spec (inl unread) = unread_not_usage bytes unread
    never bytes spec (inr (inl refused)) = let is = refused.is in cc
    never bytes spec (inr (inr undone)) = stopped_not_usage bytes None undone.stopped
row_of kinds rules (Pair Blame one other) = two_row _ (λ first second o p a b m n. ap outcome_status (one_blame first second o p a b m n)) never one other
  where
    never : (first second : List ℕ) → IsBlameOutcome first second (Err Usage) → ⊥
    never first second (inl unread) = unread_not_usage first unread
    never first second (inr (inl unread)) = unread_not_usage second unread.1
    never first second (inr (inr (inl stopped))) = stopped_not_usage first None stopped.stopped
    never first second (inr (inr (inr (inl stopped)))) = stopped_not_usage second None stopped.stopped
    never first second (inr (inr (inr (inr other)))) = let is = other.is in cc

-- what comes of a request over a fleet: the file that comes next is there as well, and it never
-- says that the words are none
pub record IsRowOver (O : Outside) (R : Request) : Type 0 where
  pub next : (held : Files) (read before : List (List ℕ)) (name : List ℕ) (text : Result (List ℕ) Ending) (kept : Option (List ℕ)) → AreHeld (Some held) (files_of R) read → AreHeld (Some held) (files_of R) before → IsReadOn (IsAccepted (map name_of O.kinds) R) before → IsOutcomeOver O R read text kept → IsNext (files_of R) before name → IsThere held name
  pub never : (read : List (List ℕ)) (text : Result (List ℕ) Ending) (kept : Option (List ℕ)) → IsOutcomeOver O R read text kept → text ≡ Err Usage → ⊥

-- a row for each of these
pub row_over : (O : Outside) (R : Request) → IsRowOver O R
row_over O (Run scenario saved) = record { next = λ held read before name text kept h k on made comes. next_of_one held _ scenario read before name text h made comes; never = never }
  where
    never : (read : List (List ℕ)) (text : Result (List ℕ) Ending) (kept : Option (List ℕ)) → IsOutcomeOver O (Run scenario saved) read text kept → text ≡ Err Usage → ⊥
    never read text kept made usage = let x = one_read (λ b o. IsRunOutcome O (is_some saved) b o kept) read text made in outcome_not_usage O (is_some saved) x.bytes text kept x.made usage
row_over O (Resume scenario recorded saved) = record { next = λ held read before name text kept h k on made comes. next_of_two held (IsStudy (map name_of O.kinds)) _ scenario recorded read before name text h k on made comes; never = never }
  where
    never : (read : List (List ℕ)) (text : Result (List ℕ) Ending) (kept : Option (List ℕ)) → IsOutcomeOver O (Resume scenario recorded saved) read text kept → text ≡ Err Usage → ⊥
    never [] text kept none usage = none
    never (bytes ∷ []) text kept outcome usage = resume_not_usage O (is_some saved) bytes (mended []) text kept (outcome.1 []) usage
    never (bytes ∷ old ∷ []) text kept outcome usage = resume_not_usage O (is_some saved) bytes (mended old) text kept outcome usage
    never (bytes ∷ old ∷ other ∷ more) text kept none usage = none
row_over O (Paced scenario factor strict saved) = record { next = λ held read before name text kept h k on made comes. next_of_one held _ scenario read before name text h made comes; never = never }
  where
    never : (read : List (List ℕ)) (text : Result (List ℕ) Ending) (kept : Option (List ℕ)) → IsOutcomeOver O (Paced scenario factor strict saved) read text kept → text ≡ Err Usage → ⊥
    never read text kept made usage = let x = one_read (λ b o. IsPacedOutcome O factor strict (is_some saved) b o kept) read text made in paced_not_usage O factor strict (is_some saved) x.bytes text kept x.made usage
row_over O (Demo size) = record {
  next = λ held read before name text kept h k on made comes. absurd comes;
  never = λ read text kept made usage. scenario_not_usage O _ _ _ text _ made.0 usage;
}
row_over O (Reads command) = record { next = λ held read before name text kept h k on made comes. absurd made; never = λ read text kept made usage. made }
