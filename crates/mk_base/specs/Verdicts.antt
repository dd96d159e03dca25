-- How tests follow one another, the first that fails naming the fault.
use Rattle.std.specs.Prelude.{◌≡◌, ◌⊎◌, ℕ, Bool, List, [], ◌∷◌, Option, Some, None, Result, Ok, Err, if◌then◌else◌}

-- the fault is the verdict's, or want of memory, which each kind of fault has a value for
abbrev pub IsFaultOrWant : {A E : Type 0} → E → Result A E → E → Type 0
IsFaultOrWant want verdict fault = (fault ≡ want) ⊎ (verdict ≡ Err fault)

-- what follows a test that holds, and the fault where it doesn't
abbrev pub held : {B E : Type 0} → E → Bool → Result B E → Result B E
held fault holds next = if holds then next else Err fault

-- what follows a test that no text fails, and the fault of the one that does
abbrev pub no_text : {B E : Type 0} → (List ℕ → E) → Option (List ℕ) → Result B E → Result B E
no_text fault None next = next
no_text fault (Some text) next = Err (fault text)

-- one item before the others, unless there is a fault among these
abbrev pub put_first : {A E : Type 0} → A → Result (List A) E → Result (List A) E
put_first x (Ok xs) = Ok (x ∷ xs)
put_first x (Err fault) = Err fault

-- what the items give, or the first fault among them
abbrev pub all_well : {A E : Type 0} → List (Result A E) → Result (List A) E
all_well [] = Ok []
all_well (Err fault ∷ more) = Err fault
all_well (Ok x ∷ more) = put_first x (all_well more)

-- what follows a test that gives something
abbrev pub passed : {A B E : Type 0} → Result A E → (A → Result B E) → Result B E
passed (Ok x) next = next x
passed (Err fault) next = Err fault

-- what follows where something is found, and the fault where nothing is
abbrev pub after_found : {A B E : Type 0} → E → Option A → (A → Result B E) → Result B E
after_found fault (Some x) next = next x
after_found fault None next = Err fault

-- the first fault where faults alone are looked for: the test's where it doesn't hold, and what
-- follows where it holds
abbrev pub fault_unless : {E : Type 0} → E → Bool → Option E → Option E
fault_unless fault holds next = if holds then next else Some fault

-- what follows where no fault was found
abbrev pub unless : {B E : Type 0} → Option E → Result B E → Result B E
unless None next = next
unless (Some fault) next = Err fault
