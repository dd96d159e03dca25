-- What lies around a call of the program.
use Rattle.std.specs.Prelude.{◌≡◌, ℕ, ◌≤◌, ◌⊎◌, List, [], Option}
use Rattle.mk_base.specs.declared.LinkNo.{LinkNo}
use Rattle.mk_launch.specs.Starts.{AreNumbered}
use Rattle.mk_outside.specs.Counts.{HasRisen}
use Rattle.mk_outside.specs.Folders.{Files}
use Rattle.mk_watch_read.specs.declared.rule.Fold.{Fold}
use Rattle.mk_watch_read.specs.declared.rules.Rules.{Rules}
use Rattle.mk_watch_read.specs.Rules.{names_in, folds_in}
use Rattle.mosaikrun_endings.specs.declared.ending.Ending.{Ending}
use Rattle.mosaikrun_endings.specs.declared.ending.Ending.TheVariants.{Output, Mem}
use Rattle.mosaikrun_run.specs.Outcomes.{Outside}

-- a folder around a call: its files, and its count of faults, before and after
pub record FolderSeen : Type 0 where
  pub files : Option Files
  pub files_after : Option Files
  pub faults : ℕ
  pub new_faults : ℕ

-- that of a folder before and after, by what is told of it
abbrev pub folder_seen : {D : Type 0} → (D → Option Files) → (D → ℕ) → D → D → FolderSeen
folder_seen files faults old new = record {
  files = files old;
  files_after = files new;
  faults = faults old;
  new_faults = faults new;
}

-- an output around a call: what it has taken, and its counts of faults and of wants of memory,
-- before and after
pub record OutputSeen : Type 0 where
  pub before : Option (List ℕ)
  pub after : Option (List ℕ)
  pub faults : ℕ
  pub new_faults : ℕ
  pub wants : ℕ
  pub new_wants : ℕ

-- that of an output before and after, by what is told of it
abbrev pub output_seen : {K : Type 0} → (K → Option (List ℕ)) → (K → ℕ) → (K → ℕ) → K → K
    → OutputSeen
output_seen written faults wants old new = record {
  before = written old;
  after = written new;
  faults = faults old;
  new_faults = faults new;
  wants = wants old;
  new_wants = wants new;
}

-- the rules of tables within the program: their names and their folds, in order
pub record RulesSeen : Type 0 where
  pub names : List (List ℕ)
  pub folds : List Fold

-- those of a store
abbrev pub rules_seen : {g : _} {f : _} {h : _} → Rules g f h → RulesSeen
rules_seen {g} {f} {h} r = record { names = names_in r; folds = folds_in r }

-- the words of a call, the kinds and rules within the program and what happened at its fleet, its
-- folder and its output
pub record Around : Type 0 where
  pub words : List (List ℕ)
  pub outside : Outside
  pub rules : RulesSeen
  pub folder : FolderSeen
  pub output : OutputSeen

-- that of a call with these words and rules, by what happened at each
abbrev pub around : Outside → List (List ℕ) → RulesSeen → FolderSeen → OutputSeen → Around
around O words rules folder output = record {
  words = words;
  outside = O;
  rules = rules;
  folder = folder;
  output = output;
}

-- a fleet's links around a call: how many it had started before, and which were open, before and
-- after; and its count of faults, before and after
pub record LinksSeen : Type 0 where
  pub started : ℕ
  pub before : List LinkNo
  pub after : List LinkNo
  pub faults : ℕ
  pub new_faults : ℕ

-- those of a fleet before and after, by what is told of it
abbrev pub links_seen : {F : Type 0} → (F → ℕ) → (F → List LinkNo) → (F → ℕ) → F → F → LinksSeen
links_seen started open_links faults old new = record {
  started = started old;
  before = open_links old;
  after = open_links new;
  faults = faults old;
  new_faults = faults new;
}

-- no count of faults falls; and where the links that were open before have numbers below the count of
-- links started, these are open afterwards, and no others: each link that was started is closed
pub record KeepsCountsAndLinks (folder : FolderSeen) (links : LinksSeen)
    (out err : OutputSeen) : Type 0 where
  pub folder_count : folder.faults ≤ folder.new_faults
  pub fleet_count : links.faults ≤ links.new_faults
  pub out_count : out.faults ≤ out.new_faults
  pub err_count : err.faults ≤ err.new_faults
  pub links_closed : AreNumbered links.started links.before → links.after ≡ links.before

-- nothing was put to the output, nothing saved, nothing added to the fleet's log, and its count of
-- faults didn't rise
pub record IsUntouched (S : Around) : Type 0 where
  pub unput : S.output.after ≡ S.output.before
  pub unsaved : S.folder.files_after ≡ S.folder.files
  pub log : S.outside.log ≡ []
  pub faults : S.outside.new_faults ≡ S.outside.faults

-- why the output has only a beginning of the text: it failed, or found no memory; that it failed
-- may have to be said as want of memory
abbrev pub IsCutBy : OutputSeen → Ending → Type 0
IsCutBy out e = ((e ≡ Output) × HasRisen out.faults out.new_faults)
    ⊎ ((e ≡ Mem) × (HasRisen out.faults out.new_faults ⊎ HasRisen out.wants out.new_wants))

-- this ending is said, or that memory is wanting
abbrev pub IsSaidAs : Ending → Ending → Type 0
IsSaidAs wanted e = (e ≡ wanted) ⊎ (e ≡ Mem)
