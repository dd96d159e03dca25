-- What the program's status says, by how it ended.
use Rattle.std.proofs.Common.{◌≡◌, ℕ, ◌⊎◌, inl, inr, refl, sym, ap, ◌∙◌, subst, arith, List, length, Option, None, Some, Result, Ok, Err}
use Rattle.mk_outside.specs.Folders.{Files}
use Rattle.mosaikrun_words.specs.declared.request.FileCommand.{FileCommand}
use Rattle.mosaikrun_words.specs.declared.request.Request.{Request}
use Rattle.mosaikrun_words.specs.declared.request.Request.TheVariants.{Files as Reads}
use Rattle.mosaikrun_words.proofs.Requested.{requested}
use Rattle.mosaikrun_endings.specs.declared.ending.Ending.{Ending}
use Rattle.mosaikrun_endings.specs.declared.ending.Ending.TheVariants.{Usage, Missing, TooLong, Scenario, Watches, Cycle, Launch, Setup, Record, Wrong, Failed, LoopLimit, Link, Short, Differs, OtherPlan, OtherMessage, Late, Fleet, Folder, Output, Entries, LongItem, Mem}
use Rattle.mosaikrun_endings.specs.Endings.{status_of}
use Rattle.mosaikrun_program.specs.Commands.{IsAsked, IsOutcomeOf, IsUnasked, IsUnreadable, saved_name, target_of}
use Rattle.mosaikrun_program.specs.Answers.{PrintAnswer, SaveAnswer, TextAnswer}
use Rattle.mosaikrun_program.specs.Around.{Around, FolderSeen, IsCutBy, OutputSeen}
use Rattle.mosaikrun_program.specs.Running.{IsDoneOver, IsFolderAfter, RunAnswer}
use Rattle.mosaikrun_program.specs.Program.{EndedAs, HasPerformed, IsStatusOr, KeepsOthers, status}
use Rattle.mosaikrun_program.proofs.NeverUsage.{as_not_usage}
use Rattle.mosaikrun_program.proofs.Rows.{row_of, row_over}

-- want of memory may be said of an output that failed
cut_as_mem : (out : OutputSeen) (e : Ending) → IsCutBy out e → IsCutBy out Mem
cut_as_mem out e (inl failed) = inr (refl, inl failed.1)
cut_as_mem out e (inr short) = inr (refl, short.1)

-- and of what was done over a fleet
run_as_mem : (folder : FolderSeen) (out : OutputSeen) (name : Option (List ℕ)) (text : Result (List ℕ) Ending) (kept : Option (List ℕ)) (e : Ending) → RunAnswer folder out name text kept (Err e) → RunAnswer folder out name text kept (Err Mem)
run_as_mem folder out name (Ok text) kept e (inl unsaved) = inl (unsaved.0, (unsaved.1.0, inr refl, unsaved.1.2), inr refl)
run_as_mem folder out name (Ok text) kept e (inr cut) = inr (cut.0, cut.1, cut_as_mem out e cut.2)
run_as_mem folder out name (Err why) kept e said = (said.0, inr refl, elim said.2 [ inl saved ↦ inl saved | inr unsaved ↦ inr (unsaved.0, inr refl, unsaved.2) ])

done_as_mem : (S : Around) (R : Request) (e : Ending) → IsDoneOver S R (Err e) → IsDoneOver S R (Err Mem)
done_as_mem S R e d = record {
  read = d.read;
  held = d.held;
  text = d.text;
  kept = d.kept;
  outcome = d.outcome;
  ended = run_as_mem S.folder S.output (saved_name R) d.text d.kept e d.ended;
}

-- and of a text that is printed
print_as_mem : (out : OutputSeen) (text : Result (List ℕ) Ending) (e : Ending) → PrintAnswer out text (Err e) → PrintAnswer out text (Err Mem)
print_as_mem out (Ok text) e cut = (cut.0, cut_as_mem out e cut.1)
print_as_mem out (Err why) e said = (said.0, inr refl)

-- and of one that is saved
save_as_mem : (folder : FolderSeen) (name : List ℕ) (text : Result (List ℕ) Ending) (e : Ending) → SaveAnswer folder name text (Err e) → SaveAnswer folder name text (Err Mem)
save_as_mem folder name (Ok text) e unsaved = (unsaved.0, inr refl)
save_as_mem folder name (Err why) e said = (said.0, inr refl)

text_as_mem : (S : Around) (target : Option (List ℕ)) (text : Result (List ℕ) Ending) (e : Ending) → TextAnswer S target text (Err e) → TextAnswer S target text (Err Mem)
text_as_mem S None text e said = (print_as_mem S.output text e said.0, said.1)
text_as_mem S (Some name) text e said = (save_as_mem S.folder name text e said.0, said.1)

performed_as_mem : (S : Around) (e : Ending) → HasPerformed S (Err e) → HasPerformed S (Err Mem)
performed_as_mem S e (inl made) = inl (record {
  command = made.command;
  asked = made.asked;
  text = made.text;
  made = made.made;
  ended = text_as_mem S (target_of made.command) made.text e made.ended;
  log = made.log;
  faults = made.faults;
})
performed_as_mem S e (inr ran) = inr (record { request = ran.request; asked = ran.asked; run = done_as_mem S ran.request e ran.run })

-- want of memory may be said instead
as_mem : (S : Around) (e : Ending) → EndedAs S (Err e) → EndedAs S (Err Mem)
as_mem S e (inl misused) = inl (record { cause = inl refl; untouched = misused.untouched })
as_mem S e (inr (inl unread)) = inl (record { cause = inl refl; untouched = unread.untouched })
as_mem S e (inr (inr done)) = inr (inr (performed_as_mem S e done))

-- what is said holds, where it is the ending or want of memory
pub said_ended : (S : Around) (e f : Ending) → EndedAs S (Err f) → (e ≡ f) ⊎ (e ≡ Mem) → EndedAs S (Err e)
said_ended S e f ended (inl same) = subst (λ (x : Ending). EndedAs S (Err x)) (sym same) ended
said_ended S e f ended (inr mem) = subst (λ (x : Ending). EndedAs S (Err x)) (sym mem) (as_mem S f ended)

-- words ask for one thing
pub one_request : (words : List (List ℕ)) (R Q : Request) → IsAsked words R → IsAsked words Q → R ≡ Q
one_request words R Q a b = let same = sym ((requested words R).1 a) ∙ (requested words Q).1 b in cc

-- and for one command on files
pub one_command : (words : List (List ℕ)) (c d : FileCommand) → IsAsked words (Reads c) → IsAsked words (Reads d) → c ≡ d
one_command words c d a b = let same = one_request words (Reads c) (Reads d) a b in cc

-- the status 2 is that of words that are no command
pub only_usage : (e : Ending) → status_of e ≡ 2 → e ≡ Usage
only_usage Usage two = refl
only_usage (Missing name) two = absurd (omega (arith, two))
only_usage (TooLong name count) two = absurd (omega (arith, two))
only_usage (Scenario fault) two = absurd (omega (arith, two))
only_usage (Watches fault) two = absurd (omega (arith, two))
only_usage (Cycle sims) two = absurd (omega (arith, two))
only_usage (Launch sim fault) two = absurd (omega (arith, two))
only_usage (Setup setup) two = absurd (omega (arith, two))
only_usage (Record line fault) two = absurd (omega (arith, two))
only_usage (Wrong sim place cause) two = absurd (omega (arith, two))
only_usage (Failed sim text) two = absurd (omega (arith, two))
only_usage (LoopLimit sim time) two = absurd (omega (arith, two))
only_usage (Link sim fault) two = absurd (omega (arith, two))
only_usage (Short outstanding) two = absurd (omega (arith, two))
only_usage (Differs entry) two = absurd (omega (arith, two))
only_usage (OtherPlan part) two = absurd (omega (arith, two))
only_usage (OtherMessage sim place) two = absurd (omega (arith, two))
only_usage (Late sim time late allowed) two = absurd (omega (arith, two))
only_usage Fleet two = absurd (omega (arith, two))
only_usage Folder two = absurd (omega (arith, two))
only_usage Output two = absurd (omega (arith, two))
only_usage (Entries entries) two = absurd (omega (arith, two))
only_usage (LongItem sim length) two = absurd (omega (arith, two))
only_usage Mem two = absurd (omega (arith, two))

-- an ending is want of memory, or another
pub is_memory : (e : Ending) → (e ≡ Mem) ⊎ (e ≡ Mem → ⊥)
is_memory Usage = inr (λ wrong. cc)
is_memory (Missing name) = inr (λ wrong. cc)
is_memory (TooLong name count) = inr (λ wrong. cc)
is_memory (Scenario fault) = inr (λ wrong. cc)
is_memory (Watches fault) = inr (λ wrong. cc)
is_memory (Cycle sims) = inr (λ wrong. cc)
is_memory (Launch sim fault) = inr (λ wrong. cc)
is_memory (Setup setup) = inr (λ wrong. cc)
is_memory (Record line fault) = inr (λ wrong. cc)
is_memory (Wrong sim place cause) = inr (λ wrong. cc)
is_memory (Failed sim text) = inr (λ wrong. cc)
is_memory (LoopLimit sim time) = inr (λ wrong. cc)
is_memory (Link sim fault) = inr (λ wrong. cc)
is_memory (Short outstanding) = inr (λ wrong. cc)
is_memory (Differs entry) = inr (λ wrong. cc)
is_memory (OtherPlan part) = inr (λ wrong. cc)
is_memory (OtherMessage sim place) = inr (λ wrong. cc)
is_memory (Late sim time late allowed) = inr (λ wrong. cc)
is_memory Fleet = inr (λ wrong. cc)
is_memory Folder = inr (λ wrong. cc)
is_memory Output = inr (λ wrong. cc)
is_memory (Entries entries) = inr (λ wrong. cc)
is_memory (LongItem sim length) = inr (λ wrong. cc)
is_memory Mem = inl refl

-- want of memory has the status 8, and is an answer besides each
pub memory : (wanted : ℕ) (e : Ending) → e ≡ Mem → IsStatusOr wanted (status_of e)
memory wanted e mem = inr (inr (ap status_of mem))

pub cut_status : (out : OutputSeen) (wanted : ℕ) (e : Ending) → IsCutBy out e → IsStatusOr wanted (status_of e)
cut_status out wanted e (inl failed) = inr (inl (ap status_of failed.0))
cut_status out wanted e (inr short) = memory wanted e short.0

-- words that ask for nothing are said to, but for want of memory
unasked_status : (words : List (List ℕ)) (e : Ending) → IsUnasked words e → IsStatusOr 2 (status_of e)
unasked_status words e (inl mem) = memory 2 e mem
unasked_status words e (inr usage) = inl (ap status_of usage.0)

pub unasked_not : (words : List (List ℕ)) (e : Ending) → IsUnasked words e → (wanted : ℕ) → (R : Request) → IsAsked words R → IsStatusOr wanted (status_of e)
unasked_not words e (inl mem) wanted R asked = memory wanted e mem
unasked_not words e (inr usage) wanted R asked = absurd (usage.1 R asked)

-- the status of a file that isn't read isn't that of words
unread_not_two : (files : Option Files) (name : List ℕ) (risen : Type 0) (e : Ending) → IsUnreadable files name risen e → e ≡ Usage → ⊥
unread_not_two files name risen e (inl mem) usage = cc
unread_not_two files name risen e (inr (inl failed)) usage = let f = failed.0 in cc
unread_not_two files name risen e (inr (inr (inl missing))) usage = let f = missing.0 in cc
unread_not_two files name risen e (inr (inr (inr long))) usage = let f = long.1 in cc

cut_not_two : (out : OutputSeen) (e : Ending) → IsCutBy out e → e ≡ Usage → ⊥
cut_not_two out e (inl failed) usage = let f = failed.0 in cc
cut_not_two out e (inr short) usage = let f = short.0 in cc

misused_two : (words : List (List ℕ)) (e : Ending) → IsUnasked words e → e ≡ Usage → (R : Request) → IsAsked words R → ⊥
misused_two words e (inl mem) usage R asked = let wrong : Mem ≡ Usage = sym mem ∙ usage in cc
misused_two words e (inr none) usage R asked = none.1 R asked

answer_not_usage : (folder : FolderSeen) (out : OutputSeen) (name : Option (List ℕ)) (text : Result (List ℕ) Ending) (kept : Option (List ℕ)) (e : Ending) → RunAnswer folder out name text kept (Err e) → (text ≡ Err Usage → ⊥) → e ≡ Usage → ⊥
answer_not_usage folder out name (Ok text) kept e (inl unsaved) not usage = as_not_usage Folder e unsaved.2 (λ wrong. cc) usage
answer_not_usage folder out name (Ok text) kept e (inr cut) not usage = cut_not_two out e cut.2 usage
answer_not_usage folder out name (Err why) kept e said not usage = as_not_usage why e said.1 (λ (w : why ≡ Usage). not (ap Err w)) usage

print_not_usage : (out : OutputSeen) (text : Result (List ℕ) Ending) (e : Ending) → PrintAnswer out text (Err e) → (text ≡ Err Usage → ⊥) → e ≡ Usage → ⊥
print_not_usage out (Ok text) e cut not usage = cut_not_two out e cut.1 usage
print_not_usage out (Err why) e said not usage = as_not_usage why e said.1 (λ (w : why ≡ Usage). not (ap Err w)) usage

save_not_usage : (folder : FolderSeen) (name : List ℕ) (text : Result (List ℕ) Ending) (e : Ending) → SaveAnswer folder name text (Err e) → (text ≡ Err Usage → ⊥) → e ≡ Usage → ⊥
save_not_usage folder name (Ok text) e unsaved not usage = elim unsaved.1 [ inl failed ↦ (let f = failed.0 in cc) | inr mem ↦ cc ]
save_not_usage folder name (Err why) e said not usage = as_not_usage why e said.1 (λ (w : why ≡ Usage). not (ap Err w)) usage

text_not_usage : (S : Around) (target : Option (List ℕ)) (text : Result (List ℕ) Ending) (e : Ending) → TextAnswer S target text (Err e) → (text ≡ Err Usage → ⊥) → e ≡ Usage → ⊥
text_not_usage S None text e said not usage = print_not_usage S.output text e said.0 not usage
text_not_usage S (Some name) text e said not usage = save_not_usage S.folder name text e said.0 not usage

performed_not_usage : (S : Around) (e : Ending) → HasPerformed S (Err e) → e ≡ Usage → ⊥
performed_not_usage S e (inl made) usage = text_not_usage S (target_of made.command) made.text e made.ended
    (λ w. (row_of S.outside.kinds S.rules made.command).never made.made.read (subst (IsOutcomeOf S.outside.kinds S.rules made.command made.made.read) w made.made.made)) usage
performed_not_usage S e (inr ran) usage = answer_not_usage S.folder S.output (saved_name ran.request) ran.run.text ran.run.kept e ran.run.ended ((row_over S.outside ran.request).never ran.run.read ran.run.text ran.run.kept ran.run.outcome) usage

-- the status 2 comes only where the words ask for nothing
pub usage_only : (S : Around) (r : Result (Unit {0}) Ending) → EndedAs S r → status r ≡ 2 → (R : Request) → IsAsked S.words R → ⊥
usage_only S (Ok done) ended two R asked = absurd (omega (arith, two))
usage_only S (Err e) (inl misused) two R asked = misused_two S.words e misused.cause (only_usage e two) R asked
usage_only S (Err e) (inr (inl unread)) two R asked = unread_not_two _ _ _ e unread.stuck.cause (only_usage e two)
usage_only S (Err e) (inr (inr done)) two R asked = performed_not_usage S e done (only_usage e two)

-- what was performed was asked for
performed_asked : (S : Around) (r : Result (Unit {0}) Ending) → HasPerformed S r → (R : Request) × IsAsked S.words R
performed_asked S r (inl made) = (Reads made.command, made.asked)
performed_asked S r (inr ran) = (ran.request, ran.asked)

-- and there it comes, but for want of memory
pub useless_words : (S : Around) (r : Result (Unit {0}) Ending) → EndedAs S r → ((R : Request) → IsAsked S.words R → ⊥) → IsStatusOr 2 (status r)
useless_words S (Ok done) performed none = let asked = performed_asked S (Ok done) performed in absurd (none asked.0 asked.1)
useless_words S (Err e) (inl misused) none = unasked_status S.words e misused.cause
useless_words S (Err e) (inr (inl unread)) none = absurd (none unread.request unread.asked)
useless_words S (Err e) (inr (inr performed)) none = let asked = performed_asked S (Err e) performed in absurd (none asked.0 asked.1)

-- all files but that of the record are as before
folder_after_keeps : (words : List (List ℕ)) (R : Request) (name kept : Option (List ℕ)) (old new : Option Files) → IsAsked words R → saved_name R ≡ name → IsFolderAfter name kept old new → KeepsOthers words old new
folder_after_keeps words R (Some name) (Some bytes) old new asked is saved = inr (name, bytes, (R, asked, is), saved)
folder_after_keeps words R (Some name) None old new asked is same = inl same
folder_after_keeps words R None kept old new asked is same = inl same

run_keeps : (S : Around) (R : Request) (name : Option (List ℕ)) (text : Result (List ℕ) Ending) (kept : Option (List ℕ)) (answer : Result (Unit {0}) Ending) → IsAsked S.words R → saved_name R ≡ name → RunAnswer S.folder S.output name text kept answer → KeepsOthers S.words S.folder.files S.folder.files_after
run_keeps S R name (Ok text) kept (Ok done) asked is said = folder_after_keeps S.words R name kept _ _ asked is said.1
run_keeps S R name (Err why) kept (Ok done) asked is said = absurd said
run_keeps S R name (Ok text) kept (Err e) asked is (inl unsaved) = inl unsaved.1.0
run_keeps S R name (Ok text) kept (Err e) asked is (inr cut) = folder_after_keeps S.words R name kept _ _ asked is cut.1
run_keeps S R name (Err why) kept (Err e) asked is said = elim said.2 [ inl saved ↦ folder_after_keeps S.words R name kept _ _ asked is saved | inr unsaved ↦ inl unsaved.0 ]

made_keeps : (S : Around) (command : FileCommand) (target : Option (List ℕ)) (text : Result (List ℕ) Ending) (answer : Result (Unit {0}) Ending) → IsAsked S.words (Reads command) → target_of command ≡ target → TextAnswer S target text answer → KeepsOthers S.words S.folder.files S.folder.files_after
made_keeps S command None text answer asked is said = inl said.1
made_keeps S command (Some name) (Ok text) (Ok done) asked is said = inr (name, text, (Reads command, asked, is), said.0)
made_keeps S command (Some name) (Err why) (Ok done) asked is said = absurd said.0
made_keeps S command (Some name) (Ok text) (Err e) asked is said = inl said.0.0
made_keeps S command (Some name) (Err why) (Err e) asked is said = inl said.0.0

performed_keeps : (S : Around) (r : Result (Unit {0}) Ending) → HasPerformed S r → KeepsOthers S.words S.folder.files S.folder.files_after
performed_keeps S r (inl made) = made_keeps S made.command (target_of made.command) made.text r made.asked refl made.ended
performed_keeps S r (inr ran) = run_keeps S ran.request (saved_name ran.request) ran.run.text ran.run.kept r ran.asked refl ran.run.ended

pub keeps_others : (S : Around) (r : Result (Unit {0}) Ending) → EndedAs S r → KeepsOthers S.words S.folder.files S.folder.files_after
keeps_others S (Ok done) performed = performed_keeps S (Ok done) performed
keeps_others S (Err e) (inl misused) = inl misused.untouched.unsaved
keeps_others S (Err e) (inr (inl unread)) = inl unread.untouched.unsaved
keeps_others S (Err e) (inr (inr performed)) = performed_keeps S (Err e) performed
