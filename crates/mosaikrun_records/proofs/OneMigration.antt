-- For proofs alone. One record has one migration.
use Rattle.std.proofs.Common.{◌≡◌, ℕ, List, ◌∷◌, length, None, Result, Ok, Err, sym, ap, ◌∙◌, subst, arith, length-append}
use Rattle.mk_plan.specs.declared.Plan.{Plan}
use Rattle.mk_plan.specs.declared.Entry.{Entry}
use Rattle.mk_plan.specs.Journals.{Arrival, arrivals}
use Rattle.mk_record.specs.Texts.{record_text}
use Rattle.mk_record.specs.Replays.{SomeUngiven}
use Rattle.mk_record.specs.ReplayEnd.{ReplayEnd}
use Rattle.mk_record.specs.ReplayEnd.TheVariants as ends
use Rattle.mosaikrun_records.proofs.OneOutcome as outcome
use Rattle.mosaikrun_endings.specs.declared.ending.Ending.{Ending}
use Rattle.mosaikrun_endings.specs.declared.ending.Ending.TheVariants.{Mem}
use Rattle.mosaikrun_records.specs.Migrations.{HasAllMessages, IsLost, IsRecordOf, IsNoRecordOf, IsMigration, Unmigrated}

-- a message that is left isn't in the journal
left_not : (A : List Arrival) (J : List Entry) → arrivals J ≡ A → SomeUngiven A J → ⊥
left_not A J given left =
    let whole = ap length (given ∙ left.2) in
    let sum = length-append (arrivals J) (left.0 ∷ left.1) in
    omega (arith, whole, sum)

-- what is kept isn't lost
kept_not : (A : List Arrival) (J : List Entry) (end : ReplayEnd) → HasAllMessages A J end → IsLost A J end → ⊥
kept_not A J ends.Done kept lost = absurd lost
kept_not A J (ends.Short n) kept lost = absurd lost
kept_not A J (ends.Core fault) kept lost = left_not A J kept lost
kept_not A J (ends.Other n) kept lost = absurd kept

one_text : (bytes t u : List ℕ) → IsRecordOf bytes t → IsRecordOf bytes u → t ≡ u
one_text bytes t u r q =
    let same = sym r.read ∙ q.read in
    let plan = outcome.same_plan r.plan q.plan r.arrivals q.arrivals r.steps q.steps same in
    let one = outcome.same_end r.plan q.plan r.arrivals q.arrivals r.steps q.steps same None r.journal q.journal r.end q.end r.replayed q.replayed in
    r.written ∙ ap (λ (P : Plan). record_text P r.journal) plan ∙ ap (record_text q.plan) one.0 ∙ sym q.written

not_both : (bytes t : List ℕ) (e : Ending) → IsRecordOf bytes t → IsNoRecordOf bytes e → ⊥
not_both bytes t e r unsaved =
    let q = unsaved.stopped in
    let same = sym r.read ∙ q.read in
    let came = outcome.same_arrivals r.plan q.plan r.arrivals q.arrivals r.steps q.steps same in
    let one = outcome.same_end r.plan q.plan r.arrivals q.arrivals r.steps q.steps same None r.journal q.journal r.end q.end r.replayed q.replayed in
    let a = subst (λ (A : List Arrival). HasAllMessages A r.journal r.end) came r.kept in
    let b = subst (λ (J : List Entry). HasAllMessages q.arrivals J r.end) one.0 a in
    let c = subst (λ (x : ReplayEnd). HasAllMessages q.arrivals q.journal x) one.1 b in
    kept_not q.arrivals q.journal q.end c unsaved.lost

one_stop : (bytes : List ℕ) (e f : Ending) → IsNoRecordOf bytes e → IsNoRecordOf bytes f → e ≡ f
one_stop bytes e f r q = outcome.one_stop bytes None e f r.stopped q.stopped

text_or_ending : (bytes t : List ℕ) (e : Ending) → IsRecordOf bytes t → Unmigrated bytes e → (e ≡ Mem → ⊥) → ⊥
text_or_ending bytes t e r a m = outcome.no_ending bytes e (IsNoRecordOf bytes e) (record { plan = r.plan; arrivals = r.arrivals; steps = r.steps; read = r.read }) (not_both bytes t e r) a m

-- want of memory aside, what comes of one record is one
pub one_migration : (bytes : List ℕ) (o p : Result (List ℕ) Ending) → IsMigration bytes o → IsMigration bytes p → (o ≡ Err Mem → ⊥) → (p ≡ Err Mem → ⊥) → o ≡ p
one_migration bytes (Ok t) (Ok u) a b m n = ap Ok (one_text bytes t u a b)
one_migration bytes (Ok t) (Err f) a b m n = absurd (text_or_ending bytes t f a b (λ mem. n (ap Err mem)))
one_migration bytes (Err e) (Ok u) a b m n = absurd (text_or_ending bytes u e b a (λ mem. m (ap Err mem)))
one_migration bytes (Err e) (Err f) a b m n = ap Err (outcome.one_ending bytes (IsNoRecordOf bytes) (λ g s. outcome.record_stops bytes None g s.stopped) (one_stop bytes) e f a b (λ mem. m (ap Err mem)) (λ mem. n (ap Err mem)))
