-- A resumed run begins where the handshake is over and the record's messages were taken; then each
-- simulator is sent its first item.
use Rattle.std.proofs.Common.{All, get_or, ◌≡◌, inl, inr, ℕ, suc, ◌+◌, ◌<◌, nat_lt, Bool, true, false, List, [], ◌∷◌, ◌++◌, length, map, if◌then◌else◌, refl, sym, ap, ◌∙◌, subst, arith}
use Rattle.std.proofs.lemmas.Bool.{lt-ltb, ltb-true}
use Rattle.mk_base.proofs.Lists.{append_nil, filter_map_append}
use Rattle.mk_plan.specs.declared.Plan.{Plan}
use Rattle.mk_plan.specs.declared.Entry.{Entry}
use Rattle.mk_plan.specs.declared.Entry.TheVariants.{Got}
use Rattle.mk_plan.specs.Journals.{Arrival, arrival_of, arrivals}
use Rattle.mk_outside.specs.declared.fleet.LogEntry.{LogEntry}
use Rattle.mk_scenario.specs.declared.parts.Scenario.{Scenario}
use Rattle.mk_launch.specs.Ready.{IsPrepared}
use Rattle.mk_run_crew.specs.Attempts.{attempt}
use Rattle.mk_local.specs.declared.turn.Turn.{Turn}
use Rattle.mk_local.specs.Kinds.{name_of}
use Rattle.mk_record_read.specs.Steps.{IsKnown}
use Rattle.mk_record_restored.specs.Restored.{IsRestored}
use Rattle.mk_run_crew.specs.Begun.{HasBegun}
use Rattle.mk_run_crew.specs.Seen.{CrewSeen, crew_of}
use Rattle.mk_onlooker.specs.Showings.{AreInRange}
use Rattle.mk_run.specs.inner.Underway.{IsUnderway, put, reply_in}
use Rattle.mk_run.proofs.Beginning.{run_begins, setting_of}
use Rattle.mk_resume_links.proofs.Catching.{catching_begun}
use Rattle.mk_run.proofs.Putting.{put_away, put_here}
use Rattle.mk_resume_loop.specs.inner.Underway.{IsResumingWith, course_of, saved_of}
use Rattle.mk_base.proofs.Counts.{same_or_not}

-- ---- what all members of a list are

one_of : {X : Type 0} (A B : List X) (x : X) → get_or (A ++ x ∷ B) (length A) x ≡ x
one_of [] B x = refl
one_of (a ∷ A) B x = one_of A B x

long_enough : {X : Type 0} (A B : List X) (x : X) → length A < length (A ++ x ∷ B)
long_enough [] B x = let e : 0 < suc (length B) = omega arith in e
long_enough (a ∷ A) B x = let low = long_enough A B x in let e : suc (length A) < suc (length (A ++ x ∷ B)) = omega (arith, low) in e

all_there : {X : Type 0} (Q : X → Type 0) (xs A B : List X) (x : X) → xs ≡ A ++ x ∷ B → All Q xs → Q x
all_there Q xs A B x is all = subst Q (one_of A B x) (subst (All Q) is all (length A) x (long_enough A B x))

-- the messages of a record are in range
pub known_in_range : (Q : Plan) (A : List Arrival) (J : List Entry) → arrivals J ≡ A → All (IsKnown Q) A → AreInRange J
known_in_range Q A J given known H s m more is =
    (all_there (IsKnown Q) A (arrivals H) (arrivals more) (record { sim = s.0; message = m })
    (sym given ∙ ap arrivals is ∙ filter_map_append arrival_of H (Got s m ∷ more)) known).in_range

module _ (started : ℕ) (S : Scenario) (ranks : List ℕ) (rows : List Turn) (log : List LogEntry) (C : CrewSeen) (P : Plan) (b : HasBegun (attempt started S ranks rows log) C P) (prepared : IsPrepared S (map name_of rows)) where
  none_yet : IsUnderway (setting_of started S ranks rows log C P b) P [] log (crew_of C) C.sims
  none_yet = run_begins started S ranks rows log C P b prepared

  -- nothing was sent behind the handshake
  pub resuming_begins : (Q : Plan) (A : List Arrival) (J : List Entry) → IsRestored P A J → All (IsKnown Q) A → IsResumingWith (course_of (setting_of started S ranks rows log C P b) J (λ i. 0) (λ i. []) (λ i. []) log) P J (crew_of C) C.sims
  resuming_begins Q A J restored known = record {
    suits = none_yet.suits;
    stands = record { valid = b.valid; orderly = restored.replay.eager.0; agrees = restored.replay.agrees; within = restored.replay.within };
    begins = ([], sym (append_nil J));
    patient = restored.replay.eager.1;
    in_range = known_in_range Q A J restored.given known;
    no_fault = restored.no_fault;
    paid = restored.paid;
    catching = catching_begun (saved_of J) started S b.replies (reply_in (setting_of started S ranks rows log C P b)) P J log (crew_of C) (λ i. refl) b.begun;
    no_other = none_yet.no_other;
    come = none_yet.come;
    only_within = none_yet.only_within;
    log_right = none_yet.log_right;
  }

-- ---- one simulator after another

-- the first k simulators have this, the others nothing
abbrev pub first_of : {X : Type 0} → ℕ → (ℕ → List X) → ℕ → List X
first_of k f i = if nat_lt i k then f i else []

pub first_below : {X : Type 0} (k : ℕ) (f : ℕ → List X) (i : ℕ) → i < k → first_of k f i ≡ f i
first_below k f i low = ap (λ (b : Bool). if b then f i else []) (lt-ltb i k low)

not_below : (i k : ℕ) → (i < k → ⊥) → nat_lt i k ≡ false
not_below i k high = go (nat_lt i k) refl
  where
    go : (b : Bool) → nat_lt i k ≡ b → b ≡ false
    go true e = absurd (high (ltb-true i k e))
    go false e = refl

pub first_above : {X : Type 0} (k : ℕ) (f : ℕ → List X) (i : ℕ) → (i < k → ⊥) → first_of k f i ≡ []
first_above k f i high = ap (λ (b : Bool). if b then f i else []) (not_below i k high)

pub first_here : {X : Type 0} (k : ℕ) (f : ℕ → List X) → first_of k f k ≡ []
first_here k f = first_above k f k (λ low. omega (arith, low))

-- one more has it
pub first_more : {X : Type 0} (k : ℕ) (f : ℕ → List X) (i : ℕ) → put (first_of k f) k (f k) i ≡ first_of (k + 1) f i
first_more k f i = elim (same_or_not i k) [
  | inl q ↦ subst (λ (j : ℕ). put (first_of k f) k (f k) j ≡ first_of (k + 1) f j) (sym q) (put_here (first_of k f) k (f k) ∙ sym (first_below (k + 1) f k (omega arith)))
  | inr apart ↦ put_away (first_of k f) k (f k) i apart ∙ ap (λ (b : Bool). if b then f i else []) (same_test apart)
]
  where
    same_test : (i ≡ k → ⊥) → nat_lt i k ≡ nat_lt i (k + 1)
    same_test apart = go (nat_lt i k) refl
      where
        go : (b : Bool) → nat_lt i k ≡ b → nat_lt i k ≡ nat_lt i (k + 1)
        go true e = e ∙ sym (lt-ltb i (k + 1) (let low = ltb-true i k e in omega (arith, low)))
        go false e = e ∙ sym (not_below i (k + 1) (λ low. below_not e (omega (arith, low, apart))))
          where
            below_not : nat_lt i k ≡ false → i < k → ⊥
            below_not e low = bad (sym e ∙ lt-ltb i k low)
              where
                bad : false ≡ true → ⊥
                bad q = cc
