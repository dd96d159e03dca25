-- When a resumed run begins each simulator is due its first item, one after another.
use Rattle.std.proofs.Common.{◌≡◌, inl, inr, ℕ, zero, suc, ◌+◌, ◌<◌, nat_lt, Bool, true, false, List, [], ◌∷◌, length, get_or, slice_get, Option, Some, option_map, unwrap_or, Ok, Err, if◌then◌else◌, refl, sym, ap, ◌∙◌, subst, arith}
use Rattle.std.proofs.lemmas.Bool.{lt-ltb, ltb-true}
use Rattle.mk_base.specs.Lists.{BeginsWith}
use Rattle.mk_base.proofs.Lists.{append_nil, get_is}
use Rattle.mk_plan.specs.declared.Plan.{Plan}
use Rattle.mk_plan.specs.declared.PlanSim.{PlanSim}
use Rattle.mk_plan.specs.declared.Item.{Item}
use Rattle.mk_plan.specs.declared.Message.{Message}
use Rattle.mk_plan.specs.declared.Entry.{Entry}
use Rattle.mk_plan.specs.declared.Entry.TheVariants.{Got}
use Rattle.mk_plan.specs.Plans.{first_id, sim_count}
use Rattle.mk_plan.specs.Sequential.{id_after}
use Rattle.mk_outside.specs.declared.fleet.LogEntry.{LogEntry}
use Rattle.mk_sched.specs.Cores.{CoreState}
use Rattle.mk_run_laws.specs.Handshake.{is_within}
use Rattle.mk_run_crew.specs.Seen.{CrewSeen, crew_of}
use Rattle.mk_run.specs.inner.Underway.{Setting, put, reply_in}
use Rattle.mk_run.proofs.Linked.{within_below}
use Rattle.mk_resume_walk.specs.Talks.{free_items}
use Rattle.mk_resume_walk.proofs.GoingOn.{walk_laws}
use Rattle.mk_resume_links.specs.inner.Catching.{awaited}
use Rattle.mk_resume_links.specs.inner.Touching.{RestsOver}
use Rattle.mk_resume_loop.specs.declared.behind.Standing.{Standing}
use Rattle.mk_resume_loop.specs.declared.ending.ResumeEnd.{ResumeEnd}
use Rattle.mk_resume_loop.specs.inner.Turns.{BeginsAs, IsDue, IsSized, PassesAs, Walk}
use Rattle.mk_resume_loop.specs.inner.Underway.{BehindSeen, IsPassed, IsResuming, IsResumingWith, StandsAt, course_of, saved_of}
use Rattle.mk_resume_loop.proofs.Beginning.{first_above, first_below, first_here, first_more, first_of}
use Rattle.mk_resume_loop.proofs.Passing.{awaited_outside, resuming_as}
use Rattle.mk_base.proofs.Counts.{same_or_not}
use Rattle.mk_base.proofs.Items.{not_empty}
use Rattle.mk_base.proofs.Bools.{true_or_false}

front_of : {X : Type 0} (k : ℕ) (f : ℕ → List X) (i : ℕ) → BeginsWith (f i) (first_of k f i)
front_of k f i = elim (nat_lt i k) as (λ b. BeginsWith (f i) (if b then f i else [])) [ true ↦ ([], sym (append_nil (f i))) | false ↦ (f i, refl) ]

module _ (T : Setting) (core : CoreState) (log : List LogEntry) (over : RestsOver (saved_of core.entries) T.started T.scenario T.replies core.plan core.entries log) where
  abbrev J : List Entry
  J = core.entries

  abbrev free : ℕ → List Item
  free i = free_items J i 0

  abbrev awaits : ℕ → List Message
  awaits = awaited T.scenario (reply_in T) J (λ i. 0)

  -- the first k simulators were sent their first items
  abbrev pub HaveFirst : ℕ → CrewSeen → Type 0
  HaveFirst k C = IsResumingWith (course_of T J (λ i. 0) (first_of k free) (first_of k awaits) log) core.plan J (crew_of C) C.sims

  abbrev pub walk : ℕ → Walk
  walk k = record { course = course_of T J (λ i. 0) (first_of k free) (first_of k awaits) log; from = 0 }

  pub first_due : (k : ℕ) (C : CrewSeen) → HaveFirst k C → IsDue (walk k) core C k 0 (first_id core.plan k)
  first_due k C u = record {
    resuming = u;
    passing = record {
      gone = (walk_laws.begins J k).0;
      was_sent = (walk_laws.begins J k).1 ∙ sym (first_here k free);
      answered = ap length (first_here k free);
      none = first_here k awaits;
      firsts = front_of k free;
      over = λ inside. over;
    };
    counted = refl;
    numbered = (let e : first_id core.plan k ≡ first_id core.plan k + 0 = omega arith in e) ∙ ap (id_after (first_id core.plan k)) (sym (first_here k free));
    fit = λ inside H t m is own. absurd (not_empty H [] (Got t m) is);
  }

  -- one more was
  pub first_passed : (k : ℕ) (D : CrewSeen) → IsPassed (course_of T J (λ i. 0) (first_of k free) (first_of k awaits) log) core.plan J k D → HaveFirst (k + 1) D
  first_passed k D passed = resuming_as (put (first_of k free) k (free k)) (first_of (k + 1) free) (put (first_of k awaits) k (awaits k)) (first_of (k + 1) awaits) T core.plan J J (λ i. 0) log (crew_of D) D.sims
      (λ i low. first_more k free i) (first_more k awaits) passed

  -- all were
  pub first_all : (D : CrewSeen) → HaveFirst (sim_count core.plan) D → ((i : ℕ) → (i < sim_count core.plan → ⊥) → awaits i ≡ []) → IsResuming T core.plan J J (λ i. 0) log (crew_of D) D.sims
  first_all D u none = resuming_as (first_of n free) free (first_of n awaits) awaits T core.plan J J (λ i. 0) log (crew_of D) D.sims (λ i low. first_below n free i low) all u
    where
      n : ℕ
      n = sim_count core.plan

      all : (i : ℕ) → first_of n awaits i ≡ awaits i
      all i = go (nat_lt i n) refl
        where
          go : (b : Bool) → nat_lt i n ≡ b → first_of n awaits i ≡ awaits i
          go true e = first_below n awaits i (ltb-true i n e)
          go false e = first_above n awaits i (high e) ∙ sym (none i (high e))
            where
              high : nat_lt i n ≡ false → i < n → ⊥
              high e low = bad (sym e ∙ lt-ltb i n low)
                where
                  bad : false ≡ true → ⊥
                  bad q = cc

-- ---- one simulator after another

-- nothing was sent behind the handshake
abbrev pub IsStarting : Setting → CoreState → List LogEntry → CrewSeen → Type 0
IsStarting T core log C = IsResumingWith (course_of T core.entries (λ i. 0) (λ i. []) (λ i. []) log) core.plan core.entries (crew_of C) C.sims

-- after each rest the journal got a message of a link next
abbrev pub IsOver : Setting → CoreState → List LogEntry → Type 0
IsOver T core log = RestsOver (saved_of core.entries) T.started T.scenario T.replies core.plan core.entries log

-- the first k simulators were sent their first items, and each of them stands where it is said
abbrev pub HaveBegun : CoreState → CrewSeen → ℕ → CrewSeen → BehindSeen → Type 0
HaveBegun core C k D B = (T : Setting) (log : List LogEntry) → IsStarting T core log C → (over : IsOver T core log) → HaveFirst T core log over k D
    × ((i : ℕ) (o : Option Standing) → i < k → slice_get B.sims i ≡ Some o → StandsAt core.plan core.entries i 0 o)

pub none_begun : (core : CoreState) (C : CrewSeen) (B : BehindSeen) → HaveBegun core C 0 C B
none_begun core C B T log starting over = (
  resuming_as (λ i. []) (first_of 0 (λ i. free_items core.entries i 0)) (λ i. []) (first_of 0 (awaited T.scenario (reply_in T) core.entries (λ i. 0))) T core.plan core.entries core.entries (λ i. 0) log (crew_of C) C.sims
      (λ i low. sym (first_above 0 (λ i. free_items core.entries i 0) i (not_under i))) (λ i. sym (first_above 0 (awaited T.scenario (reply_in T) core.entries (λ i. 0)) i (not_under i))) starting,
  (λ i o low is. absurd (not_under i low)),
)
  where
    not_under : (i : ℕ) → i < 0 → ⊥
    not_under i low = omega (arith, low)

module _ (core : CoreState) (C D : CrewSeen) (B : BehindSeen) (k : ℕ) (so_far : HaveBegun core C k D B) where
  -- the next one is due its first item
  pub due_first : (T : Setting) (log : List LogEntry) → IsStarting T core log C → IsOver T core log → (R : Walk) × IsDue R core D k 0 (first_id core.plan k)
  due_first T log starting over = (walk T core log over k, first_due T core log over k D (so_far T log starting over).0)

  -- it was sent it
  pub one_begun : (E : CrewSeen) (F : BehindSeen) → PassesAs (Ok tt) core k 0 (first_id core.plan k) D E F → ((i : ℕ) → (i ≡ k → ⊥) → slice_get F.sims i ≡ slice_get B.sims i) → HaveBegun core C (k + 1) E F
  one_begun E F passes others T log starting over = (first_passed T core log over k E p.0, each)
    where
      t : HaveFirst T core log over k D × ((i : ℕ) (o : Option Standing) → i < k → slice_get B.sims i ≡ Some o → StandsAt core.plan core.entries i 0 o)
      t = so_far T log starting over

      p : IsPassed (course_of T core.entries (λ i. 0) (first_of k (λ i. free_items core.entries i 0)) (first_of k (awaited T.scenario (reply_in T) core.entries (λ i. 0))) log) core.plan core.entries k E × ((o : Option Standing) → slice_get F.sims k ≡ Some o → StandsAt core.plan core.entries k 0 o)
      p = passes (walk T core log over k) (first_due T core log over k D t.0)

      each : (i : ℕ) (o : Option Standing) → i < k + 1 → slice_get F.sims i ≡ Some o → StandsAt core.plan core.entries i 0 o
      each i o low is = elim (same_or_not i k) [
        | inl q ↦ subst (λ (j : ℕ). StandsAt core.plan core.entries j 0 o) (sym q) (p.1 o (ap (slice_get F.sims) (sym q) ∙ is))
        | inr apart ↦ t.1 i o (omega (arith, low, apart)) (sym (others i apart) ∙ is)
      ]

  -- or it wasn't, and the run ends
  pub not_begun : (E : CrewSeen) (F : BehindSeen) (end : ResumeEnd) → PassesAs (Err end) core k 0 (first_id core.plan k) D E F → BeginsAs (Err end) core C E F
  not_begun E F end passes T log starting over = ((λ i. 0), passes (walk T core log over k) (first_due T core log over k D (so_far T log starting over).0))

-- all were
pub all_begun : (core : CoreState) (C D : CrewSeen) (B : BehindSeen) (k : ℕ) → k ≡ sim_count core.plan → IsSized core B → HaveBegun core C k D B → BeginsAs (Ok tt) core C D B
all_begun core C D B k all sized so_far T log starting over = (
  first_all T core log over D (subst (λ (n : ℕ). HaveFirst T core log over n D) all t.0) none,
  record {
    indexed = sized.indexed;
    sims = sized.sims;
    each = λ i o is. t.1 i o (subst (λ (n : ℕ). i < n) (sized.sims ∙ sym all) (get_is B.sims i o is).0) is;
  },
)
  where
    t : HaveFirst T core log over k D × ((i : ℕ) (o : Option Standing) → i < k → slice_get B.sims i ≡ Some o → StandsAt core.plan core.entries i 0 o)
    t = so_far T log starting over

    none : (i : ℕ) → (i < sim_count core.plan → ⊥) → awaited T.scenario (reply_in T) core.entries (λ i. 0) i ≡ []
    none i high = elim (true_or_false (is_within T.scenario i)) [
      | inl inside ↦ absurd (high (subst (λ (n : ℕ). i < n) (sym starting.suits.sims) (within_below T.scenario i inside)))
      | inr outside ↦ awaited_outside T.scenario (reply_in T) core.entries (λ i. 0) i outside
    ]

-- the first id of a simulator of the plan
pub id_of_sim : (P : Plan) (i : ℕ) (x : PlanSim) → i < length P.sims → x ≡ get_or P.sims i x → first_id P i ≡ x.first_id
id_of_sim P i x low is = go P.sims i low is
  where
    go : (xs : List PlanSim) (i : ℕ) → i < length xs → x ≡ get_or xs i x → unwrap_or (option_map (λ (s : PlanSim). s.first_id) (slice_get xs i)) 0 ≡ x.first_id
    go [] i low is = absurd (let g : i < 0 = low in omega (arith, g))
    go (y ∷ xs) zero low is = ap (λ (s : PlanSim). s.first_id) (sym is)
    go (y ∷ xs) (suc i) low is = go xs i (let g : suc i < suc (length xs) = low in omega (arith, g)) is
