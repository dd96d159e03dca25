-- From the calls that send what waits to what they come to.
use Rattle.std.proofs.Common.{◌≡◌, inl, inr, ℕ, ◌+◌, ◌<◌, ◌≤◌, Bool, true, false, not, is_some, true≢false, List, [], ◌∷◌, ◌++◌, Option, Some, None, Result, Ok, Err, OnOk, OnErr, IfErr, slice_get, refl, sym, ap, ◌∙◌, subst, arith}
use Rattle.std.specs.Bool.{⊤}
use Rattle.mk_base.proofs.Lists.{get_is, none_some, some_same}
use Rattle.mk_plan.specs.declared.Item.{Item}
use Rattle.mk_outside.specs.declared.fleet.LogEntry.{LogEntry}
use Rattle.mk_sched.specs.Cores.{CoreState}
use Rattle.mk_run_local.specs.Laws.{RepliesAreKinds}
use Rattle.mk_run_crew.specs.Seen.{CrewSeen, crew_of}
use Rattle.mk_run_crew.specs.Calls.{SendsAs}
use Rattle.mk_run.specs.declared.outcome.Outcome.{Outcome}
use Rattle.mk_run.specs.declared.outcome.Outcome.TheVariants as outcome
use Rattle.mk_run.specs.inner.Sendings.{CanTake, IsItemAt, IsUnsent}
use Rattle.mk_run.specs.inner.Underway.{Setting}
use Rattle.mk_pace_held.specs.declared.held.Due.{Due}
use Rattle.mk_pace_held.specs.declared.held.First.{First}
use Rattle.mk_pace_held.specs.declared.held.Held.{Held}
use Rattle.mk_pace_held.specs.Firsts.{IsChanged, IsFirst, IsNoLater, first_at}
use Rattle.mk_pace_laws.specs.declared.end.Moment.{Moment}
use Rattle.mk_pace_laws.specs.declared.end.PaceEnd.{PaceEnd}
use Rattle.mk_pace_laws.specs.declared.end.PaceEnd.TheVariants as pace
use Rattle.mk_pace_laws.specs.Moments.{Tempo, timing}
use Rattle.mk_pace_loop.specs.inner.Pacing.{BeginsWithStep, IsPacingBut}
use Rattle.mk_pace_loop.specs.inner.PacedOut.{HasPacedOut}
use Rattle.mk_pace_loop.specs.inner.Sendings.{GoesOnBut, SendsBehindAs, SendsFirstAs, SendsNextAs, SendsStepAs}
use Rattle.mk_pace_loop.specs.inner.Turns.{GoesOn, HasJustTold, IsStopping, SendsDueAs}
use Rattle.mk_pace_loop.specs.inner.Waiting.{IsHeldAnew, IsOnTempo, IsTooLate, WaitingSeen, waiting_seen, timing_of}
use Rattle.mk_pace_loop.proofs.Following.{follower_sent, follower_taken, follower_unsent, mem_ends}
use Rattle.mk_pace_loop.proofs.HeldFirst.{all_again, but_one}
use Rattle.mk_pace_loop.proofs.StepSent.{late_ends, step_sent}
use Rattle.mk_base.proofs.Items.{same_heads}

-- what stands of tempo, bound and moments stands of others that are the same
same_of : (F : Tempo → Option ℕ → List Moment → Type 0) (W V : WaitingSeen) (moments : List Moment) → IsOnTempo W V → V.moments ≡ moments → F W.tempo W.strict moments → F V.tempo V.strict V.moments
same_of F W V moments same noted x =
    subst (λ (t : Tempo). F t V.strict V.moments) (sym same.tempo) (subst (λ (b : Option ℕ). F W.tempo b V.moments) (sym same.strict) (subst (F W.tempo W.strict) (sym noted) x))

-- ---- what waits first of a simulator

no_due : (o : Option Due) (b : Bool) → is_some o ≡ not b → b ≡ true → o ≡ None
no_due None b e is = refl
no_due (Some d) b e is = absurd (true≢false (e ∙ ap not is))

some_due : (o : Option Due) (b : Bool) → is_some o ≡ not b → b ≡ false → (d : Due) × (o ≡ Some d)
some_due None b e is = absurd (true≢false (sym (e ∙ ap not is)))
some_due (Some d) b e is = (d, refl)

-- it is no Step
pub behind_next : (holds : List (List Held)) (s : ℕ) (held : Held) (b : Bool) → ((q : List Held) × (slice_get holds s ≡ Some q) × (Some held ≡ slice_get q 0)) → is_some held.due ≡ not b → b ≡ true → (h : Held) × (q : List Held) × (slice_get holds s ≡ Some (h ∷ q)) × (h.due ≡ None)
behind_next holds s held b front test is = go front.0 front.1 front.2
  where
    go : (q : List Held) → slice_get holds s ≡ Some q → Some held ≡ slice_get q 0 → (h : Held) × (q : List Held) × (slice_get holds s ≡ Some (h ∷ q)) × (h.due ≡ None)
    go [] there first = absurd (none_some (sym first))
    go (x ∷ q) there first = (x, q, there, ap (λ (h : Held). h.due) (sym (some_same first)) ∙ no_due held.due b test is)

-- and that is the one that is taken
pub next_late : (holds : List (List Held)) (s : ℕ) (held : Held) (q : List Held) → ((h : Held) × (q : List Held) × (slice_get holds s ≡ Some (h ∷ q)) × (h.due ≡ None)) → slice_get holds s ≡ Some (held ∷ q) → held.due ≡ None
next_late holds s held q next there = ap (λ (h : Held). h.due) (same_heads (some_same (sym there ∙ next.2))).0 ∙ next.3

-- it is one
pub behind_none : (holds : List (List Held)) (s : ℕ) (held : Held) (b : Bool) → ((q : List Held) × (slice_get holds s ≡ Some q) × (Some held ≡ slice_get q 0)) → is_some held.due ≡ not b → b ≡ false → (q : List Held) × (slice_get holds s ≡ Some q) × BeginsWithStep q
behind_none holds s held b front test is = go front.0 front.1 front.2
  where
    go : (q : List Held) → slice_get holds s ≡ Some q → Some held ≡ slice_get q 0 → (q : List Held) × (slice_get holds s ≡ Some q) × BeginsWithStep q
    go [] there first = absurd (none_some (sym first))
    go (x ∷ q) there first = let d = some_due held.due b test is in (x ∷ q, there, (d.0, ap (λ (h : Held). h.due) (sym (some_same first)) ∙ d.1))

-- ---- what stands right behind a Step

module _ (core : CoreState) (C : CrewSeen) (W : WaitingSeen) (s : ℕ) (h : Held) (q : List Held) (V : WaitingSeen) (anew : IsHeldAnew s (h ∷ q) q W V) where
  -- the crew takes what was taken of what waits
  pub next_taken : (S : Setting) (log : List LogEntry) → GoesOnBut s S core log C W → (item : Item) × IsItemAt core.entries h.place item × CanTake s item h.id C
  next_taken S log p = follower_taken S W.tempo W.strict core.plan core.entries log C W.holds W.moments s (subst (λ (n : ℕ). s < n) p.count (get_is W.holds s (h ∷ q) anew.changed.there).0) h q p anew.changed.there

  pub next_so : (D : CrewSeen) (r : Result (Unit {0}) Outcome) → h.due ≡ None → RepliesAreKinds → OnOk r ((item : Item) → IsItemAt core.entries h.place item → SendsAs s item h.id C D)
      → IfErr r (λ end. (item : Item) → IsItemAt core.entries h.place item → IsUnsent end s item C) → OnErr r (D ≡ C) → SendsNextAs r s core C W D V
  next_so D (Ok done) late law sent unsent same = λ S log p.
      same_of (λ t b m. IsPacingBut s S core.plan core.entries log (crew_of D) D.sims (waiting_seen t b V.holds m)) W V W.moments anew.same anew.moments
      (follower_sent S W.tempo W.strict core.plan core.entries log C W.holds W.moments s (subst (λ (n : ℕ). s < n) p.count (get_is W.holds s (h ∷ q) anew.changed.there).0) h q p anew.changed.there late law D sent V.holds anew.changed)
  next_so D (Err end) late law sent unsent same = λ S log p.
      same_of (λ t b m. HasPacedOut ⊥ S (timing t b m) core.plan core.entries log (crew_of D) (pace.Outcome end)) W V W.moments anew.same anew.moments
      (subst (λ (E : CrewSeen). HasPacedOut ⊥ S (timing_of W) core.plan core.entries log (crew_of E) (pace.Outcome end)) (sym same)
      (follower_unsent S W.tempo W.strict core.plan core.entries log C W.holds W.moments s (subst (λ (n : ℕ). s < n) p.count (get_is W.holds s (h ∷ q) anew.changed.there).0) h q p anew.changed.there end unsent))

-- nothing stands there any more
pub behind_done : (core : CoreState) (C D : CrewSeen) (W V : WaitingSeen) (s : ℕ) → ((S : Setting) (log : List LogEntry) → GoesOnBut s S core log C W → GoesOnBut s S core log D V) → (q : List Held) → slice_get V.holds s ≡ Some q → BeginsWithStep q
    → SendsBehindAs (Ok tt) s core C W D V
behind_done core C D W V s goes q there step = λ S log p. all_again s S V.tempo V.strict core.plan core.entries log (crew_of D) D.sims V.holds V.moments q there step (goes S log p)

pub behind_not : (core : CoreState) (C D E : CrewSeen) (W V X : WaitingSeen) (s : ℕ) (end : Outcome) → ((S : Setting) (log : List LogEntry) → GoesOnBut s S core log C W → GoesOnBut s S core log D V) → SendsNextAs (Err end) s core D V E X
    → SendsBehindAs (Err end) s core C W E X
behind_not core C D E W V X s end goes next = λ S log p. next S log (goes S log p)

-- ---- a Step

pub step_for_memory : (core : CoreState) (C : CrewSeen) (W V : WaitingSeen) (s told : ℕ) → V ≡ W → SendsStepAs (Err outcome.Mem) s told core C W C V
step_for_memory core C W V s told same = λ S log p just.
    subst (λ (X : WaitingSeen). IsStopping ⊥ S core log C X (pace.Outcome outcome.Mem)) (sym same) (mem_ends (λ i. ⊤) S W.tempo W.strict core.plan core.entries log C W.holds W.moments p)

-- its moment was noted, and it was taken of what waits
pub record IsStepTaken (f : First) (told : ℕ) (W : WaitingSeen) (h : Held) (q : List Held) (V : WaitingSeen) : Type 0 where
  pub changed : IsChanged f.sim.0 (h ∷ q) q W.holds V.holds
  pub moments : V.moments ≡ W.moments ++ record { sim = f.sim; at = f.due.at; moment = f.due.moment; told = told } ∷ []
  pub same : IsOnTempo W V

pub step_taken : (f : First) (told : ℕ) (W M V : WaitingSeen) (h : Held) (q : List Held) → (M.moments ≡ W.moments ++ record { sim = f.sim; at = f.due.at; moment = f.due.moment; told = told } ∷ []) × (M.holds ≡ W.holds) × IsOnTempo W M → IsHeldAnew f.sim.0 (h ∷ q) q M V → IsStepTaken f told W h q V
step_taken f told W M V h q noted anew = record {
  changed = subst (λ (l : List (List Held)). IsChanged f.sim.0 (h ∷ q) q l V.holds) noted.1 anew.changed;
  moments = anew.moments ∙ noted.0;
  same = record { tempo = anew.same.tempo ∙ noted.2.tempo; strict = anew.same.strict ∙ noted.2.strict };
}

module _ (core : CoreState) (C : CrewSeen) (W : WaitingSeen) (f : First) (told : ℕ) (h : Held) (q : List Held) (V : WaitingSeen) (first : IsFirst f W.holds) (t : IsStepTaken f told W h q V) where
  abbrev s : ℕ
  s = f.sim.0

  pub step_can : (S : Setting) (log : List LogEntry) → GoesOn S core log C W → (item : Item) × IsItemAt core.entries h.place item × CanTake s item h.id C
  step_can S log p = follower_taken S W.tempo W.strict core.plan core.entries log C W.holds W.moments s (subst (λ (n : ℕ). s < n) p.count (get_is W.holds s (h ∷ q) t.changed.there).0) h q
      (but_one s S W.tempo W.strict core.plan core.entries log (crew_of C) C.sims W.holds W.moments p) t.changed.there

  pub step_so : (D : CrewSeen) → f.due.moment ≤ told → ((allowed : ℕ) → W.strict ≡ Some allowed → told ≤ f.due.moment + allowed) → RepliesAreKinds → ((item : Item) → IsItemAt core.entries h.place item → SendsAs s item h.id C D) → SendsStepAs (Ok tt) s told core C W D V
  step_so D due in_time law sent = λ S log p just.
      same_of (λ k b m. IsPacingBut s S core.plan core.entries log (crew_of D) D.sims (waiting_seen k b V.holds m)) W V (W.moments ++ record { sim = f.sim; at = f.due.at; moment = f.due.moment; told = told } ∷ []) t.same t.moments
      (step_sent S W.tempo W.strict core.plan core.entries log C W.holds W.moments p f first h q V.holds t.changed told due in_time just law D sent)

  -- it wasn't sent, and its moment was taken back
  pub step_not : (D : CrewSeen) (X : WaitingSeen) (end : Outcome) → ((item : Item) → IsItemAt core.entries h.place item → IsUnsent end s item C) → D ≡ C → ((moments : List Moment) (m : Moment) → V.moments ≡ moments ++ m ∷ [] → X.moments ≡ moments) → IsOnTempo V X
      → SendsStepAs (Err end) s told core C W D X
  step_not D X end unsent same popped on = λ S log p just.
      same_of (λ k b m. HasPacedOut ⊥ S (timing k b m) core.plan core.entries log (crew_of D) (pace.Outcome end)) W X W.moments (record { tempo = on.tempo ∙ t.same.tempo; strict = on.strict ∙ t.same.strict })
      (popped W.moments (record { sim = f.sim; at = f.due.at; moment = f.due.moment; told = told }) t.moments)
      (subst (λ (E : CrewSeen). HasPacedOut ⊥ S (timing_of W) core.plan core.entries log (crew_of E) (pace.Outcome end)) (sym same)
      (follower_unsent S W.tempo W.strict core.plan core.entries log C W.holds W.moments s (subst (λ (n : ℕ). s < n) p.count (get_is W.holds s (h ∷ q) t.changed.there).0) h q
      (but_one s S W.tempo W.strict core.plan core.entries log (crew_of C) C.sims W.holds W.moments p) t.changed.there end unsent))

-- ---- a Step and what stands behind it

pub first_so : (core : CoreState) (C D E : CrewSeen) (W V X : WaitingSeen) (s told : ℕ) (r : Result (Unit {0}) Outcome) → SendsStepAs (Ok tt) s told core C W D V → SendsBehindAs r s core D V E X → SendsFirstAs r told core C W E X
first_so core C D E W V X s told (Ok done) step behind = λ S log p just. behind S log (step S log p just)
first_so core C D E W V X s told (Err end) step behind = λ S log p just. behind S log (step S log p just)

-- ---- all that is due

-- so far the run goes on
abbrev pub HasSent : ℕ → CoreState → CrewSeen → WaitingSeen → CrewSeen → WaitingSeen → Type 0
HasSent told core C W D V = (S : Setting) (log : List LogEntry) → GoesOn S core log C W → HasJustTold told log → GoesOn S core log D V

pub due_more : (core : CoreState) (C D E : CrewSeen) (W V X : WaitingSeen) (told : ℕ) → HasSent told core C W D V → SendsFirstAs (Ok tt) told core D V E X → HasSent told core C W E X
due_more core C D E W V X told goes first S log p just = first S log (goes S log p just) just

pub due_not : (core : CoreState) (C D E : CrewSeen) (W V X : WaitingSeen) (told : ℕ) (end : Outcome) → HasSent told core C W D V → SendsFirstAs (Err end) told core D V E X → SendsDueAs (Err (pace.Outcome end)) told core C W E X
due_not core C D E W V X told end goes first = λ S log p just. first S log (goes S log p just) just

-- the first is too late
pub due_late : (core : CoreState) (C D : CrewSeen) (W V : WaitingSeen) (told : ℕ) (f : First) (end : PaceEnd) → HasSent told core C W D V → IsFirst f V.holds → IsTooLate f told V end → SendsDueAs (Err end) told core C W D V
due_late core C D W V told f end goes first late = λ S log p just.
    subst (λ (e : PaceEnd). HasPacedOut ⊥ S (timing_of V) core.plan core.entries log (crew_of D) e) (sym late.is)
    (late_ends S V.tempo V.strict core.plan core.entries log D V.holds V.moments (goes S log p just) f first told late.late late.allowed late.strict late.told_is late.beyond just)
