-- For proofs alone. What stands of a paced run whenever it is about to ask whoever is ready.
use Rattle.std.specs.Prelude.{◌≡◌, ℕ, ◌+◌, ◌<◌, filter, true, false, List, [], ◌∷◌, ◌++◌, length, Option, Some, None, is_some, slice_get, unwrap_or, ⊤}
use Rattle.mk_base.specs.declared.LinkNo.{LinkNo}
use Rattle.mk_base.specs.declared.SimNo.{SimNo}
use Rattle.mk_plan.specs.declared.Entry.{Entry}
use Rattle.mk_plan.specs.declared.Entry.TheVariants.{Sent}
use Rattle.mk_plan.specs.declared.Item.{Item}
use Rattle.mk_plan.specs.declared.Message.{Message}
use Rattle.mk_plan.specs.declared.Plan.{Plan}
use Rattle.mk_plan.specs.Journals.{view, sent, got}
use Rattle.mk_plan.specs.Plans.{sim_count, first_id}
use Rattle.mk_plan.specs.Report.{is_step}
use Rattle.mk_plan.specs.Sequential.{takes_id, id_after}
use Rattle.mk_outside.specs.declared.fleet.LogEntry.{LogEntry}
use Rattle.mk_outside.specs.declared.fleet.LogEntry.TheVariants.{Rest}
use Rattle.mk_pace_held.specs.declared.held.Due.{Due}
use Rattle.mk_pace_held.specs.declared.held.Held.{Held}
use Rattle.mk_run_laws.specs.Crews.{CrewState, channel_at, kept_of}
use Rattle.mk_run_laws.specs.Handshake.{is_within, sim_link}
use Rattle.mk_run_laws.specs.Kinds.{KeepsToKinds}
use Rattle.mk_run_laws.specs.Rests.{AllSetUp, IsWellInSetup}
use Rattle.mk_run_links.specs.Entries.{AreOnOrOfClock, IsRunLink}
use Rattle.mk_run_laws.specs.inner.Running.{HasChannel, awaited}
use Rattle.mk_local.specs.Replies.{IsItemReplied}
use Rattle.mk_local.specs.Simulators.{Simulator}
use Rattle.mk_sched.specs.Cores.{Stands}
use Rattle.mk_run_local.specs.Laws.{HasCome}
use Rattle.mk_onlooker.specs.Showings.{AreInRange}
use Rattle.mk_sched.specs.inner.Patient.{IsPatient}
use Rattle.mk_run.specs.inner.Underway.{HasNoOther, Setting, Suits, local_at, reply_in}
use Rattle.mk_pace_laws.specs.Moments.{AreMoments, Tempo, moments_of}
use Rattle.mk_pace_laws.specs.Naps.{AreTold, AreNaps, AreAllLinked, IsTimely, NapsLook}
use Rattle.mk_pace_laws.specs.Paced.{IsOrigin}
use Rattle.mk_pace_loop.specs.inner.Waiting.{DueAs, WaitingSeen}

-- at this place the journal has an item to simulator s, which goes with this id behind those before
-- it where it takes one, and which is due so
pub record IsHeldItem (P : Plan) (T : Tempo) (J : List Entry) (s : ℕ) (before : List Item)
    (h : Held) (item : Item) : Type 0 where
  pub sim : SimNo
  pub whose : sim.0 ≡ s
  pub there : slice_get J h.place ≡ Some (Sent sim item)
  pub id : takes_id item ≡ true → h.id ≡ id_after (first_id P s) before
  pub due : DueAs T item h.due

-- what is held of simulator s are these items, behind those that were queued
abbrev pub AreHeldItems : Plan → Tempo → List Entry → ℕ → List Item → List Held → List Item → Type 0
AreHeldItems P T J s before [] [] = ⊤
AreHeldItems P T J s before [] (item ∷ items) = ⊥
AreHeldItems P T J s before (h ∷ held) [] = ⊥
AreHeldItems P T J s before (h ∷ held) (item ∷ items) = IsHeldItem P T J s before h item
    × AreHeldItems P T J s (before ++ item ∷ []) held items

-- nothing is held, or a Step is held first
abbrev pub BeginsWithStep : List Held → Type 0
BeginsWithStep [] = ⊤
BeginsWithStep (h ∷ held) = (d : Due) × (h.due ≡ Some d)

-- of the journal's items to simulator s these were queued, and the others are held
pub record IsHolding (P : Plan) (T : Tempo) (J : List Entry) (holds : List (List Held)) (s : ℕ)
    (queued : List Item) : Type 0 where
  pub held : List Held
  pub there : slice_get holds s ≡ Some held
  pub waiting : List Item
  pub items : sent J s ≡ queued ++ waiting
  pub are : AreHeldItems P T J s queued held waiting

-- of a simulator within the program one item waits at most, to which it replies, and whose turn is
-- open
abbrev pub IsOneAtMost : Plan → List Entry → ℕ → List Item → Type 0
IsOneAtMost P J s [] = ⊤
IsOneAtMost P J s (item ∷ []) = IsItemReplied item × (is_some ((view P J).open_at s) ≡ true)
IsOneAtMost P J s (item ∷ (other ∷ more)) = ⊥

-- what is held of simulator s
abbrev pub held_at : List (List Held) → ℕ → List Held
held_at holds s = unwrap_or (slice_get holds s) []

-- the reply that is kept of simulator s, if a request of it was sent and is open
abbrev pub replies_kept : Setting → Plan → List Entry → ℕ → List Held → List Message
replies_kept S P J s [] = awaited S.scenario (reply_in S) P J s
replies_kept S P J s (h ∷ held) = []

-- core, crew and what is held have come about together over the log; what is held of these
-- simulators begins with a Step
pub record IsPacingFor (begins : ℕ → Type 0) (S : Setting) (P : Plan) (J : List Entry)
    (log : List LogEntry) (C : CrewState) (sims : List (Option Simulator))
    (W : WaitingSeen) : Type 0 where
  pub suits : Suits S P
  pub stands : Stands P J
  pub patient : IsPatient P J
  pub in_range : AreInRange J
  pub no_fault : (view P J).fault ≡ None
  pub count : length W.holds ≡ sim_count P
  pub queued : ℕ → List Item
  pub holding : (s : ℕ) → s < sim_count P → IsHolding P W.tempo J W.holds s (queued s)
  pub steps : (s : ℕ) (h : List Held) → begins s → slice_get W.holds s ≡ Some h → BeginsWithStep h
  pub fit : (s : ℕ) (low : s < sim_count P) → is_within S.scenario s ≡ true
      → IsOneAtMost P J s (holding s low).waiting
  pub channels : (i : ℕ) (l : LinkNo) → sim_link S.started S.scenario i ≡ Some l
      → HasChannel S.scenario S.replies log i l (got J i) (queued i) C
  pub no_channel : (i : ℕ) → is_within S.scenario i ≡ true → channel_at C i ≡ None
  pub no_other : HasNoOther S C
  pub kept : (s : ℕ) → kept_of s C.kept ≡ replies_kept S P J s (held_at W.holds s)
  pub kinds : KeepsToKinds (reply_in S) (is_within S.scenario) P J
  pub come : (i : ℕ) → is_within S.scenario i ≡ true → (L : Simulator) × (local_at sims i ≡ Some L)
      × HasCome S.rows S.scenario i (queued i) L
  pub only_within : (i : ℕ) → is_within S.scenario i ≡ false → local_at sims i ≡ None
  pub setup_rests : (before after : List LogEntry) → log ≡ before ++ Rest ∷ after
      → IsWellInSetup S.started S.scenario before × (AllSetUp S.started S.scenario before → ⊥)
  pub on_links : AreOnOrOfClock (IsRunLink S.started S.scenario) log
  pub origin : IsOrigin S.started S.scenario log W.tempo.origin
  pub told : (s : ℕ) → AreTold W.tempo log (queued s)
  pub timely : (i : ℕ) (l : LinkNo) → sim_link S.started S.scenario i ≡ Some l
      → IsTimely W.tempo S.scenario i l (queued i) log
  pub moments_are : AreMoments W.tempo W.strict J log W.moments
  pub counts : (s : ℕ) → s < sim_count P
      → length (moments_of s W.moments) ≡ length (filter is_step (queued s))
  pub replied : (i : ℕ) → is_within S.scenario i ≡ true
      → length (got J i) + length (kept_of i C.kept) ≡ length (filter takes_id (queued i))
  pub naps : AreAllLinked S.scenario → AreNaps S.started S.scenario S.replies P W.tempo J log
  pub looks : NapsLook S.started S.scenario log

-- all begin with one
abbrev pub IsPacing : Setting → Plan → List Entry → List LogEntry → CrewState
    → List (Option Simulator) → WaitingSeen → Type 0
IsPacing = IsPacingFor (λ s. ⊤)

-- all but simulator s, whose next items are about to be sent
abbrev pub IsPacingBut : ℕ → Setting → Plan → List Entry → List LogEntry → CrewState
    → List (Option Simulator) → WaitingSeen → Type 0
IsPacingBut s = IsPacingFor (λ i. i ≡ s → ⊥)
