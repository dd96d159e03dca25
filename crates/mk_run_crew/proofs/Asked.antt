-- One request: what its calls add up to.
use Rattle.std.proofs.Common.{◌≡◌, ℕ, ◌+◌, ◌<◌, true, false, List, [], length, Option, None, Result, Ok, Err, refl, ap, ◌∙◌, subst, inl, inr}
use Rattle.std.specs.Prelude.{IfErr}
use Rattle.mk_base.specs.declared.SimNo.{SimNo}
use Rattle.mk_frame.specs.Frames.{limit}
use Rattle.mk_message.specs.Written.{call_text}
use Rattle.mk_outside.specs.declared.fleet.LogEntry.{LogEntry}
use Rattle.mk_outside.specs.Logs.{Adds}
use Rattle.mk_plan.specs.declared.Call.{Call}
use Rattle.mk_plan.specs.declared.Message.{Message}
use Rattle.mk_session.specs.declared.answers.QueueFault.{QueueFault}
use Rattle.mk_session.specs.declared.answers.QueueFault.TheVariants as queue_fault
use Rattle.mk_run_laws.specs.Channels.{Channel, queued}
use Rattle.mk_run_laws.specs.Payloads.{IsFramed}
use Rattle.mk_run_laws.specs.Crews.{IsHeard}
use Rattle.mk_setup.specs.Seen.{SetupState}
use Rattle.mk_run_links.specs.Entries.{AreOn}
use Rattle.mk_run_links.specs.Places.{IsChannelLink, IsSet, Channels, crew}
use Rattle.mk_local.specs.declared.turn.Turn.{Turn}
use Rattle.mk_run_local.specs.Calls.{IsCalled}
use Rattle.mk_run_local.specs.Seen.{AreOf}
use Rattle.mk_run_crew.specs.declared.halt.Halt.{Halt}
use Rattle.mk_run_crew.specs.inner.Asking.{AnswersNot, AsksFail, AsksOnLink, AsksWithin, IsUnqueued, IsUntaken}
use Rattle.mk_run_crew.specs.inner.Calls.{unsent}
use Rattle.mk_run_crew.specs.Seen.{CrewSeen, is_here, within_of}

-- why the links didn't take the request
pub call_unqueued : (sim : SimNo) (f : QueueFault) (call : Call) (id : ℕ) (payload : List ℕ) → payload ≡ call_text id call → ((n : ℕ) → f ≡ queue_fault.TooLong n → n ≡ length payload) → ((n : ℕ) → f ≡ queue_fault.TooLong n → limit < n) → IsUnqueued (unsent sim f) sim.0 call id
call_unqueued sim (queue_fault.TooLong n) call id payload text size beyond = inr (record { sim = sim; bytes = n; is = refl; same_sim = refl; length_is = size n refl ∙ ap length text; beyond = beyond n refl })
call_unqueued sim queue_fault.Mem call id payload text size beyond = inl refl

-- they took it
pub call_queued : (i : ℕ) (call : Call) (id next : ℕ) (payload : List ℕ) (L M : Channels) → payload ≡ call_text id call → next ≡ id + 1 → ((w : Channel) × IsSet i w (queued payload next w) L M) → (w : Channel) × IsSet i w (queued (call_text id call) (id + 1) w) L M
call_queued i call id next payload L M text more set = (set.0, subst (λ (n : ℕ). IsSet i set.0 (queued (call_text id call) n set.0) L M) more (subst (λ (p : List ℕ). IsSet i set.0 (queued p next set.0) L M) text set.1))

-- so it wasn't made
pub asked_not : (h : Halt) (i : ℕ) (call : Call) (id : ℕ) (C D : CrewSeen) → is_here C i ≡ false → D ≡ C → IsUnqueued h i call id → AsksFail h i call id [] C D
asked_not h i call id C D away same why = inl (record { quiet = refl; same = same; cause = elim why [ inl mem ↦ inl mem | inr long ↦ inr (away, long) ] })

-- the request was queued, and then this was heard
pub asked_on_link : (i : ℕ) (call : Call) (id : ℕ) (from : ℕ) (m : Message) (entries : List LogEntry) (V C D : CrewSeen) (mid : Channels) → V ≡ C → is_here C i ≡ false → ((w : Channel) × IsSet i w (queued (call_text id call) (id + 1) w) V.channels mid) → IsFramed (call_text id call)
    → IsHeard entries from m (crew mid) (crew D.channels) → D.sims ≡ V.sims → D.kept ≡ V.kept → D.halt ≡ None → AreOn (IsChannelLink mid) entries → AsksOnLink i call id from m entries C D
asked_on_link i call id from m entries V C D mid same away set one heard sims kept going on_links = record {
  away = away;
  mid = mid;
  channel = set.0;
  set = subst (λ (X : CrewSeen). IsSet i set.0 (queued (call_text id call) (id + 1) set.0) X.channels mid) same set.1;
  framed = one;
  heard = heard;
  sims = sims ∙ ap (λ (X : CrewSeen). X.sims) same;
  kept = kept ∙ ap (λ (X : CrewSeen). X.kept) same;
  halt = going;
  on_links = on_links;
}

-- a simulator within the program answered
pub asked_within : (i : ℕ) (call : Call) (id : ℕ) (m : Message) (V C D : CrewSeen) → V ≡ C → is_here V i ≡ true → IsCalled (within_of V) i id call m (within_of D) → ((rows : List Turn) → AreOf rows (within_of V) → AreOf rows (within_of D))
    → D.channels ≡ V.channels → D.halt ≡ V.halt → AsksWithin i call id i m [] C D
asked_within i call id m V C D same here called known channels halt =
    subst (λ (X : CrewSeen). AsksWithin i call id i m [] X D) same (record { here = here; same_sim = refl; quiet = refl; called = called; known = known; channels = channels; halt = halt })

-- the setup didn't take the message that was heard
pub not_taken : {X : Type 0} (r : Result X Halt) (risen : Type 0) (i : ℕ) (call : Call) (id : ℕ) (from : SimNo) (m : Message) (old new : Option (List LogEntry)) (C D : CrewSeen) (U : SetupState) → ((entries : List LogEntry) × Adds entries old new × AsksOnLink i call id from.0 m entries C D)
    → IfErr r (λ h. IsUntaken h from m U) → IfErr r (λ h. (entries : List LogEntry) × Adds entries old new × AnswersNot risen h i call id entries C D U)
not_taken (Ok x) risen i call id from m old new C D U asks untaken = tt
not_taken (Err h) risen i call id from m old new C D U asks untaken = (asks.0, asks.1, inr (record { from = from; message = m; asks = inr asks.2; untaken = untaken }))
