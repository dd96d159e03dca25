-- Nothing was heard, and the run ends.
use Rattle.std.proofs.Common.{◌≡◌, ℕ, List, ◌++◌, Option, Some, None, refl, sym, ap, ◌∙◌, subst}
use Rattle.mk_base.specs.declared.LinkNo.{LinkNo}
use Rattle.mk_base.specs.Lists.{IsIn}
use Rattle.mk_base.proofs.Lists.{in_back, some_same}
use Rattle.mk_frame.specs.Frames.{IsTooLong}
use Rattle.mk_outside.specs.declared.fleet.LogEntry.{LogEntry}
use Rattle.mk_outside.specs.declared.fleet.LogEntry.TheVariants.{Ended}
use Rattle.mk_outside.specs.Logs.{is_read}
use Rattle.mk_session.specs.Fronts.{BeginsGarbled}
use Rattle.mk_local.specs.Simulators.{Simulator}
use Rattle.mk_sched.specs.Cores.{CoreState}
use Rattle.mk_run_laws.specs.Crews.{IsUnheard, channel_at}
use Rattle.mk_run_laws.specs.Hearing.{first_message}
use Rattle.mk_run_laws.specs.Channels.{Channel}
use Rattle.mk_run_laws.proofs.Taking.{garbled_none, long_none, none_first, unfinished_none}
use Rattle.mk_run_links.specs.declared.answers.LinkHalt.{LinkHalt}
use Rattle.mk_run_links.specs.declared.answers.LinkHalt.TheVariants as link_halt
use Rattle.mk_run_links.specs.Entries.{AreOfLinks}
use Rattle.mk_run_links.specs.Places.{IsChannelLink}
use Rattle.mk_run_links.specs.Halts.{ShowsHalt}
use Rattle.mk_run_crew.specs.declared.halt.Halt.{Halt}
use Rattle.mk_run_crew.specs.declared.halt.Halt.TheVariants as halt
use Rattle.mk_run_crew.specs.Calls.{HearsNothing, halt_of}
use Rattle.mk_run_crew.specs.Seen.{CrewSeen, crew_of}
use Rattle.mk_run.specs.Outcomes.{outcome_of}
use Rattle.mk_run.specs.inner.Turns.{Waits}
use Rattle.mk_run.specs.inner.Underway.{Setting}
use Rattle.mk_run.proofs.Endings.{none_named}
use Rattle.mk_pace_laws.specs.declared.end.PaceEnd.TheVariants as pace
use Rattle.mk_pace_loop.specs.inner.PacedOut.{EndsOutcome, HasGivenPaced}
use Rattle.mk_pace_loop.specs.inner.Pacing.{IsPacing}
use Rattle.mk_pace_loop.specs.inner.Turns.{GoesOn, IsStopping}
use Rattle.mk_pace_loop.specs.inner.Waiting.{WaitingSeen}
use Rattle.mk_pace_loop.proofs.Ending.{ends_here}
use Rattle.mk_pace_loop.proofs.Passing.{looks_around}
use Rattle.mk_run_crew.proofs.Halting.{last_in}

module _ (S : Setting) (core : CoreState) (log entries : List LogEntry) (C D : CrewSeen) (W : WaitingSeen) (risen : Type 0) (p : GoesOn S core log C W) (waits : Waits core) (sims : D.sims ≡ C.sims) where
  -- nothing came by these entries
  pub unheard_on : IsUnheard entries (crew_of C) (crew_of D) → AreOfLinks (IsChannelLink C.channels) entries → GoesOn S core (log ++ entries) D W
  unheard_on un of_links = looks_around S W.tempo W.strict core.plan core.entries log (crew_of C) D.sims W.holds W.moments (subst (λ (l : List (Option Simulator)). IsPacing S core.plan core.entries log (crew_of C) l W) (sym sims) p)
      entries (crew_of D) un of_links

  module _ (q : GoesOn S core (log ++ entries) D W) where
    given_now : (i : ℕ) (w : Channel) → channel_at (crew_of D) i ≡ Some w → first_message w.held ≡ None → (l : LinkNo) × (g : HasGivenPaced S core.entries (log ++ entries) (crew_of D) i l) × (g.channel.channel ≡ w)
    given_now i w there none =
        let t = q.no_other i w there in
        let g = q.channels i t.0 t.1 in
        let same : g.channel ≡ w = some_same (sym g.there ∙ there) in
        (t.0, record { linked = t.1; items = q.queued i; channel = g; none_held = ap (λ (v : Channel). first_message v.held) same ∙ none }, same)

    by_link : (why : LinkHalt) → (why ≡ link_halt.Fleet → risen) → ShowsHalt why entries D.channels → EndsOutcome risen S core.plan core.entries (log ++ entries) (crew_of D) (outcome_of (halt_of why))
    by_link link_halt.Fleet cause shown = cause refl
    by_link (link_halt.Gone sim) cause shown =
        let w = shown.0 in
        let t = given_now sim.0 w shown.1 (none_first w.held (unfinished_none w.held shown.2.0)) in
        let l_is : w.link ≡ t.0 = ap (λ (v : Channel). v.link) (sym t.2) ∙ t.1.channel.link in
        (t.0, t.1, in_back (Ended t.0) log entries (subst (λ (l : LinkNo). IsIn (Ended l) entries) l_is (last_in (is_read w.link) entries (Ended w.link) shown.2.1)))
    by_link (link_halt.Garbled sim test) cause shown =
        let w = shown.0 in
        let b = shown.2 in
        let t = given_now sim.0 w shown.1 (garbled_none w.held b.0 b.1 test b.3 b.2) in
        (t.0, t.1, subst (λ (v : Channel). BeginsGarbled v.held test) (sym t.2) b)
    by_link (link_halt.LongFrame sim n) cause shown =
        let w = shown.0 in
        let t = given_now sim.0 w shown.1 (none_first w.held (long_none w.held n shown.2)) in
        (t.0, t.1, subst (λ (v : Channel). IsTooLong n v.held) (sym t.2) shown.2)
    by_link link_halt.Mem cause shown = tt

    pub unheard_ends : (h : Halt) → HearsNothing h entries C D → (h ≡ halt.Fleet → risen) → IsStopping risen S core (log ++ entries) D W (pace.Outcome (outcome_of h))
    unheard_ends h un cause = subst (λ (k : Halt). IsStopping risen S core (log ++ entries) D W (pace.Outcome (outcome_of k))) (sym un.is)
        (ends_here S W.tempo W.strict core.plan core.entries (log ++ entries) (crew_of D) D.sims W.holds W.moments q risen (pace.Outcome (outcome_of (halt_of un.why))) (sym (none_named (halt_of un.why)))
        (by_link un.why (λ e. cause (un.is ∙ ap halt_of e)) un.shown) (λ broken. (waits.1, waits.0)))
