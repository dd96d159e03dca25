-- A resumed run whose simulators are all within the program: it has no links, and what it comes to
-- holds over any fleet with which nothing is done.
use Rattle.std.proofs.Common.{◌≡◌, inl, inr, ℕ, Bool, true, false, List, [], length, Option, None, Some, refl, arith}
use Rattle.std.specs.Prelude.{IfSome}
use Rattle.mk_base.specs.declared.LinkNo.{LinkNo}
use Rattle.mk_base.specs.declared.SimNo.{SimNo}
use Rattle.mk_plan.specs.declared.Plan.{Plan}
use Rattle.mk_plan.specs.declared.Journal.{Journal}
use Rattle.mk_plan.specs.declared.Entry.{Entry}
use Rattle.mk_plan.specs.declared.Message.{Message}
use Rattle.mk_plan.specs.Journals.{Arrival}
use Rattle.mk_outside.specs.Counts.{HasRisen}
use Rattle.mk_outside.specs.declared.fleet.LogEntry.{LogEntry}
use Rattle.mk_record_read.specs.declared.saved.Saved.{Saved}
use Rattle.mk_scenario.specs.declared.parts.Scenario.{Scenario}
use Rattle.mk_run_crew.specs.Attempts.{attempt}
use Rattle.mk_local.specs.declared.turn.Turn.{Turn}
use Rattle.mk_run_laws.specs.Exchanges.{exchange}
use Rattle.mk_run_laws.specs.Handshake.{Request, sim_link}
use Rattle.mk_run_laws.specs.Kinds.{Replies}
use Rattle.mk_run_local.specs.Made.{kind_reply_of}
use Rattle.mk_run_crew.specs.declared.halt.Halt.{Halt}
use Rattle.mk_run_crew.specs.declared.halt.Halt.TheVariants as halt
use Rattle.mk_run_crew.specs.Answers.{ComesAt}
use Rattle.mk_run_crew.specs.Halted.{HasHalted, ShowsCause}
use Rattle.mk_run_crew.specs.Wholly.{is_wholly_within}
use Rattle.mk_run_crew.proofs.Unlinked.{never_linked, restless}
use Rattle.mk_run.specs.declared.outcome.Outcome.TheVariants as outcome
use Rattle.mk_resume_links.specs.Rests.{Counts}
use Rattle.mk_resume_loop.specs.declared.ending.ResumeEnd.{ResumeEnd}
use Rattle.mk_resume_loop.specs.declared.ending.ResumeEnd.TheVariants as ends
use Rattle.mk_resume.specs.Resumed.{HasNotBegun, HasRefused, HasResumed, IsDiffering, SomeUntaken, IsResumed, ResumesAs, ShownBy}

never_risen : HasRisen 0 0 → ⊥
never_risen (inl less) = absurd (omega (arith, less))
never_risen (inr last) = absurd (omega (arith, last))

-- what holds over a fleet that had started no link and never failed, whatever its log, holds where
-- a fleet is left as it was
module _ (S : Scenario) (all : is_wholly_within S ≡ true) (started faults : ℕ) where
  never : (n i : ℕ) (l : LinkNo) → sim_link n S i ≡ Some l → ⊥
  never n i l linked = never_linked n S all i l linked

  left : (J : List Entry) (heard : Counts) (log : List LogEntry) → SomeUntaken 0 S J heard log → SomeUntaken started S J heard []
  left J heard log (inl ungot) = absurd (never 0 ungot.sim ungot.link ungot.linked)
  left J heard log (inr awaited) = inr awaited

  differs : (reply : Replies) (first J : List Entry) (heard : Counts) (log : List LogEntry) (sim : SimNo) (place : ℕ) (kept other : Message) → IsDiffering (exchange 0 S reply log) first J heard sim place kept other → IsDiffering (exchange started S reply []) first J heard sim place kept other
  differs reply first J heard log sim place kept other d = record {
    at = d.at;
    early = d.early;
    had = d.had;
    apart = d.apart;
    on_link = λ l linked. absurd (never started sim.0 l linked);
    inside = d.inside;
  }

  shown : (reply : Replies) (P : Plan) (first J : List Entry) (heard : Counts) (log : List LogEntry) (end : ResumeEnd) → ShownBy (exchange 0 S reply log) P first J heard 0 0 end → ShownBy (exchange started S reply []) P first J heard faults faults end
  shown reply P first J heard log (ends.Outcome outcome.Done) is = is
  shown reply P first J heard log (ends.Outcome (outcome.Setup f)) is = is
  shown reply P first J heard log (ends.Outcome (outcome.Core f)) (inl last) = inl last
  shown reply P first J heard log (ends.Outcome (outcome.Core f)) (inr full) = inr (record {
    named = full.named;
    full = full.full;
    no_fault = full.no_fault;
    more = elim full.more [ inl owed ↦ inl owed | inr more ↦ inr (elim more [ inl ready ↦ inl ready | inr t ↦ inr (left J heard log t) ]) ];
  })
  shown reply P first J heard log (ends.Outcome outcome.Fleet) is = absurd (never_risen is)
  shown reply P first J heard log (ends.Outcome (outcome.Gone i)) is = absurd (never 0 i.0 is.0 is.1.linked)
  shown reply P first J heard log (ends.Outcome (outcome.Garbled i n)) is = absurd (never 0 i.0 is.0 is.1.linked)
  shown reply P first J heard log (ends.Outcome (outcome.LongFrame i n)) is = absurd (never 0 i.0 is.0 is.1.linked)
  shown reply P first J heard log (ends.Outcome (outcome.LongItem i n)) is = absurd (never 0 i.0 is.link is.linked)
  shown reply P first J heard log (ends.Outcome outcome.Mem) is = is
  shown reply P first J heard log (ends.OtherPlan n) is = is
  shown reply P first J heard log (ends.OtherEntry n) is = is
  shown reply P first J heard log (ends.Differs sim place kept other) is = differs reply first J heard log sim place kept other is

  resumed : (reply : Replies) (P : Plan) (saved : Saved) (J : List Entry) (log : List LogEntry) (end : ResumeEnd) → IsResumed (exchange 0 S reply log) P saved J 0 0 end → IsResumed (exchange started S reply []) P saved J faults faults end
  resumed reply P saved J log end r = record {
    replies = r.replies;
    valid = r.valid;
    sims = r.sims;
    first = r.first;
    restored = r.restored;
    same = r.same;
    begins = r.begins;
    agrees = r.agrees;
    eager = r.eager;
    within = r.within;
    in_range = r.in_range;
    heard = r.heard;
    counts = r.counts;
    kinds = r.kinds;
    links = λ i l linked. absurd (never started i l linked);
    rests = λ before after is up. absurd (restless before after is);
    setup_rests = λ before after is not_up. absurd (restless before after is);
    on_links = tt;
    shown = shown reply P r.first J r.heard log end r.shown;
    fault = r.fault;
    unfinished = r.unfinished;
  }

  module _ (ranks : List ℕ) (rows : List Turn) where
    has_resumed : (saved : Saved) (P : Plan) (J : List Entry) (log : List LogEntry) (end : ResumeEnd) → HasResumed (attempt 0 S ranks rows log) saved P J 0 0 end → HasResumed (attempt started S ranks rows []) saved P J faults faults end
    has_resumed saved P J log end h = record {
      answers = h.answers;
      made = h.made;
      kinds = h.kinds;
      plans = h.plans;
      first = h.first;
      run = resumed (kind_reply_of rows S) P saved J log end h.run;
      told = λ i l linked. absurd (never started i l linked);
    }

    refused : (P : Plan) (log : List LogEntry) → HasRefused (attempt 0 S ranks rows log) P (HasRisen 0 0) → HasRefused (attempt started S ranks rows []) P (HasRisen faults faults)
    refused P log h = record {
      answers = h.answers;
      made = h.made;
      kinds = h.kinds;
      replies = h.replies;
      replied = λ i l linked. absurd (never started i l linked);
      told = λ i l linked. absurd (never started i l linked);
      valid = h.valid;
      sims = h.sims;
      says = λ reply i l linked. absurd (never started i l linked);
      whole = λ i l linked. absurd (never started i l linked);
      rests = λ before after is. absurd (restless before after is);
      on_links = tt;
    }

    came : (k : ℕ) (last : Option Arrival) → IfSome last (ComesAt 0 S k) → IfSome last (ComesAt started S k)
    came k None c = tt
    came k (Some a) c = record { request = c.request; awaiting = c.awaiting; within = c.within; on_link = λ apart. let t = c.on_link apart in absurd (never 0 a.sim t.0 t.1) }

    cause : (log : List LogEntry) (queued later : List Request) (h : Halt) → ShowsCause (attempt 0 S ranks rows log) (HasRisen 0 0) queued later h → ShowsCause (attempt started S ranks rows []) (HasRisen faults faults) queued later h
    cause log queued later (halt.Setup fault) is = (
      record {
        answers = is.0.answers;
        last = is.0.last;
        faulty = is.0.faulty;
        before = [];
        after = [];
        parts = refl;
        heard = record {
          links = λ i l linked. absurd (never started i l linked);
          kinds = is.0.heard.kinds;
          came = came (length is.0.answers) is.0.last is.0.heard.came;
        };
        asked = λ i l linked. absurd (never started i l linked);
      },
      is.1,
    )
    cause log queued later halt.Fleet is = absurd (never_risen is)
    cause log queued later (halt.Gone sim) is = absurd (never 0 sim.0 is.0 is.1)
    cause log queued later (halt.Garbled sim test) is = absurd (never 0 sim.0 is.0 is.1)
    cause log queued later (halt.LongFrame sim n) is = absurd (never 0 sim.0 is.0 is.1)
    cause log queued later (halt.LongItem sim n) is = absurd (never 0 sim.0 is.link is.linked)
    cause log queued later halt.Mem is = is

    halted : (log : List LogEntry) (h : Halt) → HasHalted (attempt 0 S ranks rows log) (HasRisen 0 0) h → HasHalted (attempt started S ranks rows []) (HasRisen faults faults) h
    halted log h t = record {
      queued = t.queued;
      later = t.later;
      parts = t.parts;
      says = λ reply i l linked. absurd (never started i l linked);
      whole = λ apart i l linked. absurd (never started i l linked);
      rests = λ before after is. absurd (restless before after is);
      cause = cause log t.queued t.later h t.cause;
      answered = record {
        answers = t.answered.answers;
        heard = record { links = λ i l linked. absurd (never started i l linked); kinds = t.answered.heard.kinds; came = tt };
        but_one = t.answered.but_one;
      };
      on_links = tt;
    }

    not_begun : (log : List LogEntry) (end : ResumeEnd) → HasNotBegun (attempt 0 S ranks rows log) (HasRisen 0 0) end → HasNotBegun (attempt started S ranks rows []) (HasRisen faults faults) end
    not_begun log end n = (n.0, n.1, record { halt = n.2.halt; is = n.2.is; halted = halted log n.2.halt n.2.halted })

    pub over_any : (saved : Saved) (log : List LogEntry) (taken : Bool) (P : Option Plan) (J : Option Journal) (end : ResumeEnd) → ResumesAs (attempt 0 S ranks rows log) saved taken P J 0 0 end → ResumesAs (attempt started S ranks rows []) saved taken P J faults faults end
    over_any saved log true (Some P) (Some J) end r = has_resumed saved P J.entries log end r
    over_any saved log true (Some P) None end r = absurd r
    over_any saved log true None J end r = absurd r
    over_any saved log false (Some P) (Some J) end r = (r.0, refused P log r.1)
    over_any saved log false (Some P) None end r = absurd r
    over_any saved log false None (Some J) end r = absurd r
    over_any saved log false None None end (inl r) = inl (r.0, r.1, refused r.0 log r.2)
    over_any saved log false None None end (inr r) = inr (not_begun log end r)
