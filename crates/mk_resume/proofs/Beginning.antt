-- A resumed run begins where the handshake is over and the record's messages were taken.
use Rattle.std.proofs.Common.{All, List, [], map, sym, ap, ◌∙◌, subst}
use Rattle.mk_base.specs.declared.LinkNo.{LinkNo}
use Rattle.mk_base.specs.Lists.{IsIn}
use Rattle.mk_base.proofs.Lists.{some_same}
use Rattle.mk_plan.specs.declared.Plan.{Plan}
use Rattle.mk_plan.specs.declared.Entry.{Entry}
use Rattle.mk_outside.specs.declared.fleet.LogEntry.{LogEntry}
use Rattle.mk_record_read.specs.declared.saved.Saved.{Saved}
use Rattle.mk_record_read.specs.Seen.{came}
use Rattle.mk_record_read.specs.Steps.{IsKnown}
use Rattle.mk_record_restored.specs.Restored.{IsOnward}
use Rattle.mk_sched.specs.Cores.{CoreState}
use Rattle.mk_run_laws.specs.Channels.{Channel}
use Rattle.mk_run_links.specs.Places.{AreOpen}
use Rattle.mk_run_crew.specs.Seen.{CrewSeen, crew_of}
use Rattle.mk_run_crew.specs.Attempts.{Attempt}
use Rattle.mk_run.specs.inner.Underway.{Setting}
use Rattle.mk_run.specs.inner.Turns.{AreLinksOpen}
use Rattle.mk_run.proofs.Beginning.{links_open, setting_of}
use Rattle.mk_resume_links.proofs.Waiting.{none_yet}
use Rattle.mk_resume_loop.specs.declared.ending.ResumeEnd.{ResumeEnd}
use Rattle.mk_resume_loop.specs.inner.Turns.{IsStopping}
use Rattle.mk_resume_loop.specs.inner.Underway.{IsResumingWith, course_of, saved_of}
use Rattle.mk_resume_loop.proofs.Beginning.{resuming_begins}
use Rattle.mk_resume.specs.inner.Going.{IsFresh, IsStarted}

abbrev pub setting_at : (A : Attempt) (C : CrewSeen) (P : Plan) → IsStarted A C P → Setting
setting_at A C P s = setting_of A.started A.scenario A.ranks A.rows A.log C P s.begun

pub begins_fresh : (A : Attempt) (C : CrewSeen) (P : Plan) (s : IsStarted A C P) (saved : Saved) (core : CoreState) → IsOnward P (map came saved.arrivals) saved.asks core → All (IsKnown saved.plan) (map came saved.arrivals) → IsFresh (setting_at A C P s) core A.log C
begins_fresh A C P s saved core on known =
    let T = setting_at A C P s in record {
      resuming = subst (λ (X : Plan). IsResumingWith (course_of (setting_at A C P s) core.entries (λ i. 0) (λ i. []) (λ i. []) A.log) X core.entries (crew_of C) C.sims) (sym on.plan)
          (resuming_begins A.started A.scenario A.ranks A.rows A.log C P s.begun s.prepared saved.plan (map came saved.arrivals) core.entries on.restored known);
      over = none_yet (saved_of core.entries) A.started A.scenario s.begun.replies core.plan core.entries A.log (crew_of C) s.begun.begun;
    }

pub open_fresh : (A : Attempt) (C : CrewSeen) (P : Plan) (s : IsStarted A C P) (open_links : List LinkNo) → AreOpen C.channels open_links → AreLinksOpen (setting_at A C P s) open_links
open_fresh A C P s open_links open_ = links_open A.started A.scenario A.ranks A.rows A.log C P s.begun open_links open_

-- the links of a crew that is to be stopped are open still
pub stopping_open : (risen : Type 0) (T : Setting) (first : List Entry) (core : CoreState) (log : List LogEntry) (C : CrewSeen) (end : ResumeEnd) (open_links : List LinkNo) → IsStopping risen T first core log C end → AreLinksOpen T open_links → AreOpen C.channels open_links
stopping_open risen T first core log C end open_links u links i w there =
    let t = u.1.no_other i w there in
    let g = (u.1.channels i t.0 t.1).channel in
    subst (λ (l : LinkNo). IsIn l open_links) (sym (ap (λ (v : Channel). v.link) (some_same (sym there ∙ g.there)) ∙ g.link)) (links i t.0 t.1)
