-- Nothing goes wrong in a run within the program that goes on from a record of such a run.
use Rattle.std.proofs.Common.{◌≡◌, inl, inr, ℕ, ◌<◌, ◌≤◌, max, Bool, true, List, [], ◌∷◌, ◌++◌, length, map, Option, Some, None, slice_get, refl, sym, ap, ◌∙◌, subst, length-append, arith}
use Rattle.std.proofs.lemmas.Bool.{cases_lt}
use Rattle.mk_base.specs.declared.SimNo.{SimNo}
use Rattle.mk_base.specs.Lists.{BeginsWith}
use Rattle.mk_base.proofs.Lists.{filter_map_append, get_is, some_same}
use Rattle.mk_plan.specs.declared.Entry.{Entry}
use Rattle.mk_plan.specs.declared.Entry.TheVariants.{Got}
use Rattle.mk_plan.specs.declared.Message.{Message}
use Rattle.mk_plan.specs.declared.Plan.{Plan}
use Rattle.mk_plan.specs.Advance.{IsAdvance}
use Rattle.mk_plan.specs.Journals as journals
use Rattle.mk_plan.specs.Journals.{bare, got, got_from, sent, view}
use Rattle.mk_plan.specs.Orderly.{IsOrderlySoFar}
use Rattle.mk_plan.specs.Plans.{sim_count}
use Rattle.mk_plan.specs.Ready.{IsReady}
use Rattle.mk_order.proofs.Pushing.{orderly_front}
use Rattle.mk_outside.specs.Counts.{HasRisen}
use Rattle.mk_scenario.specs.declared.parts.Scenario.{Scenario}
use Rattle.mk_sched.specs.declared.faults.CoreFault.{CoreFault}
use Rattle.mk_record.specs.Seen.{came}
use Rattle.mk_record_compare.specs.Differences.{IsOther}
use Rattle.mk_record_mend.proofs.Reading.{whole_left}
use Rattle.mk_record_read.specs.Reading.{reading}
use Rattle.mk_record_read.specs.declared.saved.Asked.{Asked}
use Rattle.mk_record_restored.specs.declared.restoring.Restored.{Restored}
use Rattle.mk_record_restored.specs.declared.restoring.Restored.TheVariants as restored
use Rattle.mk_record_restored.specs.Restored.{IsFaulted, IsOtherIn, IsRestored, RestoredIsOne, RestoresAs}
use Rattle.mk_run_laws.specs.Handshake.{is_within}
use Rattle.mk_run_laws.specs.Kinds.{IsKindReply, KeepsToKinds, Replies}
use Rattle.mk_run_laws.specs.Laws.{IsJournalOf}
use Rattle.mk_run_local.specs.Made.{kind_reply_of}
use Rattle.mk_run_crew.specs.Completing.{WithinHandshakesAreFaultless}
use Rattle.mk_run_crew.proofs.Unlinked.{never_linked}
use Rattle.mk_run.proofs.Linked.{within_below}
use Rattle.mk_resume_walk.specs.Talks.{free_items, up_to}
use Rattle.mk_resume_walk.proofs.Alternating.{balanced}
use Rattle.mk_resume_walk.proofs.UpTo.{free_all, next_after}
use Rattle.mk_resume_links.specs.Rests.{Counts}
use Rattle.mk_resume_loop.specs.declared.ending.ResumeEnd.{ResumeEnd}
use Rattle.mk_resume.specs.Laws as onward
use Rattle.mk_resume.specs.Resumed.{IsDiffering, IsResumed}
use Rattle.mk_resume.proofs.DoneRuns.{got_there, none_out, up_to_there}
use Rattle.mosaikrun_run.specs.Outcomes.{Outside, exchange_in}
use Rattle.mosaikrun_program.specs.Complete.{IsFaultlessResume, IsRightRecord}
use Rattle.mosaikrun_faultless.specs.Within.{RecordsWithin}
use Rattle.mosaikrun_faultless.proofs.Counting.{entry_low}
use Rattle.mosaikrun_faultless.proofs.Studies.{all_closed, handshake, here, no_fault_there, no_more_there, same_plan}
use Rattle.mk_base.proofs.Items.{same_heads, at_length}

-- ---- a message of a journal that begins with another

-- the message stands in the first one, where that has more of its simulator than stands before it
front_of : (H first tail more : List Entry) (s : SimNo) (m : Message) → first ++ tail ≡ H ++ Got s m ∷ more → length (got H s.0) < length (got first s.0) → (rest : List Entry) × (first ≡ H ++ Got s m ∷ rest)
front_of H [] tail more s m is few = absurd (omega (arith, few))
front_of [] (e ∷ first) tail more s m is few = (first, ap (λ (f : Entry). f ∷ first) (same_heads is).0)
front_of (h ∷ H) (e ∷ first) tail more s m is few =
    let same : e ≡ h = (same_heads is).0 in
    let a = ap length (filter_map_append (got_from s.0) (h ∷ []) H) in
    let b = ap length (filter_map_append (got_from s.0) (h ∷ []) first) in
    let c = length-append (got (h ∷ []) s.0) (got H s.0) in
    let d = length-append (got (h ∷ []) s.0) (got first s.0) in
    let k : length (got (e ∷ first) s.0) ≡ length (got (h ∷ first) s.0) = ap (λ (f : Entry). length (got (f ∷ first) s.0)) same in
    let t = front_of H first tail more s m (same_heads is).1 (omega (arith, few, a, b, c, d, k)) in
    (t.0, (λ i. same i ∷ t.1 i))

module _ (P : Plan) (reply : Replies) (inside : ℕ → Bool) (first J : List Entry) (orderly : IsOrderlySoFar IsReady IsAdvance P J) (begins : BeginsWith J first) (early : KeepsToKinds reply inside P first) (heard : Counts) (counts : (i : ℕ) → length (got J i) ≡ max (length (got first i)) (heard i))
    (later : (i n : ℕ) (m : Message) → inside i ≡ true → n < heard i → slice_get (got J i) n ≡ Some m → (m ≡ reply i (map bare (free_items J i n))) × (n < length (free_items J i n))) where
  -- each message is its kind's, where those of the first journal and those that came behind them are
  pub keeps_on : KeepsToKinds reply inside P J
  keeps_on H s m more is within = elim (cases_lt (length (got H s.0)) (length (got first s.0))) [
    | inl few ↦ let t = front_of H first begins.0 more s m (sym begins.1 ∙ is) few in early H s m t.0 t.1 within
    | inr all ↦ record {
      is = (behind all).0 ∙ ap (λ (K : List Entry). reply s.0 (map bare (sent K s.0))) (ap (up_to s.0 (length (got H s.0))) is ∙ up_to_there s m H more);
      open_there = λ shut.
          let front = orderly_front IsReady IsAdvance P H (Got s m ∷ more) (subst (IsOrderlySoFar IsReady IsAdvance P) is orderly) in
          let few = (behind all).1 in
          let there = ap (λ (K : List Entry). length (sent K s.0)) (ap (up_to s.0 (length (got H s.0))) is ∙ up_to_there s m H more) in
          let balance = balanced P H front.0 front.1.0.0 s.0 in
          let out = none_out (view P H) s.0 shut in
          absurd (omega (arith, few, there, balance, out));
    }
  ]
    where
      longer : length (got H s.0) < length (got J s.0)
      longer = subst (λ (K : List Entry). length (got H s.0) < length (got K s.0)) (sym is) (let e = ap length (got_there s m H more) in let a = length-append (got H s.0) (m ∷ got more s.0) in omega (arith, e, a))

      there : slice_get (got J s.0) (length (got H s.0)) ≡ Some m
      there = ap (λ (K : List Entry). slice_get (got K s.0) (length (got H s.0))) is ∙ ap (λ (ms : List Message). slice_get ms (length (got H s.0))) (got_there s m H more) ∙ at_length (got H s.0) (got more s.0) m

      behind : length (got first s.0) ≤ length (got H s.0) → (m ≡ reply s.0 (map bare (free_items J s.0 (length (got H s.0))))) × (length (got H s.0) < length (free_items J s.0 (length (got H s.0))))
      behind all = later s.0 (length (got H s.0)) m within (let c = counts s.0 in omega (arith, c, all, longer)) there

-- ---- the record

entries_in : Restored → List Entry
entries_in (restored.Onward core) = core.entries
entries_in (restored.Other n) = []
entries_in (restored.Faulted f Q J) = []

module _ (one : RestoredIsOne) (P : Plan) (A : List journals.Arrival) (asks : Option (List Asked)) (J : List Entry) (is : IsRestored P A J) (same : IsOther A asks J None) where
  goes : RestoresAs P A asks (restored.Onward (record { plan = P; entries = J; ended = None }))
  goes = record { plan = refl; going = refl; restored = is; same = same }

  not_other : (n : ℕ) → IsOtherIn P A asks n → ⊥
  not_other n other = apart (one P A asks (restored.Onward (record { plan = P; entries = J; ended = None })) (restored.Other n) goes other)
    where
      apart : restored.Onward (record { plan = P; entries = J; ended = None }) ≡ restored.Other n → ⊥
      apart e = cc

  not_faulted : (K : List Entry) (f : CoreFault) → IsFaulted P A K f → ⊥
  not_faulted K f faulted = apart (one P A asks (restored.Onward (record { plan = P; entries = J; ended = None })) (restored.Faulted f P (record { entries = K })) goes (refl, faulted))
    where
      apart : restored.Onward (record { plan = P; entries = J; ended = None }) ≡ restored.Faulted f P (record { entries = K }) → ⊥
      apart e = cc

  -- the record's messages make one journal
  one_journal : (K : List Entry) → IsRestored P A K → IsOther A asks K None → K ≡ J
  unfolding entries_in
  one_journal K also alike = ap entries_in (one P A asks (restored.Onward (record { plan = P; entries = K; ended = None })) (restored.Onward (record { plan = P; entries = J; ended = None }))
      (record { plan = refl; going = refl; restored = also; same = alike }) goes)

module _ (O : Outside) (bytes recorded : List ℕ) (w : RecordsWithin O.kinds bytes recorded) (one : RestoredIsOne) where
  abbrev S : Scenario
  S = (w.run).scenario

  abbrev A : List journals.Arrival
  A = map came (w.old).arrivals

  right_record : IsRightRecord (w.run).plan w.old
  right_record = record {
    same_plan = w.same_plan;
    same_entries = λ n other. not_other one (w.run).plan A (w.old).asks w.journal w.restored w.same_entries n other;
    no_fault = λ J f faulted. not_faulted one (w.run).plan A (w.old).asks w.journal w.restored w.same_entries J f faulted;
  }

  -- a resumed run
  module _ (P : Plan) (J : List Entry) (faults new_faults : ℕ) (end : ResumeEnd) (same : P ≡ (w.run).plan) (r : IsResumed (exchange_in O (w.run).scenario) P w.old J faults new_faults end) (calm : HasRisen faults new_faults → ⊥) where
    early : KeepsToKinds (kind_reply_of O.kinds S) (is_within S) P r.first
    early = subst (λ (Q : Plan). KeepsToKinds (kind_reply_of O.kinds S) (is_within S) Q r.first) (sym same)
        (subst (λ (K : List Entry). KeepsToKinds (kind_reply_of O.kinds S) (is_within S) (w.run).plan K)
        (sym (one_journal one (w.run).plan A (w.old).asks w.journal w.restored w.same_entries r.first (subst (λ (Q : Plan). IsRestored Q A r.first) same r.restored) r.same)) w.replies)

    journal : IsJournalOf (exchange_in O (w.run).scenario) P J
    journal = record {
      sims = r.sims;
      orderly = r.eager.0.0;
      kinds = keeps_on P (kind_reply_of O.kinds S) (is_within S) r.first J r.eager.0.0 r.begins early r.heard r.counts r.kinds;
      links = λ i l e. absurd (never_linked O.started S (w.run).inside i l e);
    }

    fine : (view P J).fault ≡ None
    fine = no_fault_there O bytes w.run P J same r.valid journal

    -- a simulator whose reply is awaited has an open turn
    awaits : (i : ℕ) → length (got J i) < length (sent J i) → (view P J).open_at i ≡ None → ⊥
    awaits i few shut = let balance = balanced P J r.eager.0.0 fine i in let out = none_out (view P J) i shut in absurd (omega (arith, few, balance, out))

    differs : (sim : SimNo) (place : ℕ) (kept other : Message) → IsDiffering (exchange_in O S) r.first J r.heard sim place kept other → ⊥
    differs sim place kept other d =
        let t = next_after sim.0 place J (get_is (got J sim.0) place kept d.had).0 in
        let front = orderly_front IsReady IsAdvance P (up_to sim.0 place J) (Got t.sim t.message ∷ t.later) (subst (IsOrderlySoFar IsReady IsAdvance P) t.parts r.eager.0.0) in
        let low : t.sim.0 < sim_count P = entry_low P r.valid (up_to sim.0 place J) (Got t.sim t.message) front.0 front.1.0 in
        let within : is_within S sim.0 ≡ true = ap (is_within S) (sym t.same) ∙ here O bytes w.run P J same r.valid journal t.sim.0 low in
        let reply : IsKindReply (kind_reply_of O.kinds S) P (up_to sim.0 place J) t.sim.0 t.message = journal.kinds (up_to sim.0 place J) t.sim t.message t.later t.parts (ap (is_within S) t.same ∙ within) in
        d.apart (some_same (sym d.had ∙ t.is) ∙ reply.is ∙ ap (λ (i : ℕ). kind_reply_of O.kinds S i (map bare (sent (up_to sim.0 place J) i))) t.same ∙ sym (d.inside within))

    pub resumed : onward.IsFaultless (exchange_in O (w.run).scenario) P r.first J r.heard faults new_faults
    resumed = record {
      no_fault = fine;
      roomy = λ full more. elim more [
        | inl owes ↦ no_more_there O bytes w.run P J same r.valid journal (Unit {0}) full (inl owes)
        | inr more ↦ elim more [
          | inl ready ↦ no_more_there O bytes w.run P J same r.valid journal (Unit {0}) full (inr (inl ready))
          | inr untaken ↦ elim untaken [
            | inl ungot ↦ never_linked O.started S (w.run).inside ungot.sim ungot.link ungot.linked
            | inr awaited ↦ all_closed O bytes w.run P J same r.valid journal full awaited.sim (subst (λ (n : ℕ). awaited.sim < n) (sym r.sims) (within_below S awaited.sim awaited.within))
                (awaits awaited.sim (let e = ap length (free_all J awaited.sim (r.heard awaited.sim) (let c = awaited.caught in omega (arith, c))) in let c = awaited.caught in let m = awaited.more in omega (arith, e, c, m)))
          ]
        ]
      ];
      repeated = differs;
      counts = calm;
      open_links = λ i l e ended. never_linked O.started S (w.run).inside i l e;
      right_frames = λ i l n e wrong. never_linked O.started S (w.run).inside i l e;
      short_items = λ i n long. never_linked O.started S (w.run).inside i long.link long.linked;
    }

  pub resume : WithinHandshakesAreFaultless → (HasRisen O.faults O.new_faults → ⊥) → IsFaultlessResume O bytes recorded
  resume handshakes calm = record {
    scenario = S;
    ranks = (w.run).ranks;
    read = (w.run).read;
    ranked = (w.run).ranked;
    prepared = (w.run).prepared;
    handshake = handshake O bytes w.run handshakes calm;
    old = w.old;
    old_read = ap reading (whole_left recorded (w.old).plan A (w.old).asks w.old_read) ∙ w.old_read;
    right = λ any P ranked refused. subst (λ (Q : Plan). IsRightRecord Q w.old) (sym (same_plan O bytes w.run any ranked refused.answers P refused.made refused.kinds)) right_record;
    run = λ any P J end ranked h. resumed P J O.faults O.new_faults end (same_plan O bytes w.run any ranked h.answers P h.made h.kinds) h.run calm;
  }
