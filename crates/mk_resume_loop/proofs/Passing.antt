-- A simulator is sent the items of the journal anew, up to its next message there.
use Rattle.std.proofs.Common.{◌≡◌, inl, inr, ℕ, ◌<◌, ◌≤◌, nat_lt, Bool, true, false, ◌&&◌, List, [], ◌∷◌, ◌++◌, length, map, Option, Some, if◌then◌else◌, refl, sym, ap, ◌∙◌, subst, arith, length-append, true≢false, ◌+◌}
use Rattle.std.proofs.lemmas.Bool.{lt-ltb}
use Rattle.mk_base.specs.declared.LinkNo.{LinkNo}
use Rattle.mk_base.proofs.Lists.{append_nil, some_same}
use Rattle.mk_plan.specs.declared.Plan.{Plan}
use Rattle.mk_plan.specs.declared.Item.{Item}
use Rattle.mk_plan.specs.declared.Message.{Message}
use Rattle.mk_plan.specs.declared.Entry.{Entry}
use Rattle.mk_plan.specs.Plans.{sim_count}
use Rattle.mk_plan.specs.Journals.{bare}
use Rattle.mk_plan.specs.Sequential.{takes_id, id_after}
use Rattle.mk_outside.specs.declared.fleet.LogEntry.{LogEntry}
use Rattle.mk_scenario.specs.declared.parts.Scenario.{Scenario}
use Rattle.mk_local.specs.Simulators.{Simulator}
use Rattle.mk_run_laws.specs.Handshake.{is_within, setup_count, sim_link}
use Rattle.mk_run_laws.specs.Channels.{Channel}
use Rattle.mk_run_laws.specs.Kinds.{Replies}
use Rattle.mk_run_laws.specs.Crews.{CrewState, channel_at, given_by}
use Rattle.mk_run_laws.proofs.Saying.{link_there}
use Rattle.mk_run_laws.proofs.Stepping.{linked_out, given_here, given_away}
use Rattle.mk_run_local.specs.Laws.{HasCome, RepliesAreKinds}
use Rattle.mk_run_crew.specs.Seen.{CrewSeen, crew_of, is_here}
use Rattle.mk_run_crew.specs.Calls.{HasNext, SendsAs}
use Rattle.mk_run.specs.inner.Underway.{Setting, put, reply_in, exchange_at}
use Rattle.mk_run.proofs.Linked.{linked_outside, within_below}
use Rattle.mk_resume_walk.specs.Talks.{free_items}
use Rattle.mk_resume_links.specs.Rests.{Counts}
use Rattle.mk_resume_links.specs.inner.Catching.{IsCatchingWith, awaited}
use Rattle.mk_resume_links.proofs.Catching.{catching_kept, catching_queued}
use Rattle.mk_resume_links.proofs.Closing.{seen}
use Rattle.mk_run.proofs.ItemSent.{come_sent, kept_so, no_other_after, not_here_is_outside, only_sent}
use Rattle.mk_run.proofs.Putting.{put_away, put_here, put_same}
use Rattle.mk_run.proofs.SmallIds.{few_sent, small_next}
use Rattle.mk_resume_loop.specs.inner.Underway.{IsPassed, IsPassing, IsResumingWith, course_of, saved_of}
use Rattle.mk_base.proofs.Counts.{equal_at_most, none_below, same_or_not}
use Rattle.mk_base.proofs.Bools.{and_false, true_or_false}

-- ---- what is awaited of a simulator

module _ (S : Scenario) (reply : Replies) (J : List Entry) (heard : Counts) (i : ℕ) where
  pub awaited_outside : is_within S i ≡ false → awaited S reply J heard i ≡ []
  awaited_outside outside = ap (λ (b : Bool). if b && nat_lt (heard i) (length (free_items J i (heard i))) then reply i (map bare (free_items J i (heard i))) ∷ [] else []) outside

  pub awaited_none : length (free_items J i (heard i)) ≤ heard i → awaited S reply J heard i ≡ []
  awaited_none few = ap (λ (b : Bool). if is_within S i && b then reply i (map bare (free_items J i (heard i))) ∷ [] else []) (none_below (heard i) (length (free_items J i (heard i))) few)
      ∙ ap (λ (b : Bool). if b then reply i (map bare (free_items J i (heard i))) ∷ [] else []) (and_false (is_within S i))

  pub awaited_one : is_within S i ≡ true → heard i < length (free_items J i (heard i)) → awaited S reply J heard i ≡ reply i (map bare (free_items J i (heard i))) ∷ []
  awaited_one inside more = ap (λ (b : Bool). if b && nat_lt (heard i) (length (free_items J i (heard i))) then reply i (map bare (free_items J i (heard i))) ∷ [] else []) inside
      ∙ ap (λ (b : Bool). if b then reply i (map bare (free_items J i (heard i))) ∷ [] else []) (lt-ltb (heard i) (length (free_items J i (heard i))) more)

-- ---- by other names

pub resuming_as : (X Y : ℕ → List Item) (A B : ℕ → List Message) (T : Setting) (P : Plan) (first J : List Entry) (heard : Counts) (log : List LogEntry) (C : CrewState) (sims : List (Option Simulator)) → ((i : ℕ) → i < sim_count P → X i ≡ Y i) → ((i : ℕ) → A i ≡ B i)
    → IsResumingWith (course_of T first heard X A log) P J C sims → IsResumingWith (course_of T first heard Y B log) P J C sims
resuming_as X Y A B T P first J heard log C sims items awaits u = record {
  suits = u.suits;
  stands = u.stands;
  begins = u.begins;
  patient = u.patient;
  in_range = u.in_range;
  no_fault = u.no_fault;
  paid = u.paid;
  catching = seen (saved_of first) T.started T.scenario T.replies (reply_in T) P X Y A B J heard log C u.catching (λ i l linked. items i (in_plan i (linked_outside T.started T.scenario i l linked).1)) awaits;
  no_other = u.no_other;
  come = λ i inside. let t = u.come i inside in (t.0, t.1, subst (λ (xs : List Item). HasCome T.rows T.scenario i xs t.0) (items i (in_plan i (within_below T.scenario i inside))) t.2);
  only_within = u.only_within;
  log_right = u.log_right;
}
  where
    in_plan : (i : ℕ) → i < length T.scenario.sims → i < sim_count P
    in_plan i low = subst (λ (n : ℕ). i < n) (sym u.suits.sims) low

module _ (T : Setting) (P : Plan) (first J : List Entry) (heard : Counts) (X : ℕ → List Item) (A : ℕ → List Message) (log : List LogEntry) (s from : ℕ) (C : CrewSeen) (u : IsResumingWith (course_of T first heard X A log) P J (crew_of C) C.sims) (p : IsPassing (course_of T first heard X A log) P J s from) where
  abbrev free : List Item
  free = free_items J s (heard s)

  abbrev awaits : List Message
  awaits = awaited T.scenario (reply_in T) J heard s

  -- nothing more is free
  pub passed_quietly : free ≡ X s → IsPassed (course_of T first heard X A log) P J s C
  passed_quietly is = resuming_as X (put X s free) A (put A s awaits) T P first J heard log (crew_of C) C.sims (λ i low. put_same X s free (sym is) i)
      (put_same A s awaits (p.none ∙ sym (awaited_none T.scenario (reply_in T) J heard s (equal_at_most (length free) (heard s) (ap length is ∙ p.answered))))) u

  -- no more items are queued than the journal has entries
  few_queued : length (X s) ≤ length J + 1
  few_queued =
      let queued = ap length p.was_sent in
      let few = few_sent p.gone.gone s in
      let parts : length J ≡ length p.gone.gone + length p.gone.left = ap length p.gone.parts ∙ length-append p.gone.gone p.gone.left in
      omega (arith, queued, few, parts)

  -- the crew takes an item with the next id
  pub passing_linked : (item : Item) (id : ℕ) → s < sim_count P → (takes_id item ≡ true → id ≡ id_after (setup_count T.scenario s) (X s)) → is_here C s ≡ false → HasNext item id s C
  passing_linked item id low right away =
      let t = link_there T.started T.scenario s (subst (λ (n : ℕ). s < n) u.suits.sims low) (not_here_is_outside T X C.sims s u.come away) in
      let h = u.catching.touch.channels s t.0 t.1 in
      (h.channel, h.there, small_next T P J u.suits u.stands s low (X s) few_queued h.channel.next h.in_step.next_id, λ takes. right takes ∙ sym h.in_step.next_id)

  -- an item more is, and it was sent
  module _ (law : RepliesAreKinds) (item : Item) (id : ℕ) (D : CrewSeen) (right : takes_id item ≡ true → id ≡ id_after (setup_count T.scenario s) (X s)) (takes : is_here C s ≡ true → takes_id item ≡ true) (so : SendsAs s item id C D) (is : free ≡ X s ++ item ∷ []) where
    abbrev Y : ℕ → List Item
    Y = put X s free

    abbrev B : ℕ → List Message
    B = put A s awaits

    more : Y s ≡ X s ++ item ∷ []
    more = put_here X s free ∙ is

    stay : (i : ℕ) → (i ≡ s → ⊥) → Y i ≡ X i
    stay i apart = put_away X s free i apart

    numbered : is_here C s ≡ true → id ≡ id_after (setup_count T.scenario s) (X s)
    numbered here = right (takes here)

    long : heard s < length free
    long = let a = ap length is ∙ length-append (X s) (item ∷ []) in let b = p.answered in omega (arith, a, b)

    catching : IsCatchingWith Y B (saved_of first) (exchange_at T log) T.replies P J heard (crew_of D)
    catching = elim (true_or_false (is_here C s)) [ inl here ↦ inside here | inr away ↦ outside away ]
      where
        inside : is_here C s ≡ true → IsCatchingWith Y B (saved_of first) (exchange_at T log) T.replies P J heard (crew_of D)
        inside here =
            let t = kept_so T law X Y s item id C D more stay u.come u.only_within numbered so here in
            let m : Message = reply_in T s (map bare (Y s)) in
            catching_kept (saved_of first) T.started T.scenario T.replies (reply_in T) P X Y A B J heard log (crew_of C) (crew_of D) s m u.catching (p.over t.0) t.1
            (λ i l linked. sym (stay i (λ q. true≢false (sym t.0 ∙ ap (is_within T.scenario) (sym q) ∙ linked_out T.started T.scenario i l linked))))
            (λ i. elim (same_or_not i s) [
              | inl q ↦ subst (λ (j : ℕ). B j ≡ A j ++ given_by s m j) (sym q)
                  (put_here A s awaits ∙ awaited_one T.scenario (reply_in T) J heard s t.0 long ∙ ap (λ (items : List Item). reply_in T s (map bare items) ∷ []) (sym (put_here X s free))
                  ∙ sym (ap (λ (l : List Message). l ++ given_by s m s) p.none ∙ given_here s m))
              | inr apart ↦ put_away A s awaits i apart ∙ sym (ap (λ (l : List Message). A i ++ l) (given_away s m i apart) ∙ append_nil (A i))
            ])

        outside : is_here C s ≡ false → IsCatchingWith Y B (saved_of first) (exchange_at T log) T.replies P J heard (crew_of D)
        outside away =
            let q = so.on_link away in
            let t = u.no_other s q.0.channel q.0.there in
            seen (saved_of first) T.started T.scenario T.replies (reply_in T) P Y Y A B J heard log (crew_of D)
            (catching_queued (saved_of first) T.started T.scenario T.replies (reply_in T) P X Y A J heard log (crew_of C) (crew_of D) s item id t.0 u.catching t.1 q.0 (λ w there takes_one. next w there takes_one t.0 t.1) more stay)
            (λ i l linked. refl)
            (put_same A s awaits (p.none ∙ sym (awaited_outside T.scenario (reply_in T) J heard s (linked_out T.started T.scenario s t.0 t.1))))
          where
            next : (w : Channel) → channel_at (crew_of C) s ≡ Some w → takes_id item ≡ true → (l : LinkNo) → sim_link T.started T.scenario s ≡ Some l → id ≡ w.next
            next w there takes_one l linked =
                let h = u.catching.touch.channels s l linked in
                right takes_one ∙ sym h.in_step.next_id ∙ ap (λ (v : Channel). v.next) (some_same (sym h.there ∙ there))

    pub passed_sent : IsPassed (course_of T first heard X A log) P J s D
    passed_sent = record {
      suits = u.suits;
      stands = u.stands;
      begins = u.begins;
      patient = u.patient;
      in_range = u.in_range;
      no_fault = u.no_fault;
      paid = u.paid;
      catching = catching;
      no_other = no_other_after T law X Y s item id C D more stay u.come u.only_within numbered so u.no_other;
      come = come_sent T law X Y s item id C D more stay u.come u.only_within numbered so;
      only_within = only_sent T law X Y s item id C D more stay u.come u.only_within numbered so;
      log_right = u.log_right;
    }
