-- The rests of a resumed run so far, as its journal and its log go on.
use Rattle.std.proofs.Common.{◌≡◌, ℕ, max, List, [], ◌∷◌, ◌++◌, length, Some, refl, sym, ap, ◌∙◌, subst, ◌⊎◌, inl, inr, append_assoc}
use Rattle.mk_base.specs.declared.LinkNo.{LinkNo}
use Rattle.mk_base.specs.declared.SimNo.{SimNo}
use Rattle.mk_base.specs.declared.tier.Tier.{Tier}
use Rattle.mk_base.proofs.Lists.{append_nil}
use Rattle.mk_plan.specs.declared.Plan.{Plan}
use Rattle.mk_plan.specs.declared.Message.{Message}
use Rattle.mk_plan.specs.declared.Entry.{Entry}
use Rattle.mk_plan.specs.declared.Entry.TheVariants.{Got}
use Rattle.mk_plan.specs.Journals.{Arrival, view, got}
use Rattle.mk_plan.specs.Ready.{IsReady}
use Rattle.mk_plan.specs.Sequential.{Messages, id_after}
use Rattle.mk_scenario.specs.declared.parts.Scenario.{Scenario}
use Rattle.mk_outside.specs.declared.fleet.LogEntry.{LogEntry}
use Rattle.mk_outside.specs.declared.fleet.LogEntry.TheVariants.{Rest}
use Rattle.mk_run_laws.specs.Handshake.{sim_link, setup_count, setup_payloads}
use Rattle.mk_run_laws.specs.Payloads.{item_payloads}
use Rattle.mk_run_laws.specs.Channels.{IsChannelAt}
use Rattle.mk_run_laws.specs.Crews.{CrewState, AreParkedAtRests, IsRestless}
use Rattle.mk_run_laws.specs.Running.{BeginsOnLink, IsBegun}
use Rattle.mk_run_laws.proofs.Moving.{channel_moved}
use Rattle.mk_run_laws.proofs.Stepping.{first_or_second, begins_longer}
use Rattle.mk_resume_walk.specs.Talks.{free_items}
use Rattle.mk_resume_links.specs.Rests.{Counts, repeated}
use Rattle.mk_resume_links.specs.Running.{IsRestOf, RestsEnd}
use Rattle.mk_resume_links.specs.inner.Touching.{IsInTouch, IsResting, RestsOver, RestsSoFar}

module _ (saved : Counts) (started : ℕ) (S : Scenario) (replies : Messages) (P : Plan) where
  -- ---- the journal goes on

  abbrev rest_longer : (J : List Entry) (e : Entry) (before : List LogEntry) (r : IsRestOf saved started S replies P J before) → IsRestOf saved started S replies P (J ++ e ∷ []) before
  rest_longer J e before r = record {
    at = r.at;
    more = r.more ++ e ∷ [];
    parts = ap (λ (l : List Entry). l ++ e ∷ []) r.parts ∙ append_assoc r.at r.more (e ∷ []);
    nobody = r.nobody;
    replied = r.replied;
    heard = r.heard;
    counts = r.counts;
    channel = r.channel;
  }

  pub over_longer : (J : List Entry) (e : Entry) (log : List LogEntry) → RestsOver saved started S replies P J log → RestsOver saved started S replies P (J ++ e ∷ []) log
  over_longer J e log rests before after is up = let t = rests before after is up in (rest_longer J e before t.0, begins_longer started S t.0.more e t.1)

  pub over_so_far : (J : List Entry) (log : List LogEntry) (kept : List Arrival) → RestsOver saved started S replies P J log → RestsSoFar saved started S replies P J log kept
  over_so_far J log kept rests before after is up = let t = rests before after is up in (t.0, inr t.1)

  -- where somebody is ready, a message has come since each rest
  pub ready_over : (J : List Entry) (log : List LogEntry) (kept : List Arrival) (i : ℕ) (x : Tier) → IsReady P (view P J) i x → RestsSoFar saved started S replies P J log kept → RestsOver saved started S replies P J log
  ready_over J log kept i x ready rests before after is up = let t = rests before after is up in (
    t.0,
    elim t.1 [
      | inl none ↦ absurd (t.0.nobody i x (subst (λ (K : List Entry). IsReady P (view P K) i x) (t.0.parts ∙ ap (λ (l : List Entry). t.0.at ++ l) none.0 ∙ append_nil t.0.at) ready))
      | inr on_link ↦ on_link
    ],
  )

  -- and where a reply is kept
  pub kept_over : (J : List Entry) (log : List LogEntry) (kept : List Arrival) → (kept ≡ [] → ⊥) → RestsSoFar saved started S replies P J log kept → RestsOver saved started S replies P J log
  kept_over J log kept some rests before after is up = let t = rests before after is up in (t.0, elim t.1 [ inl none ↦ absurd (some none.1) | inr on_link ↦ on_link ])

  -- a message of a link is the journal's next entry
  pub link_over : (J : List Entry) (log : List LogEntry) (kept : List Arrival) (s : SimNo) (m : Message) (l : LinkNo) → sim_link started S s.0 ≡ Some l → RestsSoFar saved started S replies P J log kept → RestsOver saved started S replies P (J ++ Got s m ∷ []) log
  link_over J log kept s m l linked rests before after is up = let t = rests before after is up in (
    rest_longer J (Got s m) before t.0,
    elim t.1 [
      | inl none ↦ (s, m, [], l, ap (λ (k : List Entry). k ++ Got s m ∷ []) none.0, linked)
      | inr on_link ↦ begins_longer started S t.0.more (Got s m) on_link
    ],
  )

  -- ---- the log goes on

  -- channels that were moved to a rest are in step with the journal
  abbrev parked_rest : (J : List Entry) (heard : Counts) (A : ℕ → List Message) (log entries : List LogEntry) (C : CrewState) → IsInTouch (λ i. repeated J i (heard i)) (λ i. free_items J i (heard i)) A started S replies log C
      → ((i : ℕ) (l : LinkNo) → sim_link started S i ≡ Some l → length (got J i) ≡ max (saved i) (heard i)) → IsResting S P J → AreParkedAtRests entries C
      → (before after : List LogEntry) → entries ≡ before ++ Rest ∷ after → IsRestOf saved started S replies P J (log ++ before)
  parked_rest J heard A log entries C touch counts resting parked before after is = record {
    at = J;
    more = [];
    parts = sym (append_nil J);
    nobody = resting.0;
    replied = resting.1;
    heard = heard;
    counts = counts;
    channel = λ i l linked. let h = touch.channels i l linked in let t = parked before after is i h.channel h.there in (
      t.0,
      t.1.link ∙ h.link,
      t.2,
      subst (λ (ms : List Message). IsChannelAt (log ++ before) ms (setup_payloads S i ++ item_payloads (setup_count S i) (free_items J i (heard i))) (id_after (setup_count S i) (free_items J i (heard i))) t.0) (append_nil (replies i ++ repeated J i (heard i)))
          (channel_moved log before (replies i ++ repeated J i (heard i)) [] (setup_payloads S i ++ item_payloads (setup_count S i) (free_items J i (heard i))) (id_after (setup_count S i) (free_items J i (heard i))) h.channel t.0 h.in_step t.1),
    );
  }

  -- a message was waited for, with no reply kept and nobody ready
  pub rests_waited : (J : List Entry) (heard : Counts) (A : ℕ → List Message) (log entries : List LogEntry) (C : CrewState) → IsInTouch (λ i. repeated J i (heard i)) (λ i. free_items J i (heard i)) A started S replies log C
      → ((i : ℕ) (l : LinkNo) → sim_link started S i ≡ Some l → length (got J i) ≡ max (saved i) (heard i)) → IsResting S P J → AreParkedAtRests entries C
      → C.kept ≡ [] → (kept : List Arrival) → kept ≡ [] → RestsSoFar saved started S replies P J log C.kept → RestsSoFar saved started S replies P J (log ++ entries) kept
  rests_waited J heard A log entries C touch counts resting parked none kept none_after rests before after is up = elim (first_or_second log entries before after Rest is) [
    | inl t ↦ let q = rests before t.0 t.1 up in (q.0, elim q.1 [ inl still ↦ inl (still.0, none_after) | inr on_link ↦ inr on_link ])
    | inr t ↦ subst (λ (b : List LogEntry). (r : IsRestOf saved started S replies P J b) × (((r.more ≡ []) × (kept ≡ [])) ⊎ BeginsOnLink started S r.more)) (sym t.1)
        (parked_rest J heard A log entries C touch counts resting parked t.0 after t.2, inl (refl, none_after))
  ]

  -- ---- the beginning and the end

  -- the handshake had no rest at which all had set up
  pub none_yet : (J : List Entry) (log : List LogEntry) (C : CrewState) → IsBegun started S replies log C → RestsOver saved started S replies P J log
  none_yet J log C b before after is up = absurd (b.setting_up before after is up)

  pub so_far_end : (J : List Entry) (log : List LogEntry) (kept : List Arrival) → RestsSoFar saved started S replies P J log kept → RestsEnd saved started S replies P J log
  so_far_end J log kept rests before after is up = let t = rests before after is up in (t.0, elim t.1 [ inl none ↦ inl none.0 | inr on_link ↦ inr on_link ])

  -- a stop adds no rest
  pub end_stopped : (J : List Entry) (log entries : List LogEntry) → IsRestless entries → RestsEnd saved started S replies P J log → RestsEnd saved started S replies P J (log ++ entries)
  end_stopped J log entries restless rests before after is up = elim (first_or_second log entries before after Rest is) [
    | inl t ↦ rests before t.0 t.1 up
    | inr t ↦ absurd (restless t.0 after t.2)
  ]
