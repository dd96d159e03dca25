-- What a resumed run's journal was at a rest, and what stands there.
use Rattle.std.proofs.Common.{◌≡◌, ℕ, zero, suc, ◌≤◌, max, List, [], ◌∷◌, ◌++◌, length, take, Option, Some, None, option_map, refl, sym, ap, ◌∙◌, subst, ◌⊎◌, inl, inr, arith}
use Rattle.mk_base.specs.declared.LinkNo.{LinkNo}
use Rattle.mk_base.specs.declared.SimNo.{SimNo}
use Rattle.mk_base.specs.Lists.{BeginsWith}
use Rattle.mk_base.proofs.Lists.{none_some, some_same}
use Rattle.mk_plan.specs.declared.Plan.{Plan}
use Rattle.mk_plan.specs.declared.Message.{Message}
use Rattle.mk_plan.specs.declared.Entry.{Entry}
use Rattle.mk_plan.specs.declared.Entry.TheVariants.{Got}
use Rattle.mk_plan.specs.Journals.{view, got}
use Rattle.mk_plan.specs.Ready.{IsReady}
use Rattle.mk_plan.specs.Sequential.{Messages}
use Rattle.mk_scenario.specs.declared.parts.Scenario.{Scenario}
use Rattle.mk_outside.specs.declared.fleet.LogEntry.{LogEntry}
use Rattle.mk_outside.specs.declared.fleet.LogEntry.TheVariants.{NotHeard}
use Rattle.mk_outside.specs.Logs.{last_read}
use Rattle.mk_run_laws.specs.Handshake.{setup_count, sim_link}
use Rattle.mk_run_laws.specs.Rests.{within, run_messages, all_frames, SaysAll}
use Rattle.mk_run_laws.specs.Running.{BeginsOnLink}
use Rattle.mk_run_laws.proofs.Resting.{parked_heard, parked_said, within_is}
use Rattle.mk_resume_walk.specs.Talks.{free_items}
use Rattle.mk_resume_walk.proofs.GoingOn.{take_counted}
use Rattle.mk_resume_links.specs.Rests.{Counts, repeated, rest_counts, at_rest, IsWellAtRest, RestsWell}
use Rattle.mk_resume_links.specs.Running.{IsRestOf, RestsEnd}

begins_take : (n : ℕ) (xs : List Message) → BeginsWith xs (take n xs)
begins_take zero xs = (xs, refl)
begins_take (suc n) [] = ([], refl)
begins_take (suc n) (x ∷ xs) = let t = begins_take n xs in (t.0, ap (λ (l : List Message). x ∷ l) t.1)

module _ (saved : Counts) (started : ℕ) (S : Scenario) (replies : Messages) (counts : (i : ℕ) (l : LinkNo) → sim_link started S i ≡ Some l → length (replies i) ≡ setup_count S i) (P : Plan) (J : List Entry) (before : List LogEntry) where
  module _ (r : IsRestOf saved started S replies P J before) (next : (r.more ≡ []) ⊎ BeginsOnLink started S r.more) where
    heard_of_link : (i : ℕ) (l : LinkNo) → sim_link started S i ≡ Some l → run_messages S before i l ≡ repeated r.at i (r.heard i)
    heard_of_link i l linked = let t = r.channel i l linked in parked_heard started S replies counts P J before i l linked (repeated r.at i (r.heard i)) (free_items r.at i (r.heard i)) t.0 t.1 t.2 t.3

    -- as many were heard as were sent in this call
    heard_count : (i : ℕ) (l : LinkNo) → sim_link started S i ≡ Some l → length (run_messages S before i l) ≡ r.heard i
    heard_count i l linked = ap length (heard_of_link i l linked) ∙ take_counted (r.heard i) (got r.at i) (let c = r.counts i l linked in omega (arith, c))

    left_of_link : (i : ℕ) (l : LinkNo) → sim_link started S i ≡ Some l → rest_counts saved started S before i ≡ Some (length (got r.at i))
    left_of_link i l linked = ap (option_map (λ (k : LinkNo). max (saved i) (length (run_messages S before i k)))) linked ∙ ap (λ (n : ℕ). Some (max (saved i) n)) (heard_count i l linked) ∙ ap Some (sym (r.counts i l linked))

    fits : (i n : ℕ) → rest_counts saved started S before i ≡ Some n → length (got r.at i) ≤ n
    fits i n h = go (sim_link started S i) refl
      where
        go : (o : Option LinkNo) → sim_link started S i ≡ o → length (got r.at i) ≤ n
        go None e = absurd (none_some (sym (ap (option_map (λ (k : LinkNo). max (saved i) (length (run_messages S before i k)))) e) ∙ h))
        go (Some l) e = let same : length (got r.at i) ≡ n = some_same (sym (left_of_link i l e) ∙ h) in omega (arith, same)

    over : (r.more ≡ []) ⊎ ((s : SimNo) × (m : Message) × (later : List Entry) × (r.more ≡ Got s m ∷ later) × (rest_counts saved started S before s.0 ≡ Some (length (got r.at s.0))))
    over = elim next [
      | inl none ↦ inl none
      | inr (s, m, later, l, is, linked) ↦ inr (s, m, later, is, left_of_link s.0 l linked)
    ]

    -- the journal at the rest is the one over which nobody was ready
    pub rest_is : at_rest saved started S before J ≡ r.at
    rest_is = ap (within (rest_counts saved started S before)) r.parts ∙ within_is (rest_counts saved started S before) r.at r.more fits over

    pub well_at_rest : IsWellAtRest saved started S P J before
    well_at_rest = record {
      has_all = λ i l linked. subst (λ (A : List Entry). BeginsWith (got A i) (run_messages S before i l)) (sym rest_is) (subst (BeginsWith (got r.at i)) (sym (heard_of_link i l linked)) (begins_take (r.heard i) (got r.at i)));
      nobody = λ i x ready. r.nobody i x (subst (λ (A : List Entry). IsReady P (view P A) i x) rest_is ready);
      replied = λ i inside. subst (λ (A : List Entry). (view P A).open_at i ≡ None) (sym rest_is) (r.replied i inside);
      said = λ i l linked. let t = r.channel i l linked in
          subst (λ (A : List Entry). SaysAll l before (all_frames S i (free_items A i (length (run_messages S before i l))))) (sym rest_is)
          (subst (λ (n : ℕ). SaysAll l before (all_frames S i (free_items r.at i n))) (sym (heard_count i l linked))
          (subst (λ (k : LinkNo). SaysAll k before (all_frames S i (free_items r.at i (r.heard i)))) t.1 (parked_said before (replies i ++ repeated r.at i (r.heard i)) _ _ t.0 t.2 t.3)));
      heard_all = λ i l linked. let t = r.channel i l linked in subst (λ (k : LinkNo). last_read k before ≡ Some (NotHeard k)) t.1 (t.3.parked t.2).heard_all;
    }

-- so each rest of a resumed run is one
pub rests_well : (saved : Counts) (started : ℕ) (S : Scenario) (replies : Messages) (counts : (i : ℕ) (l : LinkNo) → sim_link started S i ≡ Some l → length (replies i) ≡ setup_count S i) (P : Plan) (J : List Entry) (log : List LogEntry)
    → RestsEnd saved started S replies P J log → RestsWell saved started S P J log
rests_well saved started S replies counts P J log rests before after is up = let t = rests before after is up in well_at_rest saved started S replies counts P J before t.0 t.1
