-- What a run's journal has may stand in its record.
use Rattle.std.proofs.Common.{◌≡◌, ℕ, suc, ◌+◌, ◌^◌, ◌<◌, ◌≤◌, inl, inr, ℤ, pos, ◌≤ℤ◌, true, List, [], ◌∷◌, ◌++◌, length, map, filter_map, Option, Some, None, refl, sym, ap, ◌∙◌, subst, arith, append_assoc, length-append}
use Rattle.std.specs.List.{cons_option}
use Rattle.std.proofs.lemmas.Bool.{and_from}
use Rattle.std.proofs.lemmas.Int.{ints}
use Rattle.std.proofs.lemmas.List.{length-map}
use Rattle.mk_base.specs.declared.SimNo.{SimNo}
use Rattle.mk_base.specs.declared.tier.Tier.{Tier}
use Rattle.mk_base.specs.Lists.{Each}
use Rattle.mk_plan.specs.declared.Plan.{Plan}
use Rattle.mk_plan.specs.declared.Entry.{Entry}
use Rattle.mk_plan.specs.declared.Entry.TheVariants.{Sent, Got}
use Rattle.mk_plan.specs.declared.Item.TheVariants.{Step, GetData, Answer, Refuse}
use Rattle.mk_plan.specs.declared.Message.{Message}
use Rattle.mk_plan.specs.Journals.{bare, sent, sent_to}
use Rattle.mk_plan.specs.Plans.{sim_count}
use Rattle.mk_run_crew.specs.Attempts.{Attempt}
use Rattle.mk_run_laws.specs.Handshake.{is_within, setup_count}
use Rattle.mk_run_laws.proofs.Saying.{link_there}
use Rattle.mk_record_read.specs.Entries.{entries_of}
use Rattle.mk_record_read.specs.Lines.{step_fits}
use Rattle.mk_record_laws.specs.Readable.{IsHeard, IsReadable, MayStand}
use Rattle.mk_record_laws.proofs.Steps.{EntryFits, StepFits, steps_fit}
use Rattle.mk_run.specs.declared.outcome.Outcome.{Outcome}
use Rattle.mk_run.specs.Ran.{HasRun}
use Rattle.mosaikrun_again.specs.Readable.{IsShallow, RunsAreReadable}
use Rattle.mosaikrun_again.proofs.KindReplies.{kind_heard}
use Rattle.mosaikrun_again.proofs.LinkMessages.{link_read}
use Rattle.mk_base.proofs.Counts.{between_test}
use Rattle.mk_base.proofs.Bools.{true_or_false}
use Rattle.mk_run.proofs.SmallIds.{low_first}

-- ---- the numbers of a Step

step_stands : (P : Plan) (s : ℕ) (x : Tier) (advance : ℤ) → StepFits P s x advance → step_fits x.time (pos x.tier) advance ≡ true
step_stands P s x advance h =
    let tier : (pos 0 ≤ℤ pos x.tier) × (pos x.tier ≤ℤ pos 1000) = (let t = h.tier in (grind (arith, ints, t), grind (arith, ints, t))) in
    and_from _ _ (and_from _ _ (between_test x.time 1000000000 h.time) (between_test (pos x.tier) 1000 tier)) (between_test advance 1000000000 h.ahead)

-- ---- how high ids come

kept_few : {X Y : Type 0} (f : X → Option Y) (xs : List X) → length (filter_map f xs) ≤ length xs
kept_few f [] = omega arith
kept_few f (x ∷ xs) = by (f x) (kept_few f xs)
  where
    by : (o : Option _) → length (filter_map f xs) ≤ length xs → length (cons_option o (filter_map f xs)) ≤ suc (length xs)
    by None few = omega (arith, few)
    by (Some y) few = omega (arith, few)

module _ (A : Attempt) (P : Plan) (J : List Entry) (faults new_faults : ℕ) (end : Outcome) (h : HasRun A P J faults new_faults end) (shallow : IsShallow A.scenario J) where
  -- the ids of a simulator's requests in a run are below 2^63
  ids_low : (H : List Entry) (s : SimNo) (m : Message) (more : List Entry) → J ≡ H ++ Got s m ∷ more → s.0 < sim_count P → setup_count A.scenario s.0 + length (map bare (sent H s.0)) < 2 ^ 63
  ids_low H s m more is low =
      let first : setup_count A.scenario s.0 ≤ 1000000 = subst (λ (n : ℕ). n ≤ 1000000) (h.first s.0 low) (low_first P h.run.valid s.0 low) in
      let items : length (map bare (sent H s.0)) ≡ length (sent H s.0) = length-map (sent H s.0) bare in
      let few : length (sent H s.0) ≤ length H = kept_few (sent_to s.0) H in
      let part : length J ≡ length H + length (Got s m ∷ more) = ap length is ∙ length-append H (Got s m ∷ more) in
      let within = h.run.within in
      let limit = h.run.valid.well_formed.limits.entries.1 in
      omega (arith, first, items, few, part, within, limit)

  heard : (H : List Entry) (s : SimNo) (m : Message) (more : List Entry) → J ≡ H ++ Got s m ∷ more → s.0 < sim_count P → IsHeard m
  heard H s m more is low = elim (true_or_false (is_within A.scenario s.0)) [
    | inl inside ↦ kind_heard A.rows A.scenario s.0 (map bare (sent H s.0)) m (ids_low H s m more is low) (h.run.journal.kinds H s m more is inside).is (h.run.in_range H s m more is)
    | inr outside ↦
        let l = link_there A.started A.scenario s.0 (subst (λ (n : ℕ). s.0 < n) h.run.journal.sims low) outside in
        let t = link_read A.scenario A.log l.0 J H s m more (h.run.journal.links s.0 l.0 l.1) is in
        record { payload = t.0; read = t.1; shallow = shallow H s m more is outside }
  ]

  -- behind the entries H
  may_stand : (H K : List Entry) → J ≡ H ++ K → Each (EntryFits P) K → Each (MayStand P) (entries_of K)
  may_stand H [] is fits = tt
  may_stand H (Sent s (Step x ins advance) ∷ K) is fits = ((fits.0.sim, step_stands P s.0 x advance fits.0), may_stand (H ++ Sent s (Step x ins advance) ∷ []) K (is ∙ sym (append_assoc H (Sent s (Step x ins advance) ∷ []) K)) fits.1)
  may_stand H (Sent s (GetData wants) ∷ K) is fits = may_stand (H ++ Sent s (GetData wants) ∷ []) K (is ∙ sym (append_assoc H (Sent s (GetData wants) ∷ []) K)) fits.1
  may_stand H (Sent s (Answer id content) ∷ K) is fits = may_stand (H ++ Sent s (Answer id content) ∷ []) K (is ∙ sym (append_assoc H (Sent s (Answer id content) ∷ []) K)) fits.1
  may_stand H (Sent s (Refuse id reason) ∷ K) is fits = may_stand (H ++ Sent s (Refuse id reason) ∷ []) K (is ∙ sym (append_assoc H (Sent s (Refuse id reason) ∷ []) K)) fits.1
  may_stand H (Got s m ∷ K) is fits = ((fits.0, heard H s m K is fits.0), may_stand (H ++ Got s m ∷ []) K (is ∙ sym (append_assoc H (Got s m ∷ []) K)) fits.1)

  pub readable : IsReadable P J
  readable = record { valid = h.run.valid; entries = may_stand [] J refl (steps_fit P h.run.valid J h.run.eager.0.0) }

pub runs_are_readable : RunsAreReadable
runs_are_readable A P J faults new_faults end h shallow = readable A P J faults new_faults end h shallow
