-- What is said on the links is what sequential execution sends, over all that may still come.
use Rattle.std.proofs.Common.{◌≡◌, ℕ, ℤ, ◌<◌, Bool, true, false, not, List, [], ◌∷◌, ◌++◌, length, map, take, filter, Option, Some, None, option_map, option_and_then, unwrap_or, refl, sym, ap, ◌∙◌, subst, ◌⊎◌, inl, inr, append_assoc, true≢false, if◌then◌else◌, ◌+◌, ◌==◌, ◌&&◌}
use Rattle.std.proofs.lemmas.Bool.{eqb-true, eq-eqb}
use Rattle.mk_base.specs.declared.LinkNo.{LinkNo}
use Rattle.mk_base.specs.declared.SimNo.{SimNo}
use Rattle.mk_base.specs.declared.tier.Tier.{Tier}
use Rattle.mk_base.specs.Lists.{BeginsWith}
use Rattle.mk_base.proofs.Lists.{append_nil, map_append, below_get, filter_map_append}
use Rattle.mk_plan.specs.declared.Plan.{Plan}
use Rattle.mk_plan.specs.declared.Input.{Input}
use Rattle.mk_plan.specs.declared.Item.{Item}
use Rattle.mk_plan.specs.declared.Item.TheVariants.{Step}
use Rattle.mk_plan.specs.declared.Entry.{Entry}
use Rattle.mk_plan.specs.declared.Entry.TheVariants.{Sent, Got}
use Rattle.mk_plan.specs.Plans.{sim_count, IsValidPlan}
use Rattle.mk_plan.specs.Sequential.{Messages, sequential, run_items, all_ended}
use Rattle.mk_plan.specs.Journals.{View, Owed, view, sent, got, got_from, bare}
use Rattle.mk_plan.specs.Ready.{IsReady, IsDone}
use Rattle.mk_plan.specs.Report.{is_step}
use Rattle.mk_plan.specs.Advance.{IsAdvance, IsPromised}
use Rattle.mk_plan.specs.Orderly.{IsNext, IsAllowed, IsOrderlySoFar}
use Rattle.mk_plan.specs.Agreement.{Continues}
use Rattle.mk_scenario.specs.declared.parts.SimPart.{SimPart}
use Rattle.mk_scenario.specs.declared.parts.Scenario.{Scenario}
use Rattle.mk_outside.specs.declared.fleet.LogEntry.{LogEntry}
use Rattle.mk_order.proofs.Agreeing.{agreeing}
use Rattle.mk_order.proofs.Headlines.{advance_promised}
use Rattle.mk_order.proofs.Seen.{reached_sound}
use Rattle.mk_order.proofs.Pushing.{orderly_front}
use Rattle.mk_run_laws.specs.Exchanges.{exchange}
use Rattle.mk_run_laws.specs.Handshake.{is_local, has_link, is_within, sim_link}
use Rattle.mk_run_laws.specs.Kinds.{Replies, KeepsToKinds}
use Rattle.mk_run_laws.specs.Rests.{run_messages}
use Rattle.mk_run_laws.specs.Runs.{IsPossible, IsPossibleUpTo, is_other_within}
use Rattle.mk_run_laws.proofs.Following.{followed, all_done}
use Rattle.mk_base.proofs.Items.{begins_twice}

-- a simulator that isn't within the program has a link
pub link_there : (started : ℕ) (S : Scenario) (i : ℕ) → i < length S.sims → is_within S i ≡ false → (l : LinkNo) × (sim_link started S i ≡ Some l)
link_there started S i low out =
    let t = below_get S.sims i low in
    let outside : is_local t.0.begin ≡ false = sym (ap (λ (o : Option SimPart). unwrap_or (option_map (λ (s : SimPart). is_local s.begin) o) false) t.1) ∙ out in
    let l : LinkNo = record { 0 = started + length (filter has_link (take i S.sims)) } in
    (l, ap (λ (o : Option SimPart). option_and_then (λ (s : SimPart). if has_link s then Some l else None) o) t.1 ∙ ap (λ (b : Bool). if not b then Some l else None) outside)

mapped : {X Y : Type 0} (f : X → Y) (l a : List X) → BeginsWith l a → BeginsWith (map f l) (map f a)
mapped f l a t = (map f t.0, ap (map f) t.1 ∙ map_append f a t.0)

module _ (P : Plan) (valid : IsValidPlan P) (started : ℕ) (S : Scenario) (sims : sim_count P ≡ length S.sims) (reply : Replies) where
  its : (V : View) (s : ℕ) (x : Tier) → IsReady P V s x → IsReady P V s x
  its V s x r = r

  module _ (log : List LogEntry) (J : List Entry) (orderly : IsOrderlySoFar IsReady IsAdvance P J) (kinds : KeepsToKinds reply (is_within S) P J)
      (links : (i : ℕ) (l : LinkNo) → sim_link started S i ≡ Some l → BeginsWith (run_messages S log i l) (got J i)) where
    low_link : (i : ℕ) → i < sim_count P → is_within S i ≡ false → (l : LinkNo) × (sim_link started S i ≡ Some l)
    low_link i low out = link_there started S i (subst (λ (n : ℕ). i < n) sims low) out

    module _ (R : Messages) (may : IsPossible (exchange started S reply log) P R) where
      -- what may come goes on with what came
      pub goes_on : Continues P J R
      goes_on = followed P valid reply (is_within S) R may.by_kind J orderly kinds (λ i low out. let t = low_link i low out in begins_twice (R i) (run_messages S log i t.0) (got J i) (may.links i t.0 t.1) (links i t.0 t.1))

      -- the items of the journal, or the first of them, begin what sequential execution sends
      pub items_begin : (i : ℕ) → i < sim_count P → (items : List Item) → BeginsWith (sent J i) items → BeginsWith (run_items P R i) (map bare items)
      items_begin i low items first = begins_twice (run_items P R i) (map bare (sent J i)) (map bare items) (agreeing IsReady IsAdvance P its valid J orderly R goes_on i low) (mapped bare (sent J i) items first)

      -- where nothing is left to do they are all of it, and no turn is cut
      pub items_all : IsDone P (view P J) → (i : ℕ) → (map bare (sent J i) ≡ run_items P R i) × (all_ended (sequential P R i) ≡ true)
      items_all done i = let t = all_done P valid J orderly done R goes_on i in (t.items, t.ended)

    -- a Step of s and what came before it
    module _ (H : List Entry) (s : SimNo) (x : Tier) (ins : List Input) (advance : ℤ) (more : List Entry) (parts_are : J ≡ H ++ Sent s (Step x ins advance) ∷ more) where
      front : IsOrderlySoFar IsReady IsAdvance P H × IsAllowed IsReady IsAdvance P (view P H) (Sent s (Step x ins advance))
      front = let t = orderly_front IsReady IsAdvance P H (Sent s (Step x ins advance) ∷ more) (subst (λ (G : List Entry). IsOrderlySoFar IsReady IsAdvance P G) parts_are orderly) in (t.0, t.1.0)

      -- a Step is never owed
      next_alone : IsNext IsReady IsAdvance P (view P H) None (Sent s (Step x ins advance))
      next_alone = go (view P H).owed refl front.1.1
        where
          is_step_entry : Entry → Bool
          is_step_entry (Sent t item) = is_step item
          is_step_entry (Got t m) = false

          go : (o : Option Owed) → (view P H).owed ≡ o → IsNext IsReady IsAdvance P (view P H) o (Sent s (Step x ins advance)) → IsNext IsReady IsAdvance P (view P H) None (Sent s (Step x ins advance))
          go None e next = next
          go (Some o) e next = absurd (apart (ap is_step_entry next) ((reached_sound IsReady IsAdvance P its H front.0).later o e))
            where
              apart : true ≡ is_step o.item → is_step o.item ≡ false → ⊥
              apart a b = true≢false (a ∙ b)

      kinds_before : KeepsToKinds reply (is_within S) P H
      kinds_before G t m later is here = kinds G t m (later ++ Sent s (Step x ins advance) ∷ more) (parts_are ∙ ap (λ (K : List Entry). K ++ Sent s (Step x ins advance) ∷ more) is ∙ append_assoc G (Got t m ∷ later) (Sent s (Step x ins advance) ∷ more)) here

      got_before : (i : ℕ) → BeginsWith (got J i) (got H i)
      got_before i = (got (Sent s (Step x ins advance) ∷ more) i, ap (λ (G : List Entry). got G i) parts_are ∙ filter_map_append (got_from i) H (Sent s (Step x ins advance) ∷ more))

      -- its max_advance is a promise, whatever else may come, where s sends nothing more
      pub step_promised : s.0 < sim_count P → (R : Messages) → IsPossibleUpTo (exchange started S reply log) P H s.0 R → IsPromised P R s.0 x.time advance
      step_promised low R may = advance_promised P valid H front.0 front.1.0 s.0 x advance low next_alone.0.0 next_alone.2 R cont may.ends
        where
          same_or_not : (a b : ℕ) → (a ≡ b) ⊎ (a ≡ b → ⊥)
          same_or_not a b = elim (a == b) as (λ c. (a == b) ≡ c → (a ≡ b) ⊎ (a ≡ b → ⊥)) [ true ↦ λ e. inl (eqb-true a b e) | false ↦ λ e. inr (λ q. true≢false (sym (eq-eqb a b q) ∙ e)) ] refl

          first_holds : (a b : Bool) → (a && b) ≡ true → a ≡ true
          first_holds true b e = refl
          first_holds false b e = e

          not_first : (a b : Bool) → (a && not b) ≡ false → b ≡ false → a ≡ false
          not_first true b e f = absurd (true≢false (ap not (sym f) ∙ e))
          not_first false b e f = refl

          other : (a b : ℕ) → (a ≡ b → ⊥) → (a == b) ≡ false
          other a b apart = elim (a == b) as (λ c. (a == b) ≡ c → (a == b) ≡ false) [ true ↦ λ e. absurd (apart (eqb-true a b e)) | false ↦ λ e. e ] refl

          others_before : KeepsToKinds reply (is_other_within S s.0) P H
          others_before G t m later is here = kinds_before G t m later is (first_holds (is_within S t.0) (not (t.0 == s.0)) here)

          cont : Continues P H R
          cont = followed P valid reply (is_other_within S s.0) R may.by_kind H front.0 others_before (λ i h out. elim (same_or_not i s.0) [
            | inl e ↦ ([], ap R e ∙ may.ends ∙ ap (got H) (sym e) ∙ sym (append_nil (got H i)))
            | inr apart ↦ let t = low_link i h (not_first (is_within S i) (i == s.0) out (other i s.0 apart)) in begins_twice (R i) (got J i) (got H i) (begins_twice (R i) (run_messages S log i t.0) (got J i) (may.links i t.0 t.1 apart) (links i t.0 t.1)) (got_before i)
          ])
