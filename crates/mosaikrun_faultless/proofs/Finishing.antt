-- A scenario within the program of which a run came to its end meets no limit.
use Rattle.std.proofs.Common.{◌≡◌, inl, inr, ℕ, ◌≤◌, List, [], ◌∷◌, length, fold, Option, Some, None, option_map, sym, ap, ◌∙◌, subst, arith}
use Rattle.std.specs.List.{range_with_len}
use Rattle.mk_base.specs.declared.tier.Tier.{Tier}
use Rattle.mk_base.specs.Lists.{IsIn}
use Rattle.mk_plan.specs.declared.Cause.{Cause}
use Rattle.mk_plan.specs.declared.Entry.{Entry}
use Rattle.mk_plan.specs.declared.Entry.TheVariants.{Sent, Got}
use Rattle.mk_plan.specs.declared.Message.{Message}
use Rattle.mk_plan.specs.declared.Place.{Place}
use Rattle.mk_plan.specs.declared.Plan.{Plan}
use Rattle.mk_plan.specs.Acts.{Act, Family}
use Rattle.mk_plan.specs.Advance.{IsAdvance}
use Rattle.mk_plan.specs.Agreement.{Continues}
use Rattle.mk_plan.specs.Journals.{OpenTurn, View, empty_view, ended_turn, loop_fault, note, note_got, note_right, place_at, said, view}
use Rattle.mk_plan.specs.Orderly.{IsOrderlyFrom, IsOrderlySoFar}
use Rattle.mk_plan.specs.Plans.{IsValidPlan, sim_count}
use Rattle.mk_plan.specs.Ready.{IsDone, IsReady}
use Rattle.mk_plan.specs.Sequential.{Messages, run_talk}
use Rattle.mk_plan.specs.Turns.{next_place, wrong}
use Rattle.mk_order_any.specs.Parts as theory
use Rattle.mk_order_any.proofs.Talks.{at_end}
use Rattle.mk_order.proofs.Agreeing.{goes_on}
use Rattle.mk_order.proofs.Entries.{in_grown}
use Rattle.mk_order.proofs.Seen.{reached, seen, turn_of}
use Rattle.mk_order.proofs.Theory.{laws, parts, seq_is}
use Rattle.mk_run_laws.proofs.Following.{all_done}
use Rattle.mosaikrun_faultless.specs.Limits.{MeetsNoLimit}
use Rattle.mosaikrun_faultless.proofs.Counting.{counted_back}
use Rattle.mosaikrun_faultless.proofs.Sums.{none_longer}
use Rattle.mk_base.proofs.Items.{some_none}

module _ (P : Plan) where
  -- no turn that has ended triggers beyond the limit
  abbrev AreFine : View → Type 0
  AreFine V = (i : ℕ) (a : Act) → IsIn a (V.acts i) → loop_fault P i a ≡ None

  right_fine : (V : View) (s : ℕ) (m : Message) (T : OpenTurn) (q : Option Place) → AreFine V → (note_right P V s m T q).fault ≡ None → AreFine (note_right P V s m T q)
  right_fine V s m T (Some q) all fine i a there = all i a there
  right_fine V s m T None all fine i a there = elim (in_grown V.acts s (ended_turn T m) i a there) [
    | inl old ↦ all i a old
    | inr new ↦ ap (λ (j : ℕ). loop_fault P j a) new.0 ∙ ap (loop_fault P s) new.1 ∙ fine
  ]

  got_fine : (V : View) (s : ℕ) (m : Message) (o : Option OpenTurn) (c : Option Cause) → AreFine V → (note_got P V s m o c).fault ≡ None → AreFine (note_got P V s m o c)
  got_fine V s m o (Some c) all fine = absurd (some_none _ fine)
  got_fine V s m None None all fine = all
  got_fine V s m (Some T) None all fine = right_fine V s m T (next_place P s T.place m) all fine

  entry_fine : (V : View) (e : Entry) → AreFine V → (note P V e).fault ≡ None → AreFine (note P V e)
  entry_fine V (Sent s item) all fine = all
  entry_fine V (Got s m) all fine = got_fine V s.0 m (V.open_at s.0) (wrong P s.0 (place_at (V.open_at s.0)) m) all fine

  fine_first : (V : View) (K : List Entry) → IsOrderlyFrom IsReady IsAdvance P V K → (fold (note P) V K).fault ≡ None → V.fault ≡ None
  fine_first V [] orderly fine = fine
  fine_first V (e ∷ K) orderly fine = orderly.0.0

  walk_fine : (V : View) (K : List Entry) → AreFine V → IsOrderlyFrom IsReady IsAdvance P V K → (fold (note P) V K).fault ≡ None → AreFine (fold (note P) V K)
  walk_fine V [] all orderly fine = all
  walk_fine V (e ∷ K) all orderly fine = walk_fine (note P V e) K (entry_fine V e all (fine_first (note P V e) K orderly.1 fine)) orderly.1 fine

  its : (V : View) (s : ℕ) (x : Tier) → IsReady P V s x → IsReady P V s x
  its V s x ready = ready

  -- over whatever goes on with a journal within the limit of entries at whose end nothing is left to do
  pub limits_kept : IsValidPlan P → (J : List Entry) → IsOrderlySoFar IsReady IsAdvance P J → IsDone P (view P J) → length J ≤ P.entries → (R : Messages) → Continues P J R → MeetsNoLimit P R
  limits_kept valid J orderly done few R cont = record {
    loops = λ i a there. walk_fine empty_view J (λ j b none. absurd none) orderly done.no_fault i a (subst (λ (l : List Act). IsIn a l) (sym (ap (λ (F : Family). F i) (seq_is P R)) ∙ acts_are i) there);
    entries =
        let more = none_longer (run_talk P R) (said (view P J)) (range_with_len 0 (sim_count P)) (λ i m. let e = ap length (all_done P valid J orderly done R cont i).talk in omega (arith, e)) in
        let count = counted_back P valid J orderly done.no_fault in
        omega (arith, more, count, few);
  }
    where
      acts_are : (i : ℕ) → theory.seq (parts P) R i ≡ (view P J).acts i
      acts_are i = (at_end (parts P) (laws P valid) (seen P (view P J)) (reached IsReady IsAdvance P its J orderly) (λ j k. ap (λ (o : Option OpenTurn). option_map (turn_of P (view P J).owed j) o) (done.closed j k)) done.none_pending R
          (goes_on IsReady IsAdvance P its valid J orderly R cont) i).acts_are
