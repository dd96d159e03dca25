-- Where something is to come there is something to hear: a reply that is kept, or a link.
use Rattle.std.proofs.Common.{◌≡◌, inl, inr, ℕ, ◌<◌, ◌≤◌, Bool, true, false, List, [], ◌∷◌, length, Option, Some, None, refl, sym, ap, ◌∙◌, subst, arith}
use Rattle.mk_plan.specs.declared.Plan.{Plan}
use Rattle.mk_plan.specs.declared.Entry.{Entry}
use Rattle.mk_plan.specs.Plans.{sim_count}
use Rattle.mk_plan.specs.Journals.{OpenTurn, Owed, View, got, view}
use Rattle.mk_outside.specs.declared.fleet.LogEntry.{LogEntry}
use Rattle.mk_run_laws.specs.Handshake.{is_within}
use Rattle.mk_run_laws.specs.Crews.{kept_of}
use Rattle.mk_run_laws.proofs.Saying.{link_there}
use Rattle.mk_run_links.specs.Places.{IsLinked}
use Rattle.mk_run_crew.specs.Calls.{CanHear}
use Rattle.mk_run_crew.specs.Seen.{CrewSeen, crew_of}
use Rattle.mk_run.specs.inner.Underway.{Setting, reply_in}
use Rattle.mk_resume_walk.specs.Talks.{free_items}
use Rattle.mk_resume_walk.proofs.Alternating.{balanced, unanswered}
use Rattle.mk_resume_walk.proofs.Fronts.{free_alternate}
use Rattle.mk_resume_walk.proofs.UpTo.{free_all}
use Rattle.mk_resume_links.specs.Rests.{Counts}
use Rattle.mk_resume_loop.specs.Resumed.{SomeToCome}
use Rattle.mk_resume_loop.specs.inner.Underway.{IsResuming}
use Rattle.mk_resume_loop.proofs.Passing.{awaited_one}
use Rattle.mk_base.proofs.Counts.{below_greatest, below_or_not}

-- a view with this open turn everywhere, and this owed
abbrev with_turn : View → Option OpenTurn → Option Owed → View
with_turn V o w = record { acts = V.acts; open_at = λ i. o; owed = w; fault = V.fault }

-- one item isn't answered, where a turn is open and nothing is owed
one_out : (V : View) (i : ℕ) → V.owed ≡ None → (V.open_at i ≡ None → ⊥) → unanswered V i ≡ 1
one_out V i owes opened = ap (λ (w : Option Owed). unanswered (with_turn V (V.open_at i) w) i) owes ∙ go (V.open_at i) opened
  where
    go : (o : Option OpenTurn) → (o ≡ None → ⊥) → unanswered (with_turn V o None) i ≡ 1
    go None h = absurd (h refl)
    go (Some t) h = refl

module _ (T : Setting) (P : Plan) (first J : List Entry) (heard : Counts) (log : List LogEntry) (C : CrewSeen) (u : IsResuming T P first J heard log (crew_of C) C.sims) where
  -- a simulator that is behind wasn't answered at its last item
  behind_waits : (i : ℕ) → heard i < length (got J i) → heard i < length (free_items J i (heard i))
  behind_waits i more = let e = free_alternate.one_more P J u.stands.orderly.0 u.no_fault i (heard i) more in omega (arith, e)

  -- nor one at which a request is open
  open_waits : (i : ℕ) → ((view P J).open_at i ≡ None → ⊥) → heard i < length (free_items J i (heard i))
  open_waits i opened = elim (below_or_not (heard i) (length (got J i))) [
    | inl more ↦ behind_waits i more
    | inr all ↦ let b = balanced P J u.stands.orderly.0 u.no_fault i in let o = one_out (view P J) i u.paid opened in let f = ap length (free_all J i (heard i) all) in
        let g = few in omega (arith, b, o, f, all, g)
  ]
    where
      few : heard i ≤ length (got J i)
      few = below_greatest (length (got J i)) (length (got first i)) (heard i) (u.catching.counts i)

  pub can_hear : SomeToCome P J heard → CanHear C
  can_hear unfinished none = elim unfinished [ inl t ↦ by_sim t.0 t.1.0 (open_waits t.0 t.1.1) | inr t ↦ by_sim t.0 t.1 (behind_waits t.0 t.2) ]
    where
      not_nil : {X : Type 0} {x : X} → [] ≡ x ∷ [] → ⊥
      not_nil e = cc

      by_sim : (i : ℕ) → i < sim_count P → heard i < length (free_items J i (heard i)) → (i : ℕ) × IsLinked i C.channels
      by_sim i low more = go (is_within T.scenario i) refl
        where
          go : (b : Bool) → is_within T.scenario i ≡ b → (i : ℕ) × IsLinked i C.channels
          go true inside = absurd (not_nil (ap (kept_of i) (sym none) ∙ u.catching.touch.kept i ∙ awaited_one T.scenario (reply_in T) J heard i inside more))
          go false outside = let t = link_there T.started T.scenario i (subst (λ (n : ℕ). i < n) u.suits.sims low) outside in let g = u.catching.touch.channels i t.0 t.1 in (i, (g.channel, g.there))
