-- The state of those behind, as one simulator goes on: its index grows, and it is set where it stands.
use Rattle.std.proofs.Common.{◌≡◌, ℕ, ◌<◌, List, [], length, take, slice_get, slice_set, Option, Some, None, IfSome, sym, ap, ◌∙◌, subst}
use Rattle.mk_base.specs.Lists.{BeginsWith}
use Rattle.mk_base.proofs.Lists.{append_nil, below_get, length_set, set_else, set_here}
use Rattle.mk_plan.specs.declared.Entry.{Entry}
use Rattle.mk_plan.specs.Plans.{sim_count}
use Rattle.mk_sched.specs.Cores.{CoreState}
use Rattle.mk_run_crew.specs.Seen.{CrewSeen}
use Rattle.mk_resume_walk.specs.Walks.{IsFirstOwn}
use Rattle.mk_resume_walk.specs.Index.{Indexed, IsIndexOf, own_count}
use Rattle.mk_resume_loop.specs.declared.behind.Standing.{Standing}
use Rattle.mk_resume_loop.specs.inner.Turns.{IsDue, IsSized, Walk}
use Rattle.mk_resume_loop.specs.inner.Underway.{BehindSeen, IsIndexed}
use Rattle.mk_resume_loop.proofs.Bounds.{place_low}

-- the index has grown to the journal
pub record HasGrown (core : CoreState) (B E : BehindSeen) : Type 0 where
  pub indexed : IsIndexOf core.entries E.index
  pub own : length E.index.own ≡ length B.index.own
  pub sims : E.sims ≡ B.sims

module _ (core : CoreState) (B E : BehindSeen) (sized : IsSized core B) where
  pub grown : (entries : List Entry) → entries ≡ core.entries → E.sims ≡ B.sims → length E.index.own ≡ length B.index.own → ((J : List Entry) → BeginsWith entries J → IsIndexOf J B.index → IsIndexOf entries E.index) → HasGrown core B E
  grown entries same sims own grows = record {
    indexed = subst (λ (J : List Entry). IsIndexOf J E.index) same (grows sized.indexed.part (subst (λ (J : List Entry). BeginsWith J sized.indexed.part) (sym same) sized.indexed.begins) sized.indexed.is);
    own = own;
    sims = sims;
  }

  module _ (h : HasGrown core B E) where
    pub grown_sized : IsSized core E
    grown_sized = record {
      sims = ap (λ (l : List (Option Standing)). length l) h.sims ∙ sized.sims;
      indexed = record { sims = h.own ∙ sized.indexed.sims; part = core.entries; is = h.indexed; begins = ([], sym (append_nil core.entries)) };
    }

    pub sim_indexed : (s : ℕ) → s < sim_count core.plan → s < length E.index.own
    sim_indexed s low = subst (λ (n : ℕ). s < n) (sym (h.own ∙ sized.indexed.sims)) low

    pub sim_there : (s : ℕ) → s < sim_count core.plan → s < length E.sims
    sim_there s low = subst (λ (n : ℕ). s < n) (sym (ap (λ (l : List (Option Standing)). length l) h.sims ∙ sized.sims)) low

    -- one simulator is set
    module _ (F : BehindSeen) (s : ℕ) (o : Option Standing) (set : F.sims ≡ slice_set E.sims s o) (index : F.index ≡ E.index) where
      pub set_sized : IsSized core F
      set_sized = record {
        sims = ap (λ (l : List (Option Standing)). length l) set ∙ length_set E.sims s o ∙ grown_sized.sims;
        indexed = subst (λ (x : Indexed). IsIndexed core.plan core.entries x) (sym index) grown_sized.indexed;
      }

      pub set_stands : s < sim_count core.plan → slice_get F.sims s ≡ Some o
      set_stands low = let t = below_get E.sims s (sim_there s low) in ap (λ (l : List (Option Standing)). slice_get l s) set ∙ set_here E.sims s o t.0 t.1

      pub set_others : (i : ℕ) → (i ≡ s → ⊥) → slice_get F.sims i ≡ slice_get B.sims i
      set_others i apart = ap (λ (l : List (Option Standing)). slice_get l i) set ∙ set_else E.sims s i o apart ∙ ap (λ (l : List (Option Standing)). slice_get l i) h.sims

-- the place that was looked up is one of the journal's
pub place_there : (core : CoreState) (C : CrewSeen) (s gone id : ℕ) (entries : List Entry) (r : Option ℕ) → entries ≡ core.entries → (R : Walk) → IsDue R core C s gone id → ((from : ℕ) → gone ≡ own_count s (take from core.entries) → IsFirstOwn core.entries s from r) → IfSome r (λ p. p < length entries)
place_there core C s gone id entries None same R d looks = tt
place_there core C s gone id entries (Some p) same R d looks = subst (λ (J : List Entry). p < length J) (sym same) (place_low core.entries s R.from p (looks R.from d.counted))
