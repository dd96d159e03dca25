-- While a crew waits for a message: polls that are pending, and rests, one after another.
use Rattle.std.proofs.Common.{◌≡◌, ℕ, true, List, [], ◌∷◌, ◌++◌, Option, Some, None, refl, sym, ap, ◌∙◌, subst, inl, inr}
use Rattle.mk_base.proofs.Lists.{append_nil}
use Rattle.mk_plan.specs.declared.Message.{Message}
use Rattle.mk_outside.specs.declared.fleet.LogEntry.{LogEntry}
use Rattle.mk_outside.specs.declared.fleet.LogEntry.TheVariants.{Rest}
use Rattle.mk_run_laws.specs.Channels.{Channel, IsMoved}
use Rattle.mk_run_laws.specs.Crews.{CrewState, channel_at, IsMovedAt, AreMoved, AreParkedAtRests}
use Rattle.mk_run_laws.proofs.Moving.{moved_twice, moved_there}
use Rattle.mk_run_laws.proofs.Stepping.{first_or_second}
use Rattle.mk_base.proofs.Items.{not_empty}

moved_at_twice : (a b : List LogEntry) (g h : List Message) (o p q : Option Channel) → IsMovedAt a g o p → IsMovedAt b h p q → IsMovedAt (a ++ b) (g ++ h) o q
moved_at_twice a b g h None None None one two = tt
moved_at_twice a b g h None None (Some w) one two = absurd two
moved_at_twice a b g h None (Some v) q one two = absurd one
moved_at_twice a b g h (Some u) None q one two = absurd one
moved_at_twice a b g h (Some u) (Some v) None one two = absurd two
moved_at_twice a b g h (Some u) (Some v) (Some w) one two = moved_twice a b g h u v w one two

-- what was moved by some entries and then by others was moved by all
pub moved_on : (a b : List LogEntry) (g h : ℕ → List Message) (C D E : CrewState) → AreMoved a g C D → AreMoved b h D E → AreMoved (a ++ b) (λ i. g i ++ h i) C E
moved_on a b g h C D E one two i = moved_at_twice a b (g i) (h i) (channel_at C i) (channel_at D i) (channel_at E i) (one i) (two i)

-- a rest comes where every channel is parked
pub parked_rested : (entries : List LogEntry) (C D : CrewState) → AreParkedAtRests entries C → AreMoved entries (λ i. []) C D → ((i : ℕ) (w : Channel) → channel_at D i ≡ Some w → w.parked ≡ true) → AreParkedAtRests (entries ++ Rest ∷ []) C
parked_rested entries C D parked moved all before after is i w there = elim (first_or_second entries (Rest ∷ []) before after Rest is) [
  | inl t ↦ parked before t.0 t.1 i w there
  | inr t ↦
      let here : before ≡ entries = t.1 ∙ ap (λ (l : List LogEntry). entries ++ l) (first t.0 t.2) ∙ append_nil entries in
      let m = moved_there entries [] (channel_at C i) (channel_at D i) w there (moved i) in
      (m.0, subst (λ (b : List LogEntry). IsMoved b [] w m.0) (sym here) m.2, all i m.0 m.1)
]
  where
    tails : {x y : LogEntry} {xs ys : List LogEntry} → x ∷ xs ≡ y ∷ ys → xs ≡ ys
    tails e = cc

    first : (less : List LogEntry) → Rest ∷ [] ≡ less ++ Rest ∷ after → less ≡ []
    first [] e = refl
    first (x ∷ less) e = absurd (not_empty less after Rest (tails e))
