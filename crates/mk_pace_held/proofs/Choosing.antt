-- Which of two Steps is to be sent first, and whose it is.
use Rattle.std.proofs.Common.{◌≡◌, ◌⊎◌, inl, inr, ℕ, ◌<◌, ◌≤◌, ◌==◌, ◌&&◌, ◌||◌, nat_lt, nat_le, Bool, true, false, List, [], ◌∷◌, Option, Some, None, option_map, if◌then◌else◌, refl, sym, ap, ◌∙◌, subst, arith}
use Rattle.mk_base.specs.declared.SimNo.{SimNo}
use Rattle.mk_base.proofs.Lists.{none_some, some_same}
use Rattle.mk_pace_held.specs.declared.held.Due.{Due}
use Rattle.mk_pace_held.specs.declared.held.First.{First}
use Rattle.mk_pace_held.specs.declared.held.Held.{Held}
use Rattle.mk_pace_held.specs.Firsts.{IsNoLater, earlier_of, first_at, is_no_later}

pub no_later_on : (f g h : First) → IsNoLater f g → IsNoLater g h → IsNoLater f h
no_later_on f g h (inl a) (inl b) = inl (omega (arith, a, b))
no_later_on f g h (inl a) (inr b) = inl (omega (arith, a, b.0))
no_later_on f g h (inr a) (inl b) = inl (omega (arith, a.0, b))
no_later_on f g h (inr a) (inr b) = inr (a.0 ∙ b.0, omega (arith, a.1, b.1))

-- a Step that a simulator's items begin with is that simulator's
pub sim_is : (s : SimNo) (q : List Held) (f : First) → first_at s q ≡ Some f → f.sim ≡ s
sim_is s [] f e = absurd (none_some e)
sim_is s (h ∷ rest) f e = go h.due e
  where
    go : (o : Option Due) → option_map (λ (d : Due). record { sim = s; place = h.place; due = d }) o ≡ Some f → f.sim ≡ s
    go None e = absurd (none_some e)
    go (Some d) e = ap (λ (g : First). g.sim) (sym (some_same e))

-- which of two is the earlier
by_test : (b : Bool) (m n p q : ℕ) → (nat_lt m n || ((m == n) && nat_le p q)) ≡ b → (b ≡ true → (m < n) ⊎ ((m ≡ n) × (p ≤ q))) × (b ≡ false → (n < m) ⊎ ((n ≡ m) × (q ≤ p)))
by_test b m n p q is = (yes, no)
  where
    yes : b ≡ true → (m < n) ⊎ ((m ≡ n) × (p ≤ q))
    yes e = grind arith

    no : b ≡ false → (n < m) ⊎ ((n ≡ m) × (q ≤ p))
    no e = grind arith

pub no_later_self : (f : First) → IsNoLater f f
no_later_self f = inr (refl, omega arith)

-- the earlier of two is one of them, and no later than either
pub record IsEarlier (best next result : Option First) : Type 0 where
  pub one : (result ≡ best) ⊎ (result ≡ next)
  pub before_best : (f : First) → best ≡ Some f → (r : First) × (result ≡ Some r) × IsNoLater r f
  pub before_next : (f : First) → next ≡ Some f → (r : First) × (result ≡ Some r) × IsNoLater r f

pub earlier_is : (best next : Option First) → IsEarlier best next (earlier_of best next)
earlier_is None next = record { one = inr refl; before_best = λ f e. absurd (none_some e); before_next = λ f e. (f, e, no_later_self f) }
earlier_is (Some f) None = record { one = inl refl; before_best = λ g e. (f, refl, subst (IsNoLater f) (some_same e) (no_later_self f)); before_next = λ g e. absurd (none_some e) }
earlier_is (Some f) (Some g) = go (is_no_later f g) refl
  where
    go : (b : Bool) → is_no_later f g ≡ b → IsEarlier (Some f) (Some g) (if b then Some f else Some g)
    go true is =
        let first = (by_test true f.due.moment g.due.moment f.place g.place is).0 refl in
        record {
          one = inl refl;
          before_best = λ h e. (f, refl, subst (IsNoLater f) (some_same e) (no_later_self f));
          before_next = λ h e. (f, refl, subst (IsNoLater f) (some_same e) first);
        }
    go false is =
        let other = (by_test false f.due.moment g.due.moment f.place g.place is).1 refl in
        record {
          one = inr refl;
          before_best = λ h e. (g, refl, subst (IsNoLater g) (some_same e) other);
          before_next = λ h e. (g, refl, subst (IsNoLater g) (some_same e) (no_later_self g));
        }
