-- Lists: members, what holds of every member, rising lists.
use Rattle.std.proofs.Math.Dec.{eqb}
use Rattle.std.proofs.lemmas.Bool.{eqb-true, eq-eqb}
use Rattle.std.proofs.Common.{◌≡◌, ℕ, ◌⊎◌, inl, inr, List, [], ◌∷◌, ◌++◌, refl, ap, sym, ◌∙◌, subst, append_assoc, append-nil}
use Rattle.std.specs.Prelude.{Bool, true, false, Some, None}
use Rattle.mk_order_any.specs.Parts.{In, Every, Rising}

pub none_some : {X : Type 0} (x : X) → None ≡ Some x → ⊥
none_some x e = cc

pub some_same : {X : Type 0} {x y : X} → Some x ≡ Some y → x ≡ y
some_same e = cc

pub true_false : true ≡ false → ⊥
true_false e = cc

-- numbers are the same or not
pub same_or_not : (i s : ℕ) → (i ≡ s) ⊎ (i ≡ s → ⊥)
same_or_not i s = go (eqb i s) refl
  where
    go : (b : Bool) → eqb i s ≡ b → (i ≡ s) ⊎ (i ≡ s → ⊥)
    go true is = inl (eqb-true i s is)
    go false is = inr (λ e. true_false (sym (eq-eqb i s e) ∙ is))

module _ {X : Type 0} where
  pub head_same : (x y : X) (xs ys : List X) → x ∷ xs ≡ y ∷ ys → x ≡ y
  head_same x y xs ys e = cc

  pub tail_same : (x y : X) (xs ys : List X) → x ∷ xs ≡ y ∷ ys → xs ≡ ys
  tail_same x y xs ys e = cc

  pub in_append : (w : X) (xs ys : List X) → In w (xs ++ ys) → In w xs ⊎ In w ys
  in_append w [] ys there = inr there
  in_append w (x ∷ xs) ys (inl is) = inl (inl is)
  in_append w (x ∷ xs) ys (inr there) = elim (in_append w xs ys there) [ inl a ↦ inl (inr a) | inr b ↦ inr b ]

  pub in_left : (w : X) (xs ys : List X) → In w xs → In w (xs ++ ys)
  in_left w [] ys there = absurd there
  in_left w (x ∷ xs) ys (inl is) = inl is
  in_left w (x ∷ xs) ys (inr there) = inr (in_left w xs ys there)

  pub in_right : (w : X) (xs ys : List X) → In w ys → In w (xs ++ ys)
  in_right w [] ys there = there
  in_right w (x ∷ xs) ys there = inr (in_right w xs ys there)

  pub parted : (w : X) (xs : List X) → In w xs → (front : List X) × (back : List X) × (xs ≡ front ++ w ∷ back)
  parted w [] there = absurd there
  parted w (x ∷ xs) (inl is) = ([], xs, ap (λ y. y ∷ xs) (sym is))
  parted w (x ∷ xs) (inr there) = let r : (front : List X) × (back : List X) × (xs ≡ front ++ w ∷ back) = parted w xs there in (x ∷ r.0, r.1, ap (λ l. x ∷ l) r.2)

  pub cancel : (xs ys zs : List X) → xs ++ ys ≡ xs ++ zs → ys ≡ zs
  cancel [] ys zs e = e
  cancel (x ∷ xs) ys zs e = cancel xs ys zs (tail_same x x (xs ++ ys) (xs ++ zs) e)

  module _ (P : X → Type 0) where
    pub found : (w : X) (xs : List X) → Every P xs → In w xs → P w
    found w [] all there = absurd there
    found w (x ∷ xs) all (inl is) = subst P (sym is) all.0
    found w (x ∷ xs) all (inr there) = found w xs all.1 there

    pub every_of : (xs : List X) → ((w : X) → In w xs → P w) → Every P xs
    every_of [] all = tt
    every_of (x ∷ xs) all = (all x (inl refl), every_of xs (λ w there. all w (inr there)))

    pub every_append : (xs ys : List X) → Every P xs → Every P ys → Every P (xs ++ ys)
    every_append [] ys all more = more
    every_append (x ∷ xs) ys all more = (all.0, every_append xs ys all.1 more)

    pub every_left : (xs ys : List X) → Every P (xs ++ ys) → Every P xs
    every_left [] ys all = tt
    every_left (x ∷ xs) ys all = (all.0, every_left xs ys all.1)

    pub every_right : (xs ys : List X) → Every P (xs ++ ys) → Every P ys
    every_right [] ys all = all
    every_right (x ∷ xs) ys all = every_right xs ys all.1

  pub every_map : (P Q : X → Type 0) (xs : List X) → ((x : X) → P x → Q x) → Every P xs → Every Q xs
  every_map P Q [] f all = tt
  every_map P Q (x ∷ xs) f all = (f x all.0, every_map P Q xs f all.1)

  module _ (lt : X → X → Type 0) where
    pub rising_left : (xs ys : List X) → Rising lt (xs ++ ys) → Rising lt xs
    rising_left [] ys rise = tt
    rising_left (x ∷ xs) ys rise = (every_left (λ y. lt x y) xs ys rise.0, rising_left xs ys rise.1)

    pub rising_right : (xs ys : List X) → Rising lt (xs ++ ys) → Rising lt ys
    rising_right [] ys rise = rise
    rising_right (x ∷ xs) ys rise = rising_right xs ys rise.1

    pub rising_across : (xs ys : List X) (a b : X) → Rising lt (xs ++ ys) → In a xs → In b ys → lt a b
    rising_across [] ys a b rise there more = absurd there
    rising_across (x ∷ xs) ys a b rise (inl is) more = subst (λ y. lt y b) (sym is) (found (λ y. lt x y) b (xs ++ ys) rise.0 (in_right b xs ys more))
    rising_across (x ∷ xs) ys a b rise (inr there) more = rising_across xs ys a b rise.1 there more

    -- a rising list is parted in one way at elements that are not apart
    module _ (Meet : X → X → Type 0) (apart : (a b : X) → lt a b → Meet a b → ⊥) (turn : (a b : X) → Meet a b → Meet b a) where
      pub one_part : (K L A W : List X) (u f : X) → Rising lt (K ++ u ∷ L) → K ++ u ∷ L ≡ A ++ f ∷ W → Meet u f → (K ≡ A) × (u ≡ f) × (L ≡ W)
      one_part [] L [] W u f rise e meet = (refl, head_same u f L W e, tail_same u f L W e)
      one_part [] L (a ∷ A) W u f rise e meet =
          let rest : L ≡ A ++ f ∷ W = tail_same u a L (A ++ f ∷ W) e in
          absurd (apart u f (found (λ y. lt u y) f L rise.0 (subst (λ (l : List X). In f l) (sym rest) (in_right f A (f ∷ W) (inl refl)))) meet)
      one_part (x ∷ K) L [] W u f rise e meet =
          let heads : x ≡ f = head_same x f (K ++ u ∷ L) W e in
          absurd (apart x u (found (λ y. lt x y) u (K ++ u ∷ L) rise.0 (in_right u K (u ∷ L) (inl refl))) (subst (λ (y : X). Meet y u) (sym heads) (turn u f meet)))
      one_part (x ∷ K) L (a ∷ A) W u f rise e meet =
          let heads : x ≡ a = head_same x a (K ++ u ∷ L) (A ++ f ∷ W) e in
          let r : (K ≡ A) × (u ≡ f) × (L ≡ W) = one_part K L A W u f rise.1 (tail_same x a (K ++ u ∷ L) (A ++ f ∷ W) e) meet in
          (ap (λ y. y ∷ K) heads ∙ ap (λ l. a ∷ l) r.0, r.1, r.2)

  -- induction over a rising list: a claim may use all earlier elements
  module _ (lt : X → X → Type 0) (one_way : (a b : X) → lt a b → lt b a → ⊥) where
    pub earlier : (front : List X) (v : X) (back : List X) (w : X) → Rising lt (front ++ v ∷ back) → In w (front ++ v ∷ back) → lt w v → In w front
    earlier front v back w rise there below = elim (in_append w front (v ∷ back) there) [
      | inl a ↦ a
      | inr (inl is) ↦ absurd (one_way v v (subst (λ x. lt x v) is below) (subst (λ x. lt x v) is below))
      | inr (inr b) ↦ absurd (one_way w v below (found (λ y. lt v y) w back (rising_right lt front (v ∷ back) rise).0 b))
    ]

    module _ (Claim : X → Type 0) where
      pub course : (xs : List X) → Rising lt xs → ((v : X) → In v xs → ((w : X) → In w xs → lt w v → Claim w) → Claim v) → Every Claim xs
      course xs rise one = go [] xs refl tt
        where
          go : (front left : List X) → xs ≡ front ++ left → Every Claim front → Every Claim xs
          go front [] is all = subst (λ (l : List X). Every Claim l) (sym (is ∙ append-nil front)) all
          go front (v ∷ left) is all = go (front ++ v ∷ []) left (is ∙ sym (append_assoc front (v ∷ []) left))
              (every_append Claim front (v ∷ []) all (
                one v (subst (λ (l : List X). In v l) (sym is) (in_right v front (v ∷ left) (inl refl))) (λ w there below. found Claim w front all
                    (earlier front v left w (subst (λ (l : List X). Rising lt l) is rise) (subst (λ (l : List X). In w l) is there) below)),
                tt,
              ))
