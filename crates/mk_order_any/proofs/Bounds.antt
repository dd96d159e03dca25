-- What the lower bound gives: nothing comes before the bounds, nothing new comes to a simulator
-- that is Ready, and nothing is left at the end.
use Rattle.std.proofs.Common.{◌≡◌, inl, ℕ, List, [], ◌∷◌, ◌++◌, refl, ap, sym, ◌∙◌, subst, append_assoc, append-nil}
use Rattle.std.specs.Prelude.{false, Some, None}
use Rattle.mk_order_any.specs.Parts.{Parts, In, Every, le, Late, Family, act, seq, View, Turn, start, case_of, Reach, nobody, Ready, heard_in, rest, used, whole, talk_of}
use Rattle.mk_order_any.specs.Parts.Reach.{from_start, along}
use Rattle.mk_order_any.specs.Laws.{Laws}
use Rattle.mk_order_any.proofs.Lists.{none_some, some_same, every_of, every_append}
use Rattle.mk_order_any.proofs.Order.{le_refl, lt_le_trans}
use Rattle.mk_order_any.proofs.ActLists.{rest_cut, rest_over}
use Rattle.mk_order_any.proofs.Folding.{made_by}
use Rattle.mk_order_any.proofs.Frontier.{frontier}

module _ (P : Parts) (L : Laws P) where
  open P use {Tier, Via, Message, Place, Act, Said, at, ended, due, pending, Edge, Link, leb, visits, after, begin, told, step}

  pub start_open : (V : View P) (i : ℕ) (T : Turn P) → V.open_at i ≡ Some T → start P V i ≡ Some T.when
  start_open V i T is = ap (λ o. case_of o (pending V.acts i) (λ T. Some T.when)) is

  pub start_closed : (V : View P) (i : ℕ) → V.open_at i ≡ None → start P V i ≡ pending V.acts i
  start_closed V i is = ap (λ o. case_of o (pending V.acts i) (λ T. Some T.when)) is

  -- the ends of walks to a simulator that is Ready are not before its time
  pub ready_least : (V : View P) (s : ℕ) (x : Tier) → Ready P V s x → (i : ℕ) (y : Tier) → Reach P V (nobody P) i y → i ≡ s → le P x y
  ready_least V s x ready i y (from_start _ _ out is) same =
      let here : Some y ≡ Some x = sym is ∙ ap (λ j. start P V j) same ∙ start_closed V s ready.closed ∙ ready.at_pending in
      subst (λ (z : Tier). le P x z) (sym (some_same here)) (le_refl P L x)
  ready_least V s x ready i z (along j v _ y _ walk edge out is) same =
      subst (λ (u : Tier). le P x u) (sym is) (L.le_total x (after y v) (ready.clear j v y (L.edge_link j v s (subst (λ (k : ℕ). Edge j v k) same edge)) walk))

  module _ (R : ℕ → List Message) (V : View P) (U : Family P) (whole_is : (i : ℕ) → seq P R i ≡ V.acts i ++ U i)
      (begun : (i : ℕ) (T : Turn P) → V.open_at i ≡ Some T → Every (λ u. le P T.when (at u)) (U i)) where
    pub nothing_before_bounds : (Z : ℕ → Type 0) → ((i : ℕ) → Z i → Every (λ u. ended u ≡ false) (U i)) →
        (i : ℕ) (u : Act) → In u (U i) → (Z i → ⊥) → (y : Tier) × Reach P V Z i y × le P y (at u)
    nothing_before_bounds Z silent = frontier P L R V U whole_is Z (λ i z. (y : Tier) × Reach P V Z i y × le P y z)
        (λ i T is out. ((T.when, from_start i T.when out (start_open V i T is), le_refl P L T.when), begun i T is))
        (λ i y shut out is new. let r : (x : Tier) × (pending V.acts i ≡ Some x) × le P x y = L.pending_least V.acts i y is new in
        (r.0, from_start i r.0 out (start_closed V i shut ∙ r.1), r.2))
        (λ i y z r up. (r.0, r.1, L.le_trans r.0 y z r.2 up))
        (λ j v i y r edge _ out. (after r.0 v, along j v i r.0 (after r.0 v) r.1 edge out refl, L.after_mono r.0 y v r.2))
        silent

    module _ (s : ℕ) (x : Tier) (ready : Ready P V s x) where
      bounded : (i : ℕ) (u : Act) → In u (U i) → (y : Tier) × Reach P V (nobody P) i y × le P y (at u)
      bounded i u there = nothing_before_bounds (nobody P) (λ i z. absurd z) i u there (λ z. z)

      -- all unknown acts are late for a simulator that is Ready, and its own are not before its time
      pub nothing_new_for_ready : (i : ℕ) → Every (λ u. Late P s x i (at u)) (U i)
      nothing_new_for_ready i = every_of (λ u. Late P s x i (at u)) (U i) (λ u there v link.
          let r : (y : Tier) × Reach P V (nobody P) i y × le P y (at u) = bounded i u there in
          lt_le_trans P L x (after r.0 v) (after (at u) v) (ready.clear i v r.0 link r.1) (L.after_mono r.0 (at u) v r.2))

      pub own_not_before : Every (λ u. le P x (at u)) (U s)
      own_not_before = every_of (λ u. le P x (at u)) (U s) (λ u there.
          let r : (y : Tier) × Reach P V (nobody P) s y × le P y (at u) = bounded s u there in
          L.le_trans x r.0 (at u) (ready_least V s x ready s r.0 r.1 refl) r.2)

    -- where nothing is open and nothing is pending, there are no unknown acts
    pub nothing_left : ((i : ℕ) → V.open_at i ≡ None) → ((i : ℕ) → pending V.acts i ≡ None) → (i : ℕ) → U i ≡ []
    nothing_left shut quiet i = go (U i) refl
      where
        none_in : (u : Act) → In u (U i) → ⊥
        none_in u there = frontier P L R V U whole_is (nobody P) (λ i y. ⊥)
            (λ i T is out. absurd (none_some T (sym (shut i) ∙ is)))
            (λ i y _ out is new. let r : (x : Tier) × (pending V.acts i ≡ Some x) × le P x y = L.pending_least V.acts i y is new in none_some r.0 (sym (quiet i) ∙ r.1))
            (λ i y z no up. no) (λ j v i y no edge _ _. no) (λ i z. absurd z) i u there (λ z. z)

        go : (l : List Act) → U i ≡ l → U i ≡ []
        go [] is = is
        go (u ∷ l) is = absurd (none_in u (subst (λ (k : List Act). In u k) (sym is) (inl refl)))

    -- a closed simulator that has no messages left makes no whole turn any more
    pub silent_of : (z : ℕ) → R z ≡ heard_in P (V.acts z) → Every (λ u. ended u ≡ false) (U z)
    silent_of z over = go [] (U z) refl tt
      where
        K : List Act
        K = V.acts z

        empty : (front : List Act) → Every (λ u. ended u ≡ false) front → rest P (K ++ front) (R z) ≡ []
        empty [] cut = ap (λ l. rest P l (R z)) (append-nil K) ∙ ap (λ r. rest P K r) over ∙ rest_over P K
        empty (f ∷ front) cut = rest_cut P K f front (R z) cut.0

        cut_by : (front : List Act) (u : Act) (back : List Act) → U z ≡ front ++ u ∷ back → Every (λ u. ended u ≡ false) front → ended u ≡ false
        cut_by front u back is cut =
            let made : u ≡ act P (seq P R) z (at u) (K ++ front) (R z) = (made_by P L R z (K ++ front) u back (whole_is z ∙ ap (λ l. K ++ l) is ∙ sym (append_assoc K front (u ∷ back)))).1 in
            let o : Place = begin z (at u) (K ++ front) in
            let ms : List Message = rest P (K ++ front) (R z) in
            ap ended made ∙ L.ended_mk (at u) (used P z o ms) (whole P z o ms) (told (step (seq P R) z (at u) (K ++ front)) ∷ talk_of P (seq P R) z (at u) o (used P z o ms))
            ∙ ap (λ l. whole P z o l) (empty front cut)

        go : (front back : List Act) → U z ≡ front ++ back → Every (λ u. ended u ≡ false) front → Every (λ u. ended u ≡ false) (U z)
        go front [] is cut = subst (λ (l : List Act). Every (λ u. ended u ≡ false) l) (sym (is ∙ append-nil front)) cut
        go front (u ∷ back) is cut = go (front ++ u ∷ []) back (is ∙ sym (append_assoc front (u ∷ []) back)) (every_append (λ u. ended u ≡ false) front (u ∷ []) cut (cut_by front u back is cut, tt))
