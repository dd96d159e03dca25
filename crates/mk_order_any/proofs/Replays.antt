-- Replays: a journal is fixed by its arrivals, and an order of a finished record's arrivals ends as
-- the record.
use Rattle.std.proofs.Common.{◌≡◌, ◌⊎◌, inl, inr, ℕ, ◌<◌, List, [], ◌∷◌, ◌++◌, refl, ap, sym, ◌∙◌, subst, append_assoc}
use Rattle.std.specs.Prelude.{Bool, true, false, Option, Some, None, cond, filter_map}
use Rattle.mk_order_any.specs.Parts.{Parts, In, Every, Prefix, seq, act, View, Turn, Reached, heard_in, heard_of, rest, used, whole, talk_of, case_of}
use Rattle.mk_order_any.specs.Laws.{Laws}
use Rattle.mk_order_any.proofs.Lists.{true_false, head_same, tail_same, found, in_right}
use Rattle.mk_order_any.proofs.Reading.{whole_on}
use Rattle.mk_order_any.proofs.ActLists.{rest_whole}
use Rattle.mk_order_any.proofs.Folding.{made_by}
use Rattle.mk_order_any.proofs.Invariant.{Opened, Agreeing, invariant_holds, heard_open}
use Rattle.mk_order_any.proofs.Talks.{everywhere, at_end}

-- X views, E entries, G arrivals: what an entry makes of a view, which entries are allowed, which
-- are arrivals, and where nobody is Ready
module _ (X E G : Type 0) (note : X → E → X) (Allowed : X → E → Type 0) (arrival : E → Option G) (Quiet : X → Type 0)
    (one_sent : (x : X) (e e' : E) → Allowed x e → Allowed x e' → arrival e ≡ None → arrival e' ≡ None → e ≡ e')
    (one_got : (e e' : E) (g : G) → arrival e ≡ Some g → arrival e' ≡ Some g → e ≡ e')
    (no_sent : (x : X) (e e' : E) (g : G) → Allowed x e → Allowed x e' → arrival e ≡ None → arrival e' ≡ Some g → Quiet x → ⊥) where
  -- each entry is allowed, and an arrival comes only where nobody is Ready
  abbrev pub EagerFrom : X → List E → Type 0
  EagerFrom x [] = Unit
  EagerFrom x (e ∷ es) = Allowed x e × ((g : G) → arrival e ≡ Some g → Quiet x) × EagerFrom (note x e) es

  abbrev pub arrivals : List E → List G
  arrivals es = filter_map arrival es

  Comparable : {Y : Type 0} → List Y → List Y → Type 0
  Comparable xs ys = Prefix xs ys ⊎ Prefix ys xs

  drop_head : {Y : Type 0} (x y : Y) (xs ys : List Y) → Comparable (x ∷ xs) (y ∷ ys) → (x ≡ y) × Comparable xs ys
  unfolding Comparable
  drop_head x y xs ys (inl p) = (sym (head_same y x ys (xs ++ p.0) p.1), inl (p.0, tail_same y x ys (xs ++ p.0) p.1))
  drop_head x y xs ys (inr p) = (head_same x y xs (ys ++ p.0) p.1, inr (p.0, tail_same x y xs (ys ++ p.0) p.1))

  put_head : {Y : Type 0} (x y : Y) (xs ys : List Y) → x ≡ y → Comparable xs ys → Comparable (x ∷ xs) (y ∷ ys)
  unfolding Comparable
  put_head x y xs ys e (inl p) = inl (p.0, ap (λ z. z ∷ ys) (sym e) ∙ ap (λ l. x ∷ l) p.1)
  put_head x y xs ys e (inr p) = inr (p.0, ap (λ z. z ∷ xs) e ∙ ap (λ l. y ∷ l) p.1)

  arrivals-none : (e : E) (J : List E) → arrival e ≡ None → arrivals (e ∷ J) ≡ arrivals J
  arrivals-none e J is = rw is

  arrivals-some : (e : E) (J : List E) (g : G) → arrival e ≡ Some g → arrivals (e ∷ J) ≡ g ∷ arrivals J
  arrivals-some e J g is = rw is

  both : {Y : Type 0} (a b c d : List Y) → a ≡ c → b ≡ d → Comparable a b → Comparable c d
  both a b c d e e' same = subst (λ l. Comparable c l) e' (subst (λ l. Comparable l b) e same)

  pub arrivals_fix_journal : (x : X) (J K : List E) → EagerFrom x J → EagerFrom x K → Prefix (arrivals J) (arrivals K) ⊎ Prefix (arrivals K) (arrivals J) → Prefix J K ⊎ Prefix K J
  unfolding Comparable
  arrivals_fix_journal x [] K eager eager' same = inl (K, refl)
  arrivals_fix_journal x (e ∷ J) [] eager eager' same = inr (e ∷ J, refl)
  arrivals_fix_journal x (e ∷ J) (e' ∷ K) eager eager' same =
      go (λ is c. put_head e e' J K is (arrivals_fix_journal (note x e) J K eager.2 (subst (λ (d : E). EagerFrom (note x d) K) (sym is) eager'.2) c)) (arrival e) (arrival e') refl refl
    where
      go : (e ≡ e' → Comparable (arrivals J) (arrivals K) → Comparable (e ∷ J) (e' ∷ K)) → (o o' : Option G) → arrival e ≡ o → arrival e' ≡ o' → Comparable (e ∷ J) (e' ∷ K)
      go later None None is is' = later (one_sent x e e' eager.0 eager'.0 is is') (both (arrivals (e ∷ J)) (arrivals (e' ∷ K)) (arrivals J) (arrivals K) (arrivals-none e J is) (arrivals-none e' K is') same)
      go later None (Some g) is is' = absurd (no_sent x e e' g eager.0 eager'.0 is is' (eager'.1 g is'))
      go later (Some g) None is is' = absurd (no_sent x e' e g eager'.0 eager.0 is' is (eager.1 g is))
      go later (Some g) (Some h) is is' =
          let r : (g ≡ h) × Comparable (arrivals J) (arrivals K) = drop_head g h (arrivals J) (arrivals K)
          (both (arrivals (e ∷ J)) (arrivals (e' ∷ K)) (g ∷ arrivals J) (h ∷ arrivals K) (arrivals-some e J g is) (arrivals-some e' K h is') same) in
          later (one_got e e' h (is ∙ ap (λ k. Some k) r.0) is') r.1

module _ (P : Parts) (L : Laws P) where
  open P use {Tier, Message, Place, Act, ended, pending, wrong, on, begin, step, told}

  -- R is a finished family: each of its turns is whole and each message is used
  module _ (R : ℕ → List Message) (all : (i : ℕ) → i < P.count → Every (λ a. ended a ≡ true) (seq P R i)) (all_used : (i : ℕ) → i < P.count → heard_in P (seq P R i) ≡ R i)
      (V : View P) (reached : Reached P V) (cont : (i : ℕ) → i < P.count → Prefix (heard_of P V i) (R i)) where
    -- an open turn has a right message left
    pub next_arrival : (i : ℕ) (T : Turn P) → i < P.count → V.open_at i ≡ Some T → (m : Message) × (later : List Message) × (R i ≡ heard_of P V i ++ m ∷ later) × (wrong i T.place m ≡ false)
    next_arrival i T low is = go left.0 left.1 (whole_left)
      where
        a : Agreeing P L (seq P R) V.acts V.open_at
        a = (invariant_holds P L V reached).agreeing R (everywhere P L V reached R cont)

        o : Opened P L (seq P R) (V.acts i) i T
        o = a.opened i T is

        left : Prefix (heard_of P V i) (R i)
        left = cont i low

        b : Place
        b = begin i T.when (V.acts i)

        r : List Message
        r = rest P (V.acts i) (R i)

        r_is : r ≡ T.messages ++ left.0
        r_is = ap (λ l. rest P (V.acts i) l) (left.1 ∙ ap (λ l. l ++ left.0) (heard_open P L V i T is) ∙ append_assoc (heard_in P (V.acts i)) T.messages left.0)
            ∙ rest_whole P (V.acts i) (T.messages ++ left.0) ((invariant_holds P L V reached).shape.whole_acts i)

        made : o.first ≡ act P (seq P R) i T.when (V.acts i) (R i)
        made = (made_by P L R i (V.acts i) o.first o.back o.parts).1 ∙ ap (λ (x : Tier). act P (seq P R) i x (V.acts i) (R i)) o.begun

        whole_first : whole P i b r ≡ true
        whole_first = sym (ap ended made ∙ L.ended_mk T.when (used P i b r) (whole P i b r) (told (step (seq P R) i T.when (V.acts i)) ∷ talk_of P (seq P R) i T.when b (used P i b r)))
            ∙ found (λ u. ended u ≡ true) o.first (seq P R i) (all i low) (subst (λ (l : List Act). In o.first l) (sym o.parts) (in_right o.first (V.acts i) (o.first ∷ o.back) (inl refl)))

        whole_left : whole P i T.place left.0 ≡ true
        whole_left = sym (whole_on P i b T.place T.messages left.0 ((invariant_holds P L V reached).shape.reads i T is)) ∙ sym (ap (λ l. whole P i b l) r_is) ∙ whole_first

        go : (l : List Message) → R i ≡ heard_of P V i ++ l → whole P i T.place l ≡ true → (m : Message) × (later : List Message) × (R i ≡ heard_of P V i ++ m ∷ later) × (wrong i T.place m ≡ false)
        go [] e w = absurd (true_false (sym w))
        go (m ∷ later) e w = (m, later, e, right (wrong i T.place m) refl w)
          where
            right : (c : Bool) → wrong i T.place m ≡ c → cond c false (case_of (on i T.place m) true (λ p. whole P i p later)) ≡ true → wrong i T.place m ≡ false
            right true q w' = absurd (true_false (sym w'))
            right false q w' = q

    -- where nothing is open and nothing is pending, all was heard
    pub all_heard : ((i : ℕ) → i < P.count → V.open_at i ≡ None) → ((i : ℕ) → i < P.count → pending V.acts i ≡ None) → (i : ℕ) → i < P.count → heard_of P V i ≡ R i
    all_heard shut quiet i low = sym (at_end P L V reached shut quiet R cont i).all_used ∙ all_used i low
