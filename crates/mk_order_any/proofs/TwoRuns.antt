-- Two families of messages whose talks agree wherever both have a message have one sequential
-- execution, if no turn is cut.
use Rattle.std.proofs.Common.{◌≡◌, inl, inr, ℕ, ◌<◌, List, [], ◌∷◌, ◌++◌, refl, ap, sym, ◌∙◌, subst, append_assoc}
use Rattle.std.specs.Prelude.{Bool, true, false, cond}
use Rattle.std.proofs.Math.Dec.{eqb}
use Rattle.std.proofs.lemmas.Bool.{eq-eqb, cases_lt}
use Rattle.mk_order_any.specs.Parts.{Parts, In, Every, Family, Visit, act, grown, visit, after_visits, nothing, seq, talk_in, rest, used, whole, talk_of, case_of, Alike}
use Rattle.mk_order_any.proofs.Talks.{seq_above}
use Rattle.mk_order_any.specs.Laws.{Laws}
use Rattle.mk_order_any.proofs.Lists.{in_right, found}
use Rattle.mk_order_any.proofs.Reading.{Reads, Ends, ends_of, talk_on, agreed, Agree}
use Rattle.mk_order_any.proofs.ActLists.{talk_in-append}
use Rattle.mk_order_any.proofs.Folding.{added, growth, visit_is}

module _ (P : Parts) (L : Laws P) where
  open P use {Tier, Via, Message, Place, Act, Said, at, ended, talk, msgs, due, visits, begin, step, told, heard, answer, mk, on, count}

  -- the first act that is made at a visit where somebody is due
  module _ (R : ℕ → List Message) (A : Family P) (x : Tier) (s : ℕ) (vs : List (Visit P)) (is : due A s x ≡ true) where
    o : Place
    o = begin s x (A s)

    u : List Message
    u = used P s (begin s x (A s)) (rest P (A s) (R s))

    f : Act
    f = act P A s x (A s) (R s)

    more : List Act
    more = added P L R (visit P R A (x, s)) vs s

    parts : after_visits P R A ((x, s) ∷ vs) s ≡ A s ++ f ∷ more
    unfolding f more
    parts = growth P L R (visit P R A (x, s)) vs s ∙ ap (λ l. l ++ added P L R (visit P R A (x, s)) vs s) (visit_is P L R A (x, s) s) ∙ ap (λ l. (A s ++ l) ++ added P L R (visit P R A (x, s)) vs s)
        (ap (λ d. cond d (cond (eqb s s) (act P A s x (A s) (R s) ∷ []) []) []) is ∙ ap (λ e. cond e (act P A s x (A s) (R s) ∷ []) []) (eq-eqb s s refl))
        ∙ append_assoc (A s) (act P A s x (A s) (R s) ∷ []) (added P L R (visit P R A (x, s)) vs s)

    is_mk : f ≡ mk x u (whole P s o (rest P (A s) (R s))) (told (step A s x (A s)) ∷ talk_of P A s x o u)
    unfolding f u o
    is_mk = refl

    its_talk : talk f ≡ told (step A s x (A s)) ∷ talk_of P A s x o u
    its_talk = ap talk is_mk ∙ L.talk_mk x u (whole P s o (rest P (A s) (R s))) (told (step A s x (A s)) ∷ talk_of P A s x o u)

    module _ (all : (i : ℕ) → Every (λ a. ended a ≡ true) (after_visits P R A ((x, s) ∷ vs) i)) where
      whole_f : whole P s o (rest P (A s) (R s)) ≡ true
      whole_f = sym (ap ended is_mk ∙ L.ended_mk x u (whole P s o (rest P (A s) (R s))) (told (step A s x (A s)) ∷ talk_of P A s x o u))
          ∙ found (λ a. ended a ≡ true) f (after_visits P R A ((x, s) ∷ vs) s) (all s) (subst (λ (l : List Act). In f l) (sym parts) (in_right f (A s) (f ∷ more) (inl refl)))

      ends_u : Ends P s o u
      unfolding u o
      ends_u = ends_of P s (begin s x (A s)) (rest P (A s) (R s)) whole_f

      is_whole_mk : f ≡ mk x u true (told (step A s x (A s)) ∷ talk_of P A s x o u)
      is_whole_mk = is_mk ∙ ap (λ w. mk x u w (told (step A s x (A s)) ∷ talk_of P A s x o u)) whole_f

    -- the talk up to a message that was used in this turn
    up_to : (w : List Message) (m : Message) (v : List Message) (q : Place) → u ≡ w ++ m ∷ v → Reads P s o w q →
        (later : List Said) × (talk_in P (after_visits P R A ((x, s) ∷ vs) s) ≡ (talk_in P (A s) ++ told (step A s x (A s)) ∷ talk_of P A s x o w) ++ heard m ∷ later)
    up_to w m v q e reads =
        let tail : List Said = case_of (on s q m) [] (λ p. told (answer A s x q m) ∷ talk_of P A s x p v) in
        let first : Said = told (step A s x (A s)) in (
          tail ++ talk_in P more,
          ap (λ l. talk_in P l) parts ∙ talk_in-append P (A s) (f ∷ more)
              ∙ ap (λ l. talk_in P (A s) ++ (l ++ talk_in P more)) (its_talk ∙ ap (λ l. first ∷ l) (ap (λ l. talk_of P A s x o l) e ∙ talk_on P s A x o q w (m ∷ v) reads))
              ∙ ap (λ l. talk_in P (A s) ++ l) (append_assoc (first ∷ talk_of P A s x o w) (heard m ∷ tail) (talk_in P more))
              ∙ sym (append_assoc (talk_in P (A s)) (first ∷ talk_of P A s x o w) (heard m ∷ (tail ++ talk_in P more))),
        )

  module _ (R Q : ℕ → List Message) where
    -- at a visit both make the same act
    same_act : (A : Family P) (x : Tier) (s : ℕ) (vs : List (Visit P)) (is : due A s x ≡ true) →
        ((i : ℕ) → Every (λ a. ended a ≡ true) (after_visits P R A ((x, s) ∷ vs) i)) → ((i : ℕ) → Every (λ a. ended a ≡ true) (after_visits P Q A ((x, s) ∷ vs) i)) →
        Alike P (λ i. talk_in P (after_visits P R A ((x, s) ∷ vs) i)) (λ i. talk_in P (after_visits P Q A ((x, s) ∷ vs) i)) → act P A s x (A s) (R s) ≡ act P A s x (A s) (Q s)
    unfolding f o Agree
    same_act A x s vs is all all' alike =
        let us : u R A x s vs is ≡ u Q A x s vs is = agreed P s (begin s x (A s)) (u R A x s vs is) (u Q A x s vs is) (ends_u R A x s vs is all) (ends_u Q A x s vs is all')
        (λ w m n v v' q e e' reads.
        let a : (later : List Said) × (talk_in P (after_visits P R A ((x, s) ∷ vs) s) ≡ (talk_in P (A s) ++ told (step A s x (A s)) ∷ talk_of P A s x (begin s x (A s)) w) ++ heard m ∷ later) = up_to R A x s vs is w m v q e reads in
        let b : (later : List Said) × (talk_in P (after_visits P Q A ((x, s) ∷ vs) s) ≡ (talk_in P (A s) ++ told (step A s x (A s)) ∷ talk_of P A s x (begin s x (A s)) w) ++ heard n ∷ later) = up_to Q A x s vs is w n v' q e' reads in
        alike s (L.due_below A s x is) (talk_in P (A s) ++ told (step A s x (A s)) ∷ talk_of P A s x (begin s x (A s)) w) a.0 b.0 m n a.1 b.1) in
        is_whole_mk R A x s vs is all ∙ ap (λ l. mk x l true (told (step A s x (A s)) ∷ talk_of P A s x (begin s x (A s)) l)) us ∙ sym (is_whole_mk Q A x s vs is all')

    same_walk : (vs : List (Visit P)) (A : Family P) → ((i : ℕ) → Every (λ a. ended a ≡ true) (after_visits P R A vs i)) → ((i : ℕ) → Every (λ a. ended a ≡ true) (after_visits P Q A vs i)) →
        Alike P (λ i. talk_in P (after_visits P R A vs i)) (λ i. talk_in P (after_visits P Q A vs i)) → after_visits P R A vs ≡ after_visits P Q A vs
    same_walk [] A all all' alike = refl
    same_walk (v ∷ vs) A all all' alike = same_walk vs (visit P R A v) all
        (subst (λ (B : Family P). (i : ℕ) → Every (λ a. ended a ≡ true) (after_visits P Q B vs i)) (sym same) all')
        (subst (λ (B : Family P). Alike P (λ i. talk_in P (after_visits P R (visit P R A v) vs i)) (λ i. talk_in P (after_visits P Q B vs i))) (sym same) alike)
        ∙ ap (λ (B : Family P). after_visits P Q B vs) same
      where
        same_at : (d : Bool) → due A v.1 v.0 ≡ d → cond d (grown P A v.1 (act P A v.1 v.0 (A v.1) (R v.1))) A ≡ cond d (grown P A v.1 (act P A v.1 v.0 (A v.1) (Q v.1))) A
        same_at false is = refl
        same_at true is = ap (λ f. grown P A v.1 f) (same_act A v.0 v.1 vs is all all' alike)

        same : visit P R A v ≡ visit P Q A v
        same = same_at (due A v.1 v.0) refl

    all_walked : ((i : ℕ) → Every (λ a. ended a ≡ true) (seq P R i)) → ((i : ℕ) → Every (λ a. ended a ≡ true) (seq P Q i)) →
        Alike P (λ i. talk_in P (seq P R i)) (λ i. talk_in P (seq P Q i)) → seq P R ≡ seq P Q
    unfolding seq
    all_walked all all' alike = same_walk visits (nothing P) all all' alike

  none_above : (R : ℕ → List Message) → ((i : ℕ) → i < count → Every (λ a. ended a ≡ true) (seq P R i)) → (i : ℕ) → Every (λ a. ended a ≡ true) (seq P R i)
  none_above R all i = elim (cases_lt i count) [ inl low ↦ all i low | inr high ↦ subst (λ (l : List Act). Every (λ a. ended a ≡ true) l) (sym (seq_above P L R i high)) tt ]

  pub two_runs_agree : (R Q : ℕ → List Message) → ((i : ℕ) → i < count → Every (λ a. ended a ≡ true) (seq P R i)) → ((i : ℕ) → i < count → Every (λ a. ended a ≡ true) (seq P Q i)) →
      Alike P (λ i. talk_in P (seq P R i)) (λ i. talk_in P (seq P Q i)) → seq P R ≡ seq P Q
  two_runs_agree R Q all all' alike = all_walked R Q (none_above R all) (none_above Q all') alike
