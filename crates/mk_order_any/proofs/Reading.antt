-- Reading a turn from a list of messages.
use Rattle.std.proofs.Common.{◌≡◌, ℕ, List, [], ◌∷◌, ◌++◌, refl, ap, sym, ◌∙◌, subst}
use Rattle.std.specs.Prelude.{Bool, true, false, Option, Some, None, cond}
use Rattle.mk_order_any.specs.Parts.{Parts, Family, case_of, used, whole, talk_of}
use Rattle.mk_order_any.proofs.Lists.{none_some, some_same, true_false}

module _ (P : Parts) (i : ℕ) where
  open P use {Tier, Message, Place, Said, heard, told, wrong, on, answer}

  -- ms is read from the place o to the open place q
  pub data Reads : Place → List Message → Place → Type 0 where
    none : (o : Place) → Reads o [] o
    more : (o p q : Place) (m : Message) (ms : List Message) → wrong i o m ≡ false → on i o m ≡ Some p → Reads p ms q → Reads o (m ∷ ms) q

  -- ms is a whole turn from the place o
  pub data Ends : Place → List Message → Type 0 where
    last : (o : Place) (m : Message) → wrong i o m ≡ false → on i o m ≡ None → Ends o (m ∷ [])
    next : (o p : Place) (m : Message) (ms : List Message) → wrong i o m ≡ false → on i o m ≡ Some p → Ends p ms → Ends o (m ∷ ms)

  pub used_on : (o q : Place) (ms later : List Message) → Reads o ms q → used P i o (ms ++ later) ≡ ms ++ used P i q later
  used_on o q [] later (none _) = refl
  used_on o q (m ∷ ms) later (more _ p _ _ _ right goes rest) = rw (right, goes, used_on p q ms later rest)

  pub reads_on : (o q r : Place) (ms later : List Message) → Reads o ms q → Reads q later r → Reads o (ms ++ later) r
  reads_on o q r [] later (none _) after = after
  reads_on o q r (m ∷ ms) later (more _ p _ _ _ right goes rest) after = more o p r m (ms ++ later) right goes (reads_on p q r ms later rest after)

  pub ends_on : (o q : Place) (ms later : List Message) → Reads o ms q → Ends q later → Ends o (ms ++ later)
  ends_on o q [] later (none _) after = after
  ends_on o q (m ∷ ms) later (more _ p _ _ _ right goes rest) after = next o p m (ms ++ later) right goes (ends_on p q ms later rest after)

  pub not_whole : (o q : Place) (ms : List Message) → Reads o ms q → whole P i o ms ≡ false
  not_whole o q [] (none _) = refl
  not_whole o q (m ∷ ms) (more _ p _ _ _ right goes rest) = rw (right, goes, not_whole p q ms rest)

  pub whole_on : (o q : Place) (ms later : List Message) → Reads o ms q → whole P i o (ms ++ later) ≡ whole P i q later
  whole_on o q [] later (none _) = refl
  whole_on o q (m ∷ ms) later (more _ p _ _ _ right goes rest) = rw (right, goes, whole_on p q ms later rest)

  pub used_whole : (o : Place) (ms later : List Message) → Ends o ms → used P i o (ms ++ later) ≡ ms
  used_whole o [] later x = elim x [ ]
  used_whole o (m ∷ []) later (last _ _ right over) = rw (right, over)
  used_whole o (m ∷ ms) later (next _ p _ _ right goes rest) = rw (right, goes, used_whole p ms later rest)

  pub is_whole : (o : Place) (ms later : List Message) → Ends o ms → whole P i o (ms ++ later) ≡ true
  is_whole o [] later x = elim x [ ]
  is_whole o (m ∷ []) later (last _ _ right over) = rw (right, over)
  is_whole o (m ∷ ms) later (next _ p _ _ right goes rest) = rw (right, goes, is_whole p ms later rest)

  -- what a whole reading uses is a whole turn
  pub ends_of : (o : Place) (ms : List Message) → whole P i o ms ≡ true → Ends o (used P i o ms)
  ends_of o [] e = absurd (true_false (sym e))
  ends_of o (m ∷ ms) e = by_wrong (λ p. ends_of p ms) (wrong i o m) refl e
    where
      by_on : ((p : Place) → whole P i p ms ≡ true → Ends p (used P i p ms)) → wrong i o m ≡ false → (q : Option Place) → on i o m ≡ q →
          case_of q true (λ p. whole P i p ms) ≡ true → Ends o (m ∷ case_of q [] (λ p. used P i p ms))
      by_on later right None over e = last o m right over
      by_on later right (Some p) goes e = next o p m (used P i p ms) right goes (later p e)

      by_wrong : ((p : Place) → whole P i p ms ≡ true → Ends p (used P i p ms)) → (w : Bool) → wrong i o m ≡ w → cond w false (case_of (on i o m) true (λ p. whole P i p ms)) ≡ true →
          Ends o (cond w [] (m ∷ case_of (on i o m) [] (λ p. used P i p ms)))
      by_wrong later true is e = absurd (true_false (sym e))
      by_wrong later false is e = by_on later is (on i o m) refl e

  module _ (A : Family P) (x : Tier) where
    pub talk_on : (o q : Place) (ms later : List Message) → Reads o ms q → talk_of P A i x o (ms ++ later) ≡ talk_of P A i x o ms ++ talk_of P A i x q later
    talk_on o q [] later (none _) = refl
    talk_on o q (m ∷ ms) later (more _ p _ _ _ right goes rest) = rw (goes, talk_on p q ms later rest)

  -- the talk over another family with the same answers
  pub talk_same : (A B : Family P) (x : Tier) → ((o : Place) (m : Message) → answer B i x o m ≡ answer A i x o m) → (o : Place) (ms : List Message) → talk_of P B i x o ms ≡ talk_of P A i x o ms
  talk_same A B x same o [] = refl
  talk_same A B x same o (m ∷ ms) = by_on (λ p. talk_same A B x same p ms) (on i o m)
    where
      by_on : ((p : Place) → talk_of P B i x p ms ≡ talk_of P A i x p ms) → (q : Option Place) →
          heard m ∷ case_of q [] (λ p. told (answer B i x o m) ∷ talk_of P B i x p ms) ≡ heard m ∷ case_of q [] (λ p. told (answer A i x o m) ∷ talk_of P A i x p ms)
      by_on later None = refl
      by_on later (Some p) = rw (same o m, later p)

  -- whole turns that agree wherever both have a message
  unfoldable pub Agree : Place → List Message → List Message → Type 0
  Agree o us vs = (w : List Message) (m n : Message) (u v : List Message) (q : Place) → us ≡ w ++ m ∷ u → vs ≡ w ++ n ∷ v → Reads o w q → m ≡ n

  pub agreed : (o : Place) (us vs : List Message) → Ends o us → Ends o vs → Agree o us vs → us ≡ vs
  unfolding Agree
  agreed o [] vs x _ same = elim x [ ]
  agreed o (m ∷ us) [] _ x same = elim x [ ]
  agreed o (m ∷ []) (n ∷ []) (last _ _ _ _) (last _ _ _ _) same = ap (λ x. x ∷ []) (same [] m n [] [] o refl refl (none o))
  agreed o (m ∷ []) (n ∷ vs) (last _ _ _ over) (next _ p _ _ _ goes _) same = absurd (none_some p (sym over ∙ ap (on i o) (same [] m n [] vs o refl refl (none o)) ∙ goes))
  agreed o (m ∷ us) (n ∷ []) (next _ p _ _ _ goes _) (last _ _ _ over) same = absurd (none_some p (sym over ∙ ap (on i o) (sym (same [] m n us [] o refl refl (none o))) ∙ goes))
  agreed o (m ∷ us) (n ∷ vs) (next _ p _ _ right goes whole) (next _ q _ _ _ goes' whole') same =
      let heads : m ≡ n = same [] m n us vs o refl refl (none o) in
      let places : q ≡ p = some_same (sym goes' ∙ ap (on i o) (sym heads) ∙ goes) in
      let rests : us ≡ vs = agreed p us vs whole (subst (λ (r : Place). Ends r vs) places whole')
      (λ w m' n' u v r e e' walk. same (m ∷ w) m' n' u v r (ap (λ l. m ∷ l) e) (ap (λ l. n ∷ l) e' ∙ ap (λ h. h ∷ (w ++ n' ∷ v)) (sym heads)) (more o p r m w right goes walk)) in
      ap (λ h. h ∷ us) heads ∙ ap (λ l. n ∷ l) rests
