-- The latest entry of a list: what may be forgotten before a mark, and what a window does.
use Rattle.std.proofs.Common.{◌≡◌, List, [], ◌∷◌, refl, ap, sym, ◌∙◌}
use Rattle.std.specs.Prelude.{Bool, true, false, not, ◌&&◌, cond, Option, Some, None, filter, fold, if◌then◌else◌}
use Rattle.mk_order_any.proofs.Lists.{true_false}

module _ (T X : Type 0) (up_to : T → T → Bool) (at : X → T) where
  -- the later of two; of equal times the second
  abbrev pub later : Option X → X → Option X
  later None d = Some d
  later (Some best) d = if up_to (at best) (at d) then Some d else Some best

  abbrev pub latest : List X → Option X
  latest ds = fold later None ds

  abbrev pub or_else : Option X → Option X → Option X
  or_else None o = o
  or_else (Some d) o = Some d

  -- the entry, if it passes
  abbrev pub if_passes : (X → Bool) → Option X → Option X
  if_passes p None = None
  if_passes p (Some d) = cond (p d) (Some d) None

  module _ (trans : (x y z : T) → up_to x y ≡ true → up_to y z ≡ true → up_to x z ≡ true) (total : (x y : T) → up_to y x ≡ false → up_to x y ≡ true) where
    AtOrBefore : T → Option X → Type 0
    AtOrBefore mark None = Unit
    AtOrBefore mark (Some d) = up_to (at d) mark ≡ true

    After : T → Option X → Type 0
    After mark None = Unit
    After mark (Some d) = up_to (at d) mark ≡ false

    below : (x y z : T) → up_to x y ≡ true → up_to z y ≡ false → up_to z x ≡ false
    below x y z h k = go (up_to z x) refl
      where
        go : (b : Bool) → up_to z x ≡ b → up_to z x ≡ false
        go true e = absurd (true_false (sym (trans z x y e h) ∙ k))
        go false e = e

    -- an entry at or before the mark changes the low part alone, one after it the high part alone
    low_step : (mark : T) (h o : Option X) (d : X) → After mark h → up_to (at d) mark ≡ true → later (or_else h o) d ≡ or_else h (later o d)
    unfolding After
    low_step mark None o d high low = refl
    low_step mark (Some t) o d high low = ap (λ b. cond b (Some d) (Some t)) (below (at d) mark (at t) low high)

    high_step : (mark : T) (h o : Option X) (d : X) → AtOrBefore mark o → up_to (at d) mark ≡ false → later (or_else h o) d ≡ or_else (later h d) o
    unfolding AtOrBefore
    high_step mark (Some t) o d low high = go (up_to (at t) (at d))
      where
        go : (b : Bool) → cond b (Some d) (Some t) ≡ or_else (cond b (Some d) (Some t)) o
        go true = refl
        go false = refl
    high_step mark None None d low high = refl
    high_step mark None (Some t) d low high = ap (λ b. cond b (Some d) (Some t)) (total (at t) (at d) (below (at t) mark (at d) low high))

    later_low : (mark : T) (o : Option X) (d : X) → AtOrBefore mark o → up_to (at d) mark ≡ true → AtOrBefore mark (later o d)
    unfolding AtOrBefore
    later_low mark None d low h = h
    later_low mark (Some t) d low h = go (up_to (at t) (at d))
      where
        go : (b : Bool) → AtOrBefore mark (cond b (Some d) (Some t))
        go true = h
        go false = low

    later_high : (mark : T) (o : Option X) (d : X) → After mark o → up_to (at d) mark ≡ false → After mark (later o d)
    unfolding After
    later_high mark None d high h = h
    later_high mark (Some t) d high h = go (up_to (at t) (at d))
      where
        go : (b : Bool) → After mark (cond b (Some d) (Some t))
        go true = h
        go false = high

    -- up to x the latest is the latest after the mark, or else the latest at or before it
    two_parts : (mark x : T) → up_to mark x ≡ true → (l : List X) (h o : Option X) → After mark h → AtOrBefore mark o →
        fold later (or_else h o) (filter (λ d. up_to (at d) x) l) ≡ or_else (fold later h (filter (λ d. up_to (at d) x) (filter (λ d. not (up_to (at d) mark)) l))) (fold later o (filter (λ d. up_to (at d) mark) l))
    two_parts mark x before [] h o high low = refl
    two_parts mark x before (d ∷ l) h o high low = go (λ h' o'. two_parts mark x before l h' o') (up_to (at d) mark) refl (up_to (at d) x) refl
      where
        Goal : Bool → Bool → Type 0
        Goal m b = fold later (or_else h o) (cond b (d ∷ filter (λ d. up_to (at d) x) l) (filter (λ d. up_to (at d) x) l))
            ≡ or_else (fold later h (filter (λ d. up_to (at d) x) (cond (not m) (d ∷ filter (λ d. not (up_to (at d) mark)) l) (filter (λ d. not (up_to (at d) mark)) l))))
            (fold later o (cond m (d ∷ filter (λ d. up_to (at d) mark) l) (filter (λ d. up_to (at d) mark) l)))

        highs : List X
        highs = filter (λ d. up_to (at d) x) (filter (λ d. not (up_to (at d) mark)) l)

        lows : Option X
        lows = fold later o (filter (λ d. up_to (at d) mark) l)

        seen : up_to (at d) x ≡ true → or_else (fold later (later h d) highs) lows ≡ or_else (fold later h (cond (up_to (at d) x) (d ∷ highs) highs)) lows
        seen e = ap (λ b. or_else (fold later h (cond b (d ∷ highs) highs)) lows) (sym e)

        unseen : up_to (at d) x ≡ false → or_else (fold later h highs) lows ≡ or_else (fold later h (cond (up_to (at d) x) (d ∷ highs) highs)) lows
        unseen e = ap (λ b. or_else (fold later h (cond b (d ∷ highs) highs)) lows) (sym e)

        go : ((h' o' : Option X) → After mark h' → AtOrBefore mark o' →
            fold later (or_else h' o') (filter (λ d. up_to (at d) x) l) ≡ or_else (fold later h' (filter (λ d. up_to (at d) x) (filter (λ d. not (up_to (at d) mark)) l))) (fold later o' (filter (λ d. up_to (at d) mark) l)))
            → (m : Bool) → up_to (at d) mark ≡ m → (b : Bool) → up_to (at d) x ≡ b → Goal m b
        go rest true e true e' = ap (λ a. fold later a (filter (λ d. up_to (at d) x) l)) (low_step mark h o d high e) ∙ rest h (later o d) high (later_low mark o d low e)
        go rest true e false e' = absurd (true_false (sym (trans (at d) mark x e before) ∙ e'))
        go rest false e true e' = ap (λ a. fold later a (filter (λ d. up_to (at d) x) l)) (high_step mark h o d low e) ∙ rest (later h d) o (later_high mark h d high e) low ∙ seen e'
        go rest false e false e' = rest h o high low ∙ unseen e'

    -- a list that keeps all after the mark, and the latest at or before it, answers all questions
    -- from the mark on
    pub latest_kept : (mark x : T) → up_to mark x ≡ true → (k l : List X) → filter (λ d. not (up_to (at d) mark)) k ≡ filter (λ d. not (up_to (at d) mark)) l →
        latest (filter (λ d. up_to (at d) mark) k) ≡ latest (filter (λ d. up_to (at d) mark) l) → latest (filter (λ d. up_to (at d) x) k) ≡ latest (filter (λ d. up_to (at d) x) l)
    unfolding After AtOrBefore
    latest_kept mark x before k l highs lows =
        two_parts mark x before k None None tt tt
        ∙ ap (λ m. or_else (latest (filter (λ d. up_to (at d) x) m)) (latest (filter (λ d. up_to (at d) mark) k))) highs
        ∙ ap (λ o. or_else (latest (filter (λ d. up_to (at d) x) (filter (λ d. not (up_to (at d) mark)) l))) o) lows
        ∙ sym (two_parts mark x before l None None tt tt)

    -- a window that later entries pass too only tests the latest
    module _ (since : X → Bool) (closed : (d e : X) → up_to (at d) (at e) ≡ true → since d ≡ true → since e ≡ true) where
      in_window : (b : Option X) (d : X) → since d ≡ true → later (if_passes since b) d ≡ if_passes since (later b d)
      in_window None d is = ap (λ c. cond c (Some d) None) (sym is)
      in_window (Some t) d is = go (since t) refl (up_to (at t) (at d)) refl
        where
          go : (c : Bool) → since t ≡ c → (b : Bool) → up_to (at t) (at d) ≡ b → later (cond c (Some t) None) d ≡ if_passes since (cond b (Some d) (Some t))
          go true e true e' = ap (λ b. cond b (Some d) (Some t)) e' ∙ ap (λ c. cond c (Some d) None) (sym is)
          go true e false e' = ap (λ b. cond b (Some d) (Some t)) e' ∙ ap (λ c. cond c (Some t) None) (sym e)
          go false e true e' = ap (λ c. cond c (Some d) None) (sym is)
          go false e false e' = absurd (true_false (sym (closed d t (total (at d) (at t) e') is) ∙ e))

      out_of_window : (b : Option X) (d : X) → since d ≡ false → if_passes since b ≡ if_passes since (later b d)
      out_of_window None d is = ap (λ c. cond c (Some d) None) (sym is)
      out_of_window (Some t) d is = go (since t) refl (up_to (at t) (at d)) refl
        where
          go : (c : Bool) → since t ≡ c → (b : Bool) → up_to (at t) (at d) ≡ b → cond c (Some t) None ≡ if_passes since (cond b (Some d) (Some t))
          go true e true e' = absurd (true_false (sym (closed t d e' e) ∙ is))
          go false e true e' = ap (λ c. cond c (Some d) None) (sym is)
          go true e false e' = ap (λ c. cond c (Some t) None) (sym e)
          go false e false e' = ap (λ c. cond c (Some t) None) (sym e)

      windowed : (x : T) (l : List X) (b : Option X) → fold later (if_passes since b) (filter (λ d. up_to (at d) x && since d) l) ≡ if_passes since (fold later b (filter (λ d. up_to (at d) x) l))
      windowed x [] b = refl
      windowed x (d ∷ l) b = go (λ c. windowed x l c) (up_to (at d) x) (since d) refl
        where
          go : ((c : Option X) → fold later (if_passes since c) (filter (λ d. up_to (at d) x && since d) l) ≡ if_passes since (fold later c (filter (λ d. up_to (at d) x) l))) →
              (u w : Bool) → since d ≡ w →
              fold later (if_passes since b) (cond (u && w) (d ∷ filter (λ d. up_to (at d) x && since d) l) (filter (λ d. up_to (at d) x && since d) l))
              ≡ if_passes since (fold later b (cond u (d ∷ filter (λ d. up_to (at d) x) l) (filter (λ d. up_to (at d) x) l)))
          go rest true true is = ap (λ c. fold later c (filter (λ d. up_to (at d) x && since d) l)) (in_window b d is) ∙ rest (later b d)
          go rest true false is = ap (λ c. fold later c (filter (λ d. up_to (at d) x && since d) l)) (out_of_window b d is) ∙ rest (later b d)
          go rest false w is = rest b

      pub latest_windowed : (x : T) (l : List X) → latest (filter (λ d. up_to (at d) x && since d) l) ≡ if_passes since (latest (filter (λ d. up_to (at d) x) l))
      latest_windowed x l = windowed x l None
