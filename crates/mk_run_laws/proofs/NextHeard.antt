-- In sequential execution a simulator whose turns all end goes on, after what was said in its open
-- turn, with a message.
use Rattle.std.proofs.Common.{◌≡◌, inl, ℕ, ◌<◌, List, [], ◌∷◌, ◌++◌, refl, ap, sym, ◌∙◌, subst, append_assoc}
use Rattle.std.specs.Prelude.{Bool, true, false, cond, Some}
use Rattle.mk_order_any.specs.Parts.{Parts, In, Every, Prefix, act, seq, View, Turn, case_of, Reached, heard_in, talk_in, heard_of, said_of, rest, used, whole, talk_of}
use Rattle.mk_order_any.specs.Laws.{Laws}
use Rattle.mk_order_any.proofs.Lists.{true_false, found, in_right}
use Rattle.mk_order_any.proofs.Reading.{whole_on}
use Rattle.mk_order_any.proofs.ActLists.{rest_whole, talk_in-append}
use Rattle.mk_order_any.proofs.Folding.{made_by}
use Rattle.mk_order_any.proofs.Invariant.{Opened, Agreeing, Invariant, invariant_holds, heard_open}
use Rattle.mk_order_any.proofs.Talks.{everywhere, goes_on, said_open}

module _ (P : Parts) (L : Laws P) where
  open P use {Tier, Message, Place, Act, Said, ended, wrong, on, begin, step, answer, told, heard, talk}

  -- i's messages go on with m, and so does what is said
  pub record GoesOnWith (R : ℕ → List Message) (V : View P) (i : ℕ) (T : Turn P) : Type 0 where
    pub m : Message
    pub later : List Message
    pub messages : R i ≡ heard_of P V i ++ m ∷ later
    pub more : List Said
    pub said : talk_in P (seq P R i) ≡ (said_of P V i ++ T.owed) ++ heard m ∷ more

  module _ (R : ℕ → List Message) (V : View P) (reached : Reached P V) (cont : (i : ℕ) → i < P.count → Prefix (heard_of P V i) (R i)) (i : ℕ) (T : Turn P) (is : V.open_at i ≡ Some T)
      (all : Every (λ a. ended a ≡ true) (seq P R i)) where
    pub every : (j : ℕ) → Prefix (heard_of P V j) (R j)
    every = everywhere P L V reached R cont

    inv : Invariant P L V
    inv = invariant_holds P L V reached

    a : Agreeing P L (seq P R) V.acts V.open_at
    a = inv.agreeing R every

    o : Opened P L (seq P R) (V.acts i) i T
    o = a.opened i T is

    b : Place
    b = begin i T.when (V.acts i)

    r : List Message
    r = rest P (V.acts i) (R i)

    r_is : r ≡ T.messages ++ (every i).0
    unfolding r
    r_is = ap (λ l. rest P (V.acts i) l) ((every i).1 ∙ ap (λ l. l ++ (every i).0) (heard_open P L V i T is) ∙ append_assoc (heard_in P (V.acts i)) T.messages (every i).0)
        ∙ rest_whole P (V.acts i) (T.messages ++ (every i).0) (inv.shape.whole_acts i)

    made : o.first ≡ act P (seq P R) i T.when (V.acts i) (R i)
    made = (made_by P L R i (V.acts i) o.first o.back o.parts).1 ∙ ap (λ (x : Tier). act P (seq P R) i x (V.acts i) (R i)) o.begun

    whole_first : whole P i b r ≡ true
    unfolding b r
    whole_first = sym (ap ended made ∙ L.ended_mk T.when (used P i b r) (whole P i b r) (told (step (seq P R) i T.when (V.acts i)) ∷ talk_of P (seq P R) i T.when b (used P i b r)))
        ∙ found (λ u. ended u ≡ true) o.first (seq P R i) all (subst (λ (l : List Act). In o.first l) (sym o.parts) (in_right o.first (V.acts i) (o.first ∷ o.back) (inl refl)))

    -- the messages that follow end the open turn
    pub whole_left : whole P i T.place (every i).0 ≡ true
    unfolding b
    whole_left = sym (whole_on P i b T.place T.messages (every i).0 (inv.shape.reads i T is)) ∙ sym (ap (λ l. whole P i b l) r_is) ∙ whole_first

    talk_is : talk_in P (seq P R i) ≡ (said_of P V i ++ T.owed) ++ (talk_of P (seq P R) i T.when T.place (used P i T.place (every i).0) ++ talk_in P o.back)
    unfolding o a inv
    talk_is =
        let rest_of = talk_of P (seq P R) i T.when T.place (used P i T.place (every i).0) in
        ap (λ l. talk_in P l) o.parts ∙ talk_in-append P (V.acts i) (o.first ∷ o.back)
        ∙ ap (λ l. talk_in P (V.acts i) ++ (l ++ talk_in P o.back)) (goes_on P L V R inv.shape a every i T is)
        ∙ ap (λ l. talk_in P (V.acts i) ++ l) (append_assoc (T.lines ++ T.owed) rest_of (talk_in P o.back))
        ∙ sym (append_assoc (talk_in P (V.acts i)) (T.lines ++ T.owed) (rest_of ++ talk_in P o.back))
        ∙ ap (λ l. l ++ (rest_of ++ talk_in P o.back)) (sym (append_assoc (talk_in P (V.acts i)) T.lines T.owed))
        ∙ ap (λ l. (l ++ T.owed) ++ (rest_of ++ talk_in P o.back)) (sym (said_open P L V i T is))

    pub next_heard : GoesOnWith R V i T
    next_heard = go (every i).0 (every i).1 whole_left talk_is
      where
        go : (l : List Message) → R i ≡ heard_of P V i ++ l → whole P i T.place l ≡ true
            → talk_in P (seq P R i) ≡ (said_of P V i ++ T.owed) ++ (talk_of P (seq P R) i T.when T.place (used P i T.place l) ++ talk_in P o.back) → GoesOnWith R V i T
        go [] e w s = absurd (true_false (sym w))
        go (m ∷ later) e w s = right (wrong i T.place m) refl w s
          where
            right : (c : Bool) → wrong i T.place m ≡ c → cond c false (case_of (on i T.place m) true (λ p. whole P i p later)) ≡ true
                → talk_in P (seq P R i) ≡ (said_of P V i ++ T.owed) ++ (talk_of P (seq P R) i T.when T.place (cond c [] (m ∷ case_of (on i T.place m) [] (λ p. used P i p later))) ++ talk_in P o.back) → GoesOnWith R V i T
            right true q w' s' = absurd (true_false (sym w'))
            right false q w' s' = record { m = m; later = later; messages = e; more = case_of (on i T.place m) [] (λ p. told (answer (seq P R) i T.when T.place m) ∷ talk_of P (seq P R) i T.when p (case_of (on i T.place m) [] (λ p. used P i p later))) ++ talk_in P o.back; said = s' }
