-- Lists of acts: whether all have ended, their messages, their talk, and what is left of a list of
-- messages after them.
use Rattle.std.proofs.Common.{◌≡◌, List, [], ◌∷◌, ◌++◌, length, drop, refl, ap, sym, ◌∙◌, append_assoc}
use Rattle.std.specs.Prelude.{Bool, true, false, ◌&&◌, cond}
use Rattle.std.proofs.Math.Bool.{and-false}
use Rattle.std.proofs.Math.Seq.{drop-length, drop-append_seam}
use Rattle.mk_order_any.proofs.Lists.{true_false}
use Rattle.mk_order_any.specs.Parts.{Parts, Every, all_ended, heard_in, talk_in, rest}

module _ (P : Parts) where
  open P use {Message, Act, Said, msgs, ended, talk}

  pub heard_in-append : (K M : List Act) → heard_in P (K ++ M) ≡ heard_in P K ++ heard_in P M
  heard_in-append [] M = refl
  heard_in-append (a ∷ K) M = ap (λ l. msgs a ++ l) (heard_in-append K M) ∙ sym (append_assoc (msgs a) (heard_in P K) (heard_in P M))

  pub talk_in-append : (K M : List Act) → talk_in P (K ++ M) ≡ talk_in P K ++ talk_in P M
  talk_in-append [] M = refl
  talk_in-append (a ∷ K) M = ap (λ l. talk a ++ l) (talk_in-append K M) ∙ sym (append_assoc (talk a) (talk_in P K) (talk_in P M))

  pub all_ended_of : (K : List Act) → Every (λ a. ended a ≡ true) K → all_ended P K ≡ true
  all_ended_of [] all = refl
  all_ended_of (a ∷ K) all = rw (all.0, all_ended_of K all.1)

  pub each_ended : (K : List Act) → all_ended P K ≡ true → Every (λ a. ended a ≡ true) K
  each_ended [] is = tt
  each_ended (a ∷ K) is = go (λ e. each_ended K e) (ended a) refl is
    where
      go : (all_ended P K ≡ true → Every (λ a. ended a ≡ true) K) → (b : Bool) → ended a ≡ b → (b && all_ended P K) ≡ true → (ended a ≡ true) × Every (λ a. ended a ≡ true) K
      go later true e e' = (e, later e')
      go later false e e' = absurd (true_false (sym e'))

  pub not_all_ended : (K : List Act) (f : Act) (M : List Act) → ended f ≡ false → all_ended P (K ++ f ∷ M) ≡ false
  not_all_ended [] f M cut = rw cut
  not_all_ended (a ∷ K) f M cut = rw (not_all_ended K f M cut, and-false)

  -- nothing is left once a turn was cut
  pub rest_cut : (K : List Act) (f : Act) (M : List Act) (r : List Message) → ended f ≡ false → rest P (K ++ f ∷ M) r ≡ []
  rest_cut K f M r cut = rw (not_all_ended K f M cut)

  pub rest_whole : (K : List Act) (r : List Message) → Every (λ a. ended a ≡ true) K → rest P K (heard_in P K ++ r) ≡ r
  rest_whole K r all = rw (all_ended_of K all, drop-append_seam (heard_in P K) r)

  pub rest_over : (K : List Act) → rest P K (heard_in P K) ≡ []
  rest_over K = go (all_ended P K)
    where
      go : (b : Bool) → cond b (drop (length (heard_in P K)) (heard_in P K)) [] ≡ []
      go true = drop-length (heard_in P K)
      go false = refl
