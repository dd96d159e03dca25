-- Texts that are put piece by piece.
use Rattle.std.proofs.Common.{◌≡◌, ◌⊎◌, inl, inr, ℕ, ◌+◌, List, [], ◌++◌, length, Option, Some, None, refl, sym, ap, ◌∙◌, append_assoc, length-append, arith}
use Rattle.std.specs.Prelude.{take}
use Rattle.std.proofs.lemmas.List.{take-append-le}
use Rattle.std.proofs.Math.Seq.{take-append-add}
use Rattle.mk_base.proofs.Lists.{append_nil}
use Rattle.mk_outside.specs.declared.sink.PutAll.{PutAll}
use Rattle.mk_outside.specs.declared.sink.PutAll.TheVariants as put
use Rattle.mk_outside.specs.Sinks.{TookBeginning, TookText, appended}

-- not all of a text was taken, for this cause or that one
pub not_all : {F M : Type 0} (r : PutAll) (text : List ℕ) (old new : Option (List ℕ)) → TookText r text old new → (r ≡ put.Failed → F) → (r ≡ put.Mem → M) → (r ≡ put.Done → ⊥)
    → TookBeginning text old new × (F ⊎ M)
not_all put.Done text old new took f m not = absurd (not refl)
not_all put.Failed text old new took f m not = (took, inl (f refl))
not_all put.Mem text old new took f m not = (took, inr (m refl))

pub all_taken : (r : PutAll) (text : List ℕ) (old new : Option (List ℕ)) → TookText r text old new → r ≡ put.Done → new ≡ appended text old
all_taken put.Done text old new took is = took
all_taken put.Failed text old new took is = absurd cc
all_taken put.Mem text old new took is = absurd cc

pub none_taken : (old : Option (List ℕ)) → old ≡ appended [] old
none_taken None = refl
none_taken (Some bytes) = ap Some (sym (append_nil bytes))

-- one text behind another
pub both_taken : (a b : List ℕ) (old mid new : Option (List ℕ)) → mid ≡ appended a old → new ≡ appended b mid → new ≡ appended (a ++ b) old
both_taken a b None mid new one two = two ∙ ap (appended b) one
both_taken a b (Some bytes) mid new one two = two ∙ ap (appended b) one ∙ ap Some (append_assoc bytes a b)

-- a beginning of a text is one of a longer text
pub front_taken : (a b : List ℕ) (old new : Option (List ℕ)) → TookBeginning a old new → TookBeginning (a ++ b) old new
front_taken a b old new some = (some.0, (let e = length-append a b in let low = some.1 in grind arith), some.2 ∙ ap (λ l. appended l old) (sym (take-append-le some.0 a b some.1)))

pub next_taken : (a b : List ℕ) (old mid new : Option (List ℕ)) → mid ≡ appended a old → TookBeginning b mid new → TookBeginning (a ++ b) old new
next_taken a b old mid new first some = (
  length a + some.0,
  (let e = length-append a b in let low = some.1 in grind arith),
  both_taken a (take some.0 b) old mid new first some.2 ∙ ap (λ l. appended l old) (sym (take-append-add a b some.0)),
)
