-- The walk through a journal by which a simulator is sent its items anew.
use Rattle.std.specs.Prelude.{◌≡◌, ℕ, ◌+◌, ◌==◌, Bool, true, not, List, ◌∷◌, ◌++◌, length, drop, Option, Some, None}
use Rattle.std.specs.List.{list_all}
use Rattle.mk_base.specs.declared.SimNo.{SimNo}
use Rattle.mk_plan.specs.declared.Message.{Message}
use Rattle.mk_plan.specs.declared.Entry.{Entry}
use Rattle.mk_plan.specs.declared.Entry.TheVariants.{Got}
use Rattle.mk_plan.specs.Journals.{got, sim_of}
use Rattle.mk_resume_walk.specs.Talks.{up_to}

-- the entry is one of simulator i
abbrev pub is_of : ℕ → Entry → Bool
is_of i e = sim_of e == i

-- none of the entries is one of simulator i
abbrev pub has_none : ℕ → List Entry → Bool
has_none i J = list_all (λ e. not (is_of i e)) J

-- the first entry of simulator i from this place on is at p; or there is none
abbrev pub IsFirstOwn : List Entry → ℕ → ℕ → Option ℕ → Type 0
IsFirstOwn J i from None = has_none i (drop from J) ≡ true
IsFirstOwn J i from (Some p) = (between : List Entry) × (e : Entry) × (later : List Entry)
    × (drop from J ≡ between ++ e ∷ later) × (has_none i between ≡ true) × (is_of i e ≡ true)
    × (p ≡ from + length between)

-- the entries before this place were gone through, and n of them are messages of simulator i
pub record IsGoneTo (J : List Entry) (i n from : ℕ) : Type 0 where
  pub gone : List Entry
  pub left : List Entry
  pub parts : J ≡ gone ++ left
  pub at : length gone ≡ from
  pub count : length (got gone i) ≡ n

-- simulator i has sent n of its messages again, and the next one that it has to send again stands
-- at p; or it has sent all of them
abbrev pub IsNextAt : List Entry → ℕ → ℕ → Option ℕ → Type 0
IsNextAt J i n None = n ≡ length (got J i)
IsNextAt J i n (Some p) = (s : SimNo) × (m : Message) × (later : List Entry) × (s.0 ≡ i)
    × (J ≡ up_to i n J ++ Got s m ∷ later) × (length (up_to i n J) ≡ p)
