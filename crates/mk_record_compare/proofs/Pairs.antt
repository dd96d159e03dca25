-- The members of an object by their places.
use Rattle.std.proofs.Common.{◌≡◌, ℕ, zero, suc, List, [], ◌∷◌, slice_get, Some}
use Rattle.std.specs.Map.{keys_of, values_of}
use Rattle.mk_base.proofs.Lists.{none_some}

-- a member at a place, by its name and its value
pub member_is : {V : Type 0} (ms : List (List ℕ × V)) (i : ℕ) (n : List ℕ) (v : V) → slice_get (keys_of ms) i ≡ Some n → slice_get (values_of ms) i ≡ Some v → slice_get ms i ≡ Some (n, v)
member_is [] i n v name value = absurd (none_some name)
member_is (m ∷ ms) zero n v name value = let a : m.0 ≡ n = cc in let b : m.1 ≡ v = cc in λ j. Some (a j, b j)
member_is (m ∷ ms) (suc i) n v name value = member_is ms i n v name value
