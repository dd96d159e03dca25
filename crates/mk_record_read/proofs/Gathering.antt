-- What is gathered from a list, item by item.
use Rattle.std.proofs.Common.{◌≡◌, ℕ, ◌+◌, ◌<◌, List, [], ◌∷◌, ◌++◌, map, take, length, get_or, Option, Some, None}
use Rattle.mk_record_read.specs.declared.faults.LineFault.{LineFault}
use Rattle.mk_record_read.specs.declared.faults.LineFault.TheVariants.{Bad, Mem}
use Rattle.mk_record_read.specs.inner.Faults.{IsMissing}
use Rattle.mk_base.specs.Lists.{all_there}
use Rattle.mk_base.proofs.Gathering.{more_there, is_missing}

-- one more item of a list, of which each so far is there
pub gathered-more : {X Y : Type 0} (f : Y → Option X) (ys : List Y) (i : ℕ) (y : Y) (x : X) (xs : List X) → i < length ys → y ≡ get_or ys i y → f y ≡ Some x
    → all_there (map f (take i ys)) ≡ Some xs → all_there (map f (take (i + 1) ys)) ≡ Some (xs ++ x ∷ [])
gathered-more f ys i y x xs below is there so_far = more_there ys i y below is f x xs there so_far

-- one item of a list that is missing
pub gathered-missing : {X Y : Type 0} (f : Y → Option X) (ys : List Y) (i : ℕ) (y : Y) → i < length ys → y ≡ get_or ys i y → f y ≡ None → all_there (map f ys) ≡ None
gathered-missing f ys i y below is missing = is_missing ys i y below is f missing

-- the fault of an item is that of the list
pub gathered-missed : {X Y : Type 0} (f : Y → Option X) (ys : List Y) (i : ℕ) (y : Y) (e : LineFault) → i < length ys → y ≡ get_or ys i y → IsMissing (f y) e → IsMissing (all_there (map f ys)) e
gathered-missed f ys i y (Bad n) below is missed = (gathered-missing f ys i y below is missed.0, missed.1)
gathered-missed f ys i y Mem below is missed = tt
