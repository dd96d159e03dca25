-- For proofs alone. How related entities are gathered, pair by pair.
use Rattle.std.specs.Prelude.{ℕ, not, ◌&&◌, ◌==◌, nat_lt, List, length, if◌then◌else◌}
use Rattle.std.specs.Ordering.{nat_cmp}
use Rattle.std.specs.BTreeSet.{insert_key}
use Rattle.mk_connect.specs.ByPlace.{by_place}

-- the numbers at place k with number j, if k is i
abbrev pub put_at : ℕ → ℕ → ℕ → List ℕ → List ℕ
put_at i j k numbers = if k == i then insert_key nat_cmp numbers j else numbers

abbrev pub put_all : ℕ → ℕ → List (List ℕ) → List (List ℕ)
put_all i j lists = by_place (put_at i j) 0 lists

-- both ends of a pair of different places are put to one another
abbrev pub joined : List (List ℕ) → ℕ × ℕ → List (List ℕ)
joined lists p = if not (p.0 == p.1) && nat_lt p.0 (length lists) && nat_lt p.1 (length lists)
    then put_all p.1 p.0 (put_all p.0 p.1 lists) else lists
