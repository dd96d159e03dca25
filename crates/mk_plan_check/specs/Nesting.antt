-- How deep a JSON text nests, by its bytes.
use Rattle.std.specs.Prelude.{ℕ, ◌+◌, ◌-◌, Bool, ◌||◌, List, fold, max, ◌==◌, if◌then◌else◌}
use Rattle.mk_plan_check.specs.declared.nesting.Place.{Place}
use Rattle.mk_plan_check.specs.declared.nesting.Place.TheVariants.{Outside, Quoted, Escaped}
use Rattle.mk_plan_check.specs.declared.nesting.Scan.{Scan}

-- a quote begins a text and ends it, but not behind a backslash
abbrev pub place_after : Place → ℕ → Place
place_after Outside b = if b == 34 then Quoted else Outside
place_after Quoted b = if b == 34 then Outside else if b == 92 then Escaped else Quoted
place_after Escaped b = Quoted

-- `[` and `{`
abbrev pub is_opening : ℕ → Bool
is_opening b = (b == 91) || (b == 123)

-- `]` and `}`
abbrev pub is_closing : ℕ → Bool
is_closing b = (b == 93) || (b == 125)

-- the brackets that are open, each counting where it doesn't stand in a text
abbrev pub depth_after : Place → ℕ → ℕ → ℕ
depth_after Outside b depth = if is_opening b then depth + 1 else if is_closing b then depth - 1
    else depth
depth_after Quoted b depth = depth
depth_after Escaped b depth = depth

abbrev pub scanned : Scan → ℕ → Scan
scanned s b = record {
  place = place_after s.place b;
  depth = depth_after s.place b s.depth;
  most = max s.most (depth_after s.place b s.depth);
}

-- the most brackets that are open at once
abbrev pub nesting_of : List ℕ → ℕ
nesting_of text = (fold scanned (record { place = Outside; depth = 0; most = 0 }) text).most
