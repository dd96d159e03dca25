-- For proofs alone. Beside `Written`, which has what a reader needs.
use Rattle.std.specs.Prelude.{ℕ, List, ◌++◌, codes}
use Rattle.mk_base.specs.Texts.{quoted}

-- a member of an object
abbrev pub member_text : List ℕ × List ℕ → List ℕ
member_text m = quoted m.0 ++ codes ":" ++ m.1
