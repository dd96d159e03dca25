-- For proofs alone. The value of inputs, one more at a time.
use Rattle.std.specs.Prelude.{ℕ, ℤ, List, Option, Some, None}
use Rattle.mk_plan.specs.declared.Input.{Input}
use Rattle.mk_watch_read.specs.declared.rule.Fold.{Fold}
use Rattle.mk_watch.specs.Values.{number_at, with_number}

-- the value so far, and one more number, if there is one
abbrev pub add_number : Fold → Option ℤ → Option ℤ → Option ℤ
add_number f so_far None = so_far
add_number f so_far (Some n) = with_number f so_far n

-- the value so far, and that of one more input
abbrev pub after_input : Fold → List ℕ → List ℕ → Option ℤ → Input → Option ℤ
after_input f eid attr so_far i = add_number f so_far (number_at eid attr i)
