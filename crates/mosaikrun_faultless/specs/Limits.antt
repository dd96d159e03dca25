-- Sequential execution that meets no limit of its plan.
use Rattle.std.specs.Prelude.{◌≡◌, ℕ, ◌≤◌, List, length, flat_map, None}
use Rattle.std.specs.List.{range_with_len}
use Rattle.mk_base.specs.Lists.{IsIn}
use Rattle.mk_plan.specs.declared.Plan.{Plan}
use Rattle.mk_plan.specs.Acts.{Act, Said}
use Rattle.mk_plan.specs.Journals.{loop_fault}
use Rattle.mk_plan.specs.Plans.{sim_count}
use Rattle.mk_plan.specs.Sequential.{Messages, run_talk, sequential}

-- all that is said in sequential execution, with one simulator after another
abbrev pub whole_talk : Plan → Messages → List Said
whole_talk P R = flat_map (run_talk P R) (range_with_len 0 (sim_count P))

-- no limit is met in sequential execution: no turn triggers a simulator beyond the limit of loops
-- within a time, and no more is said than a journal may have entries
pub record MeetsNoLimit (P : Plan) (R : Messages) : Type 0 where
  pub loops : (i : ℕ) (a : Act) → IsIn a (sequential P R i) → loop_fault P i a ≡ None
  pub entries : length (whole_talk P R) ≤ P.entries
