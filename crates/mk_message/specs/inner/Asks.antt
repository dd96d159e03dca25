-- For proofs alone. A request's parts, one test after another.
use Rattle.std.specs.Prelude.{ℕ, List, Option, Some, None, option_and_then, if◌then◌else◌}
use Rattle.mk_base.specs.declared.json.Json.{Json}
use Rattle.mk_base.specs.Trees.{text_in, items_in, is_object}
use Rattle.mk_plan.specs.declared.Message.{Message}
use Rattle.mk_plan.specs.declared.Message.TheVariants.{Ask}

-- the request, where the arguments are a list and an object
abbrev pub ask_named : ℕ → List ℕ → Json → Json → Option Message
ask_named id name args named = option_and_then
    (λ items. if is_object named then Some (Ask id name items named) else None) (items_in args)

-- the same where the name is a text
abbrev pub ask_in : ℕ → Json → Json → Json → Option Message
ask_in id name args named = option_and_then (λ text. ask_named id text args named) (text_in name)
