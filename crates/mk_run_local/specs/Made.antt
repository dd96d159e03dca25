-- What the simulators within the program are after their setup, and what each replies in a run.
use Rattle.std.specs.Prelude.{ℕ, List, fold, Option, slice_get, unwrap_or, option_map, option_and_then}
use Rattle.mk_base.specs.declared.json.Json as tree
use Rattle.mk_base.specs.Lists.{last_of}
use Rattle.mk_plan.specs.declared.Message.{Message}
use Rattle.mk_plan.specs.declared.Message.TheVariants.{Success}
use Rattle.mk_scenario.specs.declared.parts.Scenario.{Scenario}
use Rattle.mk_run_laws.specs.Handshake.{calls_to, setup_count}
use Rattle.mk_run_laws.specs.Kinds.{Replies}
use Rattle.mk_local.specs.declared.turn.Turn.{Turn}
use Rattle.mk_local.specs.Calls.{after_call}
use Rattle.mk_local.specs.Replies.{replies}
use Rattle.mk_local.specs.Simulators.{Simulator}
use Rattle.mk_run_local.specs.Seen.{first_of}

-- simulator i before any request, if it is within the program
abbrev pub first_at : List Turn → Scenario → ℕ → Option Simulator
first_at rows S i = option_and_then (first_of rows) (slice_get S.sims i)

-- simulator i after all requests of its setup, if it is within the program
abbrev pub made : List Turn → Scenario → ℕ → Option Simulator
made rows S i = option_map (λ L. fold after_call L (calls_to S i)) (first_at rows S i)

-- what stands for the reply of a simulator that has a link, or was sent nothing: no claim speaks of
-- a reply there
abbrev pub no_reply : Message
no_reply = Success 0 tree.Null

-- the last message that simulator i sends where these items come after its setup
abbrev pub kind_reply_of : List Turn → Scenario → Replies
kind_reply_of rows S i items = unwrap_or
    (option_and_then (λ L. last_of (replies L (setup_count S i) items)) (made rows S i)) no_reply
