-- The text of a verdict.
use Rattle.std.specs.Prelude.{ℕ, Bool, true, ◌&&◌, List, ◌++◌, length, flat_map, codes}
use Rattle.std.specs.List.{list_all}
use Rattle.std.specs.Fmt.{decimal, signed_decimal}
use Rattle.mk_plan.specs.declared.Plan.{Plan}
use Rattle.mk_plan.specs.Plans.{sim_id}
use Rattle.mk_message.specs.Written.{message_text}
use Rattle.mk_blame.specs.declared.verdict.Blamed.{Blamed}
use Rattle.mk_blame.specs.declared.verdict.Verdict.{Verdict}
use Rattle.mk_blame.specs.declared.verdict.Verdict.TheVariants as verdicts
use Rattle.mk_plan.specs.Messages.{is_message_in_range}

-- three lines for a simulator to blame: its id, which message of it and behind which step, and both
-- messages
abbrev pub lines_of : Plan → Blamed → List ℕ
lines_of P b = sim_id P b.sim.0 ++ codes " message " ++ decimal b.place ++ codes " step "
    ++ signed_decimal b.at.time ++ codes ":" ++ decimal b.at.tier
    ++ codes "\nfirst " ++ message_text b.first ++ codes "\nsecond " ++ message_text b.second
    ++ codes "\n"

-- the text of a verdict
abbrev pub verdict_text : Plan → Verdict → List ℕ
verdict_text P verdicts.Equal = codes "equal\n"
verdict_text P (verdicts.Blamed bs) = flat_map (lines_of P) bs ++ codes "blamed "
    ++ decimal (length bs) ++ codes "\n"

-- the numbers of both messages are those that may be written
abbrev pub may_be_written : Blamed → Bool
may_be_written b = is_message_in_range b.first && is_message_in_range b.second

-- and so for all that are to blame
abbrev pub is_writable : Verdict → Bool
is_writable verdicts.Equal = true
is_writable (verdicts.Blamed bs) = list_all may_be_written bs
