-- Answers to the goals of `sayings::saying` that the prover leaves.
use Rattle.std.proofs.Common.{Err, sym, ap, ◌∙◌, inl}
use Rattle.mosaikrun_run.specs.Sayings.{saying_of}
use Rattle.mosaikrun_run.proofs.Halting.{halt_of_rest, said_of_halt}
use Rattle.mosaikrun_run.proofs.sayings.saying.Goals as goal

pub halt_ending-requires : goal.halt_ending-requires
halt_ending-requires c = halt_of_rest c.args.outcome c.in_default.not-Done c.in_default.not-Core

pub returns-in_ok-halt_ending-in_default : goal.returns-in_ok-halt_ending-in_default
returns-in_ok-halt_ending-in_default c =
    let h = halt_of_rest c.args.outcome c.in_default.not-Done c.in_default.not-Core in
    let said = saying_of c.args.form c.args.ids.now c.args.plan.now c.args.journal.now.entries in record {
      text = tt;
      none = inl (ap Err (c.in_ok-halt_ending-in_default.ensures h.0 h.1) ∙ sym (said_of_halt c.args.form c.args.ids.now c.args.plan.now c.args.journal.now.entries h.0) ∙ sym (ap said h.1));
    }
