-- Answers to the goals of `rising` that the prover leaves.
use Rattle.std.proofs.Common.{sym, subst}
use Rattle.mk_plan.specs.Journals.{View, view}
use Rattle.mk_plan.specs.Ready.{IsReady}
use Rattle.mk_plan.specs.Advance.{IsAdvance}
use Rattle.mk_order.specs.Rising.{BoundsRise, DuesAreLater}
use Rattle.mk_order.proofs.Seen.{reached_sound}
use Rattle.mk_order.proofs.Going.{bounds_rise}
use Rattle.mk_order.proofs.Past.{nothing_missed, dues_later}
use Rattle.mk_order.proofs.Pushing.{view_push}
use Rattle.mk_order.proofs.rising.Goals as goal

pub returns-clause-missed : goal.returns-clause-missed
returns-clause-missed c J orderly = nothing_missed IsReady IsAdvance c.args.plan.now (λ V s x r. r) c.requires J orderly

pub returns-clause-bounds : goal.returns-clause-bounds
returns-clause-bounds c J e orderly allowed = subst (λ (W : View). BoundsRise c.args.plan.now (view c.args.plan.now J) W) (sym (view_push c.args.plan.now J e))
    (bounds_rise c.args.plan.now c.requires IsReady IsAdvance (λ V s x r. r) (view c.args.plan.now J) e (reached_sound IsReady IsAdvance c.args.plan.now (λ V s x r. r) J orderly) allowed)

pub returns-clause-dues : goal.returns-clause-dues
returns-clause-dues c J e orderly allowed = subst (λ (W : View). DuesAreLater c.args.plan.now (view c.args.plan.now J) W) (sym (view_push c.args.plan.now J e))
    (dues_later IsReady IsAdvance c.args.plan.now (λ V s x r. r) c.requires J orderly e allowed)
