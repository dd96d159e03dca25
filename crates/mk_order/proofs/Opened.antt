-- Turns that are still open, taken as turns that were cut, change nothing of what a ready simulator
-- is sent.
use Rattle.std.proofs.Common.{◌≡◌, ℕ, List, [], ◌++◌, Option, Some, None, refl, ap, ◌∙◌}
use Rattle.mk_base.specs.declared.tier.Tier.{Tier}
use Rattle.mk_base.specs.Lists.{Each}
use Rattle.mk_plan.specs.declared.Plan.{Plan}
use Rattle.mk_plan.specs.Plans.{owner}
use Rattle.mk_plan.specs.Walks.{from_start}
use Rattle.mk_plan.specs.Acts.{Act}
use Rattle.mk_plan.specs.Deliveries.{Timed, supply, outputs_of}
use Rattle.mk_plan.specs.Inputs.{inputs}
use Rattle.mk_plan.specs.Journals.{OpenTurn, View}
use Rattle.mk_plan.specs.Ready.{pending, step_at, IsReady}
use Rattle.mk_base.proofs.Lists.{append_nil, filter_map_append}
use Rattle.mk_order.proofs.LateActs.{IsLate, AllLate, same_inputs}
use Rattle.mk_order.specs.Supplies.{followed, cut_turns, opened}

module _ (P : Plan) (V : View) where
  opened_late : (s : ℕ) (x : Tier) → IsReady P V s x → AllLate P s x (opened V)
  opened_late s x ready i = go (V.open_at i) refl
    where
      go : (o : Option OpenTurn) → V.open_at i ≡ o → Each (λ (u : Act). IsLate P s x i u.at) (cut_turns o)
      go None e = tt
      go (Some T) e = (λ v l. ready.clear i v T.at l (from_start i T.at (λ z. z) (ap (λ (o : Option OpenTurn). step_at o (pending P V.acts i)) e)), tt)

  -- the inputs of a ready simulator over all that was given so far, set values of open turns too
  pub inputs_opened : (s : ℕ) (x : Tier) (p : Option Tier) → IsReady P V s x → inputs P (supply P (followed V.acts (opened V))) s p x ≡ inputs P (supply P V.acts) s p x
  inputs_opened s x p ready = same_inputs P s x (opened V) (opened_late s x ready) V.acts p

  -- open turns have no outputs
  pub outputs_opened : (e : ℕ) (attr : List ℕ) → (supply P (followed V.acts (opened V))).outputs e attr ≡ (supply P V.acts).outputs e attr
  outputs_opened e attr = filter_map_append _ (V.acts (owner P e)) (opened V (owner P e)) ∙ ap (λ (l : List Timed). outputs_of P e attr (V.acts (owner P e)) ++ l) (none (V.open_at (owner P e))) ∙ append_nil _
    where
      none : (o : Option OpenTurn) → outputs_of P e attr (cut_turns o) ≡ []
      none None = refl
      none (Some T) = refl
