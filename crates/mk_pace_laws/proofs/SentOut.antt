-- Of a journal's items those are sent that stand before the first Step that waits.
use Rattle.std.proofs.Common.{◌≡◌, ◌⊎◌, inl, inr, ℕ, ℤ, List, [], ◌∷◌, ◌++◌, length, filter, ap, ◌∙◌}
use Rattle.mk_base.specs.declared.tier.Tier.{Tier}
use Rattle.mk_plan.specs.declared.Entry.{Entry}
use Rattle.mk_plan.specs.declared.Input.{Input}
use Rattle.mk_plan.specs.declared.Item.{Item}
use Rattle.mk_plan.specs.declared.Item.TheVariants.{Step, GetData, Answer, Refuse}
use Rattle.mk_plan.specs.Journals.{sent}
use Rattle.mk_plan.specs.Report.{is_step}
use Rattle.mk_pace_laws.specs.declared.end.Moment.{Moment}
use Rattle.mk_pace_laws.specs.Moments.{before_step, moments_of, sent_out}

-- nothing waits, or a Step and what stands behind it
abbrev pub WaitsByStep : List Item → Type 0
WaitsByStep items = (items ≡ []) ⊎ ((x : Tier) × (inputs : List Input) × (advance : ℤ) × (more : List Item) × (items ≡ Step x inputs advance ∷ more))

pub before_step_is : (queued waiting : List Item) → WaitsByStep waiting → before_step (length (filter is_step queued)) (queued ++ waiting) ≡ queued
before_step_is [] waiting (inl none) = ap (before_step 0) none
before_step_is [] waiting (inr (x, inputs, advance, more, is)) = ap (before_step 0) is
before_step_is (Step x inputs advance ∷ queued) waiting w = ap (λ (l : List Item). Step x inputs advance ∷ l) (before_step_is queued waiting w)
before_step_is (GetData wanted ∷ queued) waiting w = ap (λ (l : List Item). GetData wanted ∷ l) (before_step_is queued waiting w)
before_step_is (Answer id content ∷ queued) waiting w = ap (λ (l : List Item). Answer id content ∷ l) (before_step_is queued waiting w)
before_step_is (Refuse id reason ∷ queued) waiting w = ap (λ (l : List Item). Refuse id reason ∷ l) (before_step_is queued waiting w)

-- where as many moments of a simulator are there as Steps of it were queued
pub sent_out_is : (J : List Entry) (moments : List Moment) (i : ℕ) (queued waiting : List Item) → sent J i ≡ queued ++ waiting → WaitsByStep waiting → length (moments_of i moments) ≡ length (filter is_step queued) → sent_out J moments i ≡ queued
sent_out_is J moments i queued waiting is w count = ap (λ (n : ℕ). before_step n (sent J i)) count ∙ ap (before_step (length (filter is_step queued))) is ∙ before_step_is queued waiting w
