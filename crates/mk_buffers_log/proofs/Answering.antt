-- Lists of outputs that answer alike, one after the other and with one more output each.
use Rattle.std.proofs.Common.{◌≡◌, ℤ, Bool, List, [], ◌∷◌, ◌++◌, map, filter, fold, Option, Some, None, sym, ap, ◌∙◌}
use Rattle.std.proofs.lemmas.List.Sums.{fold-append}
use Rattle.mk_base.specs.declared.tier.Tier.{Tier}
use Rattle.mk_base.specs.declared.tier.Via.{Via}
use Rattle.mk_base.specs.Tiers.{up_to, IsUpTo}
use Rattle.mk_base.proofs.TierOrder.{up_to_trans}
use Rattle.mk_base.proofs.Lists.{filter_append, map_append}
use Rattle.mk_plan.specs.Deliveries.{Timed}
use Rattle.mk_plan.specs.Inputs.{later, latest}
use Rattle.mk_buffers_log.specs.Logs.{arrival, arrivals, by, is_in_time, within, AnswersFrom}
use Rattle.mk_buffers_log.specs.inner.Logs.{SameAnswers}

latest_append : (xs ys : List Timed) → latest (xs ++ ys) ≡ fold later (latest xs) ys
latest_append xs ys = fold-append later None xs ys

arrivals_append : (v : Via) (until : Option ℤ) (ks hs : List Timed) → arrivals v until (ks ++ hs) ≡ arrivals v until ks ++ arrivals v until hs
arrivals_append v until ks hs = ap (filter (λ d. is_in_time until d.at)) (map_append (arrival v) ks hs) ∙ filter_append (λ (d : Timed). is_in_time until d.at) (map (arrival v) ks) (map (arrival v) hs)

module _ (vias : List Via) (until : ℤ) (mark : Tier) where
  pub answers_trans : (ks ls ms : List Timed) → AnswersFrom vias until mark ks ls → AnswersFrom vias until mark ls ms → AnswersFrom vias until mark ks ms
  answers_trans ks ls ms f g = record { made = λ x h. f.made x h ∙ g.made x h; arrived = λ v m all p x h. f.arrived v m all p x h ∙ g.arrived v m all p x h }

  pub answers_same : (ks hs : List Timed) → SameAnswers ks hs → AnswersFrom vias until mark ks hs
  answers_same ks hs f = record { made = λ x h. f.made (λ t. up_to t.at x); arrived = λ v m all p x h. f.arrived v (Some until) (within all p x) }

  pub answers_push : (ks hs : List Timed) (t : Timed) → AnswersFrom vias until mark ks hs → AnswersFrom vias until mark (ks ++ t ∷ []) (hs ++ t ∷ [])
  answers_push ks hs t f = record {
    made = λ x h. whole (λ (u : Timed). up_to u.at x) ks ∙ ap (λ (o : Option Timed). fold later o (by x (t ∷ []))) (f.made x h) ∙ sym (whole (λ (u : Timed). up_to u.at x) hs);
    arrived = λ v m all p x h. delivered v (within all p x) ks ∙ ap (λ (o : Option Timed). fold later o (filter (within all p x) (arrivals v (Some until) (t ∷ [])))) (f.arrived v m all p x h) ∙ sym (delivered v (within all p x) hs);
  }
    where
      whole : (test : Timed → Bool) (l : List Timed) → latest (filter test (l ++ t ∷ [])) ≡ fold later (latest (filter test l)) (filter test (t ∷ []))
      whole test l = ap latest (filter_append test l (t ∷ [])) ∙ latest_append (filter test l) (filter test (t ∷ []))

      delivered : (v : Via) (test : Timed → Bool) (l : List Timed) → latest (filter test (arrivals v (Some until) (l ++ t ∷ []))) ≡ fold later (latest (filter test (arrivals v (Some until) l))) (filter test (arrivals v (Some until) (t ∷ [])))
      delivered v test l = ap (λ (m : List Timed). latest (filter test m)) (arrivals_append v (Some until) l (t ∷ []))
          ∙ ap latest (filter_append test (arrivals v (Some until) l) (arrivals v (Some until) (t ∷ []))) ∙ latest_append (filter test (arrivals v (Some until) l)) (filter test (arrivals v (Some until) (t ∷ [])))

  pub taken : (old middle new : List Timed) (t : Timed) → SameAnswers middle (old ++ t ∷ []) → AnswersFrom vias until mark new middle → (hs : List Timed) → AnswersFrom vias until mark old hs → AnswersFrom vias until mark new (hs ++ t ∷ [])
  taken old middle new t takes thins hs f = answers_trans new middle (hs ++ t ∷ []) thins (answers_trans middle (old ++ t ∷ []) (hs ++ t ∷ []) (answers_same middle (old ++ t ∷ []) takes) (answers_push old hs t f))

pub answers_later : (vias : List Via) (until : ℤ) (mark up : Tier) (ks hs : List Timed) → IsUpTo mark up → AnswersFrom vias until mark ks hs → AnswersFrom vias until up ks hs
answers_later vias until mark up ks hs h f = record { made = λ x k. f.made x (up_to_trans mark up x h k); arrived = λ v m all p x k. f.arrived v m all p x (up_to_trans mark up x h k) }
