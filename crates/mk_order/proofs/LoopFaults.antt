-- The fault of a turn's end is looked for connection by connection, each of which brings at most
-- one output.
use Rattle.std.proofs.Common.{◌≡◌, ℕ, ◌+◌, Bool, true, false, ◌&&◌, List, [], ◌∷◌, map, filter, find, Option, Some, None, ap, ◌∙◌, int_lt, ◌==◌, if◌then◌else◌}
use Rattle.mk_base.specs.Tiers.{delayed}
use Rattle.mk_plan.specs.declared.Plan.{Plan}
use Rattle.mk_plan.specs.declared.Conn.{Conn}
use Rattle.mk_plan.specs.Plans.{owner}
use Rattle.mk_plan.specs.Acts.{Act, made, output}
use Rattle.mk_plan.specs.Deliveries.{Timed, supply, outputs_of, deliveries}
use Rattle.mk_plan.specs.Sequential.{grown, no_acts}
use Rattle.mk_plan.specs.Journals.{Fault, LoopLimit, beyond}
use Rattle.mk_order.proofs.Entries.{outputs_after, output_given, output_missing}

module _ (P : Plan) (s : ℕ) (f : Act) where
  -- what is found among what a connection brings by this act alone
  abbrev found_in : Conn → Option Timed
  found_in c = find (λ d. d.at.tier == P.loops + 1) (deliveries P (supply P (grown no_acts s f)) c)

  -- what stands for the connection c, where that was found
  abbrev answered : Conn → List Conn → Option Timed → Option Fault
  answered c cs o = elim o as (λ _. Option Fault) [ None ↦ beyond P s f cs | Some d ↦ Some (LoopLimit (owner P c.to) d.at.time) ]

  of_outputs : (c : Conn) → owner P c.from ≡ s → (l : List Timed) → outputs_of P c.from c.from_attr (f ∷ []) ≡ l
      → deliveries P (supply P (grown no_acts s f)) c ≡ filter (λ d. int_lt d.at.time P.until) (map (λ o. record { at = delayed o.at c.via; value = o.value }) l)
  of_outputs c from l is = ap (λ (l : List Timed). filter (λ d. int_lt d.at.time P.until) (map (λ o. record { at = delayed o.at c.via; value = o.value }) l)) (outputs_after P s f no_acts c.from c.from_attr from ∙ is)

  -- no output: the search goes on
  pub beyond_missing : (c : Conn) (cs : List Conn) → owner P c.from ≡ s → output P f c.from c.from_attr ≡ None → beyond P s f (c ∷ cs) ≡ beyond P s f cs
  beyond_missing c cs from none = ap (λ (l : List Timed). answered c cs (find (λ d. d.at.tier == P.loops + 1) l)) (of_outputs c from [] (output_missing P s f c.from c.from_attr none))

  module _ (c : Conn) (cs : List Conn) (from : owner P c.from ≡ s) (w : List ℕ) (given : output P f c.from c.from_attr ≡ Some w) where
    brought : deliveries P (supply P (grown no_acts s f)) c ≡ (if int_lt (delayed (made f) c.via).time P.until then (let d : Timed = record { at = delayed (made f) c.via; value = w } in d) ∷ [] else [])
    brought = of_outputs c from _ (output_given P s f c.from c.from_attr w given)

    -- after the run's end: the search goes on
    pub beyond_late : int_lt (delayed (made f) c.via).time P.until ≡ false → beyond P s f (c ∷ cs) ≡ beyond P s f cs
    beyond_late late = ap (λ (l : List Timed). answered c cs (find (λ d. d.at.tier == P.loops + 1) l))
        (brought ∙ ap (λ (b : Bool). if b then (let d : Timed = record { at = delayed (made f) c.via; value = w } in d) ∷ [] else []) late)

    found_is : int_lt (delayed (made f) c.via).time P.until ≡ true → (b : Bool) → ((delayed (made f) c.via).tier == P.loops + 1) ≡ b
        → found_in c ≡ (if b then Some (let d : Timed = record { at = delayed (made f) c.via; value = w } in d) else None)
    found_is early b is = ap (find (λ d. d.at.tier == P.loops + 1)) (brought ∙ ap (λ (b : Bool). if b then (let d : Timed = record { at = delayed (made f) c.via; value = w } in d) ∷ [] else []) early)
        ∙ ap (λ (b : Bool). if b then Some (let d : Timed = record { at = delayed (made f) c.via; value = w } in d) else None) is

    -- within the loop limit: the search goes on
    pub beyond_within : int_lt (delayed (made f) c.via).time P.until ≡ true → ((delayed (made f) c.via).tier == P.loops + 1) ≡ false → beyond P s f (c ∷ cs) ≡ beyond P s f cs
    beyond_within early low = ap (answered c cs) (found_is early false low)

    -- just beyond it: this is the fault
    pub beyond_here : int_lt (delayed (made f) c.via).time P.until ≡ true → ((delayed (made f) c.via).tier == P.loops + 1) ≡ true → beyond P s f (c ∷ cs) ≡ Some (LoopLimit (owner P c.to) (delayed (made f) c.via).time)
    beyond_here early high = ap (answered c cs) (found_is early true high)

  pub looked_at : (c : Conn) (cs : List Conn) → (c.triggering && (owner P c.from == s)) ≡ true
      → beyond P s f (filter (λ c. c.triggering && (owner P c.from == s)) (c ∷ cs)) ≡ beyond P s f (c ∷ filter (λ c. c.triggering && (owner P c.from == s)) cs)
  looked_at c cs here = ap (λ (b : Bool). beyond P s f (if b then c ∷ filter (λ c. c.triggering && (owner P c.from == s)) cs else filter (λ c. c.triggering && (owner P c.from == s)) cs)) here
