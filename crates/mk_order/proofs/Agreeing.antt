-- Orderly journals agree with sequential execution, and are all of it when nothing is open or pending.
use Rattle.std.proofs.Common.{◌≡◌, ℕ, ◌<◌, true, List, [], ◌∷◌, ◌++◌, None, option_map, refl, sym, ap, ◌∙◌, append_assoc, ℤ}
use Rattle.mk_order_any.specs.Parts as theory
use Rattle.mk_order_any.proofs.Talks.{agrees, at_end}
use Rattle.mk_base.specs.declared.tier.Tier.{Tier}
use Rattle.mk_plan.specs.declared.Plan.{Plan}
use Rattle.mk_plan.specs.declared.Item.{Item}
use Rattle.mk_plan.specs.declared.Message.{Message}
use Rattle.mk_plan.specs.declared.Entry.{Entry}
use Rattle.mk_plan.specs.Plans.{sim_count, IsValidPlan}
use Rattle.mk_plan.specs.Acts.{Said, Act}
use Rattle.mk_plan.specs.Sequential.{Messages, sequential, items, told, all_ended}
use Rattle.mk_plan.specs.Journals.{View, view, got, said}
use Rattle.mk_plan.specs.Ready.{pending, IsReady}
use Rattle.mk_plan.specs.Orderly.{IsOrderlySoFar}
use Rattle.mk_plan.specs.Agreement.{Continues, Agrees, IsFinished}
use Rattle.mk_base.proofs.Lists.{append_nil, filter_map_append}
use Rattle.mk_order.proofs.Theory.{parts, laws}
use Rattle.mk_order.proofs.Seen.{seen, turn_of, reached}
use Rattle.mk_order.proofs.Told.{heard_seen, said_seen, said_is, got_begins, got_is}

module _ (Ready : Plan → View → ℕ → Tier → Type 0) (Advance : Plan → View → ℕ → Tier → ℤ → Type 0) (P : Plan) (truly : (V : View) (s : ℕ) (x : Tier) → Ready P V s x → IsReady P V s x) (valid : IsValidPlan P) (J : List Entry) (orderly : IsOrderlySoFar Ready Advance P J) where
  pub goes_on : (R : Messages) → Continues P J R → (i : ℕ) → i < sim_count P → theory.Prefix (theory.heard_of (parts P) (seen P (view P J)) i) (R i)
  goes_on R on i h =
      let a = got_begins Ready Advance P truly J orderly i in
      let b = on i h in
      (a.0 ++ b.0, b.1 ∙ ap (λ (l : List Message). l ++ b.0) (a.1 ∙ ap (λ (l : List Message). l ++ a.0) (sym (heard_seen P (view P J) i))) ∙ append_assoc (theory.heard_of (parts P) (seen P (view P J)) i) a.0 b.0)

  pub agreeing : Agrees P J
  unfolding theory.seq
  agreeing R on i h =
      let t = agrees (parts P) (laws P valid) (seen P (view P J)) (reached Ready Advance P truly J orderly) R (goes_on R on) i in
      (items t.0, ap items (t.1 ∙ ap (λ (l : List Said). l ++ t.0) (said_seen P (view P J) i)) ∙ filter_map_append told (said (view P J) i) t.0 ∙ ap (λ (l : List Item). l ++ items t.0) (said_is Ready Advance P truly J orderly i))

  -- with no fault, nothing open and nothing pending
  module _ (fine : (view P J).fault ≡ None) (shut : (i : ℕ) → i < sim_count P → (view P J).open_at i ≡ None) (quiet : (i : ℕ) → i < sim_count P → pending P (view P J).acts i ≡ None) where
    each_ended : (acts : List Act) → theory.Every (λ (a : Act). a.ended ≡ true) acts → all_ended acts ≡ true
    each_ended [] all = refl
    each_ended (a ∷ acts) all = rw (all.0, each_ended acts all.1) refl

    pub finished : IsFinished P J
    unfolding theory.seq
    finished i h =
        let t = at_end (parts P) (laws P valid) (seen P (view P J)) (reached Ready Advance P truly J orderly) (λ j k. ap (option_map (turn_of P (view P J).owed j)) (shut j k)) quiet (got J) (goes_on (got J) (λ j k. ([], sym (append_nil (got J j))))) i in
        record {
          sent = sym (said_is Ready Advance P truly J orderly i) ∙ ap items (sym (said_seen P (view P J) i) ∙ t.talk_is);
          used = t.all_used ∙ heard_seen P (view P J) i ∙ sym (got_is Ready Advance P truly J orderly fine i);
          ended = each_ended (sequential P (got J) i) t.all_whole;
        }
