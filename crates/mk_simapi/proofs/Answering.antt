-- What is answered to a request, by the call or the item that it is.
use Rattle.std.proofs.Common.{◌≡◌, ℕ, Bool, true, false, List, Some, None, codes, if◌then◌else◌, refl, sym, ap, ◌∙◌}
use Rattle.mk_base.specs.declared.json.Json.{Json}
use Rattle.mk_plan.specs.declared.Call.{Call}
use Rattle.mk_plan.specs.declared.Message.TheVariants.{Ask}
use Rattle.mk_local.specs.Simulators.{Simulator}
use Rattle.mk_simapi.specs.declared.servant.Answer.{Answer}
use Rattle.mk_simapi.specs.declared.servant.Answer.TheVariants as answer
use Rattle.mk_simapi.specs.inner.Answers.{AnswersAs, CallsAs}
use Rattle.mk_simapi.specs.Replies.{call_answer, stops_by}
use Rattle.mk_base.specs.Lists.{same_text}
use Rattle.mk_simapi.specs.Requests.{call_in, data_in, item_in, step_in}
use Rattle.mk_base.proofs.Guessing.{text_is}

module _ (L : Simulator) (id : ℕ) (name : List ℕ) (args : List Json) (named : Json) where
  pub called : (a : Answer) (call : Call) → Some call ≡ call_in name args named → CallsAs a L id call → AnswersAs a L (Ask id name args named)
  called (answer.Reply payload) call e c = (ap stops_by (sym e) ∙ c.0, c.1, ap (call_answer L id (item_in name args named)) (sym e) ∙ c.2, c.3)
  called answer.Nothing call e c = absurd c
  called answer.Stop call e c = ap stops_by (sym e) ∙ c

-- a request of another function asks for no item
pub neither : (name : List ℕ) (args : List Json) (named : Json) → same_text name (codes "step") ≡ false → same_text name (codes "get_data") ≡ false → None ≡ item_in name args named
neither name args named a b = sym (ap (λ (x : Bool). if x then step_in args named else if same_text name (codes "get_data") then data_in args named else None) a ∙ ap (λ (x : Bool). if x then data_in args named else None) b)

pub differs : (a b : List ℕ) → (a ≡ b → ⊥) → same_text a b ≡ false
differs a b n = elim (same_text a b) as (λ x. same_text a b ≡ x → x ≡ false) [ true ↦ λ e. absurd (n (text_is a b e)) | false ↦ λ e. refl ] refl
