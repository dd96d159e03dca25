-- The four tests as they are made give the refusal of the definition.
use Rattle.std.proofs.Common.{◌≡◌, ℕ, Bool, true, false, cond, not, List, Option, Some, None, IsSome, refl, sym, ap, subst, ◌∙◌, option_map, true≢false, Result, Ok, Err}
use Rattle.std.specs.Prelude.{IfOk}
use Rattle.mk_base.specs.declared.json.Json.{Json}
use Rattle.mk_base.proofs.Lists.{none_some, some_same}
use Rattle.mk_plan.specs.declared.Plan.{Plan}
use Rattle.mk_plan.specs.Asks.{AskAnswer, Answered, Refused, Lookup, Request, answer, answer_request, content_text, sets_in, is_function, request_of, knows, permits, unknown_name, no_pair}
use Rattle.mk_async.specs.Asked.{asked_in, refusal_in}
use Rattle.mk_async.specs.inner.Asked.{IsAskedRequest}
use Rattle.mk_async.specs.inner.Judged.{tested}
use Rattle.mk_async.specs.inner.Known.{knows_asked, permits_asked}
use Rattle.mk_async.specs.declared.request.Asked.{Asked}
use Rattle.mk_async.proofs.Testing.{both}

abbrev first_of : Bool → Bool → Option ℕ
first_of k p = cond (not k) (Some unknown_name) (cond (not p) (Some no_pair) None)

tested_last : (k p : Bool) (content : AskAnswer) → refusal_in content ≡ None → first_of k p ≡ refusal_in (cond (not k) (Refused unknown_name) (cond (not p) (Refused no_pair) content))
tested_last true true content e = sym e
tested_last true false content e = refl
tested_last false p content e = refl

-- a request that was read is there
pub read_there : (name : List ℕ) (args : List Json) (named : Json) (read : Option Asked) (asked : Asked) → IsAskedRequest read (request_of name args named) → read ≡ Some asked → IsSome (asked_in asked)
read_there name args named read asked is so = let request = subst (λ (o : Option Asked). IsAskedRequest o (request_of name args named)) so is in subst (λ (o : Option Request). IsSome o) (sym request.0) request.1

-- the tests of a request that is there, by those of what is asked for
module _ (P : Plan) (s : ℕ) where
  pub asked_known : (asked : Asked) → IsSome (asked_in asked) → knows_asked P s asked ≡ true → option_map (knows P s) (asked_in asked) ≡ Some true
  asked_known asked there h = by (asked_in asked) refl there
    where
      by : (o : Option Request) → asked_in asked ≡ o → IsSome o → option_map (knows P s) o ≡ Some true
      by None is there = absurd (true≢false (sym there))
      by (Some r) is there = ap Some (sym (both P s asked r is).0 ∙ h)

  pub asked_permitted : (asked : Asked) → IsSome (asked_in asked) → permits_asked P s asked ≡ true → option_map (permits P s) (asked_in asked) ≡ Some true
  asked_permitted asked there h = by (asked_in asked) refl there
    where
      by : (o : Option Request) → asked_in asked ≡ o → IsSome o → option_map (permits P s) o ≡ Some true
      by None is there = absurd (true≢false (sym there))
      by (Some r) is there = ap Some (sym (both P s asked r is).1 ∙ h)

  pub known_asked : (asked : Asked) → option_map (knows P s) (asked_in asked) ≡ Some true → knows_asked P s asked ≡ true
  known_asked asked h = by (asked_in asked) refl h
    where
      by : (o : Option Request) → asked_in asked ≡ o → option_map (knows P s) o ≡ Some true → knows_asked P s asked ≡ true
      by None is h = absurd (none_some h)
      by (Some r) is h = (both P s asked r is).0 ∙ some_same h

  pub known_there : (asked : Asked) → option_map (knows P s) (asked_in asked) ≡ Some true → IsSome (asked_in asked)
  known_there asked h = by (asked_in asked) h
    where
      by : (o : Option Request) → option_map (knows P s) o ≡ Some true → IsSome o
      by None h = absurd (none_some h)
      by (Some r) h = refl

  -- a judgement's tests
  pub passed_known : (r : Result Asked ℕ) (asked : Asked) → IsSome (asked_in asked) → IfOk r (λ a. a ≡ asked) → IfOk r (λ a. knows_asked P s a ≡ true) → IfOk r (λ a. option_map (knows P s) (asked_in a) ≡ Some true)
  passed_known (Err n) asked there is h = tt
  passed_known (Ok a) asked there is h = asked_known a (subst (λ b. IsSome (asked_in b)) (sym is) there) h

  pub passed_permitted : (r : Result Asked ℕ) (asked : Asked) → IsSome (asked_in asked) → IfOk r (λ a. a ≡ asked) → IfOk r (λ a. permits_asked P s a ≡ true) → IfOk r (λ a. option_map (permits P s) (asked_in a) ≡ Some true)
  passed_permitted (Err n) asked there is h = tt
  passed_permitted (Ok a) asked there is h = asked_permitted a (subst (λ b. IsSome (asked_in b)) (sym is) there) h

module _ (P : Plan) (look : Lookup) (s : ℕ) where
  last_two : (asked : Asked) (o : Option Request) → asked_in asked ≡ o → IsSome o → tested P s asked ≡ refusal_in (answer_request P look s o)
  last_two asked None is there = cc
  last_two asked (Some r) is there = let b = both P s asked r is in
      (λ i. first_of (b.0 i) (b.1 i)) ∙ tested_last (knows P s r) (permits P s r) (Answered (content_text P look r) (sets_in P r)) refl

  pub judged_so : (name : List ℕ) (args : List Json) (named : Json) (b : Bool) (read : Option Asked) (asked : Asked) (n : Option ℕ) → b ≡ true → b ≡ is_function name
      → IsAskedRequest read (request_of name args named) → read ≡ Some asked → n ≡ tested P s asked → n ≡ refusal_in (answer P look s name args named)
  judged_so name args named b read asked n e f is so tests = let function : is_function name ≡ true = sym f ∙ e in
      let request = subst (λ (o : Option Asked). IsAskedRequest o (request_of name args named)) so is in
      tests ∙ last_two asked (request_of name args named) request.0 request.1 ∙ ap (λ t. refusal_in (cond (not t) (Refused 1) (answer_request P look s (request_of name args named)))) (sym function)
