-- What is known where tests pass.
use Rattle.std.proofs.Common.{◌≡◌, ℕ, zero, suc, ◌+◌, ◌<◌, arith, Bool, true, false, List, [], ◌∷◌, map, length, Option, Some, None, slice_get, option_map, option_and_then, if◌then◌else◌, cond, not, Result, Ok, Err, refl, sym, ap, ◌∙◌, subst}
use Rattle.std.specs.List.{enumerate_from, find}
use Rattle.mk_base.specs.declared.json.Json.{Json}
use Rattle.mk_base.specs.Lists.{Each}
use Rattle.mk_base.proofs.Lists.{each_in, in_each, in_at, at_in, get_is, below_get, some_same}
use Rattle.mk_base.specs.Verdicts.{held, no_text, put_first, all_well, passed}
use Rattle.mk_scenario_keys.specs.Tests.{found, each_at}
use Rattle.mk_scenario_keys.specs.Keys.{required, optional}
use Rattle.mk_scenario_keys.specs.declared.fault.ScenarioFault.{ScenarioFault}
use Rattle.mk_scenario_keys.proofs.Gathering.{each_from}

pub ok_same : {A : Type 0} (x y : A) → ◌≡◌ {A = Result A ScenarioFault} (Ok x) (Ok y) → x ≡ y
ok_same x y e = cc

pub passed_ok : {A B : Type 0} (r : Result A ScenarioFault) (next : A → Result B ScenarioFault) (y : B) → passed r next ≡ Ok y → (x : A) × (r ≡ Ok x) × (next x ≡ Ok y)
passed_ok (Ok x) next y e = (x, refl, e)
passed_ok (Err fault) next y e = cc

pub held_ok : {B : Type 0} (fault : ScenarioFault) (holds : Bool) (next : Result B ScenarioFault) (y : B) → held fault holds next ≡ Ok y → (holds ≡ true) × (next ≡ Ok y)
held_ok fault true next y e = (refl, e)
held_ok fault false next y e = cc

pub no_text_ok : {B : Type 0} (fault : List ℕ → ScenarioFault) (text : Option (List ℕ)) (next : Result B ScenarioFault) (y : B) → no_text fault text next ≡ Ok y → (text ≡ None) × (next ≡ Ok y)
no_text_ok fault None next y e = (refl, e)
no_text_ok fault (Some text) next y e = cc

pub found_ok : {A : Type 0} (fault : ScenarioFault) (o : Option A) (x : A) → found fault o ≡ Ok x → o ≡ Some x
found_ok fault None x e = cc
found_ok fault (Some z) x e = cc

pub and_then_some : {A B : Type 0} (f : A → Option B) (o : Option A) (y : B) → option_and_then f o ≡ Some y → (x : A) × (o ≡ Some x) × (f x ≡ Some y)
and_then_some f None y e = cc
and_then_some f (Some x) y e = (x, refl, e)

pub map_none : {A B : Type 0} (f : A → B) (o : Option A) → option_map f o ≡ None → o ≡ None
map_none f None e = refl
map_none f (Some x) e = cc

pub chosen_some : {A : Type 0} (holds : Bool) (x y : A) → (if holds then Some x else None) ≡ Some y → (holds ≡ true) × (x ≡ y)
chosen_some true x y e = (refl, some_same e)
chosen_some false x y e = cc

pub none_found : {A : Type 0} (test : A → Bool) (xs : List A) → find (λ x. not (test x)) xs ≡ None → Each (λ x. test x ≡ true) xs
none_found test [] e = tt
none_found test (x ∷ xs) e = elim (test x) as (λ b. test x ≡ b → cond (not b) (Some x) (find (λ y. not (test y)) xs) ≡ None → Each (λ y. test y ≡ true) (x ∷ xs)) [
  | true ↦ λ is none. (is, none_found test xs none)
  | false ↦ λ is none. cc
] refl e

-- a key that must stand there
pub required_ok : {A : Type 0} (path : List ℕ) (read : List ℕ → Json → Result A ScenarioFault) (o : Option Json) (x : A) → required path read o ≡ Ok x → (value : Json) × (o ≡ Some value) × (read path value ≡ Ok x)
required_ok path read None x e = cc
required_ok path read (Some value) x e = (value, refl, e)

-- a key that may be left out: what holds of what stands for it, and of each value
pub optional_ok : {A : Type 0} (P : A → Type 0) (instead : A) (path : List ℕ) (read : List ℕ → Json → Result A ScenarioFault) (o : Option Json) (x : A) → optional instead path read o ≡ Ok x → P instead → ((value : Json) → read path value ≡ Ok x → P x) → P x
optional_ok P instead path read None x e at_least of_value = subst P (ok_same instead x e) at_least
optional_ok P instead path read (Some value) x e at_least of_value = of_value value e

before_ok : {A : Type 0} (x : A) (r : Result (List A) ScenarioFault) (zs : List A) → put_first x r ≡ Ok zs → (ys : List A) × (r ≡ Ok ys) × (x ∷ ys ≡ zs)
before_ok x (Ok ys) zs e = (ys, refl, ok_same (x ∷ ys) zs e)
before_ok x (Err fault) zs e = cc

all_well_ok : {A : Type 0} (r : Result A ScenarioFault) (rs : List (Result A ScenarioFault)) (zs : List A) → all_well (r ∷ rs) ≡ Ok zs → (x : A) × (ys : List A) × (r ≡ Ok x) × (all_well rs ≡ Ok ys) × (x ∷ ys ≡ zs)
all_well_ok (Ok x) rs zs e = let t = before_ok x (all_well rs) zs e in (x, t.0, refl, t.1, t.2)
all_well_ok (Err fault) rs zs e = cc

module _ {X A : Type 0} (test : ℕ → X → Result A ScenarioFault) where
  -- each item, from place n on, gives what stands at its place
  abbrev pub Gives : ℕ → List X → List A → Type 0
  Gives n items ys = (length ys ≡ length items) × ((i : ℕ) (y : A) → slice_get ys i ≡ Some y → (x : X) × (slice_get items i ≡ Some x) × (test (n + i) x ≡ Ok y))

  each_from_ok : (n : ℕ) (items : List X) (ys : List A) → each_from test n items ≡ Ok ys → Gives n items ys
  each_from_ok n [] [] e = (refl, λ i y at. cc)
  each_from_ok n [] (y ∷ ys) e = cc
  each_from_ok n (x ∷ items) ys e =
      let t = all_well_ok (test n x) (map (λ (p : ℕ × X). test p.0 p.1) (enumerate_from (n + 1) items)) ys e in
      let more = each_from_ok (n + 1) items t.1 t.3 in
      subst (Gives n (x ∷ items)) t.4 (ap suc more.0, at t.0 t.1 t.2 more.1)
    where
      at : (y : A) (ys : List A) → test n x ≡ Ok y → ((i : ℕ) (z : A) → slice_get ys i ≡ Some z → (w : X) × (slice_get items i ≡ Some w) × (test (n + 1 + i) w ≡ Ok z))
          → (i : ℕ) (z : A) → slice_get (y ∷ ys) i ≡ Some z → (w : X) × (slice_get (x ∷ items) i ≡ Some w) × (test (n + i) w ≡ Ok z)
      at y ys here later zero z is = let first : n + 0 ≡ n = omega arith in (x, refl, ap (λ k. test k x) first ∙ here ∙ ap Ok (some_same is))
      at y ys here later (suc i) z is = let next : n + suc i ≡ n + 1 + i = omega arith in let t = later i z is in (t.0, t.1, ap (λ k. test k t.0) next ∙ t.2)

  abbrev pub GivesEach : List X → List A → Type 0
  GivesEach items ys = (length ys ≡ length items) × ((i : ℕ) (y : A) → slice_get ys i ≡ Some y → (x : X) × (slice_get items i ≡ Some x) × (test i x ≡ Ok y))

  pub each_at_ok : (items : List X) (ys : List A) → each_at test items ≡ Ok ys → GivesEach items ys
  each_at_ok items ys e =
      let t = each_from_ok 0 items ys e in
      (t.0, λ i y at. let s = t.1 i y at in let here : 0 + i ≡ i = omega arith in (s.0, s.1, ap (λ k. test k s.0) (sym here) ∙ s.2))

  -- what holds of what each item gives
  pub each_gives : (Q : A → Type 0) (items : List X) (ys : List A) → each_at test items ≡ Ok ys → ((i : ℕ) (x : X) (y : A) → test i x ≡ Ok y → Q y) → Each Q ys
  each_gives Q items ys e f = each_in Q ys (λ y m. let t = in_at y ys m in let s = (each_at_ok items ys e).1 t.0 y t.1 in f t.0 s.0 y s.2)

  -- the same, of what each item that has R gives
  pub each_gives_where : (R : X → Type 0) (Q : A → Type 0) (items : List X) (ys : List A) → each_at test items ≡ Ok ys → Each R items → ((i : ℕ) (x : X) (y : A) → R x → test i x ≡ Ok y → Q y) → Each Q ys
  each_gives_where R Q items ys e all f = each_in Q ys (λ y m.
      let t = in_at y ys m in
      let s = (each_at_ok items ys e).1 t.0 y t.1 in
      f t.0 s.0 y (in_each R s.0 items all (at_in s.0 items t.0 s.1)) s.2)

  -- what each item gives, by the items
  pub each_item_ok : (items : List X) (ys : List A) → each_at test items ≡ Ok ys → (i : ℕ) (x : X) → slice_get items i ≡ Some x → (y : A) × (slice_get ys i ≡ Some y) × (test i x ≡ Ok y)
  each_item_ok items ys e i x at =
      let t = each_at_ok items ys e in
      let inside : i < length items = (get_is items i x at).0 in
      let count : length ys ≡ length items = t.0 in
      let y = below_get ys i (omega arith) in
      let s = t.1 i y.0 y.1 in
      (y.0, y.1, ap (test i) (some_same (sym at ∙ s.1)) ∙ s.2)
