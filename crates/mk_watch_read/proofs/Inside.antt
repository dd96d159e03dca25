-- What a text of watches names is there.
use Rattle.std.proofs.Common.{◌≡◌, ℕ, suc, ◌+◌, ◌<◌, Bool, true, false, List, [], ◌∷◌, length, map, codes, Option, Some, None, Result, Ok, Err, refl, subst, arith, cond, zero-add}
use Rattle.std.specs.List.{enumerate_from, position_from}
use Rattle.std.proofs.lemmas.List.Elements.{All-nil, All-cons}
use Rattle.mk_base.specs.declared.json.Json.{Json}
use Rattle.mk_base.specs.Lists.{same_text}
use Rattle.mk_base.specs.Trees.{member}
use Rattle.mk_base.proofs.Lists.{none_some, some_same}
use Rattle.mk_base.specs.Verdicts.{after_found, put_first, all_well}
use Rattle.mk_plan.specs.declared.Plan.{Plan}
use Rattle.mk_plan.specs.Plans.{full_id}
use Rattle.mk_plan.specs.Asks.{entity_of}
use Rattle.mk_scenario_toml.specs.Document.{toml_of}
use Rattle.mk_scenario_keys.specs.Tests.{key_in, item_in}
use Rattle.mk_scenario_keys.specs.Keys.{required, text, tables_within, first_unknown}
use Rattle.mk_scenario_keys.specs.declared.fault.ScenarioFault.{ScenarioFault}
use Rattle.mk_watch_read.specs.declared.fault.WatchFault.{WatchFault}
use Rattle.mk_watch_read.specs.declared.watches.Watch.{Watch}
use Rattle.mk_watch_read.specs.Watches.{AreInside, keyed, known, watch_named, watch_at, watch_in, document_watches, watches_of, top_keys, watch_keys}
use Rattle.mk_watch_read.specs.Rules.{place_of}
use Rattle.mk_base.proofs.Items.{found_below}

err_ok : {A : Type 0} (e : WatchFault) (x : A) → Err e ≡ Ok x → ⊥
err_ok e x h = cc

ok_same : {A : Type 0} (x y : A) → ◌≡◌ {A = Result A WatchFault} (Ok x) (Ok y) → x ≡ y
ok_same x y h = cc

-- what comes after a test that passed
after_key : {A B : Type 0} (r : Result A ScenarioFault) (next : A → Result B WatchFault) (y : B) → keyed r next ≡ Ok y → (x : A) × (next x ≡ Ok y)
after_key (Ok x) next y h = (x, h)
after_key (Err e) next y h = absurd (err_ok _ y h)

after_known : {B : Type 0} (path : List ℕ → List ℕ) (o : Option (List ℕ)) (r : Result B WatchFault) (y : B) → known path o r ≡ Ok y → r ≡ Ok y
after_known path None r y h = h
after_known path (Some key) r y h = absurd (err_ok _ y h)

after_sought : {A B : Type 0} (e : WatchFault) (o : Option A) (next : A → Result B WatchFault) (y : B) → after_found e o next ≡ Ok y → (x : A) × (o ≡ Some x) × (next x ≡ Ok y)
after_sought e None next y h = absurd (err_ok e y h)
after_sought e (Some x) next y h = (x, refl, h)

low_place : {X : Type 0} (test : X → Bool) (a : ℕ) (xs : List X) (i : ℕ) → position_from test a xs ≡ Some i → i < a + length xs
low_place test a [] i h = absurd (none_some h)
low_place test a (x ∷ xs) i h = elim (test x) as (λ b. cond b (Some a) (position_from test (a + 1) xs) ≡ Some i → i < a + suc (length xs)) [
  | true ↦ λ e. let is : a ≡ i = some_same e in omega (arith, is)
  | false ↦ λ e. let low = low_place test (a + 1) xs i e in omega (arith, low)
] h

module _ (P : Plan) (names : List (List ℕ)) where
  Inside : Watch → Type 0
  Inside w = (w.entity < length P.entities) × (w.rule < length names)

  named_inside : (path entity attr rule : List ℕ) (w : Watch) → watch_named P names path entity attr rule ≡ Ok w → Inside w
  unfolding Inside
  named_inside path entity attr rule w h =
      let r = after_sought _ (place_of rule names) _ w h in
      let e = after_sought _ (entity_of P entity) _ w r.2 in
      let is : record { entity = e.0; attr = attr; rule = r.0 } ≡ w = ok_same _ w e.2 in
      subst (λ (v : Watch). (v.entity < length P.entities) × (v.rule < length names)) is
      (subst (λ n. e.0 < n) (zero-add (length P.entities)) (found_below (λ n. same_text (full_id P n) entity) 0 (length P.entities) e.0 e.1), subst (λ n. r.0 < n) (zero-add (length names)) (low_place (λ n. same_text n rule) 0 names r.0 r.1))

  watch_inside : (path : List ℕ) (table : Json) (w : Watch) → watch_at P names path table ≡ Ok w → Inside w
  watch_inside path table w h =
      let a = after_known (key_in path) (first_unknown watch_keys table) _ w h in
      let b = after_key (required (key_in path (codes "entity")) text (member (codes "entity") table)) _ w a in
      let c = after_key (required (key_in path (codes "attr")) text (member (codes "attr") table)) _ w b.1 in
      let d = after_key (required (key_in path (codes "rule")) text (member (codes "rule") table)) _ w c.1 in
      named_inside path b.0 c.0 d.0 w d.1

  before_ok : (x : Watch) (r : Result (List Watch) WatchFault) (ws : List Watch) → put_first x r ≡ Ok ws → (more : List Watch) × (r ≡ Ok more) × (x ∷ more ≡ ws)
  before_ok x (Ok more) ws h = (more, refl, ok_same (x ∷ more) ws h)
  before_ok x (Err e) ws h = absurd (err_ok e ws h)

  all_well_ok : (r : Result Watch WatchFault) (rs : List (Result Watch WatchFault)) (ws : List Watch) → all_well (r ∷ rs) ≡ Ok ws → (w : Watch) × (more : List Watch) × (r ≡ Ok w) × (all_well rs ≡ Ok more) × (w ∷ more ≡ ws)
  all_well_ok (Ok w) rs ws h = let t = before_ok w (all_well rs) ws h in (w, t.0, refl, t.1, t.2)
  all_well_ok (Err e) rs ws h = absurd (err_ok e ws h)

  all_inside : (ts : List Json) (k : ℕ) (ws : List Watch) → all_well (map (watch_in P names) (enumerate_from k ts)) ≡ Ok ws → AreInside P (length names) ws
  unfolding Inside
  all_inside [] k ws h = subst (AreInside P (length names)) (ok_same [] ws h) (All-nil _)
  all_inside (t ∷ ts) k ws h =
      let a = all_well_ok (watch_in P names (k, t)) (map (watch_in P names) (enumerate_from (k + 1) ts)) ws h in
      let here = watch_inside (item_in (codes "watch") k) t a.0 a.2 in
      subst (AreInside P (length names)) a.4 (All-cons Inside a.0 a.1 here (all_inside ts (k + 1) a.1 a.3))

  pub inside : (bytes : List ℕ) (ws : List Watch) → watches_of P names bytes ≡ Ok ws → AreInside P (length names) ws
  inside bytes ws h =
      let a = after_sought _ (toml_of bytes) (document_watches P names) ws h in
      let b = after_known (λ key. key) (first_unknown top_keys a.0) _ ws a.2 in
      let c = after_key (required (codes "watch") (tables_within 1 1000) (member (codes "watch") a.0)) _ ws b in
      all_inside c.0 0 ws c.1
