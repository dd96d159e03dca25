-- A function of a tree at each kind of tree, and the induction over trees.
use Rattle.std.proofs.Common.{◌≡◌, ℕ, ℤ, Bool, List, map, sym, ap, ◌∙◌, subst}
use Rattle.mk_base.specs.declared.json.Json as tree
use Rattle.mk_base.specs.declared.json.Json.{Json, Json-F, out-Json, roll-Json, map-Json, ind-Json}
use Rattle.mk_base.specs.declared.json.Json.TheVariants as v
use Rattle.mk_base.specs.Folds.{folded}
use Rattle.mk_base.proofs.FoldsAgree.{folded_out}

module _ (A : Type 0) (step : Json-F A → A) where
  at_layer : (t : Json) (l : Json-F Json) → out-Json t ≡ l → folded A step t ≡ step (map-Json Json A (folded A step) l)
  at_layer t l is = folded_out A step t ∙ ap (λ x. step (map-Json Json A (folded A step) x)) is

  pub folded-Null : folded A step tree.Null ≡ step Json-F.Null
  folded-Null = at_layer tree.Null Json-F.Null v.outs-Null

  pub folded-Bool : (b : Bool) → folded A step (tree.Bool b) ≡ step (Json-F.Bool b)
  folded-Bool b = at_layer (tree.Bool b) (Json-F.Bool b) (v.outs-Bool b)

  pub folded-Whole : (n : ℤ) → folded A step (tree.Whole n) ≡ step (Json-F.Whole n)
  folded-Whole n = at_layer (tree.Whole n) (Json-F.Whole n) (v.outs-Whole n)

  pub folded-Odd : folded A step tree.Odd ≡ step Json-F.Odd
  folded-Odd = at_layer tree.Odd Json-F.Odd v.outs-Odd

  pub folded-Text : (s : List ℕ) → folded A step (tree.Text s) ≡ step (Json-F.Text s)
  folded-Text s = at_layer (tree.Text s) (Json-F.Text s) (v.outs-Text s)

  pub folded-List : (ts : List Json) → folded A step (tree.List ts) ≡ step (Json-F.List (map (folded A step) ts))
  folded-List ts = at_layer (tree.List ts) (Json-F.List ts) (v.outs-List ts)

  pub folded-Object : (ms : List (List ℕ × Json)) → folded A step (tree.Object ms) ≡ step (Json-F.Object (map (λ m. (m.0, folded A step m.1)) ms))
  folded-Object ms = at_layer (tree.Object ms) (Json-F.Object ms) (v.outs-Object ms)

-- a tree for which P holds
abbrev pub Held : (Json → Type 0) → Type 0
Held P = (t : Json) × P t

abbrev pub trees : {P : Json → Type 0} → List (Held P) → List Json
trees hs = map (λ h. h.0) hs

abbrev pub members : {P : Json → Type 0} → List (List ℕ × Held P) → List (List ℕ × Json)
members hs = map (λ m. (m.0, m.1.0)) hs

-- what holds of each kind of tree, where it holds of those within it
pub record Steps (P : Json → Type 0) : Type 0 where
  pub null : P tree.Null
  pub bool : (b : Bool) → P (tree.Bool b)
  pub whole : (n : ℤ) → P (tree.Whole n)
  pub odd : P tree.Odd
  pub text : (s : List ℕ) → P (tree.Text s)
  pub list : (hs : List (Held P)) → P (tree.List (trees hs))
  pub object : (hs : List (List ℕ × Held P)) → P (tree.Object (members hs))

module _ (P : Json → Type 0) (s : Steps P) where
  layer : (y : Json-F (Held P)) → P (roll-Json (map-Json (Held P) Json (λ e. e.0) y))
  layer Json-F.Null = subst P (sym v.rolls-Null) s.null
  layer (Json-F.Bool b) = subst P (sym (v.rolls-Bool b)) (s.bool b)
  layer (Json-F.Whole n) = subst P (sym (v.rolls-Whole n)) (s.whole n)
  layer Json-F.Odd = subst P (sym v.rolls-Odd) s.odd
  layer (Json-F.Text t) = subst P (sym (v.rolls-Text t)) (s.text t)
  layer (Json-F.List hs) = subst P (sym (v.rolls-List _)) (s.list hs)
  layer (Json-F.Object hs) = subst P (sym (v.rolls-Object _)) (s.object hs)

  pub by_layers : (t : Json) → P t
  by_layers = ind-Json P (λ x y is. subst (λ l. P (roll-Json l)) is (layer y))
