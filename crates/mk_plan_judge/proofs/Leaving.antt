-- Whether some connection leaves a simulator, by what each GetData asks of it.
use Rattle.std.proofs.Common.{◌≡◌, ◌==◌, ◌||◌, ◌≤◌, ℕ, Bool, true, false, not, cond, List, [], ◌∷◌, length, filter, fold, nat_eq, suc, refl, sym, ap, arith}
use Rattle.std.specs.List.{list_any}
use Rattle.std.specs.declared.cmp.Ordering.{Ordering}
use Rattle.std.specs.declared.cmp.Ordering.TheVariants.{Less, Equal, Greater}
use Rattle.mk_base.specs.Lists.{put, placed}
use Rattle.mk_plan.specs.declared.Plan.{Plan}
use Rattle.mk_plan.specs.Plans.{owner, eid_of, has_outputs}
use Rattle.mk_plan.specs.Turns.{want_order, wanted}

module _ {X Y : Type 0} (order : X → X → Ordering) (f : Y → X) (p : Y → Bool) where
  put_one : (x : X) (xs : List X) → 1 ≤ length (put order x xs)
  put_one x [] = omega arith
  put_one x (y ∷ ys) = elim (order x y) as (λ o. 1 ≤ length (placed o x y ys (put order x ys))) [ Less ↦ omega arith | Equal ↦ omega arith | Greater ↦ omega arith ]

  all_put : (ys : List Y) (xs : List X) → 1 ≤ length xs → 1 ≤ length (fold (λ ws y. put order (f y) ws) xs ys)
  all_put [] xs some = some
  all_put (y ∷ ys) xs some = all_put ys (put order (f y) xs) (put_one (f y) xs)

  not_none : (n : ℕ) → nat_eq (suc n) 0 ≡ false
  not_none n = grind arith

  some_there : (xs : List X) → 1 ≤ length xs → true ≡ not (length xs == 0)
  some_there [] some = absurd (omega arith)
  some_there (x ∷ xs) some = ap not (sym (not_none (length xs)))

  pub any_is_put : (ys : List Y) → list_any p ys ≡ not (length (fold (λ ws y. put order (f y) ws) [] (filter p ys)) == 0)
  any_is_put [] = refl
  any_is_put (y ∷ ys) = elim (p y) as (λ b. (b || list_any p ys) ≡ not (length (fold (λ ws z. put order (f z) ws) [] (cond b (y ∷ filter p ys) (filter p ys))) == 0)) [
    | true ↦ some_there (fold (λ ws z. put order (f z) ws) [] (y ∷ filter p ys)) (all_put (filter p ys) (f y ∷ []) (omega arith))
    | false ↦ any_is_put ys
  ]

-- some connection leaves it where something is asked for
pub leaves_some : (P : Plan) (i : ℕ) → has_outputs P i ≡ not (length (wanted P i) == 0)
leaves_some P i = any_is_put want_order (λ c. record { eid = eid_of P c.from; attr = c.from_attr }) (λ c. owner P c.from == i) P.conns
