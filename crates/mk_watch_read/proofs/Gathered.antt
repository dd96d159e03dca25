-- The watches of tables, one more at a time, and that they name what there is.
use Rattle.std.proofs.Common.{◌≡◌, ℕ, suc, ◌+◌, ◌<◌, ◌≤◌, List, [], ◌∷◌, ◌++◌, length, map, drop, get_or, Result, Ok, Err, inl, inr, refl, sym, ap, ◌∙◌, arith}
use Rattle.std.specs.List.{enumerate_from}
use Rattle.std.proofs.Math.Seq.{drop-cons}
use Rattle.std.proofs.lemmas.List.{drop_all}
use Rattle.mk_base.specs.declared.json.Json.{Json}
use Rattle.mk_base.specs.Verdicts.{put_first, all_well}
use Rattle.mk_plan.specs.declared.Plan.{Plan}
use Rattle.mk_watch_read.specs.declared.fault.WatchFault.{WatchFault}
use Rattle.mk_watch_read.specs.declared.watches.Watch.{Watch}
use Rattle.mk_watch_read.specs.Watches.{watch_in, watches_in, IsFaultOf}

-- the watches before those of the rest
abbrev pub prepended : List Watch → Result (List Watch) WatchFault → Result (List Watch) WatchFault
prepended [] r = r
prepended (w ∷ ws) r = put_first w (prepended ws r)

pub prepend_push : (ws : List Watch) (w : Watch) (r : Result (List Watch) WatchFault) → prepended (ws ++ w ∷ []) r ≡ prepended ws (put_first w r)
prepend_push [] w r = refl
prepend_push (x ∷ ws) w r = ap (put_first x) (prepend_push ws w r)

prepend_fault : (ws : List Watch) (e : WatchFault) → prepended ws (Err e) ≡ Err e
prepend_fault [] e = refl
prepend_fault (x ∷ ws) e = ap (put_first x) (prepend_fault ws e)

prepend_all : (ws : List Watch) → prepended ws (Ok []) ≡ Ok ws
prepend_all [] = refl
prepend_all (x ∷ ws) = ap (put_first x) (prepend_all ws)

module _ (P : Plan) (names : List (List ℕ)) where
  -- what the tables from a place on say
  abbrev pub from_on : ℕ → List Json → Result (List Watch) WatchFault
  from_on k ts = all_well (map (watch_in P names) (enumerate_from k ts))

  -- the watches so far, and those of the tables that are left, are the watches of all
  pub record IsGathered (ts : List Json) (k : ℕ) (ws : List Watch) : Type 0 where
    pub is : watches_in P names ts ≡ prepended ws (from_on k (drop k ts))

  at_place : (ts : List Json) (k : ℕ) (t : Json) → k < length ts → t ≡ get_or ts k t → drop k ts ≡ t ∷ drop (k + 1) ts
  at_place ts k t low is =
      let after : suc k ≡ k + 1 = omega arith in
      drop-cons ts k t low ∙ ap (λ z. z ∷ drop (suc k) ts) (sym is) ∙ ap (λ n. t ∷ drop n ts) after

  module _ (ts : List Json) (k : ℕ) (ws : List Watch) (t : Json) (low : k < length ts) (is : t ≡ get_or ts k t) (so : IsGathered ts k ws) where
    here : watches_in P names ts ≡ prepended ws (all_well (watch_in P names (k, t) ∷ map (watch_in P names) (enumerate_from (k + 1) (drop (k + 1) ts))))
    here = so.is ∙ ap (λ l. prepended ws (from_on k l)) (at_place ts k t low is)

    pub gathered_more : (w : Watch) → watch_in P names (k, t) ≡ Ok w → IsGathered ts (k + 1) (ws ++ w ∷ [])
    gathered_more w ok = record {
      is = here ∙ ap (λ r. prepended ws (all_well (r ∷ map (watch_in P names) (enumerate_from (k + 1) (drop (k + 1) ts))))) ok ∙ sym (prepend_push ws w (from_on (k + 1) (drop (k + 1) ts)));
    }

    pub gathered_fault : (e : WatchFault) → IsFaultOf (watch_in P names (k, t)) e → IsFaultOf (watches_in P names ts) e
    gathered_fault e (inl mem) = inl mem
    gathered_fault e (inr bad) = inr (here ∙ ap (λ r. prepended ws (all_well (r ∷ map (watch_in P names) (enumerate_from (k + 1) (drop (k + 1) ts))))) bad ∙ prepend_fault ws e)

  pub gathered_all : (ts : List Json) (k : ℕ) (ws : List Watch) → length ts ≤ k → IsGathered ts k ws → watches_in P names ts ≡ Ok ws
  gathered_all ts k ws end so = so.is ∙ ap (λ l. prepended ws (from_on k l)) (drop_all k ts end) ∙ prepend_all ws
