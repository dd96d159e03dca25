-- The links that a start leaves, and their end.
use Rattle.std.proofs.Common.{◌≡◌, ℕ, ◌+◌, ◌<◌, ◌||◌, not, Bool, true, false, cond, List, [], ◌∷◌, ◌++◌, take, length, Option, Some, slice_get, Err, refl, sym, ap, ◌∙◌, subst, ◌⊎◌, inl, inr, arith, zero, suc, true≢false}
use Rattle.std.specs.Prelude.{option_to_list}
use Rattle.std.specs.List.{list_any}
use Rattle.mk_base.specs.declared.LinkNo.{LinkNo}
use Rattle.mk_base.specs.Lists.{IsIn, Each}
use Rattle.mk_base.proofs.Lists.{each_in, in_back, in_each, in_at, in_flat_map, filter_in, filter_append, none_some, some_passes, some_same, filter_none, append_nil}
use Rattle.mk_base.specs.Links.{same_link, without}
use Rattle.mk_scenario.specs.declared.parts.SimPart.{SimPart}
use Rattle.mk_launch.specs.declared.faults.StartFault.{StartFault}
use Rattle.mk_launch.specs.declared.faults.StartFault.TheVariants.{Failed, Mem}
use Rattle.mk_launch.specs.Starts.{AllStarted, AreNumbered, Links, link_count, link_of, links_in, place_of, places}
use Rattle.mk_launch.proofs.Placing.{higher, numbered, without_lower}
use Rattle.mk_run_links.specs.Places.{without_all}
use Rattle.mk_run_links.proofs.Beginning.{next_place}
use Rattle.mk_run_crew.specs.declared.halt.Halt.TheVariants as halt
use Rattle.mk_run_crew.specs.inner.Calls.{start_halt}
use Rattle.mk_base.proofs.Items.{only_one, each_append}
use Rattle.mk_base.proofs.Counts.{not_same, same_or_not, same_self}

-- ---- numbers of links

-- the links that have a place are numbered from n
low : (n : ℕ) (sims : List SimPart) (l : LinkNo) (i : ℕ) → slice_get (places n sims) i ≡ Some (Some l) → l.0 < n → ⊥
low n [] l i e less = none_some e
low n (s ∷ sims) l zero e less = let t = next_place n s.begin l (some_same e) in omega (arith, t.0, less)
low n (s ∷ sims) l (suc i) e less = low (n + link_count (place_of n s.begin)) sims l i e (omega (arith, less))

not_low : (n : ℕ) (sims : List SimPart) (l : LinkNo) → IsIn l (links_in (places n sims)) → l.0 < n → ⊥
not_low n sims l there less =
    let o = in_flat_map option_to_list l (places n sims) there in
    let i = in_at o.0 (places n sims) o.1 in
    low n sims l i.0 (i.1 ∙ ap Some (only_one l o.0 o.2)) less

same_number : (l m : LinkNo) → same_link l m ≡ true → l.0 ≡ m.0
same_number l m e = elim (same_or_not l.0 m.0) [ inl q ↦ q | inr apart ↦ absurd (true≢false (sym e ∙ not_same l.0 m.0 apart)) ]

-- ---- closing them leaves what was open before

keep_old : (others : List LinkNo) (old : List LinkNo) → ((l : LinkNo) → IsIn l old → list_any (same_link l) others ≡ false) → without_all others old ≡ old
keep_old others [] apart = refl
keep_old others (x ∷ old) apart = ap (λ (b : Bool). cond (not b) (x ∷ without_all others old) (without_all others old)) (apart x (inl refl)) ∙ ap (λ (xs : List LinkNo). x ∷ xs) (keep_old others old (λ l there. apart l (inr there)))

list_any_here : (others : List LinkNo) (l : LinkNo) → IsIn l others → list_any (same_link l) others ≡ true
list_any_here (x ∷ others) l (inl e) = subst (λ (y : LinkNo). (same_link l y || list_any (same_link l) others) ≡ true) e (ap (λ (b : Bool). b || list_any (same_link l) others) (link_itself l))
  where
    link_itself : (m : LinkNo) → same_link m m ≡ true
    link_itself m = elim (same_link m m) as (λ b. same_link m m ≡ b → b ≡ true) [ true ↦ λ q. refl | false ↦ λ q. absurd (same_not m q) ] refl
      where
        same_not : (m : LinkNo) → same_link m m ≡ false → ⊥
        same_not m q = true≢false (sym (same_self m.0) ∙ q)
list_any_here (x ∷ others) l (inr h) = ap (λ (b : Bool). same_link l x || b) (list_any_here others l h) ∙ or_true (same_link l x)
  where
    or_true : (b : Bool) → (b || true) ≡ true
    or_true true = refl
    or_true false = refl
list_any_here [] l h = absurd h

drop_new : (others new : List LinkNo) → ((l : LinkNo) → IsIn l new → IsIn l others) → without_all others new ≡ []
drop_new others new all = filter_none (λ (l : LinkNo). not (list_any (same_link l) others)) new (λ l there. ap not (list_any_here others l (all l there)))

old_apart : (n : ℕ) (sims : List SimPart) (l : LinkNo) → l.0 < n → list_any (same_link l) (links_in (places n sims)) ≡ false
old_apart n sims l less = go (list_any (same_link l) (links_in (places n sims))) refl
  where
    go : (b : Bool) → list_any (same_link l) (links_in (places n sims)) ≡ b → b ≡ false
    go false e = refl
    go true e =
        let t = some_passes (same_link l) (links_in (places n sims)) e in
        absurd (not_low n sims t.0 t.1 (let same = same_number l t.0 t.2 in omega (arith, same, less)))

-- the links that were started are closed, and the others stay
pub others_stay : (n : ℕ) (sims : List SimPart) (put : List (Option LinkNo)) (old open_links : List LinkNo) → put ≡ places n sims → AreNumbered n old → open_links ≡ old ++ links_in put → without_all (links_in put) open_links ≡ old
others_stay n sims put old open_links is low_ones all =
    ap (without_all (links_in put)) all ∙ filter_append (λ (l : LinkNo). not (list_any (same_link l) (links_in put))) old (links_in put)
    ∙ ap (λ (xs : List LinkNo). xs ++ without_all (links_in put) (links_in put)) (keep_old (links_in put) old (λ l there. ap (λ (ps : List (Option LinkNo)). list_any (same_link l) (links_in ps)) is ∙ old_apart n sims l (in_each (λ (link : LinkNo). link.0 < n) l old low_ones there)))
    ∙ ap (λ (xs : List LinkNo). old ++ xs) (drop_new (links_in put) (links_in put) (λ l there. there)) ∙ append_nil old

-- and they are open before
pub put_open : (put : List (Option LinkNo)) (old open_links : List LinkNo) → open_links ≡ old ++ links_in put → Each (λ (link : LinkNo). IsIn link open_links) (links_in put)
put_open put old open_links all = each_in (λ (link : LinkNo). IsIn link open_links) (links_in put) (λ l there. subst (IsIn l) (sym all) (in_back l old (links_in put) there))

-- ---- what a start leaves at a refusal

-- the places of the first simulators, whose links are open behind those of before
pub record Leaves (sims : List SimPart) (old new : Links) (put : List (Option LinkNo)) : Type 0 where
  pub first : List SimPart
  pub places : put ≡ places old.started first
  pub links : AreNumbered old.started old.links → new.links ≡ old.links ++ links_in put
  pub open_ones : Each (λ (link : LinkNo). IsIn link new.links) (links_in put)

-- the links of these places have lower numbers than the next one
placed_below : (n : ℕ) (sims : List SimPart) (put : List (Option LinkNo)) → put ≡ places n sims → Each (λ (link : LinkNo). link.0 < n + length (links_in put)) (links_in put)
placed_below n sims put is = subst (λ (ps : List (Option LinkNo)). Each (λ (link : LinkNo). link.0 < n + length (links_in ps)) (links_in ps)) (sym is) (numbered n sims)

-- where one more was closed, the others stay open
others_open : (n : ℕ) (sims : List SimPart) (put : List (Option LinkNo)) (old new_links : List LinkNo) → put ≡ places n sims → new_links ≡ without (link_of (n + length (links_in put))) (old ++ links_in put) → Each (λ (link : LinkNo). IsIn link new_links) (links_in put)
others_open n sims put old new_links is left =
    let last = link_of (n + length (links_in put)) in
    each_in (λ (link : LinkNo). IsIn link new_links) (links_in put) (λ l there.
    let below = in_each (λ (link : LinkNo). link.0 < n + length (links_in put)) l (links_in put) (placed_below n sims put is) there in
    subst (IsIn l) (sym left) (filter_in (λ (other : LinkNo). not (same_link other last)) l (old ++ links_in put) (in_back l old (links_in put) there) (ap not (not_same l.0 last.0 (λ (same : l.0 ≡ last.0). omega (arith, below, same))))))

-- and those from before too, where they are numbered
all_stay : (n : ℕ) (sims : List SimPart) (put : List (Option LinkNo)) (old : List LinkNo) → put ≡ places n sims → AreNumbered n old → without (link_of (n + length (links_in put))) (old ++ links_in put) ≡ old ++ links_in put
all_stay n sims put old is low_ones =
    without_lower (link_of (n + length (links_in put))) (old ++ links_in put)
    (each_append (λ (link : LinkNo). link.0 < n + length (links_in put)) old (links_in put) (higher n (n + length (links_in put)) (omega arith) old low_ones) (placed_below n sims put is))

pub leaves : (fault : StartFault) (sims : List SimPart) (old new : Links) (put : List (Option LinkNo)) → AllStarted (Err fault) sims old new put → Leaves sims old new put
leaves (Failed sim) sims old new put all = record { first = take sim.0 sims; places = (all.1).places; links = λ low_ones. (all.1).links; open_ones = put_open put old.links new.links (all.1).links }
leaves Mem sims old new put all = elim all.2 [
  | inl t ↦ record { first = take all.0 sims; places = t.places; links = λ low_ones. t.links; open_ones = put_open put old.links new.links t.links }
  | inr t ↦ record {
    first = take all.0 sims;
    places = t.places;
    links = λ low_ones. t.links ∙ all_stay old.started (take all.0 sims) put old.links t.places low_ones;
    open_ones = others_open old.started (take all.0 sims) put old.links new.links t.places t.links;
  }
]

-- why it failed
pub started_not : (fault : StartFault) (risen : Type 0) → (fault ≡ Mem) ⊎ risen → (start_halt fault ≡ halt.Mem) ⊎ ((start_halt fault ≡ halt.Fleet) × risen)
started_not (Failed sim) risen (inl e) = let none : ⊥ = cc in absurd none
started_not (Failed sim) risen (inr r) = inr (refl, r)
started_not Mem risen why = inl refl
