-- The items of one simulator, changed among those of all, with what stands at its leaf.
use Rattle.std.proofs.Common.{◌≡◌, inl, inr, ℕ, zero, suc, ◌<◌, true, List, [], ◌∷◌, ◌++◌, length, replicate, Option, Some, None, IfSome, MatchOption, slice_get, slice_set, get_or, refl, sym, ap, ◌∙◌, subst, is_some, true≢false}
use Rattle.std.proofs.lemmas.List.{get_or-set_same, length-replicate}
use Rattle.std.proofs.lemmas.Option.{slice_get_read, slice_get_within}
use Rattle.mk_base.specs.declared.SimNo.{SimNo}
use Rattle.mk_base.proofs.Counts.{same_or_not}
use Rattle.mk_base.proofs.Items.{get_replicate}
use Rattle.mk_base.proofs.Lists.{below_get, length_set, none_some, set_else, set_here, some_same}
use Rattle.mk_pace_held.specs.declared.held.First.{First}
use Rattle.mk_pace_held.specs.declared.held.Held.{Held}
use Rattle.mk_pace_held.specs.Firsts.{IsChanged, IsFirst, IsNoLater, first_at}
use Rattle.mk_pace_held.specs.inner.Minima.{AreFirsts, IsLeast}
use Rattle.mk_pace_held.proofs.Choosing.{sim_is}

-- a list at a place of all
there_at : (lists : List (List Held)) (i : ℕ) (q : List Held) → i < length lists → q ≡ get_or lists i q → slice_get lists i ≡ Some q
there_at lists i q less is = slice_get_read lists (length lists) i q refl less is

below : (lists now : List (List Held)) (s : ℕ) → lists ≡ now → s < length now → s < length lists
below lists now s same less = subst (λ (ls : List (List Held)). s < length ls) (sym same) less

set_as_it_was : (lists : List (List Held)) (i : ℕ) (q : List Held) → slice_get lists i ≡ Some q → slice_set lists i q ≡ lists
set_as_it_was [] i q there = absurd (none_some there)
set_as_it_was (p ∷ lists) zero q there = ap (λ (x : List Held). x ∷ lists) (sym (some_same there))
set_as_it_was (p ∷ lists) (suc i) q there = ap (λ (xs : List (List Held)). p ∷ xs) (set_as_it_was lists i q there)

-- the items of one were set
changed : (lists now : List (List Held)) (s : ℕ) (q new : List Held) → lists ≡ now → slice_get now s ≡ Some q → IsChanged s q new now (slice_set lists s new)
changed lists now s q new same there = subst (λ (ls : List (List Held)). IsChanged s q new now (slice_set ls s new)) (sym same) (record {
  there = there;
  here = set_here now s new q there;
  others = λ i apart. set_else now s i new apart;
  count = length_set now s new;
})

-- what was taken is the first of them
pub taken : (lists now : List (List Held)) (s : ℕ) (q new : List Held) (o : Option Held) → lists ≡ now → s < length now → q ≡ get_or lists s q → MatchOption o ((q ≡ []) × (new ≡ [])) (λ h. q ≡ h ∷ new)
    → MatchOption o ((slice_get now s ≡ Some []) × (slice_set lists s new ≡ now)) (λ h. (x : List Held) × IsChanged s (h ∷ x) x now (slice_set lists s new))
taken lists now s q new o same less is popped = go o popped
  where
    there : slice_get now s ≡ Some q
    there = there_at now s q less (is ∙ ap (λ (ls : List (List Held)). get_or ls s q) same)

    go : (p : Option Held) → MatchOption p ((q ≡ []) × (new ≡ [])) (λ h. q ≡ h ∷ new) → MatchOption p ((slice_get now s ≡ Some []) × (slice_set lists s new ≡ now)) (λ h. (x : List Held) × IsChanged s (h ∷ x) x now (slice_set lists s new))
    go None t = (there ∙ ap Some t.0, ap (λ (ls : List (List Held)). slice_set ls s new) same ∙ set_as_it_was now s new (there ∙ ap Some (t.0 ∙ sym t.1)))
    go (Some h) t = (new, changed lists now s (h ∷ new) new same (there ∙ ap Some t))

-- an item was put behind them
pub held_behind : (lists now : List (List Held)) (s : ℕ) (q new : List Held) (h : Held) → lists ≡ now → s < length now → q ≡ get_or lists s q → new ≡ q ++ h ∷ [] → (x : List Held) × IsChanged s x (x ++ h ∷ []) now (slice_set lists s new)
held_behind lists now s q new h same less is pushed = (
  q,
  subst (λ (p : List Held). IsChanged s q p now (slice_set lists s new)) pushed (changed lists now s q new same (there_at now s q less (is ∙ ap (λ (ls : List (List Held)). get_or ls s q) same))),
)

-- the leaf is set with the items
pub kept_set : (leaves : List (Option First)) (lists : List (List Held)) (s : SimNo) (q : List Held) (first : Option First) → AreFirsts leaves lists → s.0 < length lists → first ≡ first_at s q → AreFirsts (slice_set leaves s.0 first) (slice_set lists s.0 q)
kept_set leaves lists s q first kept less is = record {
  count = length_set leaves s.0 first ∙ kept.count ∙ sym (length_set lists s.0 q);
  each = λ i p there. elim (same_or_not i s.0) [
    | inl same ↦
        let old = below_get lists s.0 less in
        let now : q ≡ p = some_same (sym (set_here lists s.0 q old.0 old.1) ∙ ap (slice_get (slice_set lists s.0 q)) (sym same) ∙ there) in
        ap (slice_get (slice_set leaves s.0 first)) same ∙ set_here leaves s.0 first (first_at s old.0) (kept.each s.0 old.0 old.1) ∙ ap Some (is ∙ ap (first_at s) now ∙ ap (λ (n : ℕ). first_at (record { 0 = n }) p) (sym same))
    | inr other ↦ set_else leaves s.0 i first other ∙ kept.each i p (sym (set_else lists s.0 i q other) ∙ there)
  ];
}

-- the leaf stays where the front of the items does
pub kept_behind : (leaves : List (Option First)) (lists : List (List Held)) (s : SimNo) (old new : List Held) → AreFirsts leaves lists → slice_get lists s.0 ≡ Some old → first_at s old ≡ first_at s new → AreFirsts leaves (slice_set lists s.0 new)
kept_behind leaves lists s old new kept at same = record {
  count = kept.count ∙ sym (length_set lists s.0 new);
  each = λ i p there. elim (same_or_not i s.0) [
    | inl here ↦
        let now : new ≡ p = some_same (sym (set_here lists s.0 new old at) ∙ ap (slice_get (slice_set lists s.0 new)) (sym here) ∙ there) in
        ap (slice_get leaves) here ∙ kept.each s.0 old at ∙ ap Some (same ∙ ap (first_at s) now ∙ ap (λ (n : ℕ). first_at (record { 0 = n }) p) (sym here))
    | inr other ↦ kept.each i p (sym (set_else lists s.0 i new other) ∙ there)
  ];
}

-- it stays where an item is put behind others
pub kept_held : (leaves : List (Option First)) (lists now : List (List Held)) (s : SimNo) (seen old new : List Held) (o : Option Held) (h : Held) → AreFirsts leaves lists → lists ≡ now → s.0 < length now → seen ≡ get_or lists s.0 seen → old ≡ get_or lists s.0 old → MatchOption o (seen ≡ []) (λ f. (rest : List Held) × (seen ≡ f ∷ rest)) → is_some o ≡ true → new ≡ old ++ h ∷ []
    → AreFirsts leaves (slice_set lists s.0 new)
kept_held leaves lists now s seen old new None h kept same less is still front some pushed = absurd (true≢false (sym some))
kept_held leaves lists now s seen old new (Some f) h kept same less is still front some pushed =
    let there : slice_get lists s.0 ≡ Some old = there_at lists s.0 old (below lists now s.0 same less) still in
    let begins : old ≡ f ∷ front.0 = some_same (sym there ∙ there_at lists s.0 seen (below lists now s.0 same less) is) ∙ front.1 in
    kept_behind leaves lists s old new kept there (ap (first_at s) begins ∙ sym (ap (first_at s) (pushed ∙ ap (λ (p : List Held). p ++ h ∷ []) begins)))

-- the leaf is set to what the items begin with, which were set before
pub kept_read : (leaves after : List (Option First)) (lists now : List (List Held)) (s : SimNo) (q read : List Held) (first : Option First) → AreFirsts leaves lists → lists ≡ now → s.0 < length now → read ≡ get_or (slice_set lists s.0 q) s.0 read → first ≡ first_at s read → after ≡ slice_set leaves s.0 first → AreFirsts after (slice_set lists s.0 q)
kept_read leaves after lists now s q read first kept same less is begins set =
    let less : s.0 < length lists = below lists now s.0 same less in
    subst (λ (ls : List (Option First)). AreFirsts ls (slice_set lists s.0 q)) (sym set)
    (kept_set leaves lists s q first kept less (begins ∙ ap (first_at s) (is ∙ get_or-set_same lists s.0 q read less)))

-- nothing waits of any
pub kept_none : (n : ℕ) → AreFirsts (replicate n None) (replicate n [])
kept_none n = record {
  count = length-replicate n None ∙ sym (length-replicate n []);
  each = λ i q there.
      let less : i < n = subst (λ (m : ℕ). i < m) (length-replicate n []) (slice_get_within (replicate n []) i q there) in
      let none : [] ≡ q = some_same (sym (get_replicate n i [] less) ∙ there) in
      get_replicate n i None less ∙ ap (λ (p : List Held). Some (first_at (record { 0 = i }) p)) none;
}

-- the least at the leaves is to be sent first of all
pub least_is_first : (best : Option First) (leaves : List (Option First)) (lists : List (List Held)) → AreFirsts leaves lists → IsLeast best leaves → IfSome best (λ f. IsFirst f lists)
least_is_first None leaves lists firsts is = tt
least_is_first (Some f) leaves lists firsts is =
    let k = is.some f refl in
    let q = below_get lists k.0 (subst (λ (n : ℕ). k.0 < n) firsts.count (slice_get_within leaves k.0 (Some f) k.1)) in
    let here : first_at (record { 0 = k.0 }) q.0 ≡ Some f = some_same (sym (firsts.each k.0 q.0 q.1) ∙ k.1) in
    let whose : f.sim ≡ record { 0 = k.0 } = sim_is (record { 0 = k.0 }) q.0 f here in
    record {
      items = q.0;
      there = ap (λ (s : SimNo). slice_get lists s.0) whose ∙ q.1;
      here = ap (λ (s : SimNo). first_at s q.0) whose ∙ here;
      least = λ i p g there e.
          let b = is.least i g (firsts.each i p there ∙ ap Some e) in
          subst (λ (x : First). IsNoLater x g) (sym (some_same b.1)) b.2;
    }
