-- Channels of links that begin, and links that are closed.
use Rattle.std.proofs.Common.{◌≡◌, ℕ, zero, suc, ◌+◌, ◌<◌, ◌≤◌, ◌^◌, inl, inr, Bool, true, false, not, cond, ◌||◌, List, [], ◌∷◌, ◌++◌, length, take, filter, Option, Some, None, option_map, get_or, slice_get, refl, sym, ap, ◌∙◌, subst, arith, true≢false}
use Rattle.std.specs.Prelude.{IfSome, option_to_list}
use Rattle.std.specs.List.{list_any}
use Rattle.std.proofs.lemmas.List.{take_more}
use Rattle.std.proofs.lemmas.List.Folds.{list_any-append}
use Rattle.std.proofs.lemmas.Option.{slice_get_read}
use Rattle.mk_base.specs.declared.LinkNo.{LinkNo}
use Rattle.mk_base.specs.Lists.{IsIn, Each}
use Rattle.mk_base.proofs.Lists.{in_flat_map, flat_map_in, flat_map_append, in_at, at_in, some_passes, in_each, filter_in, some_same, none_some, map_append, append_nil}
use Rattle.mk_base.specs.Links.{same_link, without}
use Rattle.mk_poll.specs.Turning.{Turning}
use Rattle.mk_poll.specs.Links.{IsAdded}
use Rattle.mk_scenario.specs.declared.parts.Begin.{Begin}
use Rattle.mk_scenario.specs.declared.parts.Begin.TheVariants.{Command, Connect, Local}
use Rattle.mk_scenario.specs.declared.parts.SimPart.{SimPart}
use Rattle.mk_launch.specs.Starts.{link_count, links_in, place_of, places}
use Rattle.mk_run_laws.specs.Channels.{Channel}
use Rattle.mk_run_links.specs.Places.{Channels, AreDistinct, at, new_channel, new_channels, without_all}
use Rattle.mk_run_links.specs.inner.Standing.{HaveTurns}
use Rattle.mk_base.proofs.Items.{length_map, only_one}
use Rattle.mk_base.proofs.Counts.{not_same, same_or_not}

-- ---- places

get_take : {X : Type 0} (k i : ℕ) (x : X) (xs : List X) → slice_get (take k xs) i ≡ Some x → (i < k) × (slice_get xs i ≡ Some x)
get_take zero i x xs e = cc
get_take (suc k) i x [] e = cc
get_take (suc k) zero x (y ∷ xs) e = (omega arith, e)
get_take (suc k) (suc i) x (y ∷ xs) e = let t = get_take k i x xs e in (omega (arith, t.0), t.1)

-- the link at a place isn't one of those before it
not_before : (links : List (Option LinkNo)) (k : ℕ) (l : LinkNo) → AreDistinct links → slice_get links k ≡ Some (Some l) → IsIn l (links_in (take k links)) → ⊥
not_before links k l distinct here before =
    let o = in_flat_map option_to_list l (take k links) before in
    let i = in_at o.0 (take k links) o.1 in
    let t = get_take k i.0 o.0 links i.1 in
    let same : i.0 ≡ k = distinct i.0 k l (t.1 ∙ ap Some (only_one l o.0 o.2)) here in
    omega (arith, same, t.0)

-- one place more
links_grow : (links : List (Option LinkNo)) (k : ℕ) (p : Option LinkNo) → k < length links → p ≡ get_or links k p → links_in (take (k + 1) links) ≡ links_in (take k links) ++ option_to_list p
links_grow links k p less is =
    ap links_in (take_more links k p less ∙ ap (λ (q : Option LinkNo). take k links ++ q ∷ []) (sym is)) ∙ flat_map_append option_to_list (take k links) (p ∷ []) ∙ ap (λ (ls : List LinkNo). links_in (take k links) ++ ls) (append_nil (option_to_list p))

here_is : (links : List (Option LinkNo)) (k : ℕ) (p : Option LinkNo) (l : LinkNo) → k < length links → p ≡ get_or links k p → p ≡ Some l → slice_get links k ≡ Some (Some l)
here_is links k p l less is some = slice_get_read links (length links) k p refl less is ∙ ap Some some

-- the places that a start of all simulators leaves
pub next_place : (n : ℕ) (b : Begin) (l : LinkNo) → place_of n b ≡ Some l → (l.0 ≡ n) × (link_count (place_of n b) ≡ 1)
next_place n (Command t) l e = (ap (λ (k : LinkNo). k.0) (sym (some_same e)), refl)
next_place n (Connect port) l e = (ap (λ (k : LinkNo). k.0) (sym (some_same e)), refl)
next_place n (Local kind) l e = absurd (none_some e)

lowest : (n : ℕ) (sims : List SimPart) (i : ℕ) (l : LinkNo) → slice_get (places n sims) i ≡ Some (Some l) → n ≤ l.0
lowest n [] i l e = absurd (none_some e)
lowest n (s ∷ sims) zero l e = let t = next_place n s.begin l (some_same e) in omega (arith, t.0)
lowest n (s ∷ sims) (suc i) l e = let t = lowest (n + link_count (place_of n s.begin)) sims i l e in omega (arith, t)

pub places_distinct : (n : ℕ) (sims : List SimPart) → AreDistinct (places n sims)
places_distinct n [] i j l a b = absurd (none_some a)
places_distinct n (s ∷ sims) zero zero l a b = refl
places_distinct n (s ∷ sims) zero (suc j) l a b =
    let t = next_place n s.begin l (some_same a) in
    let low = lowest (n + link_count (place_of n s.begin)) sims j l b in
    absurd (omega (arith, t.0, t.1, low))
places_distinct n (s ∷ sims) (suc i) zero l a b =
    let t = next_place n s.begin l (some_same b) in
    let low = lowest (n + link_count (place_of n s.begin)) sims i l a in
    absurd (omega (arith, t.0, t.1, low))
places_distinct n (s ∷ sims) (suc i) (suc j) l a b = ap suc (places_distinct (n + link_count (place_of n s.begin)) sims i j l a b)

-- ---- channels that begin

length_take : {X : Type 0} (k : ℕ) (xs : List X) → length (take k xs) ≤ k
length_take zero xs = omega arith
length_take (suc k) [] = omega arith
length_take (suc k) (x ∷ xs) = let t = length_take k xs in omega (arith, t)

pub few_channels : (links : List (Option LinkNo)) (k : ℕ) (L : Channels) → k < length links → length links < 2 ^ 32 → L ≡ new_channels (take k links) → length L + 1 < 2 ^ 32
few_channels links k L less few is =
    let size = ap length is ∙ length_map (option_map new_channel) (take k links) in
    let taken = length_take k links in
    omega (arith, size, taken, less, few)

pub channels_grow : (links : List (Option LinkNo)) (k : ℕ) (p : Option LinkNo) (L M : Channels) → k < length links → p ≡ get_or links k p → L ≡ new_channels (take k links) → M ≡ L ++ option_map new_channel p ∷ [] → M ≡ new_channels (take (k + 1) links)
channels_grow links k p L M less is so_far more =
    more ∙ ap (λ (xs : Channels). xs ++ option_map new_channel p ∷ []) so_far ∙ sym (map_append (option_map new_channel) (take k links) (p ∷ []))
    ∙ ap new_channels (ap (λ (q : Option LinkNo). take k links ++ q ∷ []) is ∙ sym (take_more links k p less))

pub ready_grow : (links : List (Option LinkNo)) (k : ℕ) (p : Option LinkNo) (old new : List LinkNo) → k < length links → p ≡ get_or links k p → old ≡ links_in (take k links) → new ≡ old ++ option_to_list p → new ≡ links_in (take (k + 1) links)
ready_grow links k p old new less is so_far more = more ∙ ap (λ (xs : List LinkNo). xs ++ option_to_list p) so_far ∙ sym (links_grow links k p less is)

not_added : (links : List (Option LinkNo)) (k : ℕ) (p : Option LinkNo) (l : LinkNo) (t : Turning) → AreDistinct links → k < length links → p ≡ get_or links k p → p ≡ Some l → t.ready ≡ links_in (take k links) → t.taken ≡ [] → t.parked ≡ [] → IsAdded l t → ⊥
not_added links k p l t distinct less is some ready taken parked (inl h) = not_before links k l distinct (here_is links k p l less is some) (subst (IsIn l) ready h)
not_added links k p l t distinct less is some ready taken parked (inr (inl h)) = absurd (subst (IsIn l) taken h)
not_added links k p l t distinct less is some ready taken parked (inr (inr h)) = absurd (subst (IsIn l) parked h)

pub place_fresh : (links : List (Option LinkNo)) (k : ℕ) (p : Option LinkNo) (t : Turning) → AreDistinct links → k < length links → p ≡ get_or links k p → t.ready ≡ links_in (take k links) → t.taken ≡ [] → t.parked ≡ [] → IfSome p (λ (l : LinkNo). ¬ IsAdded l t)
place_fresh links k p t distinct less is ready taken parked = go p refl
  where
    go : (q : Option LinkNo) → p ≡ q → IfSome q (λ (l : LinkNo). ¬ IsAdded l t)
    go None e = tt
    go (Some l) e = not_added links k p l t distinct less is e ready taken parked

pub channel_was : (links : List (Option LinkNo)) (i : ℕ) (v : Channel) → at (new_channels links) i ≡ Some v → slice_get links i ≡ Some (Some v.link)
channel_was [] i v e = absurd (none_some e)
channel_was (None ∷ links) zero v e = absurd (none_some e)
channel_was (Some l ∷ links) zero v e = ap (λ (o : Option Channel). Some (option_map (λ (w : Channel). w.link) o)) e
channel_was (p ∷ links) (suc i) v e = channel_was links i v e

begun_stands : (links : List (Option LinkNo)) (L : Channels) (t : Turning) → AreDistinct links → L ≡ new_channels links → t.ready ≡ links_in links → t.taken ≡ [] → HaveTurns L t
begun_stands links L t distinct is ready taken = subst (λ (X : Channels). HaveTurns X t) (sym is) (record {
  apart = λ i j v w ev ew same. distinct i j v.link (channel_was links i v ev) (channel_was links j w ew ∙ ap (λ (n : ℕ). Some (Some (number n))) (sym same));
  turned = λ i w e. inl (subst (IsIn w.link) (sym ready) (flat_map_in option_to_list (Some w.link) w.link links (at_in (Some w.link) links i (channel_was links i w e)) (inl refl)));
  none_taken = taken;
})
  where
    number : ℕ → LinkNo
    number n = record { 0 = n }

take_whole : {X : Type 0} (k : ℕ) (xs : List X) → length xs ≤ k → take k xs ≡ xs
take_whole zero [] less = refl
take_whole zero (x ∷ xs) less = absurd (omega (arith, less))
take_whole (suc k) [] less = refl
take_whole (suc k) (x ∷ xs) less = ap (λ ys. x ∷ ys) (take_whole k xs (omega (arith, less)))

pub all_begun : (links : List (Option LinkNo)) (k : ℕ) (L : Channels) (t : Turning) → AreDistinct links → length links ≤ k → L ≡ new_channels (take k links) → t.ready ≡ links_in (take k links) → t.taken ≡ [] → HaveTurns L t
all_begun links k L t distinct over is ready taken =
    let same = take_whole k links over in
    begun_stands links L t distinct (is ∙ ap new_channels same) (ready ∙ ap links_in same) taken

-- ---- links that are closed

or_none : (b : Bool) → b ≡ (b || false)
or_none true = refl
or_none false = refl

without_one : (l : LinkNo) (xs : List LinkNo) → without l xs ≡ without_all (l ∷ []) xs
without_one l xs = λ i. filter (λ (other : LinkNo). not (or_none (same_link other l) i)) xs

-- what is open before any is closed
pub without_none : (xs : List LinkNo) → without_all [] xs ≡ xs
without_none [] = refl
without_none (x ∷ xs) = ap (λ (ys : List LinkNo). x ∷ ys) (without_none xs)

without_both : (first second xs : List LinkNo) → without_all second (without_all first xs) ≡ without_all (first ++ second) xs
without_both first second [] = refl
without_both first second (x ∷ xs) = go (list_any (same_link x) first) (list_any-append (same_link x) first second) (without_both first second xs)
  where
    left : List LinkNo
    left = without_all (first ++ second) xs

    go : (b : Bool) → list_any (same_link x) (first ++ second) ≡ (b || list_any (same_link x) second) → without_all second (without_all first xs) ≡ left
        → without_all second (cond (not b) (x ∷ without_all first xs) (without_all first xs)) ≡ cond (not (list_any (same_link x) (first ++ second))) (x ∷ left) left
    go true e rest = rest ∙ sym (ap (λ (c : Bool). cond (not c) (x ∷ left) left) e)
    go false e rest = ap (λ (ys : List LinkNo). cond (not (list_any (same_link x) second)) (x ∷ ys) ys) rest ∙ sym (ap (λ (c : Bool). cond (not c) (x ∷ left) left) e)

pub closed_place : (p : Option LinkNo) (l : LinkNo) (old new : List LinkNo) → p ≡ Some l → new ≡ without l old → new ≡ without_all (option_to_list p) old
closed_place p l old new some is = is ∙ without_one l old ∙ ap (λ (q : Option LinkNo). without_all (option_to_list q) old) (sym some)

pub closed_nothing : (p : Option LinkNo) (old : List LinkNo) → p ≡ None → old ≡ without_all (option_to_list p) old
closed_nothing p old none = sym (without_none old) ∙ ap (λ (q : Option LinkNo). without_all (option_to_list q) old) (sym none)

pub closed_more : (links : List (Option LinkNo)) (k : ℕ) (p : Option LinkNo) (old mid new : List LinkNo) → k < length links → p ≡ get_or links k p → mid ≡ without_all (links_in (take k links)) old → new ≡ without_all (option_to_list p) mid
    → new ≡ without_all (links_in (take (k + 1) links)) old
closed_more links k p old mid new less is so_far more =
    more ∙ ap (without_all (option_to_list p)) so_far ∙ without_both (links_in (take k links)) (option_to_list p) old ∙ ap (λ (ls : List LinkNo). without_all ls old) (sym (links_grow links k p less is))

still_open : (links : List (Option LinkNo)) (k : ℕ) (p : Option LinkNo) (l : LinkNo) (old mid : List LinkNo) → AreDistinct links → Each (λ (link : LinkNo). IsIn link old) (links_in links) → k < length links → p ≡ get_or links k p → p ≡ Some l
    → mid ≡ without_all (links_in (take k links)) old → IsIn l mid
still_open links k p l old mid distinct all less is some so_far =
    let here = here_is links k p l less is some in
    let there = in_each (λ (link : LinkNo). IsIn link old) l (links_in links) all (flat_map_in option_to_list (Some l) l links (at_in (Some l) links k here) (inl refl)) in
    subst (IsIn l) (sym so_far) (filter_in (λ (link : LinkNo). not (list_any (same_link link) (links_in (take k links)))) l old there (ap not (unlisted (list_any (same_link l) (links_in (take k links))) refl here)))
  where
    unlisted : (b : Bool) → list_any (same_link l) (links_in (take k links)) ≡ b → slice_get links k ≡ Some (Some l) → list_any (same_link l) (links_in (take k links)) ≡ false
    unlisted false e here = e
    unlisted true e here =
        let t = some_passes (same_link l) (links_in (take k links)) e in
        absurd (not_before links k l distinct here (subst (λ (m : LinkNo). IsIn m (links_in (take k links))) (same t.0 t.2) t.1))
      where
        same : (m : LinkNo) → same_link l m ≡ true → m ≡ l
        same m e = elim (same_or_not l.0 m.0) [
          | inl q ↦ ap (λ (n : ℕ). let x : LinkNo = record { 0 = n } in x) (sym q)
          | inr apart ↦ absurd (true≢false (sym e ∙ not_same l.0 m.0 apart))
        ]

pub place_open : (links : List (Option LinkNo)) (k : ℕ) (p : Option LinkNo) (old mid : List LinkNo) → AreDistinct links → Each (λ (link : LinkNo). IsIn link old) (links_in links) → k < length links → p ≡ get_or links k p
    → mid ≡ without_all (links_in (take k links)) old → IfSome p (λ (l : LinkNo). IsIn l mid)
place_open links k p old mid distinct all less is so_far = go p refl
  where
    go : (q : Option LinkNo) → p ≡ q → IfSome q (λ (l : LinkNo). IsIn l mid)
    go None e = tt
    go (Some l) e = still_open links k p l old mid distinct all less is e so_far
