-- The channels of marked links, woken one after another.
use Rattle.std.proofs.Common.{◌≡◌, ℕ, zero, suc, ◌+◌, ◌<◌, ◌≤◌, Bool, true, false, ◌&&◌, ◌||◌, if◌then◌else◌, List, [], ◌∷◌, length, get_or, map, take, Option, Some, None, option_map, slice_get, refl, sym, ap, ◌∙◌, subst, inl, inr, add-one}
use Rattle.std.proofs.Math.Bool.{or_assoc}
use Rattle.std.proofs.lemmas.List.{take_all}
use Rattle.std.proofs.lemmas.Option.{slice_get-get_or}
use Rattle.mk_base.specs.declared.LinkNo.{LinkNo}
use Rattle.mk_base.specs.Links.{same_link}
use Rattle.mk_base.proofs.Lists.{some_same}
use Rattle.mk_launch.specs.Starts.{links_in}
use Rattle.mk_run_laws.specs.Channels.{Channel}
use Rattle.mk_run_laws.specs.Crews.{AreMoved, IsMovedAt}
use Rattle.mk_run_laws.proofs.Polling.{channel_left, channel_unparked}
use Rattle.mk_run_links.specs.inner.Looks.{AreWokenBy, IsWokenAt, is_marked, woken_by}
use Rattle.mk_run_links.specs.inner.OneChannel.{link_of, unparked}
use Rattle.mk_run_links.specs.inner.Standing.{AreApart}
use Rattle.mk_run_links.specs.Places.{Channels, at, crew}
use Rattle.mk_run_links.proofs.Linking.{at_place, place_at}
use Rattle.mk_run_links.proofs.Looking.{nobody}
use Rattle.mk_base.proofs.Bools.{or_false, or_true}
use Rattle.mk_base.proofs.Counts.{not_same, same_or_not, same_self}

pub mark_at : (marks : List Bool) (k : ℕ) (d b : Bool) → k < length marks → get_or marks k d ≡ b → slice_get marks k ≡ Some b
mark_at marks k d b less is = slice_get-get_or marks k d less ∙ ap Some is

-- one more place is looked at, which isn't marked
unmarked_more : (marks : List Bool) (links : List LinkNo) (l : LinkNo) (k : ℕ) → slice_get marks k ≡ Some false → is_marked (take (suc k) marks) links l ≡ is_marked (take k marks) links l
unmarked_more [] links l k e = cc
unmarked_more (m ∷ marks) [] l zero e = refl
unmarked_more (m ∷ marks) [] l (suc k) e = refl
unmarked_more (m ∷ marks) (x ∷ links) l zero e = ap (λ (b : Bool). (b && same_link x l) || false) (some_same e)
unmarked_more (m ∷ marks) (x ∷ links) l (suc k) e = ap (λ (b : Bool). (m && same_link x l) || b) (unmarked_more marks links l k e)

-- one more place is looked at, which is marked
marked_more : (marks : List Bool) (links : List LinkNo) (l x : LinkNo) (k : ℕ) → slice_get marks k ≡ Some true → slice_get links k ≡ Some x → is_marked (take (suc k) marks) links l ≡ is_marked (take k marks) links l || same_link x l
marked_more [] links l x k e f = cc
marked_more (m ∷ marks) [] l x k e f = cc
marked_more (m ∷ marks) (y ∷ links) l x zero e f = ap (λ (b : Bool). (b && same_link y l) || false) (some_same e) ∙ or_false (same_link y l) ∙ ap (λ (z : LinkNo). same_link z l) (some_same f)
marked_more (m ∷ marks) (y ∷ links) l x (suc k) e f = ap (λ (b : Bool). (m && same_link y l) || b) (marked_more marks links l x k e f) ∙ sym (or_assoc (m && same_link y l) (is_marked (take k marks) links l) (same_link x l))

unparked_again : (b : Bool) (w : Channel) → unparked (if b then unparked w else w) ≡ unparked w
unparked_again true w = refl
unparked_again false w = refl

-- by so many marks
abbrev pub AreWokenSoFar : ℕ → List Bool → Channels → Channels → Type 0
AreWokenSoFar k marks L M = AreWokenBy (take k marks) L M

same_marks : (a b : List Bool) (links : List LinkNo) (o : Option Channel) → ((w : Channel) → o ≡ Some w → is_marked b links w.link ≡ is_marked a links w.link) → option_map (woken_by a links) o ≡ option_map (woken_by b links) o
same_marks a b links None same = refl
same_marks a b links (Some w) same = ap (λ (c : Bool). Some (if c then unparked w else w)) (sym (same w refl))

no_marks : (links : List LinkNo) (o : Option Channel) → o ≡ option_map (woken_by [] links) o
no_marks links None = refl
no_marks links (Some w) = refl

pub none_so_far : (marks : List Bool) (L : Channels) → AreWokenSoFar 0 marks L L
none_so_far marks L i = no_marks (links_in (map link_of L)) (at L i)

unmarked_here : (k : ℕ) (marks : List Bool) (L M : Channels) → slice_get marks k ≡ Some false → AreWokenSoFar k marks L M → AreWokenSoFar (suc k) marks L M
unmarked_here k marks L M mark so_far i = so_far i ∙ same_marks (take k marks) (take (suc k) marks) (links_in (map link_of L)) (at L i) (λ w e. unmarked_more marks (links_in (map link_of L)) w.link k mark)

module _ (k s : ℕ) (marks : List Bool) (L M N : Channels) (l : LinkNo) (apart : AreApart L) (mark : slice_get marks k ≡ Some true) (here : slice_get (links_in (map link_of L)) k ≡ Some l) (on : (w : Channel) × (at L s ≡ Some w) × (w.link ≡ l)) (so_far : AreWokenSoFar k marks L M) (one : IsWokenAt s M N) where
  now : (m : LinkNo) → is_marked (take (suc k) marks) (links_in (map link_of L)) m ≡ is_marked (take k marks) (links_in (map link_of L)) m || same_link l m
  now m = marked_more marks (links_in (map link_of L)) m l k mark here

  woken_here : at N s ≡ option_map (woken_by (take (suc k) marks) (links_in (map link_of L))) (at L s)
  woken_here =
      let w = on.0 in
      one.here ∙ ap (option_map unparked) (so_far s) ∙ ap (λ (o : Option Channel). option_map unparked (option_map (woken_by (take k marks) (links_in (map link_of L))) o)) on.1
      ∙ ap Some (unparked_again (is_marked (take k marks) (links_in (map link_of L)) w.link) w)
      ∙ ap (λ (b : Bool). Some (if b then unparked w else w)) (sym (now w.link ∙ ap (λ (b : Bool). is_marked (take k marks) (links_in (map link_of L)) w.link || b) (ap (λ (m : LinkNo). same_link l m) on.2 ∙ same_self l.0) ∙ or_true (is_marked (take k marks) (links_in (map link_of L)) w.link)))
      ∙ ap (option_map (woken_by (take (suc k) marks) (links_in (map link_of L)))) (sym on.1)

  others_left : (i : ℕ) → (i ≡ s → ⊥) → at N i ≡ option_map (woken_by (take (suc k) marks) (links_in (map link_of L))) (at L i)
  others_left i away = one.others i away ∙ so_far i ∙ same_marks (take k marks) (take (suc k) marks) (links_in (map link_of L)) (at L i) (λ u e.
      now u.link
      ∙ ap (λ (b : Bool). is_marked (take k marks) (links_in (map link_of L)) u.link || b) (not_same l.0 (u.link).0 (λ q. away (apart i s u on.0 e on.1 (sym q ∙ sym (ap (λ (m : LinkNo). m.0) on.2)))))
      ∙ or_false (is_marked (take k marks) (links_in (map link_of L)) u.link))

  marked_here : AreWokenSoFar (suc k) marks L N
  marked_here i = elim (same_or_not i s) [
    | inl q ↦ subst (λ (j : ℕ). at N j ≡ option_map (woken_by (take (suc k) marks) (links_in (map link_of L))) (at L j)) (sym q) woken_here
    | inr away ↦ others_left i away
  ]

-- one more place is not marked
pub unmarked_so_far : (k : ℕ) (marks : List Bool) (L M : Channels) → slice_get marks k ≡ Some false → AreWokenSoFar k marks L M → AreWokenSoFar (k + 1) marks L M
unmarked_so_far k marks L M mark so_far = subst (λ (n : ℕ). AreWokenSoFar n marks L M) (sym (add-one k)) (unmarked_here k marks L M mark so_far)

-- one more place is marked, and its simulator is woken
pub marked_so_far : (k s : ℕ) (marks : List Bool) (L M N : Channels) → AreApart L → map link_of M ≡ map link_of L → slice_get marks k ≡ Some true → ((w : Channel) × (at M s ≡ Some w) × (slice_get (links_in (map link_of M)) k ≡ Some w.link)) → AreWokenSoFar k marks L M → IsWokenAt s M N → AreWokenSoFar (k + 1) marks L N
marked_so_far k s marks L M N apart same mark there so_far one =
    let w = there.0 in
    let here : slice_get (links_in (map link_of L)) k ≡ Some w.link = ap (λ (P : List (Option LinkNo)). slice_get (links_in P) k) (sym same) ∙ there.2 in
    let on = place_at L s w.link (ap (λ (P : List (Option LinkNo)). slice_get P s) (sym same) ∙ at_place M s w there.1) in
    subst (λ (n : ℕ). AreWokenSoFar n marks L N) (sym (add-one k)) (marked_here k s marks L M N w.link apart mark here on so_far one)

pub all_looked_at : (k : ℕ) (marks : List Bool) (L M : Channels) → length marks ≤ k → AreWokenSoFar k marks L M → AreWokenBy marks L M
all_looked_at k marks L M all so_far = subst (λ (ms : List Bool). AreWokenBy ms L M) (take_all k marks all) so_far

left_or_woken : (b : Bool) (w : Channel) → IsMovedAt [] [] (Some w) (Some (if b then unparked w else w))
left_or_woken true w = channel_unparked [] w (nobody w.link)
left_or_woken false w = channel_left [] w (nobody w.link)

woken_or_not : (marks : List Bool) (links : List LinkNo) (o : Option Channel) → IsMovedAt [] [] o (option_map (woken_by marks links) o)
woken_or_not marks links None = tt
woken_or_not marks links (Some w) = left_or_woken (is_marked marks links w.link) w

-- the channels of marked links have moved
pub marked_moved : (marks : List Bool) (L M : Channels) → AreWokenBy marks L M → AreMoved [] (λ i. []) (crew L) (crew M)
marked_moved marks L M woken i = subst (λ (o : Option Channel). IsMovedAt [] [] (at L i) o) (sym (woken i)) (woken_or_not marks (links_in (map link_of L)) (at L i))
