-- Places of links, one simulator more.
use Rattle.std.proofs.Common.{◌≡◌, ℕ, ◌+◌, ◌<◌, ◌≤◌, ◌⊎◌, inl, inr, Bool, true, false, not, cond, List, [], ◌∷◌, ◌++◌, length, take, get_or, Option, Some, None, refl, sym, ap, ◌∙◌, subst, append_assoc, arith, length-append}
use Rattle.std.specs.Prelude.{IfSome, option_to_list}
use Rattle.std.proofs.lemmas.Bool.Decides.{nat_tests}
use Rattle.std.proofs.lemmas.Grind.{common_steps, flat_map-append}
use Rattle.std.proofs.lemmas.List.{append-nil, take_more}
use Rattle.std.proofs.lemmas.List.Elements.{filter-append}
use Rattle.mk_base.specs.declared.LinkNo.{LinkNo}
use Rattle.mk_base.specs.Lists.{Each, IsIn}
use Rattle.mk_base.specs.Links.{same_link, without}
use Rattle.mk_scenario.specs.declared.parts.Begin.{Begin}
use Rattle.mk_scenario.specs.declared.parts.Begin.TheVariants.{Command, Connect, Local}
use Rattle.mk_scenario.specs.declared.parts.SimPart.{SimPart}
use Rattle.mk_launch.specs.Starts.{Links, link_of, place_of, link_count, places, links_in, AreStarted, AreStartedAndOneClosed}
use Rattle.mk_launch.specs.inner.Starting.{IsGiven, without_place}

-- the last item is one of them
pub is_last : {X : Type 0} (xs : List X) (x : X) → IsIn x (xs ++ x ∷ [])
is_last [] x = inl refl
is_last (y ∷ ys) x = inr (is_last ys x)

-- the first items, and the one behind them
pub take_one_more : {X : Type 0} (xs : List X) (i : ℕ) (x : X) → i < length xs → x ≡ get_or xs i x → take (i + 1) xs ≡ take i xs ++ x ∷ []
take_one_more xs i x within is = take_more xs i x within ∙ ap (λ y. take i xs ++ y ∷ []) (sym is)

-- the place of one simulator more
places-append : (n : ℕ) (xs : List SimPart) (sim : SimPart) → places n (xs ++ sim ∷ []) ≡ places n xs ++ place_of (n + length (links_in (places n xs))) sim.begin ∷ []
places-append n [] sim = let here : n ≡ n + 0 = omega arith in ap (λ m. place_of m sim.begin ∷ []) here
places-append n (x ∷ xs) sim =
    let place = place_of n x.begin in
    let rest = links_in (places (n + link_count place) xs) in
    let both = length-append (option_to_list place) rest in
    let far : (n + link_count place) + length rest ≡ n + length (option_to_list place ++ rest) = omega (arith, both) in
    ap (λ ps. place ∷ ps) (places-append (n + link_count place) xs sim) ∙ ap (λ m. place ∷ (places (n + link_count place) xs ++ place_of m sim.begin ∷ [])) far

links-append : (put : List (Option LinkNo)) (place : Option LinkNo) → links_in (put ++ place ∷ []) ≡ links_in put ++ option_to_list place
links-append put place = flat_map-append option_to_list put (place ∷ []) ∙ ap (λ t. links_in put ++ t) (append-nil (option_to_list place))

-- one simulator more was started, and has its place
pub one_more : (sims : List SimPart) (sim : SimPart) (place : Option LinkNo) (old mid new last : Links) (put after : List (Option LinkNo)) → AreStarted sims old mid put
    → place ≡ place_of mid.started sim.begin → IsGiven place mid new → after ≡ put ++ place ∷ [] → last.started ≡ new.started → last.links ≡ new.links → AreStarted (sims ++ sim ∷ []) old last after
one_more sims sim place old mid new last put after so_far is given grown count links =
    let added = links-append put place in
    let more = length-append (links_in put) (option_to_list place) in
    let counted : length (links_in after) ≡ length (links_in put) + link_count place = ap (λ a. length (links_in a)) grown ∙ ap length added ∙ more in
    record {
      places = grown ∙ ap (λ p. put ++ p ∷ []) (is ∙ ap (λ n. place_of n sim.begin) (so_far.started ∙ ap (λ p. old.started + length (links_in p)) so_far.places))
          ∙ ap (λ ps. ps ++ place_of (old.started + length (links_in (places old.started sims))) sim.begin ∷ []) so_far.places ∙ sym (places-append old.started sims sim);
      started = omega (arith, count, given.0, so_far.started, counted);
      links = links ∙ given.1 ∙ ap (λ t. t ++ option_to_list place) so_far.links ∙ append_assoc old.links (links_in put) (option_to_list place)
          ∙ ap (λ t. old.links ++ t) (sym added ∙ ap links_in (sym grown));
    }

pub higher : (a b : ℕ) → a ≤ b → (xs : List LinkNo) → Each (λ (l : LinkNo). l.0 < a) xs → Each (λ (l : LinkNo). l.0 < b) xs
higher a b le [] all = tt
higher a b le (x ∷ xs) (first, others) = (omega (arith, le, first), higher a b le xs others)

-- the links that have places are numbered from n on, and there are as many of them
abbrev pub AreBelow : ℕ → List LinkNo → Type 0
AreBelow n xs = Each (λ (l : LinkNo). l.0 < n + length xs) xs

linked : (n : ℕ) (xs : List LinkNo) → AreBelow (n + 1) xs → AreBelow n (link_of n ∷ xs)
linked n xs all = (grind (arith, common_steps), higher ((n + 1) + length xs) (n + length (link_of n ∷ xs)) (grind (arith, common_steps)) xs all)

numbered_by : (n : ℕ) (b : Begin) (sims : List SimPart) → ((m : ℕ) → AreBelow m (links_in (places m sims)))
    → AreBelow n (option_to_list (place_of n b) ++ links_in (places (n + link_count (place_of n b)) sims))
numbered_by n (Command t) sims all = linked n (links_in (places (n + 1) sims)) (all (n + 1))
numbered_by n (Connect p) sims all = linked n (links_in (places (n + 1) sims)) (all (n + 1))
numbered_by n (Local k) sims all = let none : n ≡ n + 0 = omega arith in subst (λ m. AreBelow n (links_in (places m sims))) none (all n)

pub numbered : (n : ℕ) (sims : List SimPart) → AreBelow n (links_in (places n sims))
numbered n [] = tt
numbered n (sim ∷ sims) = numbered_by n sim.begin sims (λ m. numbered m sims)

-- a link isn't among those of lower numbers
pub without_lower : (link : LinkNo) (xs : List LinkNo) → Each (λ (l : LinkNo). l.0 < link.0) xs → without link xs ≡ xs
without_lower link [] all = refl
without_lower link (x ∷ xs) (first, others) =
    let other : same_link x link ≡ false = grind (arith, nat_tests) in
    ap (λ (t : Bool). cond (not t) (x ∷ without link xs) (without link xs)) other ∙ ap (λ t. x ∷ t) (without_lower link xs others)

pub without_itself : (link : LinkNo) → without link (link ∷ []) ≡ []
without_itself link = let same : same_link link link ≡ true = grind (arith, nat_tests) in ap (λ (t : Bool). cond (not t) (link ∷ []) []) same

given_number : (n : ℕ) (link : LinkNo) (b : Begin) → Some link ≡ place_of n b → link.0 ≡ n
given_number n link (Command t) e = let same : link ≡ link_of n = cc in ap (λ (l : LinkNo). l.0) same
given_number n link (Connect p) e = let same : link ≡ link_of n = cc in ap (λ (l : LinkNo). l.0) same
given_number n link (Local k) e = cc

-- one simulator more was started, and its place found no memory
pub one_dropped : (sims : List SimPart) (b : Begin) (place : Option LinkNo) (old mid new last : Links) (put after : List (Option LinkNo)) → AreStarted sims old mid put
    → place ≡ place_of mid.started b → IsGiven place mid new → after ≡ put → last.started ≡ new.started → last.links ≡ without_place place new.links
    → AreStarted sims old last after ⊎ AreStartedAndOneClosed sims old last after
one_dropped sims b None old mid new last put after so_far is given same count links =
    inl (record {
      places = same ∙ so_far.places;
      started = let counted = ap (λ a. length (links_in a)) same in omega (arith, count, given.0, so_far.started, counted);
      links = links ∙ given.1 ∙ append-nil mid.links ∙ so_far.links ∙ ap (λ a. old.links ++ links_in a) (sym same);
    })
one_dropped sims b (Some link) old mid new last put after so_far is given same count links =
    let number = given_number mid.started link b is in
    let counted = ap (λ a. length (links_in a)) same in
    let next : link.0 ≡ old.started + length (links_in after) = omega (arith, number, so_far.started, counted) in
    inr (record {
      places = same ∙ so_far.places;
      started = omega (arith, count, given.0, so_far.started, counted);
      links = links ∙ ap (without link) (given.1 ∙ ap (λ t. t ++ link ∷ []) so_far.links) ∙ filter-append (λ other. not (same_link other link)) (old.links ++ links_in put) (link ∷ [])
          ∙ ap (λ t. without link (old.links ++ links_in put) ++ t) (without_itself link) ∙ append-nil _ ∙ ap (λ a. without link (old.links ++ links_in a)) (sym same)
          ∙ ap (λ n. without (link_of n) (old.links ++ links_in after)) next;
    })

-- the link that was given is open
pub given_is_open : (place : Option LinkNo) (old new : Links) → IsGiven place old new → IfSome place (λ link. IsIn link new.links)
given_is_open None old new given = tt
given_is_open (Some link) old new given = subst (λ l. IsIn link l) (sym given.1) (is_last old.links link)
