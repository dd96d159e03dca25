-- The links of the channels, and the simulators on them.
use Rattle.std.proofs.Common.{◌≡◌, ◌≢◌, ◌⊎◌, inl, inr, ℕ, zero, suc, ◌+◌, ◌<◌, ◌^◌, List, [], ◌∷◌, ◌++◌, length, map, get_or, Option, Some, None, Result, Ok, Err, option_map, slice_get, option_and_then, refl, sym, ap, ◌∙◌, subst, arith, length-append}
use Rattle.std.specs.Prelude.{OnOk, OnErr, option_to_list, slice_set}
use Rattle.std.proofs.lemmas.List.{length-map, map-append}
use Rattle.std.proofs.lemmas.Option.{slice_get-map, slice_get_read, slice_get_within}
use Rattle.mk_base.specs.declared.LinkNo.{LinkNo}
use Rattle.mk_base.specs.declared.SimNo.{SimNo}
use Rattle.mk_base.specs.Lists.{IsIn, Each}
use Rattle.mk_base.proofs.Lists.{append_nil, at_in, each_in, flat_map_append, flat_map_in, get_is, in_at, in_flat_map, length_set, none_some, set_else, set_here, some_same}
use Rattle.mk_launch.specs.Starts.{links_in}
use Rattle.mk_run_laws.specs.Channels.{Channel, queued}
use Rattle.mk_session.specs.declared.answers.QueueFault.{QueueFault}
use Rattle.mk_run_links.specs.inner.Index.{AreListed}
use Rattle.mk_run_links.specs.inner.OneChannel.{link_of}
use Rattle.mk_run_links.specs.Places.{Channels, IsLinked, IsSet, AreOpen, at}
use Rattle.mk_base.proofs.Items.{get_last, get_there, only_one, front_get}

-- ---- a channel and its place

-- a channel stands at its place
pub place_is : (o : Option (Option Channel)) (w : Channel) → option_and_then (λ (p : Option Channel). p) o ≡ Some w → o ≡ Some (Some w)
place_is None w e = absurd (none_some e)
place_is (Some o) w e = ap Some e

place_held : (o : Option (Option Channel)) (w : Channel) → option_and_then (λ (p : Option Channel). p) o ≡ Some w → option_map link_of o ≡ Some (Some w.link)
place_held None w e = absurd (none_some e)
place_held (Some o) w e = ap (λ (p : Option Channel). Some (link_of p)) e

held_place : (o : Option (Option Channel)) (l : LinkNo) → option_map link_of o ≡ Some (Some l) → (w : Channel) × (option_and_then (λ (p : Option Channel). p) o ≡ Some w) × (w.link ≡ l)
held_place None l e = absurd (none_some e)
held_place (Some None) l e = absurd (none_some (some_same e))
held_place (Some (Some w)) l e = (w, refl, some_same (some_same e))

pub at_place : (L : Channels) (i : ℕ) (w : Channel) → at L i ≡ Some w → slice_get (map link_of L) i ≡ Some (Some w.link)
at_place L i w there = slice_get-map link_of L i ∙ place_held (slice_get L i) w there

pub place_at : (L : Channels) (i : ℕ) (l : LinkNo) → slice_get (map link_of L) i ≡ Some (Some l) → (w : Channel) × (at L i ≡ Some w) × (w.link ≡ l)
place_at L i l there = held_place (slice_get L i) l (sym (slice_get-map link_of L i) ∙ there)

in_places : (L : Channels) (l : LinkNo) → IsIn l (links_in (map link_of L)) → (i : ℕ) × (w : Channel) × (at L i ≡ Some w) × (w.link ≡ l)
in_places L l there =
    let o = in_flat_map option_to_list l (map link_of L) there in
    let p = in_at o.0 (map link_of L) o.1 in
    let t = place_at L p.0 l (p.1 ∙ ap Some (only_one l o.0 o.2)) in
    (p.0, t.0, t.1, t.2)

link_in : (L : Channels) (i : ℕ) (w : Channel) → at L i ≡ Some w → IsIn w.link (links_in (map link_of L))
link_in L i w there = flat_map_in option_to_list (Some w.link) w.link (map link_of L) (at_in (Some w.link) (map link_of L) i (at_place L i w there)) (inl refl)

-- all links are open
pub links_open : (L : Channels) (links open_links : List LinkNo) → AreOpen L open_links → links ≡ links_in (map link_of L) → Each (λ (l : LinkNo). IsIn l open_links) links
links_open L links open_links all is = subst (Each (λ (l : LinkNo). IsIn l open_links)) (sym is) (each_in (λ (l : LinkNo). IsIn l open_links) (links_in (map link_of L)) (λ l there.
    let p = in_places L l there in
    subst (λ (k : LinkNo). IsIn k open_links) p.3 (all p.0 p.1 p.2)))

-- where there is a channel there is a link
pub some_link : (L : Channels) (links : List LinkNo) → ((i : ℕ) × IsLinked i L) → links ≡ links_in (map link_of L) → links ≢ []
some_link L links some is none =
    let w = some.1 in
    subst (λ (xs : List LinkNo). IsIn (w.0).link xs) (sym is ∙ none) (link_in L some.0 w.0 w.1)

-- ---- the list of the links

front_or_last : {X : Type 0} (xs : List X) (y : X) (i : ℕ) (x : X) → slice_get (xs ++ y ∷ []) i ≡ Some x → (slice_get xs i ≡ Some x) ⊎ ((i ≡ length xs) × (y ≡ x))
front_or_last [] y zero x e = inr (refl, some_same e)
front_or_last [] y (suc i) x e = cc
front_or_last (z ∷ xs) y zero x e = inl e
front_or_last (z ∷ xs) y (suc i) x e = elim (front_or_last xs y i x e) [ inl a ↦ inl a | inr b ↦ inr (ap suc b.0, b.1) ]

-- one more simulator, which has no link
pub listed_without : (P : List (Option LinkNo)) (links : List LinkNo) (sims : List SimNo) → AreListed P links sims → AreListed (P ++ None ∷ []) links sims
listed_without P links sims a = record {
  all = a.all ∙ sym (append_nil (links_in P)) ∙ sym (flat_map_append option_to_list P (None ∷ []));
  paired = a.paired;
  placed = λ k sim l e f. front_get P (None ∷ []) sim.0 (Some l) (a.placed k sim l e f);
}

-- one more simulator, on this link
pub listed_with : (P : List (Option LinkNo)) (links : List LinkNo) (sims : List SimNo) (l : LinkNo) (s : SimNo) → s.0 ≡ length P → AreListed P links sims → AreListed (P ++ Some l ∷ []) (links ++ l ∷ []) (sims ++ s ∷ [])
listed_with P links sims l s number a = record {
  all = ap (λ (xs : List LinkNo). xs ++ l ∷ []) a.all ∙ sym (flat_map_append option_to_list P (Some l ∷ []));
  paired = length-append sims (s ∷ []) ∙ ap (λ (n : ℕ). n + 1) a.paired ∙ sym (length-append links (l ∷ []));
  placed = λ k sim m e f. elim (front_or_last sims s k sim e) [
    | inl before ↦ elim (front_or_last links l k m f) [
      | inl there ↦ front_get P (Some l ∷ []) sim.0 (Some m) (a.placed k sim m before there)
      | inr last ↦ absurd (below k (length sims) (length links) (slice_get_within sims k sim before) a.paired last.0)
    ]
    | inr last ↦ elim (front_or_last links l k m f) [
      | inl there ↦ absurd (below k (length links) (length sims) (slice_get_within links k m there) (sym a.paired) last.0)
      | inr end ↦ subst (λ (n : ℕ). slice_get (P ++ Some l ∷ []) n ≡ Some (Some m)) (sym number ∙ ap (λ (x : SimNo). x.0) last.1) (get_last P (Some l) ∙ ap (λ (x : LinkNo). Some (Some x)) end.1)
    ]
  ];
}
  where
    below : (k m n : ℕ) → k < m → m ≡ n → k ≡ n → ⊥
    below k m n less e f = omega (arith, less, e, f)

-- the simulator at the place of a link
pub sim_there : (L : Channels) (links : List LinkNo) (sims : List SimNo) (k : ℕ) (sim : SimNo) (l : LinkNo) → AreListed (map link_of L) links sims → slice_get sims k ≡ Some sim → slice_get links k ≡ Some l → (w : Channel) × (at L sim.0 ≡ Some w) × (w.link ≡ l)
sim_there L links sims k sim l a e f = place_at L sim.0 l (a.placed k sim l e f)

-- a link that isn't listed is that of no channel
pub no_sim_there : (L : Channels) (links : List LinkNo) (sims : List SimNo) (l : LinkNo) → AreListed (map link_of L) links sims → ((k : ℕ) → slice_get links k ≡ Some l → ⊥) → (i : ℕ) (w : Channel) → at L i ≡ Some w → w.link ≡ l → ⊥
no_sim_there L links sims l a none i w there on =
    let k = in_at l links (subst (λ (xs : List LinkNo). IsIn l xs) (sym a.all) (subst (λ (m : LinkNo). IsIn m (links_in (map link_of L))) on (link_in L i w there))) in
    none k.0 k.1

-- the place of a link is one of a simulator too
pub listed_within : (P : List (Option LinkNo)) (links : List LinkNo) (sims : List SimNo) (k : ℕ) (l : LinkNo) → AreListed P links sims → slice_get links k ≡ Some l → k < length sims
listed_within P links sims k l a e = let less = slice_get_within links k l e in let same = a.paired in omega (arith, less, same)

pub sim_on_link : (L : Channels) (links : List LinkNo) (sims : List SimNo) (k : ℕ) (sim : SimNo) (l : LinkNo) → AreListed (map link_of L) links sims → sim ≡ get_or sims k sim → slice_get links k ≡ Some l → (w : Channel) × (at L sim.0 ≡ Some w) × (w.link ≡ l)
sim_on_link L links sims k sim l a is e = sim_there L links sims k sim l a (slice_get_read sims (length sims) k sim refl (listed_within (map link_of L) links sims k l a e) is) e

pub sim_at_place : (L : Channels) (links : List LinkNo) (sims : List SimNo) (k : ℕ) (sim : SimNo) → AreListed (map link_of L) links sims → k < length (links_in (map link_of L)) → sim ≡ get_or sims k sim → (w : Channel) × (at L sim.0 ≡ Some w) × (slice_get (links_in (map link_of L)) k ≡ Some w.link)
sim_at_place L links sims k sim a less is =
    let l = get_there links k (subst (λ (xs : List LinkNo). k < length xs) (sym a.all) less) in
    let t = sim_on_link L links sims k sim l.0 a is l.1 in
    (t.0, t.1, ap (λ (xs : List LinkNo). slice_get xs k) (sym a.all) ∙ l.1 ∙ ap Some (sym t.2))

-- ---- one more simulator

pub pushed_with : (L M : Channels) (links more_links : List LinkNo) (sims more_sims : List SimNo) (o : Option Channel) (l : LinkNo) (n : ℕ) → n ≡ length L → Some l ≡ link_of o → M ≡ L ++ o ∷ [] → more_links ≡ links ++ l ∷ [] → more_sims ≡ sims ++ record { 0 = n } ∷ [] → length L + 1 < 2 ^ 32 → AreListed (map link_of L) links sims
    → (length M < 2 ^ 32) × AreListed (map link_of M) more_links more_sims
pushed_with L M links more_links sims more_sims o l n number on all all_links all_sims few a = (
  let longer = ap length all ∙ length-append L (o ∷ []) in omega (arith, longer, few),
  rw all (rw all_links (rw all_sims (subst (λ (P : List (Option LinkNo)). AreListed P (links ++ l ∷ []) (sims ++ record { 0 = n } ∷ [])) (ap (λ (p : Option LinkNo). map link_of L ++ p ∷ []) on ∙ sym (map-append link_of L (o ∷ [])))
      (listed_with (map link_of L) links sims l (record { 0 = n }) (number ∙ sym (length-map L link_of)) a)))),
)

pub pushed_without : (L M : Channels) (links same_links : List LinkNo) (sims same_sims : List SimNo) (o : Option Channel) → None ≡ link_of o → M ≡ L ++ o ∷ [] → same_links ≡ links → same_sims ≡ sims → length L + 1 < 2 ^ 32 → AreListed (map link_of L) links sims
    → (length M < 2 ^ 32) × AreListed (map link_of M) same_links same_sims
pushed_without L M links same_links sims same_sims o none all all_links all_sims few a = (
  let longer = ap length all ∙ length-append L (o ∷ []) in omega (arith, longer, few),
  rw all (rw all_links (rw all_sims (subst (λ (P : List (Option LinkNo)). AreListed P links sims) (ap (λ (p : Option LinkNo). map link_of L ++ p ∷ []) none ∙ sym (map-append link_of L (o ∷ [])))
      (listed_without (map link_of L) links sims a)))),
)

-- ---- one channel set

places_set : (L : Channels) (s : ℕ) (w v : Channel) → slice_get L s ≡ Some (Some w) → v.link ≡ w.link → map link_of (slice_set L s (Some v)) ≡ map link_of L
places_set [] s w v e same = refl
places_set (o ∷ L) zero w v e same = ap (λ (p : Option LinkNo). p ∷ map link_of L) (ap Some same ∙ sym (ap link_of (some_same e)))
places_set (o ∷ L) (suc s) w v e same = ap (λ (xs : List (Option LinkNo)). link_of o ∷ xs) (places_set L s w v e same)

below_channels : (L : Channels) (s : ℕ) → IsLinked s L → s < length L
below_channels L s there = (get_is L s (Some there.0) (place_is (slice_get L s) there.0 there.1)).0

-- the place of simulator s was read, where its channel is
module _ (L : Channels) (s : ℕ) (w v : Channel) (o : Option Channel) (linked : IsLinked s L) (read : o ≡ get_or L s o) (is : o ≡ Some w) where
  placed_there : slice_get L s ≡ Some (Some w)
  placed_there = slice_get_read L (length L) s o refl (below_channels L s linked) read ∙ ap Some is

  pub is_set : IsSet s w v L (slice_set L s (Some v))
  is_set = record {
    there = ap (λ (q : Option (Option Channel)). option_and_then (λ (r : Option Channel). r) q) placed_there;
    here = ap (λ (q : Option (Option Channel)). option_and_then (λ (r : Option Channel). r) q) (set_here L s (Some v) (Some w) placed_there);
    others = λ i away. ap (λ (q : Option (Option Channel)). option_and_then (λ (r : Option Channel). r) q) (set_else L s i (Some v) away);
  }

  pub same_places : v.link ≡ w.link → map link_of (slice_set L s (Some v)) ≡ map link_of L
  same_places same = places_set L s w v placed_there same

  pub still_listed : (links : List LinkNo) (sims : List SimNo) → v.link ≡ w.link → (length L < 2 ^ 32) × AreListed (map link_of L) links sims → (length (slice_set L s (Some v)) < 2 ^ 32) × AreListed (map link_of (slice_set L s (Some v))) links sims
  still_listed links sims same p = (
    subst (λ (n : ℕ). n < 2 ^ 32) (sym (length_set L s (Some v))) p.0,
    subst (λ (P : List (Option LinkNo)). AreListed P links sims) (sym (same_places same)) p.1,
  )

-- what was queued on a channel, or not
pub queued_link : (r : Result (Unit {0}) QueueFault) (w v : Channel) (payload : List ℕ) (next : ℕ) → OnOk r (v ≡ queued payload next w) → OnErr r (v ≡ w) → v.link ≡ w.link
queued_link (Ok done) w v payload next ok err = ap (λ (x : Channel). x.link) ok
queued_link (Err fault) w v payload next ok err = ap (λ (x : Channel). x.link) err

pub queued_set : (r : Result (Unit {0}) QueueFault) (s : ℕ) (w v : Channel) (L M : Channels) (payload : List ℕ) (next : ℕ) → OnOk r (v ≡ queued payload next w) → IsSet s w v L M → OnOk r ((x : Channel) × IsSet s x (queued payload next x) L M)
queued_set (Ok done) s w v L M payload next ok set = (w, subst (λ (x : Channel). IsSet s w x L M) ok set)
queued_set (Err fault) s w v L M payload next ok set = tt
