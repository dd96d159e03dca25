-- How showings go on.
use Rattle.std.proofs.Common.{◌≡◌, ℕ, Bool, List, [], ◌∷◌, ◌++◌, length, refl, sym, ap, ◌∙◌, subst, append_assoc}
use Rattle.std.specs.Prelude.{drop, flat_map, take}
use Rattle.std.proofs.Math.Seq.{drop-append_seam}
use Rattle.std.proofs.lemmas.List.{take-append-drop}
use Rattle.mk_base.specs.declared.SimNo.{SimNo}
use Rattle.mk_base.specs.Lists.{Each}
use Rattle.mk_base.proofs.Items.{each_append}
use Rattle.mk_base.proofs.Lists.{append_nil, flat_map_append, filter_map_append}
use Rattle.mk_plan.specs.declared.Plan.{Plan}
use Rattle.mk_plan.specs.declared.Message.{Message}
use Rattle.mk_plan.specs.declared.Entry.{Entry}
use Rattle.mk_plan.specs.declared.Entry.TheVariants.{Got, Sent}
use Rattle.mk_plan.specs.Journals.{arrivals, arrival_of}
use Rattle.mk_onlooker.specs.Showings.{AddsBatch, AddsItems, AreInRange, IsBatch, IsShown, IsShownOn, Saw}

-- ---- items and batches

pub no_items : (J : List Entry) → AddsItems J J
no_items J = ([], sym (append_nil J), refl)

none_heard : (xs ys : List Entry) → arrivals xs ≡ [] → arrivals ys ≡ [] → arrivals (xs ++ ys) ≡ []
none_heard xs ys a b = filter_map_append arrival_of xs ys ∙ ap (λ l. l ++ arrivals ys) a ∙ b

pub items_more : (J K L : List Entry) → AddsItems J K → AddsItems K L → AddsItems J L
items_more J K L one two = (one.0 ++ two.0, two.1 ∙ ap (λ l. l ++ two.0) one.1 ∙ append_assoc J one.0 two.0, none_heard one.0 two.0 one.2 two.2)

rest_unheard : (xs : List Entry) → arrivals xs ≡ [] → IsBatch xs
rest_unheard [] e = refl
rest_unheard (Sent s item ∷ xs) e = e
rest_unheard (Got s m ∷ xs) e = cc

pub items_batch : (J K : List Entry) → AddsItems J K → AddsBatch J K
items_batch J K a = (a.0, a.1, rest_unheard a.0 a.2)

batch_and : (xs ys : List Entry) → IsBatch xs → arrivals ys ≡ [] → IsBatch (xs ++ ys)
batch_and [] ys e f = rest_unheard ys f
batch_and (x ∷ xs) ys e f = none_heard xs ys e f

-- what is sent behind a batch belongs to it
pub batch_more : (J K L : List Entry) → AddsBatch J K → AddsItems K L → AddsBatch J L
batch_more J K L one two = (one.0 ++ two.0, two.1 ∙ ap (λ l. l ++ two.0) one.1 ∙ append_assoc J one.0 two.0, batch_and one.0 two.0 one.2 two.2)

-- a message begins one
pub one_heard : (J K : List Entry) (s : SimNo) (m : Message) → K ≡ J ++ Got s m ∷ [] → AddsBatch J K
one_heard J K s m e = (Got s m ∷ [], e, refl)

-- ---- what stands behind a place

pub in_range_from : (n : ℕ) (J : List Entry) → AreInRange J → AreInRange (drop n J)
in_range_from n J all H s m more e = all (take n J ++ H) s m more (sym (take-append-drop n J) ∙ ap (λ l. take n J ++ l) e ∙ sym (append_assoc (take n J) H (Got s m ∷ more)))

pub fresh_is : (J K fresh : List Entry) → K ≡ J ++ fresh → drop (length J) K ≡ fresh
fresh_is J K fresh e = ap (drop (length J)) e ∙ drop-append_seam J fresh

-- ---- showings

module _ {O : Type 0} (looks : O → Plan → List Entry → Bool → O → Type 0) (P : Plan) (pause : Bool) where
  -- all that is there is shown at once
  pub shown_first : (had J : List Entry) (old new : O) → AddsItems had J → looks old P (drop 0 J) pause new → IsShown looks P pause had J old new
  shown_first had J old new a look = record {
    items = a.0;
    unheard = a.2;
    batches = [];
    each = tt;
    all = a.1 ∙ sym (append_nil (had ++ a.0));
    saw = (new, subst (λ l. looks old P l pause new) a.1 look, refl);
  }

  saw_on : (batches : List (List Entry)) (batch : List Entry) (old mid new : O) → Saw looks P pause batches old mid → looks mid P batch pause new → Saw looks P pause (batches ++ batch ∷ []) old new
  saw_on [] batch old mid new e look = (new, subst (λ (o : O). looks o P batch pause new) e look, refl)
  saw_on (b ∷ bs) batch old mid new t look = (t.0, t.1, saw_on bs batch t.0 mid new t.2 look)

  -- and then what has come since
  pub shown_on : (had J K : List Entry) (old mid new : O) → IsShown looks P pause had J old mid → AddsBatch J K → looks mid P (drop (length J) K) pause new → IsShown looks P pause had K old new
  shown_on had J K old mid new shown a look = record {
    items = shown.items;
    unheard = shown.unheard;
    batches = shown.batches ++ a.0 ∷ [];
    each = each_append IsBatch shown.batches (a.0 ∷ []) shown.each (a.2, tt);
    all = a.1 ∙ ap (λ l. l ++ a.0) shown.all ∙ append_assoc (had ++ shown.items) (flat_map (λ batch. batch) shown.batches) a.0
        ∙ ap (λ l. (had ++ shown.items) ++ (flat_map (λ batch. batch) shown.batches ++ l)) (sym (append_nil a.0))
        ∙ ap (λ l. (had ++ shown.items) ++ l) (sym (flat_map_append (λ batch. batch) shown.batches (a.0 ∷ [])));
    saw = saw_on ((had ++ shown.items) ∷ shown.batches) a.0 old mid new shown.saw (subst (λ l. looks mid P l pause new) (fresh_is J K a.0 a.1) look);
  }

  -- ---- from a place on

  pub none_shown : (J : List Entry) (o : O) → IsShownOn looks P pause J J o o
  none_shown J o = record { batches = []; each = tt; all = sym (append_nil J); saw = refl }

  pub shows_on : (H J K : List Entry) (old mid new : O) → IsShownOn looks P pause H J old mid → AddsBatch J K → looks mid P (drop (length J) K) pause new → IsShownOn looks P pause H K old new
  shows_on H J K old mid new shown a look = record {
    batches = shown.batches ++ a.0 ∷ [];
    each = each_append IsBatch shown.batches (a.0 ∷ []) shown.each (a.2, tt);
    all = a.1 ∙ ap (λ l. l ++ a.0) shown.all ∙ append_assoc H (flat_map (λ batch. batch) shown.batches) a.0
        ∙ ap (λ l. H ++ (flat_map (λ batch. batch) shown.batches ++ l)) (sym (append_nil a.0))
        ∙ ap (λ l. H ++ l) (sym (flat_map_append (λ batch. batch) shown.batches (a.0 ∷ [])));
    saw = saw_on shown.batches a.0 old mid new shown.saw (subst (λ l. looks mid P l pause new) (fresh_is J K a.0 a.1) look);
  }

  -- all that was there at first, and then the rest
  pub shown_then : (had J K : List Entry) (old mid new : O) → AddsItems had J → looks old P (drop 0 J) pause mid → IsShownOn looks P pause J K mid new → IsShown looks P pause had K old new
  shown_then had J K old mid new a look shown = record {
    items = a.0;
    unheard = a.2;
    batches = shown.batches;
    each = shown.each;
    all = shown.all ∙ ap (λ l. l ++ flat_map (λ batch. batch) shown.batches) a.1;
    saw = (mid, subst (λ l. looks old P l pause mid) a.1 look, shown.saw);
  }
