-- Where each simulator stands in the journal: as the journal grows, and behind each entry gone through.
use Rattle.std.proofs.Common.{◌≡◌, ◌⊎◌, inl, inr, ℕ, zero, suc, ◌+◌, ◌<◌, ◌==◌, true, List, [], ◌∷◌, ◌++◌, length, take, drop, slice_get, Option, Some, None, fold, refl, sym, ap, ◌∙◌, subst, arith, append_assoc, length-append}
use Rattle.std.proofs.lemmas.Bool.{eqb-true}
use Rattle.mk_base.specs.declared.SimNo.{SimNo}
use Rattle.mk_base.proofs.Lists.{some_same}
use Rattle.mk_plan.specs.declared.Plan.{Plan}
use Rattle.mk_plan.specs.declared.Item.{Item}
use Rattle.mk_plan.specs.declared.Message.{Message}
use Rattle.mk_plan.specs.declared.Entry.{Entry}
use Rattle.mk_plan.specs.declared.Entry.TheVariants.{Sent, Got}
use Rattle.mk_plan.specs.Plans.{first_id}
use Rattle.mk_plan.specs.Ready.{IsReady}
use Rattle.mk_plan.specs.Advance.{IsAdvance}
use Rattle.mk_plan.specs.Orderly.{IsOrderlyFrom, IsOrderlySoFar}
use Rattle.mk_plan.specs.Journals.{View, empty_view, got, note, sent, view}
use Rattle.mk_plan.specs.Sequential.{id_after}
use Rattle.mk_order.proofs.Pushing.{orderly_front}
use Rattle.mk_run_laws.proofs.Stepping.{got_here, got_away}
use Rattle.mk_resume_walk.specs.Talks.{free_items, up_to}
use Rattle.mk_resume_walk.specs.Walks.{IsFirstOwn, IsGoneTo, IsNextAt, is_of}
use Rattle.mk_resume_walk.specs.Index.{own_count}
use Rattle.mk_resume_walk.proofs.Alternating.{alternate}
use Rattle.mk_resume_walk.proofs.Passing.{walk_ends, walk_sends, walk_waits}
use Rattle.mk_resume_walk.proofs.UpTo.{free_front, up_to_all, up_to_front}
use Rattle.mk_resume_links.specs.Rests.{Counts}
use Rattle.mk_resume_links.specs.inner.Catching.{one_more}
use Rattle.mk_resume_links.proofs.Catching.{more_away, more_here}
use Rattle.mk_resume_links.proofs.Growing.{count_sent}
use Rattle.mk_resume_loop.specs.declared.behind.Standing.{Standing}
use Rattle.mk_resume_loop.specs.inner.Underway.{StandsAt}
use Rattle.mk_base.proofs.Counts.{below_or_not, same_or_not}
use Rattle.mk_base.proofs.Items.{at_length}

-- ---- lists

pub take_front : (U X : List Entry) → take (length U) (U ++ X) ≡ U
take_front [] X = refl
take_front (x ∷ U) X = ap (λ (l : List Entry). x ∷ l) (take_front U X)

more_than : (U X : List Entry) (e : Entry) → U ≡ U ++ e ∷ X → ⊥
more_than U X e is = let a : length U ≡ length U + suc (length X) = ap length is ∙ length-append U (e ∷ X) in omega (arith, a)

-- the entry behind those that were dropped
pub get_dropped : (from : ℕ) (J between later : List Entry) (e : Entry) → drop from J ≡ between ++ e ∷ later → slice_get J (from + length between) ≡ Some e
get_dropped zero J between later e is = ap (λ (k : ℕ). slice_get J k) (let n : 0 + length between ≡ length between = omega arith in n) ∙ ap (λ (l : List Entry). slice_get l (length between)) is ∙ at_length between later e
get_dropped (suc from) [] [] later e is = absurd (cc)
get_dropped (suc from) [] (x ∷ between) later e is = absurd (cc)
get_dropped (suc from) (y ∷ J) between later e is = ap (λ (k : ℕ). slice_get (y ∷ J) k) (let n : suc from + length between ≡ suc (from + length between) = omega arith in n) ∙ get_dropped from J between later e is

-- ---- the journal grows

-- who has to send a message again is behind
pub next_behind : (J : List Entry) (i n p : ℕ) → IsNextAt J i n (Some p) → n < length (got J i)
next_behind J i n p (s, m, later, own, parts, at) = elim (below_or_not n (length (got J i))) [
  | inl more ↦ more
  | inr few ↦ absurd (more_than J later (Got s m) (parts ∙ ap (λ (l : List Entry). l ++ Got s m ∷ later) (up_to_all i n J few)))
]

-- and stays where it is, whatever the journal gets
pub stands_front : (P : Plan) (J K : List Entry) (i n : ℕ) (c : Standing) → StandsAt P J i n (Some c) → StandsAt P (J ++ K) i n (Some c)
stands_front P J K i n c ((s, m, later, own, parts, at), counted, id) = (
  (
    s,
    m,
    later ++ K,
    own,
    ap (λ (l : List Entry). l ++ K) parts ∙ append_assoc (up_to i n J) (Got s m ∷ later) K ∙ ap (λ (l : List Entry). l ++ Got s m ∷ (later ++ K)) (sym front),
    ap length front ∙ at,
  ),
  ap (own_count i) (taken ∙ sym taken_first) ∙ counted,
  id ∙ ap (id_after (first_id P i)) (sym (free_front J K i n more)),
)
  where
    more : n < length (got J i)
    more = next_behind J i n c.place (s, m, later, own, parts, at)

    front : up_to i n (J ++ K) ≡ up_to i n J
    front = up_to_front i n J K more

    U : List Entry
    U = up_to i n J ++ Got s m ∷ []

    long : length U ≡ c.place + 1
    long = length-append (up_to i n J) (Got s m ∷ []) ∙ ap (λ (k : ℕ). k + 1) at

    whole : J ≡ U ++ later
    whole = parts ∙ sym (append_assoc (up_to i n J) (Got s m ∷ []) later)

    taken_first : take (c.place + 1) J ≡ U
    taken_first = ap (λ (k : ℕ). take k J) (sym long) ∙ ap (take (length U)) whole ∙ take_front U later

    taken : take (c.place + 1) (J ++ K) ≡ U
    taken = ap (λ (k : ℕ). take k (J ++ K)) (sym long) ∙ ap (λ (l : List Entry). take (length U) (l ++ K)) whole ∙ ap (take (length U)) (append_assoc U later K) ∙ take_front U (later ++ K)

-- the journal gets an item
pub stands_sent : (P : Plan) (J : List Entry) (s : SimNo) (item : Item) (i n : ℕ) (o : Option Standing) → StandsAt P J i n o → StandsAt P (J ++ Sent s item ∷ []) i n o
stands_sent P J s item i n None caught = caught ∙ sym (count_sent J s item i)
stands_sent P J s item i n (Some c) at = stands_front P J (Sent s item ∷ []) i n c at

-- the journal gets a message of a simulator that has caught up
pub stands_got : (P : Plan) (J : List Entry) (heard : Counts) (s : SimNo) (m : Message) → heard s.0 ≡ length (got J s.0) → (i : ℕ) (o : Option Standing) → StandsAt P J i (heard i) o → StandsAt P (J ++ Got s m ∷ []) i (one_more heard s.0 i) o
stands_got P J heard s m caught i o at = elim (same_or_not i s.0) [
  | inl q ↦ subst (λ (j : ℕ). StandsAt P (J ++ Got s m ∷ []) j (one_more heard s.0 j) o) (sym q) (here o (subst (λ (j : ℕ). StandsAt P J j (heard j) o) q at))
  | inr apart ↦ subst (λ (n : ℕ). StandsAt P (J ++ Got s m ∷ []) i n o) (sym (more_away heard s.0 i apart)) (away apart o at)
]
  where
    here : (o : Option Standing) → StandsAt P J s.0 (heard s.0) o → StandsAt P (J ++ Got s m ∷ []) s.0 (one_more heard s.0 s.0) o
    here None same = more_here heard s.0 ∙ ap (λ (k : ℕ). k + 1) caught ∙ sym (ap length (got_here J s m) ∙ length-append (got J s.0) (m ∷ []))
    here (Some c) stand = absurd (let low = next_behind J s.0 (heard s.0) c.place stand.0 in omega (arith, low, caught))

    away : (i ≡ s.0 → ⊥) → (o : Option Standing) → StandsAt P J i (heard i) o → StandsAt P (J ++ Got s m ∷ []) i (heard i) o
    away apart None same = same ∙ sym (ap length (got_away J s m i apart))
    away apart (Some c) stand = stands_front P J (Got s m ∷ []) i (heard i) c stand

-- ---- the next entry

-- it is the one that the index names
pub next_entry : (J : List Entry) (i from p : ℕ) (e : Entry) → (t : IsFirstOwn J i from (Some p)) → slice_get J p ≡ Some e → t.1 ≡ e
next_entry J i from p e (between, d, later, is, none, own, at) there = some_same (sym (get_dropped from J between later d is) ∙ ap (slice_get J) (sym at) ∙ there)

-- a fault stays
fault_front : (P : Plan) (V : View) (A B : List Entry) → IsOrderlyFrom IsReady IsAdvance P V (A ++ B) → (fold (note P) V (A ++ B)).fault ≡ None → (fold (note P) V A).fault ≡ None
fault_front P V [] [] h fine = fine
fault_front P V [] (e ∷ B) h fine = h.0.0
fault_front P V (e ∷ A) B h fine = fault_front P (note P V e) A B h.1 fine

module _ (P : Plan) (J : List Entry) (orderly : IsOrderlySoFar IsReady IsAdvance P J) (fine : (view P J).fault ≡ None) (i n from : ℕ) (g : IsGoneTo J i n from) where
  -- of the items gone through at most one wasn't answered
  pub at_most_one : length (sent g.gone i) ≡ n + 2 → ⊥
  at_most_one two = go (alternate P g.gone front.0 fine_front i)
    where
      whole : IsOrderlySoFar IsReady IsAdvance P (g.gone ++ g.left)
      whole = subst (IsOrderlySoFar IsReady IsAdvance P) g.parts orderly

      front : IsOrderlySoFar IsReady IsAdvance P g.gone × IsOrderlyFrom IsReady IsAdvance P (view P g.gone) g.left
      front = orderly_front IsReady IsAdvance P g.gone g.left whole

      fine_front : (view P g.gone).fault ≡ None
      fine_front = fault_front P empty_view g.gone g.left whole (sym (ap (λ (K : List Entry). (view P K).fault) g.parts) ∙ fine)

      go : (length (sent g.gone i) ≡ length (got g.gone i)) ⊎ (length (sent g.gone i) ≡ length (got g.gone i) + 1) → ⊥
      go (inl same) = let c = g.count in omega (arith, two, same, c)
      go (inr one) = let c = g.count in omega (arith, two, one, c)

own_sim : (s : SimNo) (i : ℕ) → (s.0 == i) ≡ true → s.0 ≡ i
own_sim s i own = eqb-true s.0 i own

module _ (J : List Entry) (i n from : ℕ) (g : IsGoneTo J i n from) where
  -- an item: it was gone through
  pub gone_sent : (p : ℕ) (t : SimNo) (item : Item) → IsFirstOwn J i from (Some p) → slice_get J p ≡ Some (Sent t item) → (h : IsGoneTo J i n (p + 1)) × (sent h.gone i ≡ sent g.gone i ++ item ∷ [])
  gone_sent p t item first there = go first (next_entry J i from p (Sent t item) first there)
    where
      go : (f : IsFirstOwn J i from (Some p)) → f.1 ≡ Sent t item → (h : IsGoneTo J i n (p + 1)) × (sent h.gone i ≡ sent g.gone i ++ item ∷ [])
      go (between, e, later, is, none, own, at) same =
          subst (λ (k : ℕ). (h : IsGoneTo J i n (k + 1)) × (sent h.gone i ≡ sent g.gone i ++ item ∷ [])) (sym at)
          (walk_sends i J n from g between t item later (is ∙ ap (λ (d : Entry). between ++ d ∷ later) same) none (own_sim t i (sym (ap (λ (d : Entry). is_of i d) same) ∙ own)))

  -- a message: it is the one that has to be sent again
  pub gone_got : (p : ℕ) (t : SimNo) (m : Message) → IsFirstOwn J i from (Some p) → slice_get J p ≡ Some (Got t m) → IsNextAt J i n (Some p) × (free_items J i n ≡ sent g.gone i)
  gone_got p t m first there = go first (next_entry J i from p (Got t m) first there)
    where
      go : (f : IsFirstOwn J i from (Some p)) → f.1 ≡ Got t m → IsNextAt J i n (Some p) × (free_items J i n ≡ sent g.gone i)
      go (between, e, later, is, none, own, at) same =
          subst (λ (k : ℕ). IsNextAt J i n (Some k) × (free_items J i n ≡ sent g.gone i)) (sym at)
          (walk_waits i J n from g between t m later (is ∙ ap (λ (d : Entry). between ++ d ∷ later) same) none (own_sim t i (sym (ap (λ (d : Entry). is_of i d) same) ∙ own)))

  -- none: it has caught up
  pub gone_all : IsFirstOwn J i from None → (n ≡ length (got J i)) × (free_items J i n ≡ sent g.gone i)
  gone_all none = walk_ends i J n from g none
