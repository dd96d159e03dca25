-- The message that a simulator has to send again: that it stands where it is said, and its number.
use Rattle.std.proofs.Common.{◌≡◌, ℕ, ◌+◌, ◌<◌, ◌==◌, Bool, true, false, List, [], ◌∷◌, ◌++◌, length, filter, take, slice_get, Some, None, if◌then◌else◌, refl, sym, ap, ◌∙◌, arith, append_assoc, length-append}
use Rattle.std.specs.List.{cons_option}
use Rattle.std.proofs.lemmas.Bool.{eq-eqb}
use Rattle.mk_base.specs.declared.SimNo.{SimNo}
use Rattle.mk_base.proofs.Lists.{filter_append}
use Rattle.mk_plan.specs.declared.Plan.{Plan}
use Rattle.mk_plan.specs.declared.Message.{Message}
use Rattle.mk_plan.specs.declared.Entry.{Entry}
use Rattle.mk_plan.specs.declared.Entry.TheVariants.{Sent, Got}
use Rattle.mk_plan.specs.Ready.{IsReady}
use Rattle.mk_plan.specs.Advance.{IsAdvance}
use Rattle.mk_plan.specs.Orderly.{IsOrderlySoFar}
use Rattle.mk_plan.specs.Journals.{got, sent, view}
use Rattle.mk_resume_walk.specs.Talks.{up_to}
use Rattle.mk_resume_walk.specs.Walks.{IsNextAt, is_of}
use Rattle.mk_resume_walk.specs.Index.{own_count}
use Rattle.mk_resume_walk.proofs.Fronts.{free_alternate}
use Rattle.mk_resume_walk.proofs.GoingOn.{up_to_counted}
use Rattle.mk_resume_loop.specs.declared.behind.Standing.{Standing}
use Rattle.mk_resume_loop.specs.inner.Underway.{StandsAt}
use Rattle.mk_resume_loop.proofs.Standing.{next_behind, take_front}
use Rattle.mk_base.proofs.Items.{at_length}

-- each entry of a simulator is an item or a message
count_both : (J : List Entry) (i : ℕ) → own_count i J ≡ length (sent J i) + length (got J i)
count_both [] i = refl
count_both (Sent s item ∷ J) i = go (s.0 == i) (count_both J i)
  where
    go : (b : Bool) → length (filter (is_of i) J) ≡ length (sent J i) + length (got J i)
        → length (if b then Sent s item ∷ filter (is_of i) J else filter (is_of i) J) ≡ length (cons_option (if b then Some item else None) (sent J i)) + length (got J i)
    go true h = omega (arith, h)
    go false h = h
count_both (Got s m ∷ J) i = go (s.0 == i) (count_both J i)
  where
    go : (b : Bool) → length (filter (is_of i) J) ≡ length (sent J i) + length (got J i)
        → length (if b then Got s m ∷ filter (is_of i) J else filter (is_of i) J) ≡ length (sent J i) + length (cons_option (if b then Some m else None) (got J i))
    go true h = omega (arith, h)
    go false h = h

-- the entry at its place is a message
pub entry_there : (J : List Entry) (i n p : ℕ) → IsNextAt J i n (Some p) → (x : SimNo) × (m : Message) × (slice_get J p ≡ Some (Got x m))
entry_there J i n p (s, m, later, own, parts, at) = (
  s,
  m,
  ap (slice_get J) (sym at) ∙ ap (λ (l : List Entry). slice_get l (length (up_to i n J))) parts ∙ at_length (up_to i n J) later (Got s m),
)

twice_and_two : (a s g n : ℕ) → a ≡ s + g → s ≡ n + 1 → n ≡ g → a + 1 ≡ n + n + 2
twice_and_two a s g n both one count = omega (arith, both, one, count)

-- up to and with message n, from 0, stand n + 1 items and n + 1 messages
pub next_number : (P : Plan) (J : List Entry) (i n : ℕ) (c : Standing) → IsOrderlySoFar IsReady IsAdvance P J → (view P J).fault ≡ None → StandsAt P J i n (Some c) → c.gone ≡ n + n + 2
next_number P J i n c orderly fine stand = sym stand.1 ∙ go stand.0
  where
    go : IsNextAt J i n (Some c.place) → own_count i (take (c.place + 1) J) ≡ n + n + 2
    go (s, m, later, own, parts, at) =
        let front : List Entry = up_to i n J in
        let more : n < length (got J i) = next_behind J i n c.place (s, m, later, own, parts, at) in
        let U : List Entry = front ++ Got s m ∷ [] in
        let long : length U ≡ c.place + 1 = length-append front (Got s m ∷ []) ∙ ap (λ (k : ℕ). k + 1) at in
        let taken : take (c.place + 1) J ≡ U = ap (λ (k : ℕ). take k J) (sym long) ∙ ap (take (length U)) (parts ∙ sym (append_assoc front (Got s m ∷ []) later)) ∙ take_front U later in
        ap (own_count i) taken
        ∙ ap length (filter_append (is_of i) front (Got s m ∷ []) ∙ ap (λ (b : Bool). filter (is_of i) front ++ (if b then Got s m ∷ [] else [])) (eq-eqb s.0 i own))
        ∙ length-append (filter (is_of i) front) (Got s m ∷ [])
        ∙ twice_and_two (own_count i front) (length (sent front i)) (length (got front i)) n (count_both front i) (free_alternate.one_more P J orderly fine i n more) (up_to_counted J i n more)
