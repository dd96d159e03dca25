-- A simulator that has no messages left ends no turn any more, whether a turn of it is open or not.
use Rattle.std.proofs.Common.{◌≡◌, ℕ, List, [], ◌∷◌, ◌++◌, refl, ap, sym, ◌∙◌, subst, append_assoc}
use Rattle.std.specs.Prelude.{false, Option, Some, None}
use Rattle.mk_order_any.specs.Parts.{Parts, Every, Prefix, seq, View, Turn, Reached, heard_of, rest, used, whole, talk_of}
use Rattle.mk_order_any.specs.Laws.{Laws}
use Rattle.mk_order_any.proofs.Lists.{cancel}
use Rattle.mk_order_any.proofs.Reading.{not_whole}
use Rattle.mk_order_any.proofs.ActLists.{rest_cut, rest_whole}
use Rattle.mk_order_any.proofs.Folding.{made_by}
use Rattle.mk_order_any.proofs.Bounds.{silent_of}
use Rattle.mk_order_any.proofs.Invariant.{Agreeing, Opened, begun_of, heard_open, heard_closed, invariant_holds}

module _ (P : Parts) (L : Laws P) where
  open P use {Tier, Message, Place, Act, at, ended, begin, told, step}

  module _ (V : View P) (reached : Reached P V) (R : ℕ → List Message) (cont : (i : ℕ) → Prefix (heard_of P V i) (R i)) where
    -- what is known of the acts of sequential execution over R
    pub known : Agreeing P L (seq P R) V.acts V.open_at
    known = (invariant_holds P L V reached).agreeing R cont

    -- an act ends where its turn is whole
    made_ended : (z : ℕ) (K : List Act) (u : Act) (M : List Act) → seq P R z ≡ K ++ u ∷ M → ended u ≡ whole P z (begin z (at u) K) (rest P K (R z))
    made_ended z K u M parts =
        let o : Place = begin z (at u) K in
        let ms : List Message = rest P K (R z) in
        ap ended (made_by P L R z K u M parts).1 ∙ L.ended_mk (at u) (used P z o ms) (whole P z o ms) (told (step (seq P R) z (at u) K) ∷ talk_of P (seq P R) z (at u) o (used P z o ms))

    -- after an act that didn't end, none does
    cut_on : (z : ℕ) (K : List Act) (f : Act) → ended f ≡ false → (front back : List Act) → seq P R z ≡ K ++ f ∷ (front ++ back) → Every (λ u. ended u ≡ false) back
    cut_on z K f cut front [] is = tt
    cut_on z K f cut front (u ∷ back) is =
        let parts : seq P R z ≡ (K ++ f ∷ front) ++ u ∷ back = is ∙ sym (append_assoc K (f ∷ front) (u ∷ back)) in
        let one : ended u ≡ false = made_ended z (K ++ f ∷ front) u back parts ∙ ap (λ l. whole P z (begin z (at u) (K ++ f ∷ front)) l) (rest_cut P K f front (R z) cut) in
        (one, cut_on z K f cut (front ++ u ∷ []) back (is ∙ ap (λ l. K ++ f ∷ l) (sym (append_assoc front (u ∷ []) back))))

    -- the open turn of a simulator whose list ends in it is cut, and so are all that follow
    silent_open : (z : ℕ) (T : Turn P) → V.open_at z ≡ Some T → R z ≡ heard_of P V z → Every (λ u. ended u ≡ false) (known.known z).0
    silent_open z T is over =
        let K : List Act = V.acts z in
        let o : Opened P L (seq P R) K z T = known.opened z T is in
        let same : o.first ∷ o.back ≡ (known.known z).0 = cancel K (o.first ∷ o.back) (known.known z).0 (sym o.parts ∙ (known.known z).1) in
        let left : rest P K (R z) ≡ T.messages = ap (λ r. rest P K r) (over ∙ heard_open P L V z T is) ∙ rest_whole P K T.messages ((invariant_holds P L V reached).shape.whole_acts z) in
        let cut : ended o.first ≡ false = made_ended z K o.first o.back o.parts ∙ (λ i. whole P z (begin z (o.begun i) K) (left i)) ∙ not_whole P z (begin z T.when K) T.place T.messages ((invariant_holds P L V reached).shape.reads z T is) in
        subst (λ (l : List Act). Every (λ u. ended u ≡ false) l) same (cut, cut_on z K o.first cut [] o.back o.parts)

    -- whether a turn is open or not
    pub silent : (z : ℕ) → R z ≡ heard_of P V z → Every (λ u. ended u ≡ false) (known.known z).0
    silent z over = go (V.open_at z) refl
      where
        go : (o : Option (Turn P)) → V.open_at z ≡ o → Every (λ u. ended u ≡ false) (known.known z).0
        go None is = silent_of P L R V (λ i. (known.known i).0) (λ i. (known.known i).1) (begun_of P L R V known) z (over ∙ heard_closed P L V z is)
        go (Some T) is = silent_open z T is over
