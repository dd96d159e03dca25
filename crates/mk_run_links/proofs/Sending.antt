-- An item that is queued, with its id.
use Rattle.std.proofs.Common.{◌≡◌, ℕ, List, [], ◌∷◌, length, Some, refl, sym, ap, ◌∙◌, subst}
use Rattle.mk_base.proofs.Lists.{some_same}
use Rattle.mk_plan.specs.declared.Item.{Item}
use Rattle.mk_plan.specs.Sequential.{id_after}
use Rattle.mk_message.specs.Written.{item_text}
use Rattle.mk_run_laws.specs.Channels.{Channel, queued}
use Rattle.mk_run_laws.specs.Crews.{IsSentOnLink}
use Rattle.mk_run_laws.specs.Payloads.{IsFramed}
use Rattle.mk_run_links.specs.Crews.{IsLengthOf}
use Rattle.mk_run_links.specs.Places.{Channels, IsSet, at, crew}

pub sent_on_link : (s : ℕ) (item : Item) (id next : ℕ) (payload : List ℕ) (L M : Channels) → ((w : Channel) × (at L s ≡ Some w) × (w.next ≡ id)) → next ≡ id_after id (item ∷ []) → payload ≡ item_text id item → ((w : Channel) × IsSet s w (queued payload next w) L M) → IsFramed payload
    → (w : Channel) × (at L s ≡ Some w) × IsSentOnLink s item w.next (crew L) (crew M)
sent_on_link s item id next payload L M here behind text set one =
    let w = set.0 in
    let same : id ≡ w.next = sym here.2 ∙ ap (λ (x : Channel). x.next) (some_same (sym here.1 ∙ set.1.there)) in (
      w,
      set.1.there,
      record {
        channel = w;
        there = set.1.there;
        here = set.1.here ∙ ap (λ (p : List ℕ). Some (queued p next w)) (text ∙ ap (λ (n : ℕ). item_text n item) same)
            ∙ ap (λ (n : ℕ). Some (queued (item_text w.next item) n w)) (behind ∙ ap (λ (n : ℕ). id_after n (item ∷ [])) same);
        framed = subst IsFramed (text ∙ ap (λ (n : ℕ). item_text n item) same) one;
        others = set.1.others;
        kept = refl;
      },
    )

pub length_of : (n s : ℕ) (item : Item) (id : ℕ) (payload : List ℕ) (L : Channels) → ((w : Channel) × (at L s ≡ Some w) × (w.next ≡ id)) → payload ≡ item_text id item → n ≡ length payload → IsLengthOf n item s L
length_of n s item id payload L here text is = (here.0, here.1, is ∙ ap length text ∙ ap (λ (k : ℕ). length (item_text k item)) (sym here.2))
