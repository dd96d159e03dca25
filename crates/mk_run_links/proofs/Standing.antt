-- The turns of a crew's links, while one channel is set.
use Rattle.std.proofs.Common.{◌≡◌, ◌<◌, ℕ, arith, length, inl, inr, true, false, List, [], ◌∷◌, ◌++◌, Some, refl, sym, ap, ◌∙◌, subst, true≢false, if◌then◌else◌}
use Rattle.std.specs.List.{list_any}
use Rattle.mk_base.specs.declared.LinkNo.{LinkNo}
use Rattle.mk_base.specs.Lists.{IsIn}
use Rattle.mk_base.proofs.Lists.{some_same, in_front, in_back, some_passes}
use Rattle.mk_base.specs.Links.{same_link, without}
use Rattle.mk_base.proofs.Links.{same_number}
use Rattle.mk_poll.specs.Turning.{Turning}
use Rattle.mk_poll.specs.Links.{lifted, made_parked, made_ready, IsAdded, TakeOf}
use Rattle.mk_poll.proofs.Lifting.{in_lifted}
use Rattle.mk_outside.specs.declared.fleet.LogEntry.{LogEntry}
use Rattle.mk_session.specs.declared.answers.Heard.{Heard}
use Rattle.mk_session.specs.declared.answers.Polled.{Polled}
use Rattle.mk_session.specs.declared.answers.Polled.TheVariants as polled
use Rattle.mk_run_laws.specs.Channels.{Channel, queued}
use Rattle.mk_run_links.specs.inner.OneChannel.{PollsAt, unparked}
use Rattle.mk_run_links.specs.Places.{Channels, IsSet, at}
use Rattle.mk_run_links.specs.inner.Standing.{HasTurn, AreApart, StandsBut, HaveTurns}
use Rattle.mk_base.proofs.Counts.{not_same, same_or_not}
use Rattle.mk_launch.proofs.Placing.{without_itself}

-- where one channel is set, each channel was on its link before
pub set_back : (s : ℕ) (w v : Channel) (L M : Channels) → IsSet s w v L M → v.link ≡ w.link → (i : ℕ) (u : Channel) → at M i ≡ Some u → (o : Channel) × (at L i ≡ Some o) × (u.link ≡ o.link)
set_back s w v L M set same i u e = elim (same_or_not i s) [
  | inl q ↦ (w, subst (λ (j : ℕ). at L j ≡ Some w) (sym q) set.there, ap (λ (x : Channel). x.link) (some_same (sym e ∙ ap (at M) q ∙ set.here)) ∙ same)
  | inr apart ↦ (u, sym (set.others i apart) ∙ e, refl)
]

apart_set : (s : ℕ) (w v : Channel) (L M : Channels) → IsSet s w v L M → v.link ≡ w.link → AreApart L → AreApart M
apart_set s w v L M set same apart i j x y ex ey e =
    let a = set_back s w v L M set same i x ex in
    let b = set_back s w v L M set same j y ey in
    apart i j a.0 b.0 a.1 b.1 (sym (ap (λ (l : LinkNo). l.0) a.2) ∙ e ∙ ap (λ (l : LinkNo). l.0) b.2)

-- a channel is set, and the turns are left
pub changed : (s : ℕ) (w v : Channel) (L M : Channels) (t : Turning) → HaveTurns L t → IsSet s w v L M → v.link ≡ w.link → StandsBut s M t
changed s w v L M t st set same = record {
  apart = apart_set s w v L M set same st.apart;
  turned = λ i u apart e. st.turned i u (sym (set.others i apart) ∙ e);
  none_taken = st.none_taken;
}

still : (s : ℕ) (w : Channel) (L : Channels) (t : Turning) (l : LinkNo) (rest : List LinkNo) → HaveTurns L t → t.ready ≡ l ∷ rest → ((i : ℕ) (u : Channel) → (i ≡ s → ⊥) → at L i ≡ Some u → u.link ≡ l → ⊥)
    → (i : ℕ) (u : Channel) → (i ≡ s → ⊥) → at L i ≡ Some u → HasTurn (record { ready = rest; taken = []; parked = t.parked ++ l ∷ [] }) u
still s w L t l rest st first none i u apart e = elim (st.turned i u e) [
  | inl ready ↦ behind (subst (λ (xs : List LinkNo). IsIn u.link xs) first ready)
  | inr parked ↦ inr (parked.0, in_front u.link t.parked (l ∷ []) parked.1)
]
  where
    behind : IsIn u.link (l ∷ rest) → HasTurn (record { ready = rest; taken = []; parked = t.parked ++ l ∷ [] }) u
    behind (inl here) = absurd (none i u apart e here)
    behind (inr there) = inl there

-- the first ready link was taken and parked, and its channel was set
pub taken_parked : (s : ℕ) (w v : Channel) (L M : Channels) (t u : Turning) (l : LinkNo) (rest : List LinkNo) → HaveTurns L t → t.ready ≡ l ∷ rest → u ≡ record { ready = rest; taken = t.taken ++ l ∷ []; parked = t.parked } → IsSet s w v L M → w.link ≡ l → v.link ≡ w.link
    → StandsBut s M (made_parked l u)
taken_parked s w v L M t u l rest st first is set on same = subst (λ (x : Turning). StandsBut s M (made_parked l x)) (sym is) (record {
  apart = apart_set s w v L M set same st.apart;
  turned = λ i x apart e. still s w L t l rest st first (λ j y away there link. away (st.apart j s y w there set.there (ap (λ (k : LinkNo). k.0) (link ∙ sym on)))) i x apart (sym (set.others i apart) ∙ e);
  none_taken = ap (λ (xs : List LinkNo). without l (xs ++ l ∷ [])) st.none_taken ∙ without_itself l;
})

-- the first ready link was taken and parked, and no channel is on it
pub stray_parked : (L : Channels) (t u : Turning) (l : LinkNo) (rest : List LinkNo) → HaveTurns L t → t.ready ≡ l ∷ rest → u ≡ record { ready = rest; taken = t.taken ++ l ∷ []; parked = t.parked } → ((i : ℕ) (w : Channel) → at L i ≡ Some w → w.link ≡ l → ⊥)
    → HaveTurns L (made_parked l u)
stray_parked L t u l rest st first is none = subst (λ (x : Turning). HaveTurns L (made_parked l x)) (sym is) (record {
  apart = st.apart;
  turned = λ i x e. elim (st.turned i x e) [
    | inl ready ↦ behind i x e (subst (λ (xs : List LinkNo). IsIn x.link xs) first ready)
    | inr parked ↦ inr (parked.0, in_front x.link t.parked (l ∷ []) parked.1)
  ];
  none_taken = ap (λ (xs : List LinkNo). without l (xs ++ l ∷ [])) st.none_taken ∙ without_itself l;
})
  where
    behind : (i : ℕ) (x : Channel) → at L i ≡ Some x → IsIn x.link (l ∷ rest) → HasTurn (record { ready = rest; taken = []; parked = t.parked ++ l ∷ [] }) x
    behind i x e (inl here) = absurd (none i x e here)
    behind i x e (inr there) = inl there

-- the channel that was left out has its turn too
pub all_stand : (s : ℕ) (v : Channel) (M : Channels) (t : Turning) → StandsBut s M t → at M s ≡ Some v → HasTurn t v → HaveTurns M t
all_stand s v M t but here turn = record {
  apart = but.apart;
  turned = λ i u e. elim (same_or_not i s) [
    | inl q ↦ subst (λ (x : Channel). HasTurn t x) (some_same (sym here ∙ sym (ap (at M) q) ∙ e)) turn
    | inr apart ↦ but.turned i u apart e
  ];
  none_taken = but.none_taken;
}

-- its link is made ready
pub ready_stand : (s : ℕ) (v : Channel) (M : Channels) (t : Turning) (l : LinkNo) → StandsBut s M t → at M s ≡ Some v → v.link ≡ l → HaveTurns M (made_ready l t)
ready_stand s v M t l but here on = elim (list_any (λ (other : LinkNo). same_link other l) t.ready) as (λ b. list_any (λ (other : LinkNo). same_link other l) t.ready ≡ b → HaveTurns M (if b then t else moved)) [
  | true ↦ λ e. all_stand s v M t but here (inl (subst (λ (k : LinkNo). IsIn k t.ready) (sym on) (there e)))
  | false ↦ λ e. all_stand s v M moved (record {
    apart = but.apart;
    turned = λ i u apart a. goes_on u (but.turned i u apart a);
    none_taken = ap (without l) but.none_taken;
  }) here (inl (subst (λ (k : LinkNo). IsIn k (t.ready ++ l ∷ [])) (sym on) (in_back l t.ready (l ∷ []) (inl refl))))
] refl
  where
    moved : Turning
    moved = record { ready = t.ready ++ l ∷ []; taken = without l t.taken; parked = lifted l t.parked }

    there : list_any (λ (other : LinkNo). same_link other l) t.ready ≡ true → IsIn l t.ready
    there e =
        let p = some_passes (λ (other : LinkNo). same_link other l) t.ready e in
        elim (same_or_not (p.0).0 l.0) [
          | inl q ↦ subst (λ (k : LinkNo). IsIn k t.ready) (same_number p.0 l q) p.1
          | inr apart ↦ absurd (true≢false (sym p.2 ∙ not_same (p.0).0 l.0 apart))
        ]

    goes_on : (u : Channel) → HasTurn t u → HasTurn moved u
    goes_on u (inl ready) = inl (in_front u.link t.ready (l ∷ []) ready)
    goes_on u (inr parked) = elim (same_or_not (u.link).0 l.0) [
      | inl q ↦ inl (in_back u.link t.ready (l ∷ []) (inl (same_number u.link l q)))
      | inr apart ↦ inr (parked.0, in_lifted u.link l t.parked parked.1 (not_same (u.link).0 l.0 apart))
    ]

-- ---- the calls

-- simulator s has a channel on this link
abbrev IsAt : ℕ → Channels → LinkNo → Type 0
IsAt s L l = (w : Channel) × (at L s ≡ Some w) × (w.link ≡ l)

pub sent_stands : (s : ℕ) (L M : Channels) (t u : Turning) (l : LinkNo) (payload : List ℕ) (next : ℕ) → HaveTurns L t → IsAt s L l → ((w : Channel) × IsSet s w (queued payload next w) L M) → u ≡ made_ready l t → HaveTurns M u
sent_stands s L M t u l payload next st on set is =
    let same : (set.0).link ≡ l = ap (λ (x : Channel). x.link) (some_same (sym set.1.there ∙ on.1)) ∙ on.2 in
    subst (HaveTurns M) (sym is) (ready_stand s (queued payload next set.0) M t l (changed s set.0 (queued payload next set.0) L M t st set.1 refl) set.1.here same)

polled_but : (answer : Polled) (s : ℕ) (L M : Channels) (t u : Turning) (l : LinkNo) (entries : List LogEntry) → HaveTurns L t → TakeOf t (Some l) u → IsAt s L l → (p : PollsAt answer s L entries M) → StandsBut s M (made_parked l u) × ((p.after).link ≡ l)
polled_but answer s L M t u l entries st taken on p =
    let same : (p.channel).link ≡ l = ap (λ (x : Channel). x.link) (some_same (sym p.set.there ∙ on.1)) ∙ on.2 in
    (taken_parked s p.channel p.after L M t u l taken.0 st taken.1 taken.2 p.set same p.polled.moved.link, p.polled.moved.link ∙ same)

pub parked_stands : (s : ℕ) (L M : Channels) (t u x : Turning) (l : LinkNo) (entries : List LogEntry) → HaveTurns L t → TakeOf t (Some l) u → IsAt s L l → PollsAt polled.Pending s L entries M → x ≡ made_parked l u → HaveTurns M x
parked_stands s L M t u x l entries st taken on p is =
    let but = polled_but polled.Pending s L M t u l entries st taken on p in
    subst (HaveTurns M) (sym is) (all_stand s p.after M (made_parked l u) but.0 p.set.here (inr (p.polled.parked, subst (λ (k : LinkNo). IsIn k (u.parked ++ l ∷ [])) (sym but.1) (in_back l u.parked (l ∷ []) (inl refl)))))

pub heard_stands : (h : Heard) (s : ℕ) (L M : Channels) (t u x y : Turning) (l : LinkNo) (entries : List LogEntry) → HaveTurns L t → TakeOf t (Some l) u → IsAt s L l → PollsAt (polled.Ready h) s L entries M → x ≡ made_parked l u → y ≡ made_ready l x → HaveTurns M y
heard_stands h s L M t u x y l entries st taken on p is and =
    let but = polled_but (polled.Ready h) s L M t u l entries st taken on p in
    subst (HaveTurns M) (sym (and ∙ ap (made_ready l) is)) (ready_stand s p.after M (made_parked l u) l but.0 p.set.here but.1)

pub stray_stands : (L : Channels) (t u x : Turning) (l : LinkNo) → HaveTurns L t → TakeOf t (Some l) u → ((i : ℕ) (w : Channel) → at L i ≡ Some w → w.link ≡ l → ⊥) → x ≡ made_parked l u → HaveTurns L x
stray_stands L t u x l st taken none is = subst (HaveTurns L) (sym is) (stray_parked L t u l taken.0 st taken.1 taken.2 none)

pub parked_added : (u x : Turning) (l : LinkNo) → x ≡ made_parked l u → IsAdded l x
parked_added u x l is = subst (IsAdded l) (sym is) (inr (inr (in_back l u.parked (l ∷ []) (inl refl))))

-- where the first ready link was taken and parked, one fewer is ready
pub one_fewer : (t u x : Turning) (l : LinkNo) → TakeOf t (Some l) u → x ≡ made_parked l u → length x.ready < length t.ready
one_fewer t u x l taken is =
    let after : x.ready ≡ taken.0 = ap (λ (y : Turning). y.ready) is ∙ ap (λ (y : Turning). y.ready) taken.2 in
    omega (arith, ap length after, ap length taken.1)

pub woken_stands : (s : ℕ) (L M : Channels) (t u : Turning) (l : LinkNo) → HaveTurns L t → IsAt s L l → ((w : Channel) × IsSet s w (unparked w) L M) → u ≡ made_ready l t → HaveTurns M u
woken_stands s L M t u l st on set is =
    let same : (set.0).link ≡ l = ap (λ (x : Channel). x.link) (some_same (sym set.1.there ∙ on.1)) ∙ on.2 in
    subst (HaveTurns M) (sym is) (ready_stand s (unparked set.0) M t l (changed s set.0 (unparked set.0) L M t st set.1 refl) set.1.here same)
