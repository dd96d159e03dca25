-- What the queue's calls say, in the words of the view's half.
use Rattle.std.proofs.Common.{◌≡◌, Bool, true, false, not, ◌||◌, List, [], ◌∷◌, Option, Some, None, filter, refl, sym, ap, ◌∙◌, subst, ◌⊎◌, inl, inr, true≢false, if◌then◌else◌}
use Rattle.mk_base.specs.declared.tier.Tier.{Tier}
use Rattle.mk_base.specs.Lists.{IsIn, Each}
use Rattle.mk_base.specs.Tiers.{up_to, before, IsUpTo, IsBefore}
use Rattle.mk_base.proofs.Lists.{in_map, map_in, in_filter, filter_in}
use Rattle.mk_base.proofs.TierOrder.{up_to_antisym, up_to_self, up_to_total}
use Rattle.mk_nextstep.specs.declared.queue.Due.{Due}
use Rattle.mk_nextstep.specs.Queues.{time_of, trigger_times, added, least, later, first_after, least_trigger_after}
use Rattle.mk_nextstep.specs.inner.Queues.{AllAfter, IsRising, itself}
use Rattle.mk_nextstep.proofs.Queues.{triggers_rise}
use Rattle.mk_sched_agenda.specs.Mirrors.{flag_of}
use Rattle.mk_order.proofs.Queues.{before_is, is_before, IsAdded, IsAfter, IsLeast, IsLeastFlagged, no_flag, has_flag, first_is_least, empty_has_none, rest_is_after}
use Rattle.mk_order.specs.Pending.{HasFlagged}
use Rattle.mk_base.proofs.Bools.{or_second}

or_true : (b c : Bool) → (b || c) ≡ true → (c ≡ true) ⊎ (b ≡ true)
or_true true c h = inr refl
or_true false c h = inl h

or_this : (b c : Bool) → b ≡ true → (b || c) ≡ true
or_this b c h = ap (λ (a : Bool). a || c) h

not_before : (x y : Tier) → before x y ≡ false → IsUpTo y x
not_before x y h = go (up_to y x) refl h
  where
    go : (b : Bool) → up_to y x ≡ b → not b ≡ false → up_to y x ≡ true
    go true e h = e
    go false e h = absurd (true≢false h)

module _ (b : Bool) (x : Tier) where
  record IsFrom (ds : List Due) (e : Due) : Type 0 where
    old : Due
    there : IsIn old ds
    at : old.at ≡ e.at
    on : e.triggered ≡ true → (old.triggered ≡ true) ⊎ ((e.at ≡ x) × (b ≡ true))

  -- what the tests of `added` say
  by_tests : (C : List Due → Type 0) (d : Due) (ds : List Due) → (before d.at x ≡ true → C (d ∷ added b x ds)) → C ((let e : Due = record { at = x; triggered = b } in e) ∷ d ∷ ds)
      → (d.at ≡ x → C ((let e : Due = record { at = d.at; triggered = b || d.triggered } in e) ∷ ds)) → C (added b x (d ∷ ds))
  by_tests C d ds first second third = go (before d.at x) refl (before x d.at) refl
    where
      go : (p : Bool) → before d.at x ≡ p → (q : Bool) → before x d.at ≡ q → C (if p then d ∷ added b x ds else if q then (let e : Due = record { at = x; triggered = b } in e) ∷ d ∷ ds else (let e : Due = record { at = d.at; triggered = b || d.triggered } in e) ∷ ds)
      go true e q f = first e
      go false e true f = second
      go false e false f = third (up_to_antisym d.at x (not_before x d.at f) (not_before d.at x e))

  froms : (ds : List Due) (e : Due) → IsIn e (added b x ds) → IsFrom ds e ⊎ ((e.at ≡ x) × (e.triggered ≡ b))
  froms [] e (inl q) = inr (ap (λ (d : Due). d.at) q, ap (λ (d : Due). d.triggered) q)
  froms [] e (inr m) = absurd m
  froms (d ∷ ds) e m = by_tests (λ l. IsIn e l → IsFrom (d ∷ ds) e ⊎ ((e.at ≡ x) × (e.triggered ≡ b))) d ds (λ _ k. first (froms ds e) k) second third m
    where
      first : (IsIn e (added b x ds) → IsFrom ds e ⊎ ((e.at ≡ x) × (e.triggered ≡ b))) → IsIn e (d ∷ added b x ds) → IsFrom (d ∷ ds) e ⊎ ((e.at ≡ x) × (e.triggered ≡ b))
      first more (inl q) = inl (record { old = d; there = inl refl; at = ap (λ (d : Due). d.at) (sym q); on = λ h. inl (ap (λ (d : Due). d.triggered) (sym q) ∙ h) })
      first more (inr k) = elim (more k) [ inl f ↦ inl (record { old = f.old; there = inr f.there; at = f.at; on = f.on }) | inr n ↦ inr n ]

      second : IsIn e ((let e : Due = record { at = x; triggered = b } in e) ∷ d ∷ ds) → IsFrom (d ∷ ds) e ⊎ ((e.at ≡ x) × (e.triggered ≡ b))
      second (inl q) = inr (ap (λ (d : Due). d.at) q, ap (λ (d : Due). d.triggered) q)
      second (inr k) = inl (record { old = e; there = k; at = refl; on = λ h. inl h })

      third : d.at ≡ x → IsIn e ((let e : Due = record { at = d.at; triggered = b || d.triggered } in e) ∷ ds) → IsFrom (d ∷ ds) e ⊎ ((e.at ≡ x) × (e.triggered ≡ b))
      third same (inl q) = inl (record {
        old = d;
        there = inl refl;
        at = ap (λ (d : Due). d.at) (sym q);
        on = λ h. elim (or_true b d.triggered (ap (λ (d : Due). d.triggered) (sym q) ∙ h)) [ inl o ↦ inl o | inr n ↦ inr (ap (λ (d : Due). d.at) q ∙ same, n) ];
      })
      third same (inr k) = inl (record { old = e; there = inr k; at = refl; on = λ h. inl h })

  tos : (ds : List Due) (g : Due) → IsIn g ds → (e : Due) × IsIn e (added b x ds) × (e.at ≡ g.at) × (g.triggered ≡ true → e.triggered ≡ true)
  tos [] g m = absurd m
  tos (d ∷ ds) g m = by_tests (λ l. (e : Due) × IsIn e l × (e.at ≡ g.at) × (g.triggered ≡ true → e.triggered ≡ true)) d ds (λ _. first (tos ds g) m) (g, inr m, refl, λ h. h) (λ _. third m)
    where
      first : (IsIn g ds → (e : Due) × IsIn e (added b x ds) × (e.at ≡ g.at) × (g.triggered ≡ true → e.triggered ≡ true)) → IsIn g (d ∷ ds) → (e : Due) × IsIn e (d ∷ added b x ds) × (e.at ≡ g.at) × (g.triggered ≡ true → e.triggered ≡ true)
      first more (inl q) = (g, inl q, refl, λ h. h)
      first more (inr k) = let t = more k in (t.0, inr t.1, t.2, t.3)

      third : IsIn g (d ∷ ds) → (e : Due) × IsIn e ((let e : Due = record { at = d.at; triggered = b || d.triggered } in e) ∷ ds) × (e.at ≡ g.at) × (g.triggered ≡ true → e.triggered ≡ true)
      third (inl q) = (record { at = d.at; triggered = b || d.triggered }, inl refl, ap (λ (d : Due). d.at) (sym q), λ h. or_second b d.triggered (ap (λ (d : Due). d.triggered) (sym q) ∙ h))
      third (inr k) = (g, inr k, refl, λ h. h)

  heres : (ds : List Due) → (e : Due) × IsIn e (added b x ds) × (e.at ≡ x) × (b ≡ true → e.triggered ≡ true)
  heres [] = (record { at = x; triggered = b }, inl refl, refl, λ h. h)
  heres (d ∷ ds) = by_tests (λ l. (e : Due) × IsIn e l × (e.at ≡ x) × (b ≡ true → e.triggered ≡ true)) d ds (λ _. let t = heres ds in (t.0, inr t.1, t.2, t.3))
      (record { at = x; triggered = b }, inl refl, refl, λ h. h) (λ same. (record { at = d.at; triggered = b || d.triggered }, inl refl, same, λ h. or_this b d.triggered h))

  -- `added` adds
  pub added_is : (ds : List Due) → IsAdded time_of flag_of b x ds (added b x ds)
  added_is ds = record {
    only = λ y h. elim (froms ds h.item h.there) [ inl f ↦ inl (record { item = f.old; there = f.there; at = f.at ∙ h.at }) | inr n ↦ inr (sym h.at ∙ n.0) ];
    old = λ y h. let t = tos ds h.item h.there in record { item = t.0; there = t.1; at = t.2 ∙ h.at };
    new = let t = heres ds in record { item = t.0; there = t.1; at = t.2 };
    flags = λ y h. elim (froms ds h.item h.there) [
      | inl f ↦ elim (f.on h.on) [ inl o ↦ inl (record { item = f.old; there = f.there; at = f.at ∙ h.at; on = o }) | inr n ↦ inr (sym h.at ∙ n.0, n.1) ]
      | inr n ↦ inr (sym h.at ∙ n.0, sym n.1 ∙ h.on)
    ];
    old_flags = λ y h. let t = tos ds h.item h.there in record { item = t.0; there = t.1; at = t.2 ∙ h.at; on = t.3 h.on };
    new_flag = λ on. let t = heres ds in record { item = t.0; there = t.1; at = t.2; on = t.3 on };
  }

each_after : (x : Tier) (ds : List Due) → AllAfter time_of x ds → Each (λ (e : Due). IsBefore x (time_of e)) ds
each_after x [] all = tt
each_after x (d ∷ ds) all = (before_is x d.at all.0, each_after x ds all.1)

-- the first is the least, and what `take` leaves is what is after it
pub least_is_least : (ds : List Due) → IsRising time_of ds → IsLeast time_of flag_of ds (least ds)
least_is_least [] rising = empty_has_none time_of flag_of
least_is_least (d ∷ ds) rising = first_is_least time_of flag_of d ds (each_after d.at ds rising.0)

pub later_is_after : (ds : List Due) (x : Tier) → IsRising time_of ds → least ds ≡ Some x → IsAfter time_of flag_of x ds (later ds)
later_is_after [] x rising is = cc
later_is_after (d ∷ ds) x rising is = let same : d.at ≡ x = cc in subst (λ (y : Tier). IsAfter time_of flag_of y (d ∷ ds) ds) same (rest_is_after time_of flag_of d ds (each_after d.at ds rising.0))

-- ---- the least trigger after a time

after_all : (t : Tier) (ts : List Tier) (y : Tier) → AllAfter itself t ts → IsIn y ts → IsUpTo t y
after_all t [] y all m = absurd m
after_all t (u ∷ ts) y all (inl q) = subst (λ (z : Tier). IsUpTo t z) (sym q) (up_to_total t u (before_is t u all.0))
after_all t (u ∷ ts) y all (inr m) = after_all t ts y all.1 m

first_none : (x : Tier) (ts : List Tier) → first_after x ts ≡ None → (y : Tier) → IsIn y ts → IsBefore x y → ⊥
first_none x [] is y m b = m
first_none x (t ∷ ts) is y m b = go (before x t) refl is m (λ h k. first_none x ts h y k b)
  where
    go : (c : Bool) → before x t ≡ c → (if c then Some t else first_after x ts) ≡ None → IsIn y (t ∷ ts) → (first_after x ts ≡ None → IsIn y ts → ⊥) → ⊥
    go true e h m more = let k : Some t ≡ None = h in cc
    go false e h (inl q) more = true≢false (sym (is_before x y b) ∙ ap (before x) q ∙ e)
    go false e h (inr m) more = more h m

first_some : (x d : Tier) (ts : List Tier) → IsRising itself ts → first_after x ts ≡ Some d → IsIn d ts × IsBefore x d × ((y : Tier) → IsIn y ts → IsBefore x y → IsUpTo d y)
first_some x d [] rising is = cc
first_some x d (t ∷ ts) rising is = go (before x t) refl is (λ h. first_some x d ts rising.1 h)
  where
    go : (c : Bool) → before x t ≡ c → (if c then Some t else first_after x ts) ≡ Some d → (first_after x ts ≡ Some d → IsIn d ts × IsBefore x d × ((y : Tier) → IsIn y ts → IsBefore x y → IsUpTo d y))
        → IsIn d (t ∷ ts) × IsBefore x d × ((y : Tier) → IsIn y (t ∷ ts) → IsBefore x y → IsUpTo d y)
    go true e h more =
        let same : t ≡ d = cc in (
          inl (sym same),
          subst (λ (z : Tier). IsBefore x z) same (before_is x t e),
          λ y m b. subst (λ (z : Tier). IsUpTo z y) same (elim m [ inl q ↦ subst (λ (z : Tier). IsUpTo t z) (sym q) (up_to_self t) | inr k ↦ after_all t ts y rising.0 k ]),
        )
    go false e h more = let t' = more h in (inr t'.0, t'.1, λ y m b. elim m [ inl q ↦ absurd (true≢false (sym (is_before x y b) ∙ ap (before x) q ∙ e)) | inr k ↦ t'.2 y k b ])

flagged_in : (ds : List Due) (y : Tier) → HasFlagged time_of flag_of ds y → IsIn y (trigger_times ds)
flagged_in ds y h = subst (λ (z : Tier). IsIn z (trigger_times ds)) h.at (map_in time_of h.item (filter (λ d. d.triggered) ds) (filter_in (λ (d : Due). d.triggered) h.item ds h.there h.on))

in_flagged : (ds : List Due) (y : Tier) → IsIn y (trigger_times ds) → HasFlagged time_of flag_of ds y
in_flagged ds y m =
    let t = in_map time_of y (filter (λ d. d.triggered) ds) m in
    let u = in_filter (λ (d : Due). d.triggered) t.0 ds t.1 in
    record { item = t.0; there = u.0; at = sym t.2; on = u.1 }

pub least_trigger_is : (ds : List Due) (x : Tier) → IsRising time_of ds → IsLeastFlagged time_of flag_of ds x (least_trigger_after x ds)
least_trigger_is ds x rising = go (least_trigger_after x ds) refl
  where
    go : (o : Option Tier) → least_trigger_after x ds ≡ o → IsLeastFlagged time_of flag_of ds x o
    go None e = no_flag (λ y h b. first_none x (trigger_times ds) e y (flagged_in ds y h) b)
    go (Some d) e = let t = first_some x d (trigger_times ds) (triggers_rise ds rising) e in has_flag d (in_flagged ds d t.0) t.1 (λ y h b. t.2 y (flagged_in ds y h) b)
