-- The answers of `judge`.
use Rattle.std.proofs.Common.{◌≡◌, ◌∙◌, ◌<◌, inl, inr, refl, ap, sym, subst}
use Rattle.mk_plan.specs.declared.Item.{Item}
use Rattle.mk_plan.specs.declared.Message.{Message}
use Rattle.mk_plan.specs.Acts.{Told, Heard}
use Rattle.mk_base.proofs.AtPlaces.{map_item}
use Rattle.mk_blame.specs.Talks.{said}
use Rattle.mk_blame.proofs.Parts.{blamed_there, never_first, one_ends_alike, one_ends_differ, one_is, other_is, part_alike, part_differ, part_low, part_under}
use Rattle.mk_blame.proofs.blaming.judge.Goals as goal
use Rattle.mk_base.proofs.Items.{length_map}

told_heard : (item : Item) (m : Message) → Told item ≡ Heard m → ⊥
told_heard item m e = cc

pub returns-in-End : goal.returns-in-End
returns-in-End c = (one_ends_differ _ _ c.in-End.ensures, inl (refl, one_ends_alike _ _ c.in-End.ensures))

pub returns-in_ok-push-in-Got-Got-Some : goal.returns-in_ok-push-in-Got-Got-Some
returns-in_ok-push-in-Got-Got-Some c =
    let p = c.in-Entry.ensures in
    let low = subst (λ n. c.in-Entry.number < n) (length_map _ c.args.talk.now) (part_low _ _ c.in-Entry.number c.in-Entry.place c.in-Entry.at p) in
    let under = subst (λ n. c.in-Entry.number < n) (length_map _ c.args.other.now) (part_under _ _ c.in-Entry.number c.in-Entry.place c.in-Entry.at p) in
    let one = one_is _ _ c.in-Entry.number c.in-Entry.place c.in-Entry.at p (said c.index-talk-number.result.now) (map_item _ c.args.talk.now c.in-Entry.number c.index-talk-number.result low c.index-talk-number.is) in
    let other = other_is _ _ c.in-Entry.number c.in-Entry.place c.in-Entry.at p (said c.index-other-number.result.now) (map_item _ c.args.other.now c.in-Entry.number c.index-other-number.result under c.index-other-number.is) in (
      part_differ _ _ c.in-Entry.number c.in-Entry.place c.in-Entry.at p,
      inr (
        record { sim = record { 0 = c.args.sim }; place = c.in-Entry.place; at = c.in-Got-Got-Some.at; first = c.in_ok-copy-in-Got-Got-Some.field-0; second = c.in_ok-copy-in-Got-Got-Some-2.field-0 },
        c.in_ok-push-in-Got-Got-Some.ensures.ok,
        refl,
        blamed_there _ _ c.in-Entry.number c.in-Entry.place c.in-Entry.at p _ c.in-Got-Got-Some.at
            (sym one ∙ ap said c.in-Got-Got-Some.is-0 ∙ ap Heard (sym c.in_ok-copy-in-Got-Got-Some.ensures))
            (sym other ∙ ap said c.in-Got-Got-Some.is-1 ∙ ap Heard (sym c.in_ok-copy-in-Got-Got-Some-2.ensures))
            c.in-Got-Got-Some.is-2 refl refl,
      ),
    )

pub returns-in_default : goal.returns-in_default
returns-in_default c =
    let p = c.in-Entry.ensures in
    (part_differ _ _ c.in-Entry.number c.in-Entry.place c.in-Entry.at p, inl (refl, part_alike _ _ c.in-Entry.number c.in-Entry.place c.in-Entry.at p (λ m n a b. never_first _ _ c.in-Entry.number c.in-Entry.place c.in-Entry.at p c.requires m a c.in_default.is-2)))

pub returns-in_default-2 : goal.returns-in_default-2
returns-in_default-2 c =
    let p = c.in-Entry.ensures in
    let under = subst (λ n. c.in-Entry.number < n) (length_map _ c.args.other.now) (part_under _ _ c.in-Entry.number c.in-Entry.place c.in-Entry.at p) in
    let other = other_is _ _ c.in-Entry.number c.in-Entry.place c.in-Entry.at p (said c.index-other-number.result.now) (map_item _ c.args.other.now c.in-Entry.number c.index-other-number.result under c.index-other-number.is) in
    (part_differ _ _ c.in-Entry.number c.in-Entry.place c.in-Entry.at p, inl (refl, part_alike _ _ c.in-Entry.number c.in-Entry.place c.in-Entry.at p (λ m n a b. told_heard _ n (sym (ap said c.in_default.is-1) ∙ other ∙ b))))

pub returns-in_default-3 : goal.returns-in_default-3
returns-in_default-3 c =
    let p = c.in-Entry.ensures in
    let low = subst (λ n. c.in-Entry.number < n) (length_map _ c.args.talk.now) (part_low _ _ c.in-Entry.number c.in-Entry.place c.in-Entry.at p) in
    let one = one_is _ _ c.in-Entry.number c.in-Entry.place c.in-Entry.at p (said c.index-talk-number.result.now) (map_item _ c.args.talk.now c.in-Entry.number c.index-talk-number.result low c.index-talk-number.is) in
    (part_differ _ _ c.in-Entry.number c.in-Entry.place c.in-Entry.at p, inl (refl, part_alike _ _ c.in-Entry.number c.in-Entry.place c.in-Entry.at p (λ m n a b. told_heard _ m (sym (ap said c.in_default.is-0) ∙ one ∙ a))))
