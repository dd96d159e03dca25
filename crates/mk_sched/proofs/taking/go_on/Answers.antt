-- Answers to the goals of `taking::go_on` that the prover leaves.
use Rattle.std.proofs.Common.{◌≡◌, ◌∙◌, ◌++◌, ◌∷◌, [], Ok, refl, sym, ap, subst}
use Rattle.std.proofs.lemmas.Bool.{eqb-true}
use Rattle.mk_base.specs.declared.json.Json.TheVariants as leaf
use Rattle.mk_plan.specs.declared.Place.{Place}
use Rattle.mk_plan.specs.declared.Item.{Item}
use Rattle.mk_plan.specs.declared.Message.TheVariants.{Success}
use Rattle.mk_plan.specs.declared.Entry.TheVariants.{Sent, Got}
use Rattle.mk_plan.specs.Journals.{view, note_right, note_sent}
use Rattle.std.proofs.Common.{Some}
use Rattle.mk_sched_open.specs.Turns.{IsInRun, IsPlaceInRun}
use Rattle.mk_sched_supply.specs.Stock.{IsStockOf}
use Rattle.mk_sched.specs.declared.faults.CoreFault.{CoreFault}
use Rattle.mk_sched.specs.declared.faults.Taken.TheVariants as taken
use Rattle.mk_sched.specs.inner.Derived.{HasTaken, time_at}
use Rattle.mk_sched.proofs.Standing.{not_same_number}
use Rattle.mk_sched.proofs.Judged.{is_open, goes_on}
use Rattle.mk_sched.proofs.Arrived.{its, got_may, few_entries, taken_left, taken_sent}
use Rattle.mk_tiers.proofs.Noting.{noted_none}
use Rattle.mk_sched.proofs.taking.go_on.Goals as goal

pub returns-then-has_last_room-clause-leaves : goal.returns-then-has_last_room-clause-leaves
returns-then-has_last_room-clause-leaves c =
    let P = c.args.plan.now in
    let J = c.args.journal.now.entries in
    let K = c.args.derived.now in
    let s = c.args.sim in
    let m = c.args.message.now in
    let judged = c.requires.judged in
    subst (λ (f : CoreFault). HasTaken P J s m (Ok (taken.Fault f)) K (J ++ Got s m ∷ [])) (sym c.too_long.ensures)
    (taken_left P J K s m c.requires.taking judged.turn c.args.next judged.right (eqb-true _ _ (sym c.has_last_room.ensures ∙ c.if-has_last_room.true)) K (J ++ Got s m ∷ []) refl)

pub time_at-at-requires : goal.time_at-at-requires
time_at-at-requires c = let judged = c.requires.judged in λ e. is_open c.args.plan.now c.args.sim.0 judged.turn.place c.args.message.now judged.right.right (judged.same ∙ e)

pub owed_after-requires-clause-asked : goal.owed_after-requires-clause-asked
owed_after-requires-clause-asked c =
    let P = c.args.plan.now in
    let J = c.args.journal.now.entries in
    let K = c.args.derived.now in
    let s = c.args.sim in
    let m = c.args.message.now in
    let taking = c.requires.taking in
    let judged = c.requires.judged in
    let T = judged.turn in
    let q = c.args.next in
    let right = judged.right in
    let now = its P J K s m taking in
    let on = goes_on P s.0 T.place m q right.goes in
    let law = c.ends_of_turns.ensures.stepped P (view P J) _ K.sims s.0 T on.at on.id on.asks (Success 0 leaf.Null) leaf.Null now.sims taking.there right.opened on.place refl in
    let at : T.at ≡ c.time_at-at.result = law.1 ∙ sym (c.time_at-at.ensures on.at ∙ ap (λ (p : Place). time_at p on.at) (sym judged.same ∙ on.place)) in
    record { view = view P J; turn = T; opened = right.opened; at = at; stock = now.stock }

pub owed_after-requires-clause-right : goal.owed_after-requires-clause-right
owed_after-requires-clause-right c = let judged = c.requires.judged in (view c.args.plan.now c.args.journal.now.entries, judged.turn, Some c.args.next, judged.right)

pub owed_after-requires-clause-run : goal.owed_after-requires-clause-run
owed_after-requires-clause-run c =
    let P = c.args.plan.now in
    let s = c.args.sim in
    let m = c.args.message.now in
    let judged = c.requires.judged in
    let T = judged.turn in
    let right = judged.right in
    let on = goes_on P s.0 T.place m c.args.next right.goes in
    subst IsInRun (sym (c.time_at-at.ensures on.at ∙ ap (λ (p : Place). time_at p on.at) (sym judged.same ∙ on.place))) (subst IsPlaceInRun (sym judged.same ∙ on.place) judged.run).0

pub returns-clause-leaves : goal.returns-clause-leaves
returns-clause-leaves c =
    let P = c.args.plan.now in
    let J = c.args.journal.now.entries in
    let K = c.args.derived.now in
    let s = c.args.sim in
    let m = c.args.message.now in
    let taking = c.requires.taking in
    let judged = c.requires.judged in
    let T = judged.turn in
    let q = c.args.next in
    let right = judged.right in
    let now = its P J K s m taking in
    let on = goes_on P s.0 T.place m q right.goes in
    let law = c.ends_of_turns.ensures.stepped P (view P J) _ K.sims s.0 T on.at on.id on.asks (Success 0 leaf.Null) leaf.Null now.sims taking.there right.opened on.place refl in
    let at : T.at ≡ c.time_at-at.result = law.1 ∙ sym (c.time_at-at.ensures on.at ∙ ap (λ (p : Place). time_at p on.at) (sym judged.same ∙ on.place)) in
    let owed = c.in_ok-item.ensures.owed J T q (got_may P J K s m taking) right at now.stock in
    taken_sent P J K s m taking T q right (not_same_number _ _ (sym c.has_last_room.ensures ∙ c.if-has_last_room.false)) (record { sims = c.go_on.new.self; agenda = K.agenda; stock = c.owed_after.new.stock; untold = K.untold }) (J ++ Got s m ∷ [] ++ Sent s c.in_ok-item.item ∷ [])
    (ap (λ (i : Item). J ++ Got s m ∷ [] ++ Sent s i ∷ []) owed.0)
    (c.go_on.ensures.sims P (view P J) _ m T (few_entries P J K _ taking.derived) now.sims right c.next_in.ensures)
    refl
    (subst (λ (i : Item). IsStockOf P (note_sent P (note_right P (view P J) s.0 m T (Some q)) s.0 i) c.owed_after.new.stock) owed.0 owed.1)

pub returns-then-has_last_room-clause-notes : goal.returns-then-has_last_room-clause-notes
returns-then-has_last_room-clause-notes c = noted_none c.args.derived.now.agenda.bounds c.args.derived.now.untold

pub returns-clause-notes : goal.returns-clause-notes
returns-clause-notes c = noted_none c.args.derived.now.agenda.bounds c.args.derived.now.untold
