-- A simulator goes on in the journal: what the look-ups of the index and the crew's call come to.
use Rattle.std.proofs.Common.{◌≡◌, ℕ, ◌+◌, ◌<◌, true, false, List, [], ◌∷◌, ◌++◌, length, filter, take, drop, slice_get, Option, Some, None, refl, sym, ap, ◌∙◌, arith, append_assoc, length-append}
use Rattle.std.proofs.lemmas.Bool.{eqb-true}
use Rattle.mk_base.specs.declared.SimNo.{SimNo}
use Rattle.mk_base.proofs.Lists.{filter_append, some_same}
use Rattle.mk_plan.specs.declared.Item.{Item}
use Rattle.mk_plan.specs.declared.Message.{Message}
use Rattle.mk_plan.specs.declared.Entry.{Entry}
use Rattle.mk_plan.specs.declared.Entry.TheVariants.{Sent, Got}
use Rattle.mk_plan.specs.Plans.{first_id, sim_count}
use Rattle.mk_plan.specs.Journals.{sent}
use Rattle.mk_plan.specs.Sequential.{takes_id, id_after}
use Rattle.mk_sched.specs.Cores.{CoreState}
use Rattle.mk_local.specs.Replies.{IsItemReplied}
use Rattle.mk_run_laws.specs.Handshake.{is_within, setup_count}
use Rattle.mk_run_local.specs.Laws.{RepliesAreKinds}
use Rattle.mk_run_crew.specs.Seen.{CrewSeen, is_here}
use Rattle.mk_run_crew.specs.Calls.{HasNext, SendsAs}
use Rattle.mk_run.proofs.Going.{here_is_within}
use Rattle.mk_resume_walk.specs.Talks.{free_items}
use Rattle.mk_resume_walk.specs.Walks.{IsFirstOwn, IsGoneTo, is_of}
use Rattle.mk_resume_walk.specs.Index.{own_count}
use Rattle.mk_resume_walk.proofs.Indexing.{counted_behind}
use Rattle.mk_resume_loop.specs.declared.behind.Standing.{Standing}
use Rattle.mk_resume_loop.specs.inner.Standings.{standing_at}
use Rattle.mk_resume_loop.specs.inner.Underway.{IsPassed, StandsAt}
use Rattle.mk_resume_loop.specs.inner.Turns.{IsDue, Walk}
use Rattle.mk_resume_loop.proofs.Passing.{passed_quietly, passed_sent, passing_linked}
use Rattle.mk_resume_loop.proofs.Replied.{replied_anew}
use Rattle.mk_resume_loop.proofs.Standing.{at_most_one, get_dropped, gone_all, gone_got, gone_sent, take_front}
use Rattle.mk_local.proofs.Replied.{replied_takes}

next_id : (n id : ℕ) (items : List Item) (item : Item) → id ≡ id_after n items → id_after id (item ∷ []) ≡ id_after n (items ++ item ∷ [])
next_id n id items item is =
    let e = ap length (filter_append takes_id items (item ∷ [])) ∙ length-append (filter takes_id items) (filter takes_id (item ∷ [])) in
    omega (arith, e, is)

drop_front : (U X : List Entry) → drop (length U) (U ++ X) ≡ X
drop_front [] X = refl
drop_front (x ∷ U) X = drop_front U X

module _ (R : Walk) (core : CoreState) (C : CrewSeen) (s : SimNo) (gone id : ℕ) (low : s.0 < sim_count core.plan) (d : IsDue R core C s.0 gone id) where
  abbrev J : List Entry
  J = core.entries

  abbrev n : ℕ
  n = R.course.heard s.0

  abbrev g : IsGoneTo J s.0 n R.from
  g = d.passing.gone

  abbrev Stands : Option Standing → Type 0
  Stands o = StandsAt core.plan J s.0 n o

  abbrev Passed : CrewSeen → Type 0
  Passed D = IsPassed R.course core.plan J s.0 D

  quietly : free_items J s.0 n ≡ sent g.gone s.0 → Passed C
  quietly is = passed_quietly R.course.setting core.plan R.course.first J R.course.heard R.course.queued R.course.awaits R.course.log s.0 R.from C d.resuming d.passing (is ∙ d.passing.was_sent)

  counted_to : (p : ℕ) → IsFirstOwn J s.0 R.from (Some p) → own_count s.0 (take (p + 1) J) ≡ gone + 1
  counted_to p first = counted_behind J s.0 R.from p first ∙ ap (λ (k : ℕ). k + 1) (sym d.counted)

  -- no entry is left
  pub due_ends : IsFirstOwn J s.0 R.from None → Passed C × Stands None
  due_ends none = let t = gone_all J s.0 n R.from g none in (quietly t.1, t.0)

  -- the next one is a message
  pub due_waits : (p : ℕ) (t : SimNo) (m : Message) → IsFirstOwn J s.0 R.from (Some p) → slice_get J p ≡ Some (Got t m) → Passed C × Stands (Some (record { place = p; gone = gone + 1; id = id }))
  due_waits p t m first there =
      let w = gone_got J s.0 n R.from g p t m first there in
      (quietly w.1, (w.0, counted_to p first, d.numbered ∙ ap (id_after (first_id core.plan s.0)) (sym (w.1 ∙ d.passing.was_sent))))

  -- the next one is an item: the crew takes it
  module _ (p : ℕ) (t : SimNo) (item : Item) (first : IsFirstOwn J s.0 R.from (Some p)) (there : slice_get J p ≡ Some (Sent t item)) where
    right : takes_id item ≡ true → id ≡ id_after (setup_count R.course.setting.scenario s.0) (R.course.queued s.0)
    right takes = d.numbered ∙ ap (λ (k : ℕ). id_after k (R.course.queued s.0)) (d.resuming.suits.first s.0 low)

    pub due_linked : is_here C s.0 ≡ false → HasNext item id s.0 C
    due_linked = passing_linked R.course.setting core.plan R.course.first J R.course.heard R.course.queued R.course.awaits R.course.log s.0 R.from C d.resuming d.passing item id low right

    pub due_replied : is_here C s.0 ≡ true → IsItemReplied item
    due_replied here = go first
      where
        inside : is_within R.course.setting.scenario s.0 ≡ true
        inside = here_is_within R.course.setting C.sims s.0 d.resuming.only_within here

        taken : take R.from J ≡ g.gone
        taken = ap (take R.from) g.parts ∙ ap (λ (k : ℕ). take k (g.gone ++ g.left)) (sym g.at) ∙ take_front g.gone g.left

        dropped : drop R.from J ≡ g.left
        dropped = ap (drop R.from) g.parts ∙ ap (λ (k : ℕ). drop k (g.gone ++ g.left)) (sym g.at) ∙ drop_front g.gone g.left

        go : IsFirstOwn J s.0 R.from (Some p) → IsItemReplied item
        go (between, e, later, is, none, own, at) =
            let same : e ≡ Sent t item = some_same (sym (get_dropped R.from J between later e is) ∙ ap (slice_get J) (sym at) ∙ there) in
            replied_anew core.plan d.resuming.stands.valid J g.gone between later s.0 t item d.resuming.stands.orderly.0
            (g.parts ∙ ap (λ (l : List Entry). g.gone ++ l) (sym dropped ∙ is ∙ ap (λ (x : Entry). between ++ x ∷ later) same) ∙ sym (append_assoc g.gone between (Sent t item ∷ later)))
            none (eqb-true t.0 s.0 (sym (ap (λ (x : Entry). is_of s.0 x) same) ∙ own))
            (λ H x m last to. d.fit inside H x m (taken ∙ last) to)

    -- and behind it comes a message, if anything
    module _ (law : RepliesAreKinds) (D : CrewSeen) (so : SendsAs s.0 item id C D) where
      h : (k : IsGoneTo J s.0 n (p + 1)) × (sent k.gone s.0 ≡ sent g.gone s.0 ++ item ∷ [])
      h = gone_sent J s.0 n R.from g p t item first there

      all : sent h.0.gone s.0 ≡ R.course.queued s.0 ++ item ∷ []
      all = h.1 ∙ ap (λ (l : List Item). l ++ item ∷ []) d.passing.was_sent

      sent_so : free_items J s.0 n ≡ sent h.0.gone s.0 → Passed D
      sent_so is = passed_sent R.course.setting core.plan R.course.first J R.course.heard R.course.queued R.course.awaits R.course.log s.0 R.from C d.resuming d.passing law item id D right (λ here. replied_takes item (due_replied here)) so (is ∙ all)

      one : length (sent h.0.gone s.0) ≡ n + 1
      one = ap length all ∙ length-append (R.course.queued s.0) (item ∷ []) ∙ ap (λ (k : ℕ). k + 1) d.passing.answered

      -- behind it comes a message, if anything
      by_entry : (q : ℕ) (e : Entry) → IsFirstOwn J s.0 (p + 1) (Some q) → slice_get J q ≡ Some e → Passed D × Stands (Some (record { place = q; gone = (gone + 1) + 1; id = id_after id (item ∷ []) }))
      by_entry q (Sent x other) next at =
          let k = gone_sent J s.0 n (p + 1) h.0 q x other next at in
          absurd (at_most_one core.plan J d.resuming.stands.orderly.0 d.resuming.no_fault s.0 n (q + 1) k.0
          (ap length k.1 ∙ length-append (sent h.0.gone s.0) (other ∷ []) ∙ (let o = one in let e : length (sent h.0.gone s.0) + 1 ≡ n + 2 = omega (arith, o) in e)))
      by_entry q (Got x m) next at =
          let w = gone_got J s.0 n (p + 1) h.0 q x m next at in (
            sent_so w.1,
            (
              w.0,
              counted_behind J s.0 (p + 1) q next ∙ ap (λ (k : ℕ). k + 1) (counted_to p first),
              next_id (first_id core.plan s.0) id (R.course.queued s.0) item d.numbered ∙ ap (id_after (first_id core.plan s.0)) (sym (w.1 ∙ all)),
            ),
          )

      pub due_sent : (r : Option ℕ) → IsFirstOwn J s.0 (p + 1) r → Passed D × Stands (standing_at r (gone + 1) (id_after id (item ∷ [])))
      due_sent None none = let t = gone_all J s.0 n (p + 1) h.0 none in (sent_so t.1, t.0)
      due_sent (Some q) next = by_entry q next.1 next (by_place next)
        where
          by_place : (f : IsFirstOwn J s.0 (p + 1) (Some q)) → slice_get J q ≡ Some f.1
          by_place (between, e, later, is, none, own, at) = ap (slice_get J) at ∙ get_dropped (p + 1) J between later e is
