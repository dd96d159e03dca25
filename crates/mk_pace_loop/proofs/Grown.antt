-- What one more entry of the journal changes of what waits, of what is awaited, and of naps.
use Rattle.std.proofs.Common.{◌≡◌, ◌⊎◌, inl, inr, ℕ, zero, suc, Bool, true, false, ◌&&◌, List, [], ◌∷◌, ◌++◌, map, filter_map, Option, Some, is_some, slice_get, slice_set, refl, sym, ap, ◌∙◌, subst, append_assoc, if◌then◌else◌}
use Rattle.mk_base.specs.declared.SimNo.{SimNo}
use Rattle.mk_base.specs.declared.tier.Tier.{Tier}
use Rattle.mk_base.specs.Lists.{BeginsWith}
use Rattle.mk_base.proofs.Lists.{append_nil, filter_map_append, length_set, set_else, set_here}
use Rattle.mk_plan.specs.declared.Entry.{Entry}
use Rattle.mk_plan.specs.declared.Entry.TheVariants.{Sent, Got}
use Rattle.mk_plan.specs.declared.Item.{Item}
use Rattle.mk_plan.specs.declared.Message.{Message}
use Rattle.mk_plan.specs.declared.Plan.{Plan}
use Rattle.mk_plan.specs.Journals.{OpenTurn, bare, sent, view}
use Rattle.mk_plan.specs.Ready.{IsReady}
use Rattle.mk_plan.specs.Sequential.{Messages}
use Rattle.mk_outside.specs.declared.fleet.LogEntry.{LogEntry}
use Rattle.mk_scenario.specs.declared.parts.Scenario.{Scenario}
use Rattle.mk_run_laws.specs.Handshake.{is_within}
use Rattle.mk_run_laws.specs.Running.{BeginsOnLink}
use Rattle.mk_run_laws.proofs.Stepping.{open_got, open_sent, sent_away, sent_got}
use Rattle.mk_run.specs.inner.Underway.{Setting, reply_in}
use Rattle.mk_pace_held.specs.declared.held.Due.{Due}
use Rattle.mk_pace_held.specs.declared.held.Held.{Held}
use Rattle.mk_pace_held.specs.Firsts.{IsChanged}
use Rattle.mk_pace_laws.specs.declared.end.Moment.{Moment}
use Rattle.mk_pace_laws.specs.Moments.{AreMoments, Tempo, moments_of, step_time}
use Rattle.mk_pace_laws.specs.Naps.{AreNaps}
use Rattle.mk_pace_loop.specs.inner.Pacing.{AreHeldItems, BeginsWithStep, IsHeldItem, IsOneAtMost, replies_kept}

-- ---- places

-- what stands at a place stands there with one entry more
pub get_longer : {X : Type 0} (xs : List X) (i : ℕ) (x e : X) → slice_get xs i ≡ Some x → slice_get (xs ++ e ∷ []) i ≡ Some x
get_longer [] i x e is = cc
get_longer (y ∷ xs) zero x e is = is
get_longer (y ∷ xs) (suc i) x e is = get_longer xs i x e is

-- ---- held items

module _ (P : Plan) (T : Tempo) (J : List Entry) (e : Entry) (s : ℕ) where
  pub held_longer : (before : List Item) (held : List Held) (items : List Item) → AreHeldItems P T J s before held items → AreHeldItems P T (J ++ e ∷ []) s before held items
  held_longer before [] [] are = tt
  held_longer before [] (item ∷ items) are = absurd are
  held_longer before (h ∷ held) [] are = absurd are
  held_longer before (h ∷ held) (item ∷ items) are = (
    record {
      sim = (are.0).sim;
      whose = (are.0).whose;
      there = get_longer J h.place (Sent (are.0).sim item) e (are.0).there;
      id = (are.0).id;
      due = (are.0).due;
    },
    held_longer (before ++ item ∷ []) held items are.1,
  )

-- one more is held
pub held_push : (P : Plan) (T : Tempo) (J : List Entry) (s : ℕ) (before : List Item) (held : List Held) (items : List Item) (h : Held) (item : Item) → AreHeldItems P T J s before held items → IsHeldItem P T J s (before ++ items) h item
    → AreHeldItems P T J s before (held ++ h ∷ []) (items ++ item ∷ [])
held_push P T J s before [] [] h item are one = (subst (λ (l : List Item). IsHeldItem P T J s l h item) (append_nil before) one, tt)
held_push P T J s before [] (i ∷ items) h item are one = absurd are
held_push P T J s before (k ∷ held) [] h item are one = absurd are
held_push P T J s before (k ∷ held) (i ∷ items) h item are one = (are.0, held_push P T J s (before ++ i ∷ []) held items h item are.1 (subst (λ (l : List Item). IsHeldItem P T J s l h item) (sym (append_assoc before (i ∷ []) items)) one))

-- where nothing is held nothing waits
pub none_waits : (P : Plan) (T : Tempo) (J : List Entry) (s : ℕ) (before : List Item) (held : List Held) (items : List Item) → AreHeldItems P T J s before held items → held ≡ [] → items ≡ []
none_waits P T J s before [] [] are e = refl
none_waits P T J s before [] (i ∷ items) are e = absurd are
none_waits P T J s before (k ∷ held) items are e = absurd (apart e)
  where
    apart : k ∷ held ≡ [] → ⊥
    apart q = cc

-- what is held begins with a Step where it did so before, or where a Step is held that was held by
-- itself
pub begins_push : (held : List Held) (h : Held) → BeginsWithStep held → (held ≡ [] → (d : Due) × (h.due ≡ Some d)) → BeginsWithStep (held ++ h ∷ [])
begins_push [] h begins one = one refl
begins_push (k ∷ held) h begins one = begins

-- the items of one simulator are set
pub changed_set : (holds : List (List Held)) (s : ℕ) (was now : List Held) → slice_get holds s ≡ Some was → IsChanged s was now holds (slice_set holds s now)
changed_set holds s was now there = record { there = there; here = set_here holds s now was there; others = λ i apart. set_else holds s i now apart; count = length_set holds s now }

-- one item at most waits still, while the turn stays as it is
pub one_moved : (P : Plan) (J K : List Entry) (i : ℕ) (items : List Item) → (view P K).open_at i ≡ (view P J).open_at i → IsOneAtMost P J i items → IsOneAtMost P K i items
one_moved P J K i [] same one = tt
one_moved P J K i (item ∷ []) same one = (one.0, ap (λ (o : Option OpenTurn). is_some o) same ∙ one.1)
one_moved P J K i (item ∷ (other ∷ more)) same one = absurd one

-- ---- moments

module _ (T : Tempo) (strict : Option ℕ) (J K : List Entry) (log : List LogEntry) (moments : List Moment) where
  pub moments_longer : ((i : ℕ) → BeginsWith (sent K i) (sent J i)) → AreMoments T strict J log moments → AreMoments T strict K log moments
  moments_longer more m = record {
    steps = λ i.
        let f = more i in
        let b = m.steps i in (
          b.0 ++ filter_map step_time f.0,
          ap (filter_map step_time) f.1 ∙ filter_map_append step_time (sent J i) f.0 ∙ ap (λ (l : List Tier). l ++ filter_map step_time f.0) b.1 ∙ append_assoc (map (λ (x : Moment). x.at) (moments_of i moments)) b.0 (filter_map step_time f.0),
        );
    moment = m.moment;
    due = m.due;
    told = m.told;
    in_time = m.in_time;
    in_order = m.in_order;
  }

-- ---- what is open at others

-- ---- what is kept

module _ (S : Setting) (P : Plan) where
  -- an item and a message change nothing of it at others
  pub kept_sent : (J : List Entry) (s : SimNo) (item : Item) (i : ℕ) (held : List Held) → (i ≡ s.0 → ⊥) → replies_kept S P (J ++ Sent s item ∷ []) i held ≡ replies_kept S P J i held
  kept_sent J s item i [] apart = ap (λ (o : Option OpenTurn). if is_within S.scenario i && is_some o then reply_in S i (map bare (sent (J ++ Sent s item ∷ []) i)) ∷ [] else []) (open_sent P J s item i apart)
      ∙ ap (λ (l : List Item). if is_within S.scenario i && is_some ((view P J).open_at i) then reply_in S i (map bare l) ∷ [] else []) (sent_away J s item i apart)
  kept_sent J s item i (h ∷ held) apart = refl

  pub kept_got : (J : List Entry) (s : SimNo) (m : Message) (i : ℕ) (held : List Held) → (i ≡ s.0 → ⊥) → replies_kept S P (J ++ Got s m ∷ []) i held ≡ replies_kept S P J i held
  kept_got J s m i [] apart = ap (λ (o : Option OpenTurn). if is_within S.scenario i && is_some o then reply_in S i (map bare (sent (J ++ Got s m ∷ []) i)) ∷ [] else []) (open_got P J s m i apart)
      ∙ ap (λ (l : List Item). if is_within S.scenario i && is_some ((view P J).open_at i) then reply_in S i (map bare l) ∷ [] else []) (sent_got J s m i)
  kept_got J s m i (h ∷ held) apart = refl

  pub none_shut : (J : List Entry) (i : ℕ) (held : List Held) → is_some ((view P J).open_at i) ≡ false → replies_kept S P J i held ≡ []
  none_shut J i [] shut = ap (λ (b : Bool). if is_within S.scenario i && b then reply_in S i (map bare (sent J i)) ∷ [] else []) shut ∙ none (is_within S.scenario i)
    where
      none : (b : Bool) → (if b && false then reply_in S i (map bare (sent J i)) ∷ [] else []) ≡ []
      none true = refl
      none false = refl
  none_shut J i (h ∷ held) shut = refl

  -- nor where something is held
  pub none_pushed : (J : List Entry) (i : ℕ) (held : List Held) (h : Held) → replies_kept S P J i (held ++ h ∷ []) ≡ []
  none_pushed J i [] h = refl
  none_pushed J i (k ∷ held) h = refl

-- ---- naps

module _ (started : ℕ) (S : Scenario) (replies : Messages) (P : Plan) (T : Tempo) (J : List Entry) (log : List LogEntry) (naps : AreNaps started S replies P T J log) where
  -- the journal goes on with these entries, which begin with a link's message, or somebody is ready
  -- in it
  pub naps_longer : (later : List Entry) → (((i : ℕ) (x : Tier) → IsReady P (view P J) i x → ⊥) → BeginsOnLink started S later) → AreNaps started S replies P T (J ++ later) log
  naps_longer later one before after is =
      let n = naps before after is in
      record {
        at = n.at;
        more = n.more ++ later;
        parts = ap (λ (l : List Entry). l ++ later) n.parts ∙ append_assoc n.at n.more later;
        nobody = n.nobody;
        channels = n.channels;
        next = inr (go n.at n.more n.parts n.nobody n.next);
      }
    where
      go : (at more : List Entry) → J ≡ at ++ more → ((i : ℕ) (x : Tier) → IsReady P (view P at) i x → ⊥) → (more ≡ []) ⊎ BeginsOnLink started S more → BeginsOnLink started S (more ++ later)
      go at more parts nobody (inl none) =
          let same : J ≡ at = parts ∙ ap (λ (l : List Entry). at ++ l) none ∙ append_nil at in
          subst (λ (l : List Entry). BeginsOnLink started S (l ++ later)) (sym none) (one (λ i x ready. nobody i x (subst (λ (K : List Entry). IsReady P (view P K) i x) same ready)))
      go at more parts nobody (inr (s, m, rest, l, is, linked)) = (s, m, rest ++ later, l, ap (λ (k : List Entry). k ++ later) is, linked)
