-- Which simulators have a channel, and which are within the program.
use Rattle.std.proofs.Common.{◌≡◌, ℕ, ◌+◌, ◌<◌, Bool, true, false, not, List, length, take, filter, Option, Some, None, option_map, option_and_then, unwrap_or, slice_get, slice_set, refl, sym, ap, ◌∙◌, subst, inl, inr, true≢false, if◌then◌else◌}
use Rattle.std.proofs.lemmas.Option.{slice_get_within}
use Rattle.mk_base.specs.declared.LinkNo.{LinkNo}
use Rattle.mk_base.proofs.Lists.{none_some, set_here, set_else}
use Rattle.mk_plan.specs.declared.Item.{Item}
use Rattle.mk_plan.specs.declared.Message.{Message}
use Rattle.mk_scenario.specs.declared.parts.SimPart.{SimPart}
use Rattle.mk_scenario.specs.declared.parts.Scenario.{Scenario}
use Rattle.mk_outside.specs.declared.fleet.LogEntry.{LogEntry}
use Rattle.mk_local.specs.Simulators.{Simulator}
use Rattle.mk_run_laws.specs.Handshake.{is_local, has_link, is_within, sim_link}
use Rattle.mk_run_laws.specs.Channels.{Channel}
use Rattle.mk_run_laws.specs.Crews.{CrewState, channel_at, IsMovedAt, AreMoved, IsHeard, IsSentOnLink}
use Rattle.mk_run.specs.inner.Underway.{Setting, HasNoOther, local_at}
use Rattle.mk_base.proofs.Counts.{same_or_not}

-- a simulator with a link is one of the scenario, and isn't within the program
link_by_kind : (s : SimPart) (k l : LinkNo) (b : Bool) → (if not b then Some k else None) ≡ Some l → b ≡ false
link_by_kind s k l true e = absurd (none_some e)
link_by_kind s k l false e = refl

pub linked_outside : (started : ℕ) (S : Scenario) (i : ℕ) (l : LinkNo) → sim_link started S i ≡ Some l → (is_within S i ≡ false) × (i < length S.sims)
linked_outside started S i l e = go (slice_get S.sims i) refl e
  where
    go : (o : Option SimPart) → slice_get S.sims i ≡ o → option_and_then (λ (s : SimPart). if has_link s then Some (record { 0 = started + length (filter has_link (take i S.sims)) }) else None) o ≡ Some l → (is_within S i ≡ false) × (i < length S.sims)
    go None is e = absurd (none_some e)
    go (Some s) is e = (ap (λ (o : Option SimPart). unwrap_or (option_map (λ (s : SimPart). is_local s.begin) o) false) is ∙ link_by_kind s (record { 0 = started + length (filter has_link (take i S.sims)) }) l (is_local s.begin) e, slice_get_within S.sims i s is)

pub within_below : (S : Scenario) (i : ℕ) → is_within S i ≡ true → i < length S.sims
within_below S i e = go (slice_get S.sims i) refl
  where
    go : (o : Option SimPart) → slice_get S.sims i ≡ o → i < length S.sims
    go None is = absurd (true≢false (sym e ∙ ap (λ (o : Option SimPart). unwrap_or (option_map (λ (s : SimPart). is_local s.begin) o) false) is))
    go (Some s) is = slice_get_within S.sims i s is

-- ---- channels stay those of simulators with a link

channel_was : (entries : List LogEntry) (given : List Message) (o : Option Channel) (v : Channel) → IsMovedAt entries given o (Some v) → (w : Channel) × (o ≡ Some w)
channel_was entries given None v moved = absurd moved
channel_was entries given (Some w) v moved = (w, refl)

pub no_other_moved : (T : Setting) (entries : List LogEntry) (given : ℕ → List Message) (C D : CrewState) → AreMoved entries given C D → HasNoOther T C → HasNoOther T D
no_other_moved T entries given C D moved none i w there = let t = channel_was entries (given i) (channel_at C i) w (subst (IsMovedAt entries (given i) (channel_at C i)) there (moved i)) in none i t.0 t.1

pub no_other_same : (T : Setting) (C D : CrewState) → D.channels ≡ C.channels → HasNoOther T C → HasNoOther T D
no_other_same T C D same none i w there = none i w (sym (ap (λ (l : List (Option Channel)). option_and_then (λ (o : Option Channel). o) (slice_get l i)) same) ∙ there)

pub no_other_sent : (T : Setting) (C D : CrewState) (s : ℕ) (item : Item) (id : ℕ) → IsSentOnLink s item id C D → HasNoOther T C → HasNoOther T D
no_other_sent T C D s item id so none i w there = elim (same_or_not i s) [
  | inl q ↦ none i so.channel (ap (channel_at C) q ∙ so.there)
  | inr apart ↦ none i w (sym (so.others i apart) ∙ there)
]

pub no_other_heard : (T : Setting) (entries : List LogEntry) (s : ℕ) (m : Message) (C D : CrewState) → IsHeard entries s m C D → HasNoOther T C → HasNoOther T D
no_other_heard T entries s m C D (IsHeard.kept is channels none) others = no_other_same T C D channels others
no_other_heard T entries s m C D (IsHeard.on_link none after w there moved parked) others = no_other_moved T entries (_) C D moved others

-- ---- places in a list that is set at one

pub local_set_here : (sims : List (Option Simulator)) (i : ℕ) (L M : Simulator) → local_at sims i ≡ Some L → local_at (slice_set sims i (Some M)) i ≡ Some M
local_set_here sims i L M e = go (slice_get sims i) refl e
  where
    go : (o : Option (Option Simulator)) → slice_get sims i ≡ o → option_and_then (λ (p : Option Simulator). p) o ≡ Some L → local_at (slice_set sims i (Some M)) i ≡ Some M
    go None is e = absurd (none_some e)
    go (Some p) is e = ap (option_and_then (λ (q : Option Simulator). q)) (set_here sims i (Some M) p is)

pub local_set_away : (sims : List (Option Simulator)) (i j : ℕ) (M : Simulator) → (j ≡ i → ⊥) → local_at (slice_set sims i (Some M)) j ≡ local_at sims j
local_set_away sims i j M apart = ap (option_and_then (λ (q : Option Simulator). q)) (set_else sims i j (Some M) apart)
