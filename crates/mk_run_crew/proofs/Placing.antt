-- The places of a crew's links, and the channels there.
use Rattle.std.proofs.Common.{◌≡◌, ℕ, ◌≤◌, List, [], Option, Some, slice_get, option_map, option_and_then, refl, sym, ap, ◌∙◌, subst, inl, inr}
use Rattle.std.specs.Prelude.{option_to_list}
use Rattle.mk_base.specs.declared.LinkNo.{LinkNo}
use Rattle.mk_base.specs.Lists.{IsIn, Each}
use Rattle.mk_base.proofs.Lists.{some_same, in_flat_map, in_at, each_in, append_nil}
use Rattle.mk_outside.specs.declared.fleet.LogEntry.{LogEntry}
use Rattle.mk_outside.specs.Counts.{HasRisen}
use Rattle.mk_outside.specs.Logs.{Adds}
use Rattle.mk_outside.proofs.OnLogs.{adds_more}
use Rattle.mk_launch.specs.Starts.{links_in}
use Rattle.mk_run_laws.specs.Channels.{Channel}
use Rattle.mk_run_laws.specs.Crews.{CrewState, AreStopped}
use Rattle.mk_run_links.specs.Places.{AreDistinct, AreOpen, IsSet, Channels, at, new_channel, new_channels}
use Rattle.mk_run_crew.specs.inner.Placed.{IsPlaced}
use Rattle.mk_base.proofs.Items.{get_map, only_one}
use Rattle.mk_base.proofs.Counts.{same_or_not}
use Rattle.mk_session.proofs.Polling.{risen_after}
use Rattle.mk_run_links.proofs.OnStops.{risen_later}

-- ---- channels that move

-- a channel that was set has the link of before
pub set_there : (s : ℕ) (w v : Channel) (L M : Channels) → IsSet s w v L M → v.link ≡ w.link → (i : ℕ) (u : Channel) → at L i ≡ Some u → (x : Channel) × (at M i ≡ Some x) × (x.link ≡ u.link)
set_there s w v L M set same i u e = elim (same_or_not i s) [
  | inl q ↦ (v, ap (at M) q ∙ set.here, same ∙ ap (λ (x : Channel). x.link) (some_same (sym set.there ∙ ap (at L) (sym q) ∙ e)))
  | inr apart ↦ (u, set.others i apart ∙ e, refl)
]

-- ---- the places stay

-- ---- open links

-- the links that have a place are open where the channels' are
pub places_open : (places : List (Option LinkNo)) (L : Channels) (open_links : List LinkNo) → IsPlaced places L → AreOpen L open_links → Each (λ (link : LinkNo). IsIn link open_links) (links_in places)
places_open places L open_links p all = each_in (λ (link : LinkNo). IsIn link open_links) (links_in places) (λ l there.
    let o = in_flat_map option_to_list l places there in
    let i = in_at o.0 places o.1 in
    let w = p.channel i.0 l (i.1 ∙ ap Some (only_one l o.0 o.2)) in
    subst (λ (k : LinkNo). IsIn k open_links) w.2 (all i.0 w.0 w.1))

-- ---- channels that begin

pub new_at : (links : List (Option LinkNo)) (i : ℕ) (l : LinkNo) → slice_get links i ≡ Some (Some l) → at (new_channels links) i ≡ Some (new_channel l)
new_at links i l e = ap (option_and_then (λ (o : Option Channel). o)) (get_map (option_map new_channel) links i ∙ ap (option_map (option_map new_channel)) e)

pub new_placed : (links : List (Option LinkNo)) → AreDistinct links → IsPlaced links (new_channels links)
new_placed links distinct = record { distinct = distinct; channel = λ i l e. (new_channel l, new_at links i l e, refl) }

-- ---- a count that rises

pub stopped_later : (entries : List LogEntry) (a b c : ℕ) (C : CrewState) → b ≤ c → AreStopped entries (HasRisen a b) C → AreStopped entries (HasRisen a c) C
stopped_later entries a b c C less all i w there =
    let s = all i w there in
    record { unheard = s.unheard; said = s.said; framed = s.framed; whole = elim s.whole [ inl e ↦ inl e | inr m ↦ inr (elim m [ inl e ↦ inl e | inr h ↦ inr (risen_later a b c less h) ]) ] }

pub stopped_on : (entries : List LogEntry) (a b c : ℕ) (C : CrewState) → a ≤ b → AreStopped entries (HasRisen b c) C → AreStopped entries (HasRisen a c) C
stopped_on entries a b c C less all i w there =
    let s = all i w there in
    record { unheard = s.unheard; said = s.said; framed = s.framed; whole = elim s.whole [ inl e ↦ inl e | inr m ↦ inr (elim m [ inl e ↦ inl e | inr h ↦ inr (risen_after a b c less h) ]) ] }

-- ---- entries of a call that adds none behind

pub adds_no_more : (entries : List LogEntry) (old mid new : Option (List LogEntry)) → Adds entries old mid → Adds [] mid new → Adds entries old new
adds_no_more entries old mid new a b = subst (λ (x : List LogEntry). Adds x old new) (append_nil entries) (adds_more entries [] old mid new a b)
