-- What a poll of one channel comes to for a whole crew.
use Rattle.std.proofs.Common.{◌≡◌, ◌⊎◌, ℕ, zero, suc, ◌+◌, ◌<◌, ◌≤◌, ◌==◌, true, false, List, [], ◌∷◌, Option, Some, None, refl, sym, ap, ◌∙◌, subst, inl, inr, arith, length, option_map, if◌then◌else◌}
use Rattle.mk_base.specs.declared.LinkNo.{LinkNo}
use Rattle.mk_base.specs.declared.SimNo.{SimNo}
use Rattle.mk_outside.specs.declared.fleet.LogEntry.{LogEntry}
use Rattle.mk_session.specs.declared.answers.Heard.{Heard}
use Rattle.mk_session.specs.declared.answers.Polled.{Polled}
use Rattle.mk_session.specs.declared.answers.Polled.TheVariants as polled
use Rattle.mk_run_links.specs.declared.answers.Looked.TheVariants as looked
use Rattle.mk_run_laws.specs.Channels.{Channel}
use Rattle.mk_run_laws.specs.Crews.{CrewState, channel_at, IsMovedAt, AreMoved}
use Rattle.mk_run_laws.proofs.Polling.{IsForeign, foreign, foreign_rest, channel_left, channel_unparked}
use Rattle.mk_run_laws.proofs.Waiting.{moved_on}
use Rattle.mk_outside.specs.declared.fleet.LogEntry.TheVariants.{Rest}
use Rattle.mk_run_laws.proofs.Greeting.{moved_one}
use Rattle.mk_run_links.specs.inner.OneChannel.{given_in, PollsAt, unparked}
use Rattle.mk_run_links.specs.Entries.{AreOfLinks}
use Rattle.mk_run_links.specs.Places.{IsChannelLink, Channels, IsSet, at, crew}
use Rattle.mk_run_links.specs.inner.Looks.{AreWoken, IsWokenAt, only_by, LooksAs}
use Rattle.mk_run_links.specs.inner.Standing.{AreApart}
use Rattle.mk_run_links.proofs.OnEntries.{of_link}
use Rattle.mk_base.proofs.Counts.{same_or_not}

-- one channel is moved, and all others stand
pub polled_moved : (answer : Polled) (s : ℕ) (L M : Channels) (entries : List LogEntry) → AreApart L → PollsAt answer s L entries M → AreMoved entries (only_by s (given_in answer)) (crew L) (crew M) × AreOfLinks (IsChannelLink L) entries
polled_moved answer s L M entries apart p = (
  moved_one entries (given_in answer) (crew L) (crew M) s p.channel p.after p.set.there p.set.here p.set.others p.polled.moved
      (λ i u away e. foreign (p.channel).link u.link (λ q. away (apart i s u p.channel e p.set.there (sym q))) entries p.polled.on_link),
  of_link (IsChannelLink L) (p.channel).link entries (s, p.channel, p.set.there, refl) p.polled.on_link,
)

-- where simulator s gave nothing, nobody did
pub nothing_by : (entries : List LogEntry) (s : ℕ) (C D : CrewState) → AreMoved entries (only_by s []) C D → AreMoved entries (λ i. []) C D
nothing_by entries s C D moved i = elim (s == i) as (λ b. IsMovedAt entries (if b then [] else []) (channel_at C i) (channel_at D i) → IsMovedAt entries [] (channel_at C i) (channel_at D i)) [ true ↦ λ m. m | false ↦ λ m. m ] (moved i)

left_at : (o : Option Channel) → IsMovedAt [] [] o o
left_at None = tt
left_at (Some w) = channel_left [] w (record { unheard = refl; unsaid = refl; unread = refl; unwritten = refl })

-- without entries all channels stand
pub left_alone : (C : CrewState) → AreMoved [] (λ i. []) C C × AreOfLinks (λ l. ⊥) []
left_alone C = ((λ i. left_at (channel_at C i)), tt)

-- what came of a look, from what came of the poll
pub looked_heard : (h : Heard) (s : SimNo) (L M : Channels) (entries : List LogEntry) → AreApart L → PollsAt (polled.Ready h) s.0 L entries M → LooksAs (looked.Heard s h) entries L M
looked_heard h s L M entries apart p = let m = polled_moved (polled.Ready h) s.0 L M entries apart p in (m.0, m.1, (p.channel, p.set.there), (p.after, p.set.here, p.polled.shown))

pub looked_parked : (s : ℕ) (L M : Channels) (entries : List LogEntry) → AreApart L → PollsAt polled.Pending s L entries M → LooksAs looked.Parked entries L M
looked_parked s L M entries apart p = let m = polled_moved polled.Pending s L M entries apart p in (nothing_by entries s (crew L) (crew M) m.0, m.1)

pub looked_alone : (L : Channels) → LooksAs looked.Parked [] L L
looked_alone L = left_alone (crew L)

pub nobody : (k : LinkNo) → IsForeign k []
nobody k = record { unheard = refl; unsaid = refl; unread = refl; unwritten = refl }

woken_at : (o : Option Channel) → IsMovedAt [] [] o (option_map unparked o)
woken_at None = tt
woken_at (Some w) = channel_unparked [] w (nobody w.link)

-- channels none of which is parked any more
pub all_woken : (L M : Channels) → AreWoken L M → AreMoved [] (λ i. []) (crew L) (crew M)
all_woken L M woken i = subst (λ (o : Option Channel). IsMovedAt [] [] (at L i) o) (sym (woken i)) (woken_at (at L i))

-- ---- channels woken one after another

-- the channels of the first k simulators are no longer parked, and all others stand
pub record Waking (k : ℕ) (L M : Channels) : Type 0 where
  pub woken : (i : ℕ) → i < k → at M i ≡ option_map unparked (at L i)
  pub left : (i : ℕ) → k ≤ i → at M i ≡ at L i

pub none_woken : (L : Channels) → Waking 0 L L
none_woken L = record { woken = λ i less. absurd (omega (arith, less)); left = λ i more. refl }

pub one_more_woken : (k : ℕ) (L M N : Channels) → Waking k L M → IsWokenAt k M N → Waking (k + 1) L N
one_more_woken k L M N w one = record {
  woken = λ i less. elim (same_or_not i k) [
    | inl q ↦ subst (λ (j : ℕ). at N j ≡ option_map unparked (at L j)) (sym q) (one.here ∙ ap (option_map unparked) (w.left k (omega arith)))
    | inr apart ↦ one.others i apart ∙ w.woken i (below i k less apart)
  ];
  left = λ i more. one.others i (λ q. omega (arith, more, q)) ∙ w.left i (omega (arith, more));
}
  where
    below : (i k : ℕ) → i < k + 1 → (i ≡ k → ⊥) → i < k
    below i k less apart = grind arith

none_beyond : (L : Channels) (i : ℕ) → length L ≤ i → at L i ≡ None
none_beyond [] i beyond = refl
none_beyond (o ∷ L) zero beyond = absurd (omega (arith, beyond))
none_beyond (o ∷ L) (suc i) beyond = none_beyond L i (omega (arith, beyond))

pub all_are_woken : (k n : ℕ) (L M : Channels) → Waking k L M → n ≡ length L → n ≤ k → AreWoken L M
all_are_woken k n L M w count all i = elim (less_or_not i k) [
  | inl less ↦ w.woken i less
  | inr more ↦ let e = none_beyond L i (omega (arith, more, count, all)) in w.left i more ∙ e ∙ ap (option_map unparked) (sym e)
]
  where
    less_or_not : (i k : ℕ) → (i < k) ⊎ (k ≤ i)
    less_or_not i k = grind arith

-- what one waking does, where the simulator has a channel and where it has none
pub woken_one : (s : ℕ) (L M : Channels) → ((w : Channel) × IsSet s w (unparked w) L M) → IsWokenAt s L M
woken_one s L M set = record { here = set.1.here ∙ sym (ap (option_map unparked) set.1.there); others = set.1.others }

rested_at : (o : Option Channel) → IsMovedAt (Rest ∷ []) [] o o
rested_at None = tt
rested_at (Some w) = channel_left (Rest ∷ []) w (foreign_rest w.link)

-- the fleet rested, and then some channels are no longer parked
pub rested_moved : (L M : Channels) → AreMoved [] (λ i. []) (crew L) (crew M) → AreMoved (Rest ∷ []) (λ i. []) (crew L) (crew M)
rested_moved L M moved = moved_on (Rest ∷ []) [] (λ i. []) (λ i. []) (crew L) (crew L) (crew M) (λ i. rested_at (channel_at (crew L) i)) moved
