-- Looks and rests one after another, until something is heard.
use Rattle.std.proofs.Common.{◌≡◌, ℕ, false, List, [], ◌∷◌, ◌++◌, Option, Some, None, Ok, Err, refl, sym, ap, ◌∙◌, subst, inl, inr, option_map, true≢false}
use Rattle.mk_base.specs.declared.LinkNo.{LinkNo}
use Rattle.mk_base.specs.declared.SimNo.{SimNo}
use Rattle.mk_base.specs.Lists.{IsIn}
use Rattle.mk_base.proofs.Lists.{append_nil, none_some, some_same}
use Rattle.mk_plan.specs.declared.Message.{Message}
use Rattle.mk_outside.specs.declared.fleet.LogEntry.{LogEntry}
use Rattle.mk_outside.specs.declared.fleet.LogEntry.TheVariants.{Rest, Ended}
use Rattle.mk_outside.specs.Logs.{Adds, is_read}
use Rattle.mk_outside.proofs.OnLogs.{adds_more}
use Rattle.mk_session.specs.declared.answers.Heard.{Heard}
use Rattle.mk_session.specs.declared.answers.Heard.TheVariants as heard
use Rattle.mk_run_laws.specs.Channels.{Channel, IsMoved}
use Rattle.mk_run_laws.specs.Crews.{CrewState, channel_at, IsMovedAt, AreMoved, AreParkedAtRests, IsRestless, IsHeard, on_link, IsUnheard, given_by}
use Rattle.mk_run_laws.proofs.Moving.{moved_twice, last_later, moved_there, moved_back}
use Rattle.mk_run_laws.proofs.Stepping.{first_or_second}
use Rattle.mk_run_laws.proofs.Waiting.{moved_on, parked_rested}
use Rattle.mk_run_links.specs.declared.answers.LinkHalt.{LinkHalt}
use Rattle.mk_run_links.specs.declared.answers.LinkHalt.TheVariants as halt
use Rattle.mk_run_links.specs.declared.answers.Listened.TheVariants as listened
use Rattle.mk_run_links.specs.declared.answers.Looked.TheVariants as looked
use Rattle.mk_run_links.specs.Crews.{ArePending, HearsAs, TriesAs}
use Rattle.mk_run_links.specs.Halts.{HeardOf, ShowsHalt}
use Rattle.mk_run_links.specs.inner.OneChannel.{unparked}
use Rattle.mk_run_links.specs.Entries.{AreOfLinks, AreOn}
use Rattle.mk_run_links.specs.Places.{Channels, IsChannelLink, AreOpen, AreParked, at, crew}
use Rattle.mk_run_links.specs.inner.Looks.{AreWoken, LooksAs, ListensAs, RestsAs, listened_of}
use Rattle.mk_run_links.proofs.Looking.{all_woken, left_alone, nothing_by, rested_moved}
use Rattle.mk_run_links.proofs.Marking.{marked_moved}
use Rattle.mk_run_links.proofs.OnEntries.{no_rests, of_links_on, of_others, on_more, on_these}
use Rattle.mk_base.proofs.Items.{not_empty}

-- ---- one look

no_rest : (C : CrewState) → AreParkedAtRests [] C
no_rest C before after is = absurd (not_empty before after Rest is)

unrested : (entries : List LogEntry) (C : CrewState) → IsRestless entries → AreParkedAtRests entries C
unrested entries C restless before after is = absurd (restless before after is)

unheard_is : (entries : List LogEntry) (L M : Channels) → AreMoved entries (λ i. []) (crew L) (crew M) → AreParkedAtRests entries (crew L) → IsUnheard entries (crew L) (crew M)
unheard_is entries L M moved parked = record { kept = refl; none_kept = refl; moved = moved; parked = parked }

-- ---- calls after each other

-- the links of moved channels are those of before
pub open_still : (entries : List LogEntry) (L M : Channels) (open_links : List LinkNo) → IsUnheard entries (crew L) (crew M) → AreOpen L open_links → AreOpen M open_links
open_still entries L M open_links u all i v e =
    let b = moved_back entries [] (at L i) (at M i) v e (u.moved i) in
    subst (λ (k : LinkNo). IsIn k open_links) (sym b.2) (all i b.0 b.1)

channel_back : (entries : List LogEntry) (L M : Channels) → AreMoved entries (λ i. []) (crew L) (crew M) → (l : LinkNo) → IsChannelLink M l → IsChannelLink L l
channel_back entries L M moved l (i, v, there, same) = let b = moved_back entries [] (at L i) (at M i) v there (moved i) in (i, b.0, b.1, sym b.2 ∙ same)

-- entries on the links of moved channels are on those of before
these_back : (entries more : List LogEntry) (L M : Channels) → AreMoved entries (λ i. []) (crew L) (crew M) → AreOfLinks (IsChannelLink M) more → AreOfLinks (IsChannelLink L) more
these_back entries more L M moved = of_others (IsChannelLink M) (IsChannelLink L) more (channel_back entries L M moved)

on_back : (entries more : List LogEntry) (L M : Channels) → AreMoved entries (λ i. []) (crew L) (crew M) → AreOfLinks (IsChannelLink M) more → AreOn (IsChannelLink L) more
on_back entries more L M moved of = on_these (IsChannelLink L) more (these_back entries more L M moved of)

-- reads and writes are no rests
pub restless_of : (L : Channels) (entries : List LogEntry) → AreOfLinks (IsChannelLink L) entries → IsRestless entries
restless_of L = no_rests (IsChannelLink L)

-- the rests of calls after each other
parked_on : (a b : List LogEntry) (C D : CrewState) → AreParkedAtRests a C → AreMoved a (λ i. []) C D → AreParkedAtRests b D → AreParkedAtRests (a ++ b) C
parked_on a b C D one moved two before after is i w there = elim (first_or_second a b before after Rest is) [
  | inl t ↦ one before t.0 t.1 i w there
  | inr t ↦
      let m = moved_there a [] (channel_at C i) (channel_at D i) w there (moved i) in
      let p = two t.0 after t.2 i m.0 m.1 in
      (p.0, subst (λ (x : List LogEntry). IsMoved x [] w p.0) (sym t.1) (moved_twice a t.0 [] [] w m.0 p.0 m.2 p.1), p.2)
]

pub unheard_on : (a b : List LogEntry) (L M N : Channels) → IsUnheard a (crew L) (crew M) → IsUnheard b (crew M) (crew N) → IsUnheard (a ++ b) (crew L) (crew N)
unheard_on a b L M N one two = unheard_is (a ++ b) L N (moved_on a b (λ i. []) (λ i. []) (crew L) (crew M) (crew N) one.moved two.moved) (parked_on a b (crew L) (crew M) one.parked one.moved two.parked)

heard_on_link : (a b : List LogEntry) (i : ℕ) (m : Message) (L M N : Channels) → IsUnheard a (crew L) (crew M) → IsHeard b i m (crew M) (crew N) → IsHeard (a ++ b) i m (crew L) (crew N)
heard_on_link a b i m L M N one (IsHeard.kept k same none) = absurd (no_front k)
  where
    no_front : {X : Type 0} {x : X} {xs : List X} → [] ≡ x ∷ xs → ⊥
    no_front e = cc
heard_on_link a b i m L M N one (on_link k l w there moved parked) =
    let o = moved_back a [] (at L i) (at M i) w there (one.moved i) in
    on_link refl refl o.0 o.1 (moved_on a b (λ j. []) (given_by i m) (crew L) (crew M) (crew N) one.moved moved) (parked_on a b (crew L) (crew M) one.parked one.moved parked)

ended_later : (a b : List LogEntry) (i : ℕ) (N : Channels) → HeardOf i heard.Closed b N → HeardOf i heard.Closed (a ++ b) N
ended_later a b i N h = (h.0, h.1, ((h.2).0, last_later (is_read (h.0).link) a b (Ended (h.0).link) (h.2).1))

shows_later : (h : LinkHalt) (a b : List LogEntry) (N : Channels) → ShowsHalt h b N → ShowsHalt h (a ++ b) N
shows_later halt.Fleet a b N s = tt
shows_later (halt.Gone i) a b N s = ended_later a b i.0 N s
shows_later (halt.Garbled i t) a b N s = s
shows_later (halt.LongFrame i n) a b N s = s
shows_later halt.Mem a b N s = tt

-- ---- looks at links, each in its turn

-- nothing was heard so far, by reads and writes alone
pub record Hush (L M : Channels) (old new : Option (List LogEntry)) : Type 0 where
  pub entries : List LogEntry
  pub adds : Adds entries old new
  pub unheard : IsUnheard entries (crew L) (crew M)
  pub on_links : AreOfLinks (IsChannelLink L) entries

pub hush_begins : (L : Channels) (log : Option (List LogEntry)) → Adds [] log log → Hush L L log log
hush_begins L log adds = record { entries = []; adds = adds; unheard = unheard_is [] L L (left_alone (crew L)).0 (no_rest (crew L)); on_links = (left_alone (crew L)).1 }

these_after : (a b : List LogEntry) (L M : Channels) → IsUnheard a (crew L) (crew M) → AreOfLinks (IsChannelLink L) a → AreOfLinks (IsChannelLink M) b → AreOfLinks (IsChannelLink L) (a ++ b)
these_after a b L M u one two = of_links_on (IsChannelLink L) a b one (these_back a b L M u.moved two)

pub hush_goes_on : (L M N : Channels) (old mid new : Option (List LogEntry)) (more : List LogEntry) → Hush L M old mid → Adds more mid new → LooksAs looked.Parked more M N → Hush L N old new
hush_goes_on L M N old mid new more h adds l = record {
  entries = h.entries ++ more;
  adds = adds_more h.entries more old mid new h.adds adds;
  unheard = unheard_on h.entries more L M N h.unheard (unheard_is more M N l.0 (unrested more (crew M) (restless_of M more l.1)));
  on_links = these_after h.entries more L M h.unheard h.on_links l.1;
}

module _ (L M N : Channels) (old mid new : Option (List LogEntry)) (more : List LogEntry) (hush : Hush L M old mid) (adds : Adds more mid new) where
  all_adds : Adds (hush.entries ++ more) old new
  all_adds = adds_more hush.entries more old mid new hush.adds adds

  nothing_came : (i : SimNo) → AreMoved more (λ j. []) (crew M) (crew N) → AreOfLinks (IsChannelLink M) more → IsUnheard (hush.entries ++ more) (crew L) (crew N) × AreOfLinks (IsChannelLink L) (hush.entries ++ more)
  nothing_came i moved on_links = (unheard_on hush.entries more L M N hush.unheard (unheard_is more M N moved (unrested more (crew M) (restless_of M more on_links))), these_after hush.entries more L M hush.unheard hush.on_links on_links)

  pub hush_heard : (i : SimNo) (h : Heard) → LooksAs (looked.Heard i h) more M N → (entries : List LogEntry) × Adds entries old new × ListensAs (listened_of i h) entries L N
  hush_heard i (heard.Message m) l = (
    hush.entries ++ more,
    all_adds,
    (heard_on_link hush.entries more i.0 m L M N hush.unheard (on_link refl refl l.2.0 l.2.1 l.0 (unrested more (crew M) (restless_of M more l.1))), these_after hush.entries more L M hush.unheard hush.on_links l.1),
  )
  hush_heard i (heard.Garbled t) l = let n = nothing_came i (nothing_by more i.0 (crew M) (crew N) l.0) l.1 in (hush.entries ++ more, all_adds, (n.0, n.1, shows_later (halt.Garbled i t) hush.entries more N l.3))
  hush_heard i (heard.TooLong k) l = let n = nothing_came i (nothing_by more i.0 (crew M) (crew N) l.0) l.1 in (hush.entries ++ more, all_adds, (n.0, n.1, shows_later (halt.LongFrame i k) hush.entries more N l.3))
  hush_heard i heard.Closed l = let n = nothing_came i (nothing_by more i.0 (crew M) (crew N) l.0) l.1 in (hush.entries ++ more, all_adds, (n.0, n.1, shows_later (halt.Gone i) hush.entries more N l.3))
  hush_heard i heard.Failed l = let n = nothing_came i (nothing_by more i.0 (crew M) (crew N) l.0) l.1 in (hush.entries ++ more, all_adds, (n.0, n.1, tt))
  hush_heard i heard.Mem l = let n = nothing_came i (nothing_by more i.0 (crew M) (crew N) l.0) l.1 in (hush.entries ++ more, all_adds, (n.0, n.1, tt))

  pub hush_lasts : LooksAs looked.Quiet more M N → (entries : List LogEntry) × Adds entries old new × ListensAs listened.Quiet entries L N
  hush_lasts l = (
    hush.entries,
    subst (λ (x : List LogEntry). Adds x old new) none all_adds,
    (subst (λ (X : Channels). IsUnheard hush.entries (crew L) (crew X)) (sym l.0) hush.unheard, hush.on_links, subst AreParked (sym l.0) l.2),
  )
    where
      none : hush.entries ++ more ≡ hush.entries
      none = ap (λ (x : List LogEntry). hush.entries ++ x) l.1 ∙ append_nil hush.entries

-- ---- looks and rests

-- nothing was heard so far
pub record Silence (L M : Channels) (old new : Option (List LogEntry)) : Type 0 where
  pub entries : List LogEntry
  pub adds : Adds entries old new
  pub unheard : IsUnheard entries (crew L) (crew M)
  pub on_links : AreOn (IsChannelLink L) entries

pub no_sound : (L : Channels) (log : Option (List LogEntry)) → Adds [] log log → Silence L L log log
no_sound L log adds = record { entries = []; adds = adds; unheard = unheard_is [] L L (left_alone (crew L)).0 (no_rest (crew L)); on_links = tt }

pub silence_heard : (L M N : Channels) (old mid new : Option (List LogEntry)) (more : List LogEntry) (i : SimNo) (m : Message) → Silence L M old mid → Adds more mid new → ListensAs (listened.Message i m) more M N
    → (entries : List LogEntry) × Adds entries old new × HearsAs (Ok (i, m)) entries L N × AreOn (IsChannelLink L) entries
silence_heard L M N old mid new more i m s adds l = (s.entries ++ more, adds_more s.entries more old mid new s.adds adds, heard_on_link s.entries more i.0 m L M N s.unheard l.0, on_more (IsChannelLink L) s.entries more s.on_links (on_back s.entries more L M s.unheard.moved l.1))

pub silence_halted : (L M N : Channels) (old mid new : Option (List LogEntry)) (more : List LogEntry) (h : LinkHalt) → Silence L M old mid → Adds more mid new → ListensAs (listened.Halted h) more M N
    → (entries : List LogEntry) × Adds entries old new × HearsAs (Err h) entries L N × AreOn (IsChannelLink L) entries
silence_halted L M N old mid new more h s adds l = (s.entries ++ more, adds_more s.entries more old mid new s.adds adds, (unheard_on s.entries more L M N s.unheard l.0, shows_later h s.entries more N l.2), on_more (IsChannelLink L) s.entries more s.on_links (on_back s.entries more L M s.unheard.moved l.1))

-- a rest comes where all channels are parked
rested : (M N O : Channels) (a : List LogEntry) → ListensAs listened.Quiet a M N → AreMoved (Rest ∷ []) (λ i. []) (crew N) (crew O) → IsUnheard (a ++ Rest ∷ []) (crew M) (crew O)
rested M N O a l moved = unheard_is (a ++ Rest ∷ []) M O (moved_on a (Rest ∷ []) (λ i. []) (λ i. []) (crew M) (crew N) (crew O) l.0.moved moved) (parked_rested a (crew M) (crew N) (unrested a (crew M) (restless_of M a l.1)) l.0.moved l.2)

pub silence_goes_on : (L M N O : Channels) (old mid late new : Option (List LogEntry)) (a b : List LogEntry) → Silence L M old mid → Adds a mid late → ListensAs listened.Quiet a M N → Adds b late new → RestsAs (Ok tt) b N O → Silence L O old new
silence_goes_on L M N O old mid late new a b s adds l more r = record {
  entries = s.entries ++ (a ++ b);
  adds = adds_more s.entries (a ++ b) old mid new s.adds (adds_more a b mid late new adds more);
  unheard = unheard_on s.entries (a ++ b) L M O s.unheard (subst (λ (x : List LogEntry). IsUnheard (a ++ x) (crew M) (crew O)) (sym r.0) (rested M N O a l (rested_moved N O (marked_moved r.1.0 N O r.1.3))));
  on_links = on_more (IsChannelLink L) s.entries (a ++ b) s.on_links (on_more (IsChannelLink L) a b (on_back s.entries a L M s.unheard.moved l.1) (subst (AreOn (IsChannelLink L)) (sym r.0) (tt, tt)));
}

pub silence_unrested : (L M N O : Channels) (old mid late new : Option (List LogEntry)) (a b : List LogEntry) (h : LinkHalt) → Silence L M old mid → Adds a mid late → ListensAs listened.Quiet a M N → Adds b late new → RestsAs (Err h) b N O
    → (entries : List LogEntry) × Adds entries old new × HearsAs (Err h) entries L O × AreOn (IsChannelLink L) entries
silence_unrested L M N O old mid late new a b h s adds l more r = (
  s.entries ++ (a ++ b),
  adds_more s.entries (a ++ b) old mid new s.adds (adds_more a b mid late new adds more),
  (
    unheard_on s.entries (a ++ b) L M O s.unheard (subst (λ (x : List LogEntry). IsUnheard x (crew M) (crew O)) (sym none) (subst (λ (X : Channels). IsUnheard a (crew M) (crew X)) (sym r.1) l.0)),
    shows_later h s.entries (a ++ b) O (shows_later h a b O (subst (λ (x : List LogEntry). ShowsHalt h x O) (sym r.0) r.2)),
  ),
  on_more (IsChannelLink L) s.entries (a ++ b) s.on_links (on_more (IsChannelLink L) a b (on_back s.entries a L M s.unheard.moved l.1) (subst (AreOn (IsChannelLink L)) (sym r.0) tt)),
)
  where
    none : a ++ b ≡ a
    none = ap (λ (x : List LogEntry). a ++ x) r.0 ∙ append_nil a

pub open_parked : (a : List LogEntry) (M N : Channels) (open_links : List LinkNo) → LooksAs looked.Parked a M N → AreOpen M open_links → AreOpen N open_links
open_parked a M N open_links l all = open_still a M N open_links (unheard_is a M N l.0 (unrested a (crew M) (restless_of M a l.1))) all

-- ---- looks at all links, without a rest

module _ (L M N : Channels) (woken : AreWoken L M) (entries : List LogEntry) where
  begun : IsUnheard [] (crew L) (crew M)
  begun = unheard_is [] L M (all_woken L M woken) (no_rest (crew L))

  pub tried_heard : (i : SimNo) (m : Message) → ListensAs (listened.Message i m) entries M N → TriesAs (Ok (Some (i, m))) entries L N
  tried_heard i m l = (heard_on_link [] entries i.0 m L M N begun l.0, these_back [] entries L M begun.moved l.1)

  pub tried_halted : (h : LinkHalt) → ListensAs (listened.Halted h) entries M N → TriesAs (Err h) entries L N
  tried_halted h l = (unheard_on [] entries L M N begun l.0, these_back [] entries L M begun.moved l.1, l.2)

  moved_from : (o p : Option Channel) (w : Channel) → p ≡ Some w → IsMovedAt entries [] o p → (v : Channel) × (o ≡ Some v) × IsMoved entries [] v w
  moved_from o None w e moved = absurd (none_some e)
  moved_from None (Some u) w e moved = absurd moved
  moved_from (Some v) (Some u) w e moved = (v, refl, subst (λ (x : Channel). IsMoved entries [] v x) (some_same e) moved)

  awake : (o : Option Channel) (v : Channel) → option_map unparked o ≡ Some v → v.parked ≡ false
  awake None v e = absurd (none_some e)
  awake (Some u) v e = ap (λ (w : Channel). w.parked) (sym (some_same e))

  pub tried_none : ListensAs listened.Quiet entries M N → TriesAs (Ok None) entries L N
  tried_none l = (unheard_on [] entries L M N begun l.0, these_back [] entries L M begun.moved l.1, looked_at)
    where
      looked_at : ArePending entries N
      looked_at i w there =
          let parked = l.2 i w there in
          let m = moved_from (at M i) (at N i) w there (l.0.moved i) in (
            parked,
            elim (m.2.parked parked) [
              | inl now ↦ now
              | inr left ↦ absurd (true≢false (sym left.parked ∙ awake (at L i) m.0 (sym (woken i) ∙ m.1)))
            ],
          )

pub open_woken : (L M : Channels) (open_links : List LinkNo) → AreWoken L M → AreOpen L open_links → AreOpen M open_links
open_woken L M open_links woken all = open_still [] L M open_links (unheard_is [] L M (all_woken L M woken) (no_rest (crew L))) all
