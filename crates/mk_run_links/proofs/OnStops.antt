-- A stop's frame, and channels that are stopped one after another.
use Rattle.std.proofs.Common.{◌≡◌, ℕ, ◌+◌, ◌<◌, ◌≤◌, inl, inr, List, [], ◌++◌, length, length-append, append_assoc, codes, decimal, Option, Some, None, slice_get, get_or, option_and_then, refl, sym, ap, ◌∙◌, subst, arith}
use Rattle.std.proofs.lemmas.Option.{slice_get_read}
use Rattle.byteorder.specs.Endian.{big_bytes}
use Rattle.mk_base.specs.declared.LinkNo.{LinkNo}
use Rattle.mk_base.proofs.Lists.{none_some, append_nil, get_is}
use Rattle.mk_plan.specs.declared.Call.TheVariants.{Stop}
use Rattle.mk_message.specs.Written.{call_text}
use Rattle.mk_frame.specs.Frames.{frame_of}
use Rattle.mk_outside.specs.declared.fleet.LogEntry.{LogEntry}
use Rattle.mk_outside.specs.declared.fleet.LogEntry.TheVariants.{Rest, NotSaid}
use Rattle.mk_outside.specs.Counts.{HasRisen}
use Rattle.mk_outside.specs.Logs.{Adds, heard_on, said_on, is_read, is_write}
use Rattle.mk_outside.proofs.OnLogs.{adds_more, heard-append, said-append}
use Rattle.mk_run_laws.specs.Payloads.{IsFramed}
use Rattle.mk_run_laws.specs.Channels.{Channel, IsStopped}
use Rattle.mk_run_laws.specs.Crews.{IsRestless}
use Rattle.mk_run_laws.proofs.Moving.{last_later, last_kept}
use Rattle.mk_run_laws.proofs.Polling.{IsForeign, foreign, restless}
use Rattle.mk_run_laws.proofs.Stepping.{first_or_second}
use Rattle.mk_run_links.specs.Crews.{StopsAll}
use Rattle.mk_run_links.specs.inner.OneChannel.{FlushesChannel, StopsChannel, StopsAt}
use Rattle.mk_run_links.specs.Entries.{AreOn}
use Rattle.mk_run_links.specs.Places.{IsChannelLink, Channels, at}
use Rattle.mk_run_links.specs.inner.Standing.{AreApart}
use Rattle.mk_run_links.proofs.Linking.{place_is}
use Rattle.mk_run_links.proofs.OnEntries.{of_link, on_more, on_these}
use Rattle.mk_base.proofs.Counts.{same_or_not}
use Rattle.mk_base.proofs.Items.{not_empty}
use Rattle.mk_run_links.proofs.Looking.{nobody}

-- ---- the frame

stop_text : (id : ℕ) → call_text id Stop ≡ codes "[0," ++ (decimal id ++ codes ",[\"stop\",[],{}]]")
stop_text id = ap (λ (x : List ℕ). codes "[0," ++ x) (append_assoc (decimal id) (codes ",[\"stop\",[],{}]") (codes "]"))

stop_length : (id : ℕ) → length (call_text id Stop) ≡ 19 + length (decimal id)
stop_length id =
    let e = length-append (decimal id) (codes ",[\"stop\",[],{}]]") in
    omega (arith, ap length (stop_text id), e)

pub frame_is : (id : ℕ) (digits header one two three four : List ℕ) → digits ≡ decimal id → header ≡ big_bytes 4 (19 + length digits) → one ≡ [] ++ header → two ≡ one ++ codes "[0," → three ≡ two ++ digits → four ≡ three ++ codes ",[\"stop\",[],{}]]" → four ≡ frame_of (call_text id Stop)
frame_is id digits header one two three four t h a b c d =
    d ∙ ap (λ (x : List ℕ). x ++ codes ",[\"stop\",[],{}]]") (c ∙ ap (λ (x : List ℕ). two ++ x) t ∙ ap (λ (x : List ℕ). x ++ decimal id) (b ∙ ap (λ (x : List ℕ). x ++ codes "[0,") a))
    ∙ append_assoc (header ++ codes "[0,") (decimal id) (codes ",[\"stop\",[],{}]]")
    ∙ append_assoc header (codes "[0,") (decimal id ++ codes ",[\"stop\",[],{}]]")
    ∙ ap (λ (x : List ℕ). header ++ x) (sym (stop_text id))
    ∙ ap (λ (x : List ℕ). x ++ call_text id Stop) (h ∙ ap (λ (x : List ℕ). big_bytes 4 (19 + length x)) t ∙ ap (big_bytes 4) (sym (stop_length id)))

-- its payload is one that a frame may have
pub framed_is : (id : ℕ) (digits : List ℕ) → digits ≡ decimal id → length digits ≤ 40 → IsFramed (call_text id Stop)
framed_is id digits t few = let e = stop_length id in let d = ap length t in omega (arith, e, d, few)

-- ---- one channel

pub stops_channel : (w : Channel) (last : List ℕ) (risen : Type 0) (entries : List LogEntry) → FlushesChannel w last risen entries → last ≡ frame_of (call_text w.next Stop) → IsFramed (call_text w.next Stop) → StopsChannel w risen entries
stops_channel w last risen entries f is one =
    let g = subst (λ (b : List ℕ). FlushesChannel w b risen entries) is f in
    record { on_link = g.on_link; stopped = record { unheard = g.unheard; said = g.said; framed = one; whole = g.whole } }

-- ---- channels one after another

-- the channels of the first k simulators were stopped, and nothing was said on the others
pub record Stopping (k : ℕ) (L : Channels) (risen : Type 0) (old new : Option (List LogEntry)) : Type 0 where
  pub entries : List LogEntry
  pub adds : Adds entries old new
  pub done : (i : ℕ) (w : Channel) → i < k → at L i ≡ Some w → IsStopped entries risen w
  pub left : (i : ℕ) (w : Channel) → k ≤ i → at L i ≡ Some w → IsForeign w.link entries
  pub restless : IsRestless entries
  pub on_links : AreOn (IsChannelLink L) entries

pub risen_on : (a b c : ℕ) → a ≤ b → b ≤ c → HasRisen b c → HasRisen a c
risen_on a b c ab bc (inl less) = inl (omega (arith, ab, less))
risen_on a b c ab bc (inr last) = inr last

pub risen_later : (a b c : ℕ) → b ≤ c → HasRisen a b → HasRisen a c
risen_later a b c bc (inl less) = inl (omega (arith, bc, less))
risen_later a b c bc (inr last) = inr (omega (arith, bc, last))

both : (a b : List LogEntry) (l : LinkNo) → IsForeign l a → IsForeign l b → IsForeign l (a ++ b)
both a b l f g = record {
  unheard = heard-append l a b ∙ ap (λ (x : List ℕ). x ++ heard_on l b) f.unheard ∙ g.unheard;
  unsaid = said-append l a b ∙ ap (λ (x : List ℕ). x ++ said_on l b) f.unsaid ∙ g.unsaid;
  unread = last_kept (is_read l) a b g.unread ∙ f.unread;
  unwritten = last_kept (is_write l) a b g.unwritten ∙ f.unwritten;
}

-- a stopped channel, and entries of others after it
stopped_before : (a b : List LogEntry) (p q : Type 0) (w : Channel) → (p → q) → IsStopped a p w → IsForeign w.link b → IsStopped (a ++ b) q w
stopped_before a b p q w on st f =
    let same : said_on w.link (a ++ b) ≡ said_on w.link a = said-append w.link a b ∙ ap (λ (x : List ℕ). said_on w.link a ++ x) f.unsaid ∙ append_nil (said_on w.link a) in
    record {
      unheard = heard-append w.link a b ∙ ap (λ (x : List ℕ). x ++ heard_on w.link b) st.unheard ∙ f.unheard;
      said = (st.said.0, st.said.1 ∙ ap (λ (x : List ℕ). x ++ st.said.0) (sym same));
      framed = st.framed;
      whole = elim st.whole [
        | inl all ↦ inl (same ∙ all)
        | inr (inl not) ↦ inr (inl (last_kept (is_write w.link) a b f.unwritten ∙ not))
        | inr (inr rose) ↦ inr (inr (on rose))
      ];
    }

-- entries of others, and then a channel that is stopped
stopped_behind : (a b : List LogEntry) (p q : Type 0) (w : Channel) → (p → q) → IsForeign w.link a → IsStopped b p w → IsStopped (a ++ b) q w
stopped_behind a b p q w on f st =
    let same : said_on w.link (a ++ b) ≡ said_on w.link b = said-append w.link a b ∙ ap (λ (x : List ℕ). x ++ said_on w.link b) f.unsaid in
    record {
      unheard = heard-append w.link a b ∙ ap (λ (x : List ℕ). x ++ heard_on w.link b) f.unheard ∙ st.unheard;
      said = (st.said.0, st.said.1 ∙ ap (λ (x : List ℕ). x ++ st.said.0) (sym same));
      framed = st.framed;
      whole = elim st.whole [
        | inl all ↦ inl (same ∙ all)
        | inr (inl not) ↦ inr (inl (last_later (is_write w.link) a b (NotSaid w.link) not))
        | inr (inr rose) ↦ inr (inr (on rose))
      ];
    }

restless_more : (a b : List LogEntry) → IsRestless a → IsRestless b → IsRestless (a ++ b)
restless_more a b one two before after is = elim (first_or_second a b before after Rest is) [
  | inl t ↦ one before t.0 t.1
  | inr t ↦ two t.0 after t.2
]

-- what a stop at one place says of the other channels
apart_from : (k : ℕ) (L : Channels) (risen : Type 0) (more : List LogEntry) → AreApart L → StopsAt k L risen more → (o : Option Channel) → at L k ≡ o → ((i : ℕ) (u : Channel) → (i ≡ k → ⊥) → at L i ≡ Some u → IsForeign u.link more) × IsRestless more × AreOn (IsChannelLink L) more
apart_from k L risen more apart st None e = (
  (λ i u away there. subst (IsForeign u.link) (sym (st.none e)) (nobody u.link)),
  subst IsRestless (sym (st.none e)) (λ before after is. not_empty before after Rest is),
  subst (AreOn (IsChannelLink L)) (sym (st.none e)) tt,
)
apart_from k L risen more apart st (Some w) e =
    let s = st.some w e in (
      (λ i u away there. foreign w.link u.link (λ q. away (apart i k u w there e (sym q))) more s.on_link),
      restless w.link more s.on_link,
      on_these (IsChannelLink L) more (of_link (IsChannelLink L) w.link more (k, w, e, refl) s.on_link),
    )

pub stops_one_more : (k : ℕ) (L : Channels) (p q r : Type 0) (old mid new : Option (List LogEntry)) (more : List LogEntry) → AreApart L → (p → r) → (q → r) → Stopping k L p old mid → Adds more mid new → StopsAt k L q more → Stopping (k + 1) L r old new
stops_one_more k L p q r old mid new more apart pr qr s adds st =
    let a = apart_from k L q more apart st (at L k) refl in
    record {
      entries = s.entries ++ more;
      adds = adds_more s.entries more old mid new s.adds adds;
      done = λ i w less e. elim (same_or_not i k) [
        | inl same ↦ stopped_behind s.entries more q r w qr (s.left i w (omega (arith, same)) e) ((st.some w (ap (at L) (sym same) ∙ e)).stopped)
        | inr away ↦ stopped_before s.entries more p r w pr (s.done i w (below i away less) e) (a.0 i w away e)
      ];
      left = λ i w le e. both s.entries more w.link (s.left i w (omega (arith, le)) e) (a.0 i w (λ same. above i le same) e);
      restless = restless_more s.entries more s.restless a.1;
      on_links = on_more (IsChannelLink L) s.entries more s.on_links a.2;
    }
  where
    below : (i : ℕ) → (i ≡ k → ⊥) → i < k + 1 → i < k
    below i away less = grind arith

    above : (i : ℕ) → k + 1 ≤ i → i ≡ k → ⊥
    above i le same = omega (arith, le, same)

pub none_stopped : (L : Channels) (p : Type 0) (log : Option (List LogEntry)) → Adds [] log log → Stopping 0 L p log log
none_stopped L p log adds = record {
  entries = [];
  adds = adds;
  done = λ i w less e. absurd (none_below i less);
  left = λ i w le e. nobody w.link;
  restless = λ before after is. not_empty before after Rest is;
  on_links = tt;
}
  where
    none_below : (i : ℕ) → i < 0 → ⊥
    none_below i less = omega (arith, less)

pub stops_none : (k : ℕ) (L : Channels) (risen : Type 0) → at L k ≡ None → StopsAt k L risen []
stops_none k L risen e = record { some = λ w there. absurd (none_some (sym e ∙ there)); none = λ q. refl }

-- a channel stands at a place of the list
below_length : (L : Channels) (i : ℕ) (w : Channel) → at L i ≡ Some w → i < length L
below_length L i w e = (get_is L i (Some w) (place_is (slice_get L i) w e)).0

pub all_stopped : (k n : ℕ) (L : Channels) (risen : Type 0) (old new : Option (List LogEntry)) → Stopping k L risen old new → n ≡ length L → n ≤ k → (entries : List LogEntry) × Adds entries old new × StopsAll entries risen L
all_stopped k n L risen old new s is over = (s.entries, s.adds, ((λ i w e. let below = below_length L i w e in s.done i w (omega (arith, below, is, over)) e), s.restless, s.on_links))

pub none_at : (L : Channels) (i : ℕ) (x : Option Channel) → i < length L → x ≡ get_or L i x → x ≡ None → at L i ≡ None
none_at L i x less is none = ap (λ (q : Option (Option Channel)). option_and_then (λ (r : Option Channel). r) q) (slice_get_read L (length L) i x refl less is ∙ ap Some none)
