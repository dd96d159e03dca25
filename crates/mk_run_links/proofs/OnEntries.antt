-- Kinds of entries, in entries one after another.
use Rattle.std.proofs.Common.{◌≡◌, ℕ, List, [], ◌∷◌, ◌++◌, Some, ap, ◌∙◌, subst, sym}
use Rattle.mk_base.specs.declared.LinkNo.{LinkNo}
use Rattle.mk_base.specs.Lists.{Each}
use Rattle.mk_base.proofs.Lists.{some_same}
use Rattle.mk_outside.specs.declared.fleet.LogEntry.{LogEntry}
use Rattle.mk_outside.specs.declared.fleet.LogEntry.TheVariants.{Heard, NotHeard, Said, NotSaid, Ended, Rest, Told, Nap}
use Rattle.mk_outside.specs.Logs.{IsOnLink}
use Rattle.mk_scenario.specs.declared.parts.Scenario.{Scenario}
use Rattle.mk_run_laws.specs.Crews.{IsRestless}
use Rattle.mk_run_laws.specs.Handshake.{sim_link}
use Rattle.mk_run_laws.specs.Channels.{Channel}
use Rattle.mk_run_links.specs.Entries.{AreOfLinks, AreOn, AreOnOrOfClock, IsClockless, IsNotOfClock, IsOn, IsOnOrOfClock, IsRunLink}
use Rattle.mk_run_links.specs.Places.{IsChannelLink, Channels, at}
use Rattle.mk_base.proofs.Items.{not_empty, each_append}

-- entries of one of these links are of these
pub of_link : (has : LinkNo → Type 0) (l : LinkNo) (entries : List LogEntry) → has l → Each (IsOnLink l) entries → AreOfLinks has entries
of_link has l [] one all = tt
of_link has l (e ∷ entries) one all = ((l, one, all.0), of_link has l entries one all.1)

pub of_links_on : (has : LinkNo → Type 0) (a b : List LogEntry) → AreOfLinks has a → AreOfLinks has b → AreOfLinks has (a ++ b)
of_links_on has a b one two = each_append (λ (entry : LogEntry). (link : LinkNo) × has link × IsOnLink link entry) a b one two

-- of others where these are among them
pub of_others : (has had : LinkNo → Type 0) (entries : List LogEntry) → ((l : LinkNo) → has l → had l) → AreOfLinks has entries → AreOfLinks had entries
of_others has had [] all some = tt
of_others has had (e ∷ entries) all some = (((some.0).0, all (some.0).0 (some.0).1, (some.0).2), of_others has had entries all some.1)

-- such entries have no rest among them
pub no_rests : (has : LinkNo → Type 0) (entries : List LogEntry) → AreOfLinks has entries → IsRestless entries
no_rests has [] all before after is = not_empty before after Rest is
no_rests has (e ∷ entries) all [] after is = rest_of (all.0).0 (all.0).2 (heads is).0
  where
    rest_of : (l : LinkNo) → IsOnLink l e → e ≡ Rest → ⊥
    rest_of l of q = subst (λ (x : LogEntry). IsOnLink l x) q of

    heads : {x y : LogEntry} {xs ys : List LogEntry} → x ∷ xs ≡ y ∷ ys → (x ≡ y) × (xs ≡ ys)
    heads q = (cc, cc)
no_rests has (e ∷ entries) all (b ∷ before) after is = no_rests has entries all.1 before after (tails is)
  where
    tails : {x y : LogEntry} {xs ys : List LogEntry} → x ∷ xs ≡ y ∷ ys → xs ≡ ys
    tails q = cc

-- ---- entries on some links, and rests

on_it : (has : LinkNo → Type 0) (e : LogEntry) (l : LinkNo) → has l → IsOnLink l e → IsOn has e
on_it has (Heard on bytes) l one of = subst has (sym of) one
on_it has (NotHeard on) l one of = subst has (sym of) one
on_it has (Said on bytes) l one of = subst has (sym of) one
on_it has (NotSaid on) l one of = subst has (sym of) one
on_it has (Ended on) l one of = subst has (sym of) one
on_it has Rest l one of = tt
on_it has (Told moment) l one of = of
on_it has Nap l one of = of

pub on_these : (has : LinkNo → Type 0) (entries : List LogEntry) → AreOfLinks has entries → AreOn has entries
on_these has [] all = tt
on_these has (e ∷ entries) all = (on_it has e (all.0).0 (all.0).1 (all.0).2, on_these has entries all.1)

pub on_more : (has : LinkNo → Type 0) (a b : List LogEntry) → AreOn has a → AreOn has b → AreOn has (a ++ b)
on_more has a b one two = each_append (IsOn has) a b one two

pub on_others : (has had : LinkNo → Type 0) (entries : List LogEntry) → ((l : LinkNo) → has l → had l) → AreOn has entries → AreOn had entries
on_others has had [] all some = tt
on_others has had (e ∷ entries) all some = (other e some.0, on_others has had entries all some.1)
  where
    other : (e : LogEntry) → IsOn has e → IsOn had e
    other (Heard on bytes) one = all on one
    other (NotHeard on) one = all on one
    other (Said on bytes) one = all on one
    other (NotSaid on) one = all on one
    other (Ended on) one = all on one
    other Rest one = tt
    other (Told moment) one = one
    other Nap one = one

-- by such entries no clock was read, and no nap taken
pub on_no_clock : (has : LinkNo → Type 0) (entries : List LogEntry) → AreOn has entries → IsClockless entries
on_no_clock has [] all = tt
on_no_clock has (e ∷ entries) all = (not_clock e all.0, on_no_clock has entries all.1)
  where
    not_clock : (e : LogEntry) → IsOn has e → IsNotOfClock e
    not_clock (Heard on bytes) one = tt
    not_clock (NotHeard on) one = tt
    not_clock (Said on bytes) one = tt
    not_clock (NotSaid on) one = tt
    not_clock (Ended on) one = tt
    not_clock Rest one = tt
    not_clock (Told moment) one = one
    not_clock Nap one = one

pub no_clock : (has : LinkNo → Type 0) (entries : List LogEntry) → AreOfLinks has entries → IsClockless entries
no_clock has entries all = on_no_clock has entries (on_these has entries all)

-- where a clock may be read besides
pub on_or_clock : (has : LinkNo → Type 0) (entries : List LogEntry) → AreOn has entries → AreOnOrOfClock has entries
on_or_clock has [] all = tt
on_or_clock has (e ∷ entries) all = (or_clock e all.0, on_or_clock has entries all.1)
  where
    or_clock : (e : LogEntry) → IsOn has e → IsOnOrOfClock has e
    or_clock (Heard on bytes) one = one
    or_clock (NotHeard on) one = one
    or_clock (Said on bytes) one = one
    or_clock (NotSaid on) one = one
    or_clock (Ended on) one = one
    or_clock Rest one = tt
    or_clock (Told moment) one = tt
    or_clock Nap one = tt

or_clock_others : (has had : LinkNo → Type 0) (entries : List LogEntry) → ((l : LinkNo) → has l → had l) → AreOnOrOfClock has entries → AreOnOrOfClock had entries
or_clock_others has had [] all some = tt
or_clock_others has had (e ∷ entries) all some = (other e some.0, or_clock_others has had entries all some.1)
  where
    other : (e : LogEntry) → IsOnOrOfClock has e → IsOnOrOfClock had e
    other (Heard on bytes) one = all on one
    other (NotHeard on) one = all on one
    other (Said on bytes) one = all on one
    other (NotSaid on) one = all on one
    other (Ended on) one = all on one
    other Rest one = tt
    other (Told moment) one = tt
    other Nap one = tt

-- where the channels stand for a run's links, entries on theirs are on the run's
run_links : (started : ℕ) (S : Scenario) (L : Channels) → ((i : ℕ) (l : LinkNo) → sim_link started S i ≡ Some l → (w : Channel) × (at L i ≡ Some w) × (w.link ≡ l)) → ((i : ℕ) (w : Channel) → at L i ≡ Some w → (l : LinkNo) × (sim_link started S i ≡ Some l))
    → (l : LinkNo) → IsChannelLink L l → IsRunLink started S l
run_links started S L there back l (i, w, e, same) =
    let b = back i w e in
    let t = there i b.0 b.1 in
    (i, b.1 ∙ ap Some (sym t.2 ∙ ap (λ (x : Channel). x.link) (some_same (sym t.1 ∙ e)) ∙ same))

pub on_run : (started : ℕ) (S : Scenario) (L : Channels) (entries : List LogEntry) → ((i : ℕ) (l : LinkNo) → sim_link started S i ≡ Some l → (w : Channel) × (at L i ≡ Some w) × (w.link ≡ l)) → ((i : ℕ) (w : Channel) → at L i ≡ Some w → (l : LinkNo) × (sim_link started S i ≡ Some l))
    → AreOn (IsChannelLink L) entries → AreOn (IsRunLink started S) entries
on_run started S L entries there back = on_others (IsChannelLink L) (IsRunLink started S) entries (run_links started S L there back)

pub on_run_or_clock : (started : ℕ) (S : Scenario) (L : Channels) (entries : List LogEntry) → ((i : ℕ) (l : LinkNo) → sim_link started S i ≡ Some l → (w : Channel) × (at L i ≡ Some w) × (w.link ≡ l)) → ((i : ℕ) (w : Channel) → at L i ≡ Some w → (l : LinkNo) × (sim_link started S i ≡ Some l))
    → AreOnOrOfClock (IsChannelLink L) entries → AreOnOrOfClock (IsRunLink started S) entries
on_run_or_clock started S L entries there back = or_clock_others (IsChannelLink L) (IsRunLink started S) entries (run_links started S L there back)

pub of_run : (started : ℕ) (S : Scenario) (L : Channels) (entries : List LogEntry) → ((i : ℕ) (l : LinkNo) → sim_link started S i ≡ Some l → (w : Channel) × (at L i ≡ Some w) × (w.link ≡ l)) → ((i : ℕ) (w : Channel) → at L i ≡ Some w → (l : LinkNo) × (sim_link started S i ≡ Some l))
    → AreOfLinks (IsChannelLink L) entries → AreOfLinks (IsRunLink started S) entries
of_run started S L entries there back = of_others (IsChannelLink L) (IsRunLink started S) entries (run_links started S L there back)

pub or_clock_more : (has : LinkNo → Type 0) (a b : List LogEntry) → AreOnOrOfClock has a → AreOnOrOfClock has b → AreOnOrOfClock has (a ++ b)
or_clock_more has a b one two = each_append (IsOnOrOfClock has) a b one two
