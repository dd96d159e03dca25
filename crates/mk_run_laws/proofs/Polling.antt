-- What the calls of a session come to for its own channel and for all others.
use Rattle.std.proofs.Common.{◌≡◌, ℕ, ◌==◌, true, false, List, [], ◌∷◌, ◌++◌, Some, None, Ok, refl, sym, ap, ◌∙◌, subst, ◌⊎◌, inl, inr}
use Rattle.mk_base.specs.declared.LinkNo.{LinkNo}
use Rattle.mk_base.specs.Lists.{Each}
use Rattle.mk_base.proofs.Lists.{append_nil}
use Rattle.mk_plan.specs.declared.Message.{Message}
use Rattle.mk_message.specs.Messages.{message_of}
use Rattle.mk_frame.specs.Frames.{IsUnfinished, BeginsWithFrame}
use Rattle.mk_outside.specs.declared.fleet.LogEntry.{LogEntry}
use Rattle.mk_outside.specs.declared.fleet.LogEntry.TheVariants.{Heard, NotHeard, Said, NotSaid, Ended, Rest, Told, Nap}
use Rattle.mk_outside.specs.Logs.{IsOnLink, heard_on, said_on, last_read, last_write}
use Rattle.mk_run_laws.specs.Hearing.{Takes, none, more}
use Rattle.mk_run_laws.specs.Channels.{Channel, IsMoved}
use Rattle.mk_base.proofs.Counts.{not_same}
use Rattle.mk_base.proofs.Items.{not_empty}

-- a poll that is pending parks its channel
pub pending_moved : (entries : List LogEntry) (old new : Channel) → new.link ≡ old.link → new.next ≡ old.next → said_on old.link entries ++ new.unsent ≡ old.unsent → new.held ≡ old.held ++ heard_on old.link entries → IsUnfinished new.held
    → last_read old.link entries ≡ Some (NotHeard old.link) → (new.unsent ≡ []) ⊎ (last_write old.link entries ≡ Some (NotSaid old.link)) → IsMoved entries [] old new
pending_moved entries old new link next said held unfinished read wrote = record {
  link = link;
  next = next;
  said = said;
  taken = subst (λ (h : List ℕ). Takes (old.held ++ heard_on old.link entries) [] h) (sym held) (none (old.held ++ heard_on old.link entries));
  parked = λ p. inl (record {
    heard_all = subst (λ (k : LinkNo). last_read k entries ≡ Some (NotHeard k)) (sym link) read;
    said_all = elim wrote [ inl all ↦ inl all | inr not ↦ inr (subst (λ (k : LinkNo). last_write k entries ≡ Some (NotSaid k)) (sym link) not) ];
    unfinished = unfinished;
  });
}

-- a poll that gives a message, on a channel that isn't parked
pub message_moved : (entries : List LogEntry) (old new : Channel) (payload : List ℕ) (m : Message) → new.link ≡ old.link → new.next ≡ old.next → said_on old.link entries ++ new.unsent ≡ old.unsent
    → BeginsWithFrame (old.held ++ heard_on old.link entries) payload new.held → message_of payload ≡ Ok m → new.parked ≡ false → IsMoved entries (m ∷ []) old new
message_moved entries old new payload m link next said begins is going = record {
  link = link;
  next = next;
  said = said;
  taken = more (old.held ++ heard_on old.link entries) payload new.held new.held m [] begins is (none new.held);
  parked = λ p. absurd (apart (sym p ∙ going));
}
  where
    apart : true ≡ false → ⊥
    apart e = cc

-- a poll that gives nothing, on a channel that isn't parked
pub nothing_moved : (entries : List LogEntry) (old new : Channel) → new.link ≡ old.link → new.next ≡ old.next → said_on old.link entries ++ new.unsent ≡ old.unsent → new.held ≡ old.held ++ heard_on old.link entries → new.parked ≡ false
    → IsMoved entries [] old new
nothing_moved entries old new link next said held going = record {
  link = link;
  next = next;
  said = said;
  taken = subst (λ (h : List ℕ). Takes (old.held ++ heard_on old.link entries) [] h) (sym held) (none (old.held ++ heard_on old.link entries));
  parked = λ p. absurd (apart (sym p ∙ going));
}
  where
    apart : true ≡ false → ⊥
    apart e = cc

-- ---- other links

pub record IsForeign (k : LinkNo) (entries : List LogEntry) : Type 0 where
  pub unheard : heard_on k entries ≡ []
  pub unsaid : said_on k entries ≡ []
  pub unread : last_read k entries ≡ None
  pub unwritten : last_write k entries ≡ None

-- entries of one link say nothing of another
pub foreign : (l k : LinkNo) → (l.0 ≡ k.0 → ⊥) → (entries : List LogEntry) → Each (IsOnLink l) entries → IsForeign k entries
foreign l k apart [] all = record { unheard = refl; unsaid = refl; unread = refl; unwritten = refl }
foreign l k apart (e ∷ entries) all = let rest = foreign l k apart entries all.1 in one e all.0 rest
  where
    other : (on : LinkNo) → on ≡ l → (on.0 == k.0) ≡ false
    other on q = not_same on.0 k.0 (λ e. apart (sym (ap (λ (x : LinkNo). x.0) q) ∙ e))

    one : (e : LogEntry) → IsOnLink l e → IsForeign k entries → IsForeign k (e ∷ entries)
    one (Heard on bytes) q r = let b = other on q in record { unheard = rw (b, r.unheard) refl; unsaid = r.unsaid; unread = rw (b, r.unread) refl; unwritten = rw r.unwritten refl }
    one (NotHeard on) q r = let b = other on q in record { unheard = r.unheard; unsaid = r.unsaid; unread = rw (b, r.unread) refl; unwritten = rw r.unwritten refl }
    one (Said on bytes) q r = let b = other on q in record { unheard = r.unheard; unsaid = rw (b, r.unsaid) refl; unread = rw r.unread refl; unwritten = rw (b, r.unwritten) refl }
    one (NotSaid on) q r = let b = other on q in record { unheard = r.unheard; unsaid = r.unsaid; unread = rw r.unread refl; unwritten = rw (b, r.unwritten) refl }
    one (Ended on) q r = let b = other on q in record { unheard = r.unheard; unsaid = r.unsaid; unread = rw (b, r.unread) refl; unwritten = rw r.unwritten refl }
    one Rest q r = absurd q
    one (Told moment) q r = absurd q
    one Nap q r = absurd q

-- nor does a wait of any
pub foreign_rest : (k : LinkNo) → IsForeign k (Rest ∷ [])
foreign_rest k = record { unheard = refl; unsaid = refl; unread = refl; unwritten = refl }

-- a channel on which nothing was read or written stays
pub channel_left : (entries : List LogEntry) (w : Channel) → IsForeign w.link entries → IsMoved entries [] w w
channel_left entries w f = record {
  link = refl;
  next = refl;
  said = ap (λ (b : List ℕ). b ++ w.unsent) f.unsaid;
  taken = subst (λ (h : List ℕ). Takes h [] w.held) (sym (ap (λ (b : List ℕ). w.held ++ b) f.unheard ∙ append_nil w.held)) (none w.held);
  parked = λ p. inr (record { same = refl; parked = p; unread = f.unread; unwritten = f.unwritten });
}

-- a parked channel that is made ready again
pub channel_unparked : (entries : List LogEntry) (w : Channel) → IsForeign w.link entries → IsMoved entries [] w (record { link = w.link; held = w.held; unsent = w.unsent; parked = false; next = w.next })
channel_unparked entries w f = record {
  link = refl;
  next = refl;
  said = ap (λ (b : List ℕ). b ++ w.unsent) f.unsaid;
  taken = subst (λ (h : List ℕ). Takes h [] w.held) (sym (ap (λ (b : List ℕ). w.held ++ b) f.unheard ∙ append_nil w.held)) (none w.held);
  parked = λ p. absurd (apart p);
}
  where
    apart : false ≡ true → ⊥
    apart e = cc

heads : {x y : LogEntry} {xs ys : List LogEntry} → x ∷ xs ≡ y ∷ ys → (x ≡ y) × (xs ≡ ys)
heads e = (cc, cc)

-- entries of one link have no rest among them
pub restless : (l : LinkNo) (entries : List LogEntry) → Each (IsOnLink l) entries → (before after : List LogEntry) → entries ≡ before ++ Rest ∷ after → ⊥
restless l [] all before after is = not_empty before after Rest is
restless l (e ∷ entries) all [] after is = subst (λ (x : LogEntry). IsOnLink l x) (heads is).0 all.0
restless l (e ∷ entries) all (b ∷ before) after is = restless l entries all.1 before after (heads is).1
