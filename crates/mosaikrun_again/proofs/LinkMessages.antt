-- What is heard on a link is read of a payload.
use Rattle.std.proofs.Common.{◌≡◌, ℕ, zero, suc, List, [], ◌∷◌, ◌++◌, length, drop, Option, Some, None, option_map, option_and_then, Result, Ok, Err, refl, sym, ap, subst, inl, if◌then◌else◌}
use Rattle.mk_base.specs.Lists.{BeginsWith, Each, IsIn}
use Rattle.mk_base.proofs.Lists.{filter_map_in, in_back, in_each, none_some, some_same}
use Rattle.mk_base.specs.declared.LinkNo.{LinkNo}
use Rattle.mk_base.specs.declared.SimNo.{SimNo}
use Rattle.mk_plan.specs.declared.Entry.{Entry}
use Rattle.mk_plan.specs.declared.Entry.TheVariants.{Got}
use Rattle.mk_plan.specs.declared.Message.{Message}
use Rattle.mk_plan.specs.Journals.{got, got_from}
use Rattle.mk_message.specs.Messages.{message_of}
use Rattle.mk_outside.specs.declared.fleet.LogEntry.{LogEntry}
use Rattle.mk_outside.specs.Logs.{heard_on}
use Rattle.mk_scenario.specs.declared.parts.Scenario.{Scenario}
use Rattle.mk_run_laws.specs.Handshake.{setup_count}
use Rattle.mk_run_laws.specs.Hearing.{cut, first_frame, first_message, messages_heard, value_in}
use Rattle.mk_run_laws.specs.Rests.{run_messages}
use Rattle.mk_base.proofs.Counts.{same_self}
use Rattle.mk_run_laws.proofs.Taking.{then_cut}

-- some payload has the message
abbrev pub IsRead : Message → Type 0
IsRead m = (payload : List ℕ) × (message_of payload ≡ Ok m)

first_read : (held : List ℕ) (f : Message × List ℕ) → first_message held ≡ Some f → IsRead f.0
first_read held f e = by_frame (first_frame held) e
  where
    by_payload : (g : List ℕ × List ℕ) (r : Result Message ℕ) → message_of g.0 ≡ r → option_map (λ (m : Message). let p : Message × List ℕ = (m, g.1) in p) (value_in r) ≡ Some f → IsRead f.0
    by_payload g (Ok m) is e = subst (λ (p : Message × List ℕ). IsRead p.0) (some_same e) (g.0, is)
    by_payload g (Err n) is e = absurd (none_some e)

    by_frame : (o : Option (List ℕ × List ℕ)) → option_and_then (λ (f : List ℕ × List ℕ). option_map (λ (m : Message). let p : Message × List ℕ = (m, f.1) in p) (value_in (message_of f.0))) o ≡ Some f → IsRead f.0
    by_frame None e = absurd (none_some e)
    by_frame (Some g) e = by_payload g (message_of g.0) refl e

cut_read : (n : ℕ) (held : List ℕ) → Each IsRead (cut n held).0
cut_read zero held = tt
cut_read (suc n) held = by (first_message held) refl (λ rest. cut_read n rest)
  where
    by : (o : Option (Message × List ℕ)) → first_message held ≡ o → ((rest : List ℕ) → Each IsRead (cut n rest).0) → Each IsRead (then_cut n held o).0
    by None is more = tt
    by (Some f) is more = (first_read held f is, more f.1)

each_drop : (Q : Message → Type 0) (n : ℕ) (ms : List Message) → Each Q ms → Each Q (drop n ms)
each_drop Q zero ms all = all
each_drop Q (suc n) [] all = tt
each_drop Q (suc n) (m ∷ ms) all = each_drop Q n ms all.1

each_front : (Q : Message → Type 0) (ms more : List Message) → Each Q (ms ++ more) → Each Q ms
each_front Q [] more all = tt
each_front Q (m ∷ ms) more all = (all.0, each_front Q ms more all.1)

got_there : (H : List Entry) (s : SimNo) (m : Message) (more : List Entry) → IsIn m (got (H ++ Got s m ∷ more) s.0)
got_there H s m more = filter_map_in (got_from s.0) (Got s m) m (H ++ Got s m ∷ more) (in_back (Got s m) H (Got s m ∷ more) (inl refl)) (ap (λ b. if b then Some m else None) (same_self s.0))

-- a message that a journal got of a link
pub link_read : (S : Scenario) (log : List LogEntry) (l : LinkNo) (J H : List Entry) (s : SimNo) (m : Message) (more : List Entry) → BeginsWith (run_messages S log s.0 l) (got J s.0) → J ≡ H ++ Got s m ∷ more → IsRead m
link_read S log l J H s m more begins is =
    let heard = heard_on l log in
    let all : Each IsRead (run_messages S log s.0 l) = each_drop IsRead (setup_count S s.0) (messages_heard heard) (cut_read (length heard) heard) in
    in_each IsRead m (got J s.0) (each_front IsRead (got J s.0) begins.0 (subst (Each IsRead) begins.1 all)) (subst (λ (K : List Entry). IsIn m (got K s.0)) (sym is) (got_there H s m more))
