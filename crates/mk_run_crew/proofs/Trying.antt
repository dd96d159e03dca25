-- A try of a crew that keeps no reply, from that of its links.
use Rattle.std.proofs.Common.{◌≡◌, List, [], Option, Some, None, Ok, Err, refl, sym, subst}
use Rattle.mk_base.specs.declared.SimNo.{SimNo}
use Rattle.mk_plan.specs.declared.Message.{Message}
use Rattle.mk_plan.specs.Journals.{Arrival}
use Rattle.mk_outside.specs.declared.fleet.LogEntry.{LogEntry}
use Rattle.mk_run_laws.specs.Crews.{IsHeard, IsUnheard}
use Rattle.mk_run_links.specs.declared.answers.LinkHalt.{LinkHalt}
use Rattle.mk_run_links.specs.Crews as links
use Rattle.mk_run_links.specs.Places.{crew}
use Rattle.mk_run_crew.specs.Calls.{TriesAs, halt_of}
use Rattle.mk_run_crew.specs.Seen.{CrewSeen, crew_of}

module _ (entries : List LogEntry) (old new : CrewSeen) (before : old.kept ≡ []) (after : new.kept ≡ []) where
  heard_of_crew : (s : _) (m : Message) → IsHeard entries s m (crew old.channels) (crew new.channels) → IsHeard entries s m (crew_of old) (crew_of new)
  heard_of_crew s m h = subst (λ (k : List Arrival). IsHeard entries s m (record { channels = old.channels; kept = k }) (crew_of new)) (sym before)
      (subst (λ (k : List Arrival). IsHeard entries s m (crew old.channels) (record { channels = new.channels; kept = k })) (sym after) h)

  unheard_of_crew : IsUnheard entries (crew old.channels) (crew new.channels) → IsUnheard entries (crew_of old) (crew_of new)
  unheard_of_crew u = subst (λ (k : List Arrival). IsUnheard entries (record { channels = old.channels; kept = k }) (crew_of new)) (sym before)
      (subst (λ (k : List Arrival). IsUnheard entries (crew old.channels) (record { channels = new.channels; kept = k })) (sym after) u)

  pub tried_links : (o : Option (SimNo × Message)) → links.TriesAs (Ok o) entries old.channels new.channels → TriesAs (Ok o) entries old new
  tried_links (Some p) t = (heard_of_crew p.0.0 p.1 t.0, t.1)
  tried_links None t = (unheard_of_crew t.0, t.1, t.2)

  pub untried_links : (why : LinkHalt) → links.TriesAs (Err why) entries old.channels new.channels → TriesAs (Err (halt_of why)) entries old new
  untried_links why t = (record { why = why; is = refl; unheard = unheard_of_crew t.0; shown = t.2 }, t.1)
