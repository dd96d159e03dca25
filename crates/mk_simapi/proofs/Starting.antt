-- What a program that is one simulator did.
use Rattle.std.proofs.Common.{◌≡◌, ℕ, ◌+◌, inl, inr, List, [], ◌∷◌, ◌++◌, Option, Some, sym, ap, ◌∙◌, subst}
use Rattle.mk_base.specs.declared.LinkNo.{LinkNo}
use Rattle.mk_base.proofs.Lists.{append_nil, some_same}
use Rattle.mk_base.specs.Links.{without}
use Rattle.mk_outside.specs.declared.fleet.LogEntry.{LogEntry}
use Rattle.mk_outside.specs.Logs.{Adds}
use Rattle.mk_outside.proofs.OnLogs.{adds_more}
use Rattle.mk_local.specs.declared.turn.Turn.{Turn}
use Rattle.mk_local.specs.Kinds.{kind_named}
use Rattle.mk_local.specs.Simulators.{new_simulator}
use Rattle.mk_simapi.specs.declared.served.Served.{Served}
use Rattle.mk_simapi.specs.Serving.{Serves}
use Rattle.mk_outside.specs.Asked.{Asked, Asks, to_start}
use Rattle.mk_outside.specs.declared.fleet.Start.TheVariants.{Connect}
use Rattle.mk_outside.proofs.OnAsked.{asks_still}
use Rattle.mk_simapi.specs.Children.{AsksToConnect, HasEnded, status_of}

pub has_served : (rows : List Turn) (kind asked text : List ℕ) (port number started one_more going ended : ℕ) (link : LinkNo) (end : Served) (before opened served closed : List LinkNo) (old one two new : Option (List LogEntry)) (status : ℕ) (given : Option (List ℕ × ℕ))
    → given ≡ Some (asked, number) → given ≡ Some (kind, port) → text ≡ asked → link.0 ≡ started → one_more ≡ started + 1 → going ≡ one_more → ended ≡ going → opened ≡ before ++ link ∷ [] → served ≡ opened → closed ≡ without link served
    → Adds [] old one → ((entries : List LogEntry) × Adds entries one two × ((row : Turn) → kind_named text rows ≡ Some row → Serves (new_simulator row) link end entries)) → Adds [] two new → status ≡ status_of end
    → HasEnded rows kind started ended before closed old new status
has_served rows kind asked text port number started one_more going ended link end before opened served closed old one two new status given words wanted named numbered one_link goes_on at_end opens kept shut first did last is =
    let same : asked ≡ kind = ap (λ (p : List ℕ × ℕ). p.0) (some_same (sym words ∙ wanted)) in
    inr (record {
      link = link;
      is = numbered;
      end = end;
      entries = did.0 ++ [];
      adds = adds_more did.0 [] old two new (adds_more [] did.0 old one two first did.1) last;
      serves = λ row e. subst (λ (l : List LogEntry). Serves (new_simulator row) link end l) (sym (append_nil did.0)) (did.2 row (ap (λ (k : List ℕ). kind_named k rows) (named ∙ same) ∙ e));
      number = at_end ∙ goes_on ∙ one_link;
      links = shut ∙ ap (without link) (kept ∙ opens);
      status = is;
    })

-- the fleet was asked for a link to the port that the words give
pub has_connected : (kind asked : List ℕ) (port number started one_more going ended : ℕ) (old one two new : Option (List Asked)) (given : Option (List ℕ × ℕ))
    → given ≡ Some (asked, number) → given ≡ Some (kind, port) → one_more ≡ started + 1 → going ≡ one_more → ended ≡ going
    → Asks (to_start (Connect number) ∷ []) old one → two ≡ one → new ≡ two → AsksToConnect port started ended old new
has_connected kind asked port number started one_more going ended old one two new given words wanted one_link goes_on at_end first did last =
    let same : number ≡ port = ap (λ (p : List ℕ × ℕ). p.1) (some_same (sym words ∙ wanted)) in
    inl (at_end ∙ goes_on ∙ one_link, asks_still (to_start (Connect port) ∷ []) old one new (subst (λ (n : ℕ). Asks (to_start (Connect n) ∷ []) old one) same first) (last ∙ did))
