-- What one more entry adds to what was sent.
use Rattle.std.proofs.Common.{◌≡◌, ℕ, Bool, List, [], ◌∷◌, ◌++◌, Some, None, sym, ap, if◌then◌else◌}
use Rattle.std.specs.List.{cons_option}
use Rattle.mk_base.specs.declared.SimNo.{SimNo}
use Rattle.mk_base.proofs.Counts.{not_same, same_self}
use Rattle.mk_base.proofs.Lists.{filter_map_append}
use Rattle.mk_plan.specs.declared.Item.{Item}
use Rattle.mk_plan.specs.declared.Entry.{Entry}
use Rattle.mk_plan.specs.declared.Entry.TheVariants.{Sent}
use Rattle.mk_plan.specs.Journals.{sent, sent_to, Arrival}
use Rattle.mk_plan.specs.declared.Message.{Message}

pub sent_here : (s : SimNo) (item : Item) → sent (Sent s item ∷ []) s.0 ≡ item ∷ []
sent_here s item = ap (λ (b : Bool). cons_option (if b then Some item else None) []) (same_self s.0)

pub sent_away : (s : SimNo) (item : Item) (i : ℕ) → (i ≡ s.0 → ⊥) → sent (Sent s item ∷ []) i ≡ []
sent_away s item i n = ap (λ (b : Bool). cons_option (if b then Some item else None) []) (not_same s.0 i (λ e. n (sym e)))

pub sent_push : (J : List Entry) (e : Entry) (i : ℕ) → sent (J ++ e ∷ []) i ≡ sent J i ++ sent (e ∷ []) i
sent_push J e i = filter_map_append (sent_to i) J (e ∷ [])

abbrev pub arrival_of : ℕ → Message → Arrival
arrival_of s m = record { sim = s; message = m }
