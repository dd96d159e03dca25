-- The messages that a verdict names came, so they may be written.
use Rattle.std.proofs.Common.{◌≡◌, ℕ, true, false, List, [], ◌∷◌, ◌++◌, All, Some, None, refl, sym, ap, ◌∙◌, subst, inl, inr, ◌==◌, if◌then◌else◌}
use Rattle.std.specs.List.{list_all}
use Rattle.std.proofs.lemmas.Bool.{and_from}
use Rattle.mk_base.specs.Lists.{IsIn}
use Rattle.mk_base.proofs.Lists.{some_same, none_some, in_back, in_filter_map, filter_map_in, filter_map_append, all_in}
use Rattle.mk_plan.specs.declared.Plan.{Plan}
use Rattle.mk_plan.specs.declared.Message.{Message}
use Rattle.mk_plan.specs.declared.Entry.{Entry}
use Rattle.mk_plan.specs.declared.Entry.TheVariants.{Sent, Got}
use Rattle.mk_plan.specs.Acts.{Said, Heard}
use Rattle.mk_plan.specs.Journals.{Arrival, arrival_of, arrivals, got, got_from}
use Rattle.mk_record.specs.Steps.{IsKnown}
use Rattle.mk_blame.specs.declared.verdict.Blamed.{Blamed}
use Rattle.mk_blame.specs.declared.verdict.Verdict.{Verdict}
use Rattle.mk_blame.specs.declared.verdict.Verdict.TheVariants as verdicts
use Rattle.mk_blame.specs.Talks.{talk, message_in, messages}
use Rattle.mk_blame.specs.Verdicts.{IsBlamed, IsVerdict}
use Rattle.mk_blame.specs.Written.{may_be_written, is_writable}
use Rattle.mk_blame.proofs.Talking.{messages_of_talk}
use Rattle.mk_plan.specs.Messages.{is_message_in_range}

came_from : (i : ℕ) (e : Entry) (m : Message) → got_from i e ≡ Some m → (a : Arrival) × (arrival_of e ≡ Some a) × (a.message ≡ m)
came_from i (Sent s item) m h = absurd (none_some h)
came_from i (Got s n) m h = elim (s.0 == i) as (λ b. (if b then Some n else None) ≡ Some m → (a : Arrival) × (Some (record { sim = s.0; message = n }) ≡ Some a) × (a.message ≡ m)) [
  | true ↦ λ e. (record { sim = s.0; message = n }, refl, some_same e)
  | false ↦ λ e. absurd (none_some e)
] h

came_in : (J : List Entry) (i : ℕ) (m : Message) → IsIn m (got J i) → (a : Arrival) × IsIn a (arrivals J) × (a.message ≡ m)
came_in J i m inside =
    let t = in_filter_map (got_from i) m J inside in
    let a = came_from i t.0 m t.2 in
    (a.0, filter_map_in arrival_of t.0 a.0 J t.1 a.1, a.2)

-- a message of a talk is one that came
talked : (J : List Entry) (i : ℕ) (before more : List Said) (m : Message) → talk J i ≡ before ++ Heard m ∷ more → IsIn m (got J i)
talked J i before more m is =
    subst (λ (l : List Message). IsIn m l) (sym (filter_map_append message_in before (Heard m ∷ more)) ∙ sym (ap messages is) ∙ messages_of_talk J i)
    (in_back m (messages before) (m ∷ messages more) (inl refl))

in_range : (P : Plan) (J : List Entry) → All (IsKnown P) (arrivals J) → (i : ℕ) (before more : List Said) (m : Message) → talk J i ≡ before ++ Heard m ∷ more → is_message_in_range m ≡ true
in_range P J known i before more m is =
    let t = came_in J i m (talked J i before more m is) in
    sym (ap is_message_in_range t.2) ∙ (all_in (IsKnown P) (arrivals J) t.0 known t.1).in_range

module _ (P Q : Plan) (J K : List Entry) (known : All (IsKnown P) (arrivals J)) (other : All (IsKnown Q) (arrivals K)) where
  one_written : (b : Blamed) → IsBlamed J K b → may_be_written b ≡ true
  one_written b is = and_from (is_message_in_range b.first) (is_message_in_range b.second)
      (in_range P J known b.sim.0 is.before is.parts.more b.first is.parts.first) (in_range Q K other b.sim.0 is.before is.parts.other b.second is.parts.second)

  all_written : (bs : List Blamed) → ((b : Blamed) → IsIn b bs → IsBlamed J K b) → list_all may_be_written bs ≡ true
  all_written [] each = refl
  all_written (b ∷ bs) each = and_from (may_be_written b) (list_all may_be_written bs) (one_written b (each b (inl refl))) (all_written bs (λ c inside. each c (inr inside)))

  pub writable : (v : Verdict) → IsVerdict P J K v → is_writable v ≡ true
  writable verdicts.Equal is = refl
  writable (verdicts.Blamed bs) is = all_written bs (λ b inside. (is.1.each b inside).1)
