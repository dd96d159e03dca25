-- What is said on a link of a resumed run.
use Rattle.std.proofs.Common.{inl, inr, ℕ, List, [], ◌∷◌, length, map, sym, ap, ◌∙◌}
use Rattle.mk_base.specs.Lists.{BeginsWith}
use Rattle.mk_base.proofs.Lists.{append_nil, filter_map_append, map_append}
use Rattle.mk_plan.specs.declared.Entry.{Entry}
use Rattle.mk_plan.specs.declared.Entry.TheVariants.{Got}
use Rattle.mk_plan.specs.Sequential.{run_items}
use Rattle.mk_plan.specs.Journals.{sent, sent_to, got, bare}
use Rattle.mk_resume_walk.specs.Talks.{free_items, up_to}
use Rattle.mk_resume_walk.proofs.UpTo.{IsNextAfter, next_after, up_to_all}
use Rattle.mk_resume.specs.Laws.{ResumedRunsSayRight}
use Rattle.mk_base.proofs.Counts.{below_or_not}
use Rattle.mk_base.proofs.Items.{begins_twice}

-- what is free was sent
pub free_begins : (J : List Entry) (i n : ℕ) → BeginsWith (sent J i) (free_items J i n)
free_begins J i n = elim (below_or_not n (length (got J i))) [
  | inl more ↦
      let t : IsNextAfter i n J = next_after i n J more in
      (sent (Got t.sim t.message ∷ t.later) i, ap (λ (K : List Entry). sent K i) t.parts ∙ filter_map_append (sent_to i) (up_to i n J) (Got t.sim t.message ∷ t.later))
  | inr all ↦ ([], ap (λ (K : List Entry). sent K i) (sym (up_to_all i n J all)) ∙ sym (append_nil (free_items J i n)))
]

pub says_right : ResumedRunsSayRight
says_right X P saved J faults new_faults end r i l linked =
    let t = r.links i l linked in
    record {
      items = t.0;
      free = t.1.items_sent;
      said = t.1.said;
      framed = t.1.framed;
      whole = t.1.whole;
      all = t.2;
      as_executed = λ R goes low. begins_twice (run_items P R i) (map bare (sent J i)) (map bare t.0) (r.agrees R goes i low)
          (let b = begins_twice (sent J i) (free_items J i (r.heard i)) t.0 (free_begins J i (r.heard i)) t.1.items_sent in (map bare b.0, ap (map bare) b.1 ∙ map_append bare t.0 b.0));
    }
