-- What was shown of a run is what its record says.
use Rattle.std.proofs.Common.{◌≡◌, ◌⊎◌, inl, inr, ℕ, Bool, true, false, List, [], Option, Some, None, IfSome, option_map, refl, sym, subst}
use Rattle.mk_plan.specs.declared.Plan.{Plan}
use Rattle.mk_plan.specs.declared.Journal.{Journal}
use Rattle.mk_plan.specs.declared.Entry.{Entry}
use Rattle.mk_onlooker.specs.Showings.{IsShown, IsShownIn}
use Rattle.mk_record.specs.Texts.{record_text}
use Rattle.mosaikrun_run.specs.Sayings.{record_of}
use Rattle.mosaikrun_run.specs.Shown.{HasShown}

recorded_so : (wanted : Bool) (P : Plan) (J : List Entry) (record_ : Option (List ℕ)) → record_ ≡ record_of wanted P J → IfSome record_ (λ bytes. bytes ≡ record_text P J)
recorded_so true P J record_ e = subst (λ (r : Option (List ℕ)). IfSome r (λ bytes. bytes ≡ record_text P J)) (sym e) refl
recorded_so false P J record_ e = subst (λ (r : Option (List ℕ)). IfSome r (λ bytes. bytes ≡ record_text P J)) (sym e) tt

pub recorded_or_not : {V : Type 0} (f : V → List ℕ) (wanted : Bool) (P : Plan) (J : List Entry) (kept : Option V) (X : Type 0) → (option_map f kept ≡ record_of wanted P J) ⊎ ((kept ≡ None) × X) → IfSome (option_map f kept) (λ bytes. bytes ≡ record_text P J)
recorded_or_not f wanted P J kept X (inl e) = recorded_so wanted P J (option_map f kept) e
recorded_or_not {V} f wanted P J kept X (inr t) = subst (λ (r : Option V). IfSome (option_map f r) (λ bytes. bytes ≡ record_text P J)) (sym t.0) tt

module _ {O : Type 0} (looks : O → Plan → List Entry → Bool → O → Type 0) (pause : Bool) (plan : Option Plan) (journal : Option Journal) (old new : O) (shown : IsShownIn looks pause plan journal old new) where
  pub shown_run : (P : Plan) (J : Journal) → plan ≡ Some P → journal ≡ Some J → {V : Type 0} (f : V → List ℕ) (wanted : Bool) (kept : Option V) (X : Type 0) → (option_map f kept ≡ record_of wanted P J.entries) ⊎ ((kept ≡ None) × X) → HasShown looks pause (option_map f kept) old new
  shown_run P J has_plan has_journal f wanted kept X recorded = inr (record {
    plan = P;
    journal = J.entries;
    shown = subst (λ (j : Option Journal). IsShownIn looks pause (Some P) j old new) has_journal (subst (λ (p : Option Plan). IsShownIn looks pause p journal old new) has_plan shown);
    recorded = recorded_or_not f wanted P J.entries kept X recorded;
  })

  pub unshown_run : plan ≡ None → journal ≡ None → HasShown looks pause None old new
  unshown_run no_plan no_journal = inl (subst (λ (p : Option Plan). IsShownIn looks pause p journal old new) no_plan shown, refl)
