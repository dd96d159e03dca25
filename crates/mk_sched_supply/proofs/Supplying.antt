-- What acts and open turns have given stays the same where an entry gives nothing.
use Rattle.std.proofs.Common.{◌≡◌, ℕ, ◌<◌, ℤ, Bool, true, false, List, [], ◌∷◌, ◌++◌, length, map, filter, flat_map, Option, Some, None, option_map, refl, sym, ap, ◌∙◌, if◌then◌else◌}
use Rattle.mk_base.specs.declared.tier.Tier.{Tier}
use Rattle.mk_base.specs.declared.tier.Via.TheVariants.{Shift}
use Rattle.mk_base.specs.Lists.{same_text}
use Rattle.mk_base.specs.Tiers.{delayed}
use Rattle.mk_base.proofs.Lists.{filter_append, flat_map_append, append_nil}
use Rattle.mk_plan.specs.declared.Plan.{Plan}
use Rattle.mk_plan.specs.declared.Input.{Input}
use Rattle.mk_plan.specs.declared.Item.{Item}
use Rattle.mk_plan.specs.declared.Item.TheVariants.{Step}
use Rattle.mk_plan.specs.declared.SetValue.{SetValue}
use Rattle.mk_plan.specs.declared.Message.{Message}
use Rattle.mk_plan.specs.declared.Place.{Place}
use Rattle.mk_plan.specs.Plans.{owner, full_id}
use Rattle.mk_plan.specs.Acts.{Act, is_ask}
use Rattle.mk_plan.specs.Asks.{gives_attr, sets_of}
use Rattle.mk_plan.specs.Deliveries.{Supply, supply, gifts_of}
use Rattle.mk_plan.specs.Sequential.{grown}
use Rattle.mk_plan.specs.Journals.{OpenTurn, View, open_after, begun, told_more, note_sent, ended_turn, note_right}
use Rattle.mk_plan.specs.Report.{is_step}
use Rattle.mk_order.specs.Supplies.{SameSupply, cut_turn, cut_turns, given_so_far}
use Rattle.mk_order.proofs.Seen.{open_after_is}
use Rattle.mk_order.proofs.Opened.{outputs_opened}
use Rattle.mk_order.proofs.Entries.{opened_case, grown_case}
use Rattle.mk_order.proofs.GivenEntries.{told_gifts}

module _ (P : Plan) where
  pub supply_through : (S T U : Supply) → SameSupply P S T → SameSupply P T U → SameSupply P S U
  supply_through S T U f g = record { outputs = λ e attr given. f.outputs e attr given ∙ g.outputs e attr given; gifts = λ e low. f.gifts e low ∙ g.gifts e low }

  -- the gifts of a turn that was cut or ended, by its requests
  gifts_by_asks : (e : ℕ) (a b : Act) → b.at ≡ a.at → filter is_ask b.messages ≡ filter is_ask a.messages → gifts_of P e (b ∷ []) ≡ gifts_of P e (a ∷ [])
  gifts_by_asks e a b at same = λ i. map (λ w. record { at = delayed (at i) (Shift 1); given = w }) (filter (λ (w : SetValue). same_text w.source (full_id P e)) (flat_map (sets_of P (owner P e)) (same i))) ++ []

  no_more_asks : (ms : List Message) (m : Message) → is_ask m ≡ false → filter is_ask (ms ++ m ∷ []) ≡ filter is_ask ms
  no_more_asks ms m quiet = filter_append is_ask ms (m ∷ []) ∙ ap (λ (b : Bool). filter is_ask ms ++ (if b then m ∷ [] else [])) quiet ∙ append_nil (filter is_ask ms)

  module _ (V : View) where
    -- the outputs are those of acts
    same_outputs : (W : View) → ((e : ℕ) (attr : List ℕ) → (supply P W.acts).outputs e attr ≡ (supply P V.acts).outputs e attr) → (e : ℕ) (attr : List ℕ) → (given_so_far P V).outputs e attr ≡ (given_so_far P W).outputs e attr
    same_outputs W same e attr = outputs_opened P V e attr ∙ sym (same e attr) ∙ sym (outputs_opened P W e attr)

    pub step_supplies : (s : ℕ) (x : Tier) (ins : List Input) (advance : ℤ) → V.open_at s ≡ None → SameSupply P (given_so_far P V) (given_so_far P (note_sent P V s (Step x ins advance)))
    step_supplies s x ins advance shut = record {
      outputs = λ e attr given. same_outputs (note_sent P V s (Step x ins advance)) (λ e attr. refl) e attr;
      gifts = λ e low. sym (opened_case (λ o. gifts_of P e (V.acts (owner P e) ++ cut_turns o) ≡ gifts_of P e (V.acts (owner P e) ++ cut_turns (V.open_at (owner P e)))) V s (Some (begun P V s x (Step x ins advance))) (owner P e)
          (λ is. flat_map_append _ (V.acts (owner P e)) (cut_turn (begun P V s x (Step x ins advance)) ∷ []) ∙ sym (flat_map_append _ (V.acts (owner P e)) []) ∙ ap (λ (o : Option OpenTurn). gifts_of P e (V.acts (owner P e) ++ cut_turns o)) (sym (ap V.open_at is ∙ shut)))
          (λ n. refl));
    }

    pub told_supplies : (s : ℕ) (item : Item) → is_step item ≡ false → SameSupply P (given_so_far P V) (given_so_far P (note_sent P V s item))
    told_supplies s item late = record {
      outputs = λ e attr given. same_outputs (note_sent P V s item) (λ e attr. refl) e attr;
      gifts = λ e low. sym (opened_case (λ o. gifts_of P e (V.acts (owner P e) ++ cut_turns o) ≡ gifts_of P e (V.acts (owner P e) ++ cut_turns (V.open_at (owner P e)))) V s (open_after P V s item) (owner P e)
          (λ is. ap (λ (o : Option OpenTurn). gifts_of P e (V.acts (owner P e) ++ cut_turns o)) (open_after_is P V s item late ∙ ap (λ (i : ℕ). option_map (told_more item) (V.open_at i)) (sym is)) ∙ told_gifts P V e item (V.acts (owner P e)) (V.open_at (owner P e)))
          (λ n. refl));
    }

    module _ (s : ℕ) (m : Message) (T : OpenTurn) (is : V.open_at s ≡ Some T) (quiet : is_ask m ≡ false) where
      -- the open turn's acts with a message more that is no request
      grows : (e : ℕ) → owner P e ≡ s → (b : Act) → b.at ≡ T.at → b.messages ≡ T.messages ++ m ∷ [] → gifts_of P e (V.acts (owner P e) ++ b ∷ []) ≡ (given_so_far P V).gifts e
      grows e own b at ms = flat_map_append _ (V.acts (owner P e)) (b ∷ []) ∙ ap (λ l. gifts_of P e (V.acts (owner P e)) ++ l) (gifts_by_asks e (cut_turn T) b at (ap (filter is_ask) ms ∙ no_more_asks T.messages m quiet))
          ∙ sym (flat_map_append _ (V.acts (owner P e)) (cut_turn T ∷ [])) ∙ ap (λ (o : Option OpenTurn). gifts_of P e (V.acts (owner P e) ++ cut_turns o)) (sym (ap V.open_at own ∙ is))

      pub went_supplies : (q : Place) → SameSupply P (given_so_far P V) (given_so_far P (note_right P V s m T (Some q)))
      went_supplies q = record {
        outputs = λ e attr given. same_outputs (note_right P V s m T (Some q)) (λ e attr. refl) e attr;
        gifts = λ e low. sym (opened_case (λ o. gifts_of P e (V.acts (owner P e) ++ cut_turns o) ≡ (given_so_far P V).gifts e) V s _ (owner P e) (λ own. grows e own _ refl refl) (λ n. refl));
      }

      pub ended_gifts : (e : ℕ) → (given_so_far P (note_right P V s m T None)).gifts e ≡ (given_so_far P V).gifts e
      ended_gifts e = opened_case (λ o. gifts_of P e ((note_right P V s m T None).acts (owner P e) ++ cut_turns o) ≡ (given_so_far P V).gifts e) V s None (owner P e)
          (λ own. grown_case (λ l. gifts_of P e (l ++ []) ≡ (given_so_far P V).gifts e) V.acts s (ended_turn T m) (owner P e) (λ _. ap (gifts_of P e) (append_nil (V.acts (owner P e) ++ ended_turn T m ∷ [])) ∙ grows e own (ended_turn T m) refl refl) (λ n. absurd (n own)))
          (λ n. grown_case (λ l. gifts_of P e (l ++ cut_turns (V.open_at (owner P e))) ≡ (given_so_far P V).gifts e) V.acts s (ended_turn T m) (owner P e) (λ own. absurd (n own)) (λ _. refl))

      -- the outputs of a turn that ends are those of its act, behind those of the acts before
      pub ended_supplies : (S : Supply) → ((e : ℕ) (attr : List ℕ) → gives_attr P e attr ≡ true → S.outputs e attr ≡ (supply P (grown V.acts s (ended_turn T m))).outputs e attr)
          → ((e : ℕ) → e < length P.entities → S.gifts e ≡ (given_so_far P V).gifts e) → SameSupply P S (given_so_far P (note_right P V s m T None))
      ended_supplies S outs gifts = record {
        outputs = λ e attr given. outs e attr given ∙ sym (outputs_opened P (note_right P V s m T None) e attr);
        gifts = λ e low. gifts e low ∙ sym (ended_gifts e);
      }
