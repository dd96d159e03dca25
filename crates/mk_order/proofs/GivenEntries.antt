-- Set values that are given as requests are answered: what each kind of entry does to those of acts
-- and open turns, and the inputs by them.
use Rattle.std.proofs.Common.{◌≡◌, ℕ, ◌<◌, ℤ, Bool, true, false, List, [], ◌∷◌, ◌++◌, length, map, filter, flat_map, Option, Some, None, option_map, refl, sym, ap, ◌∙◌, subst, inl, inr, true≢false, int_lt, ◌==◌, ◌&&◌, ◌||◌, append_assoc}
use Rattle.std.proofs.lemmas.Bool.{eqb-true, eq-eqb}
use Rattle.mk_base.specs.declared.tier.Tier.{Tier}
use Rattle.mk_base.specs.declared.tier.Via.TheVariants.{Shift}
use Rattle.mk_base.specs.Lists.{IsIn, same_text}
use Rattle.mk_base.specs.Tiers.{delayed, up_to}
use Rattle.mk_base.proofs.Lists.{in_map, in_either, filter_none, filter_append, map_append, flat_map_append, append_nil}
use Rattle.mk_plan.specs.declared.Plan.{Plan}
use Rattle.mk_plan.specs.declared.Conn.{Conn}
use Rattle.mk_plan.specs.declared.Input.{Input}
use Rattle.mk_plan.specs.declared.Item.{Item}
use Rattle.mk_plan.specs.declared.Item.TheVariants.{Step}
use Rattle.mk_plan.specs.declared.SetValue.{SetValue}
use Rattle.mk_plan.specs.declared.Message.{Message}
use Rattle.mk_plan.specs.declared.Message.TheVariants.{Ask, Success, Failure}
use Rattle.mk_plan.specs.declared.Place.{Place}
use Rattle.mk_plan.specs.Plans.{owner, full_id}
use Rattle.mk_plan.specs.Acts.{Act, is_ask}
use Rattle.mk_plan.specs.Asks.{sets_of, set_values}
use Rattle.mk_plan.specs.Deliveries.{Timed, Gift, Supply, supply, gifts_of}
use Rattle.mk_plan.specs.Inputs.{latest, is_since, initial_of, pick, assemble, inputs}
use Rattle.mk_plan.specs.Journals.{OpenTurn, View, open_after, begun, told_more, note_sent, ended_turn, note_right}
use Rattle.mk_plan.specs.Ready.{IsReady}
use Rattle.mk_plan.specs.Report.{is_step}
use Rattle.mk_order.specs.Supplies.{cut_turn, cut_turns, given_so_far}
use Rattle.mk_order.proofs.Seen.{open_after_is}
use Rattle.mk_order.proofs.Opened.{inputs_opened, outputs_opened}
use Rattle.mk_order.proofs.Entries.{opened_case, grown_case}
use Rattle.mk_order.proofs.GivenValues.{AreGiven, IsUnder, message_under, filter_map_gifts, is_for, assemble_given}
use Rattle.mk_base.proofs.Guessing.{text_is}

module _ (P : Plan) where
  abbrev gift_at : Tier → SetValue → Gift
  gift_at x w = record { at = delayed x (Shift 1); given = w }

  -- the gifts of a message of s in a turn at x
  abbrev pub gifts_by : ℕ → Tier → Message → List Gift
  gifts_by s x m = map (λ w. record { at = delayed x (Shift 1); given = w }) (sets_of P s m)

  abbrev from_entity : ℕ → Gift → Bool
  from_entity e g = same_text g.given.source (full_id P e)

  -- gifts of s behind the others
  pub given_more : ((d e : ℕ) → d < length P.entities → e < length P.entities → full_id P d ≡ full_id P e → owner P d ≡ owner P e) → (S T : Supply) (s : ℕ) (news all : List Gift)
      → ((e : ℕ) → owner P e ≡ s → T.gifts e ≡ S.gifts e ++ filter (λ g. same_text g.given.source (full_id P e)) news) → ((e : ℕ) → (owner P e ≡ s → ⊥) → T.gifts e ≡ S.gifts e) → ((g : Gift) → IsIn g news → IsUnder P s g.given)
      → AreGiven P S all → AreGiven P T (all ++ news)
  given_more apart S T s news all own other under given = record {
    by_source = λ e low. filter_append (from_entity e) all news ∙ ap (λ (l : List Gift). l ++ filter (from_entity e) news) (given.by_source e low) ∙ behind e low (owner P e == s) refl;
    sourced = λ g m. elim (in_either g all news m) [ inl o ↦ given.sourced g o | inr n ↦ let u = under g n in (u.entity, u.below, u.named) ];
  }
    where
      unlike : (e : ℕ) → e < length P.entities → (owner P e ≡ s → ⊥) → (g : Gift) → IsIn g news → (b : Bool) → from_entity e g ≡ b → from_entity e g ≡ false
      unlike e low n g m false h = h
      unlike e low n g m true h = let u = under g m in absurd (n (apart e u.entity low u.below (sym (text_is g.given.source (full_id P e) h) ∙ u.named) ∙ u.owned))

      behind : (e : ℕ) → e < length P.entities → (b : Bool) → (owner P e == s) ≡ b → S.gifts e ++ filter (from_entity e) news ≡ T.gifts e
      behind e low true is = sym (own e (eqb-true (owner P e) s is))
      behind e low false is =
          let n : owner P e ≡ s → ⊥ = λ q. true≢false (sym (eq-eqb (owner P e) s q) ∙ is) in
          ap (λ (l : List Gift). S.gifts e ++ l) (filter_none (from_entity e) news (λ g m. unlike e low n g m (from_entity e g) refl)) ∙ append_nil (S.gifts e) ∙ sym (other e n)

  -- gifts as before
  pub given_same : (S T : Supply) (all : List Gift) → ((e : ℕ) → T.gifts e ≡ S.gifts e) → AreGiven P S all → AreGiven P T all
  given_same S T all same given = record { by_source = λ e low. given.by_source e low ∙ sym (same e); sourced = given.sourced }

  -- ---- one message more in a turn

  one_message : (i : ℕ) (m : Message) → flat_map (sets_of P i) (filter is_ask (m ∷ [])) ≡ sets_of P i m
  one_message i (Ask id name args named) = append_nil (sets_of P i (Ask id name args named))
  one_message i (Success id content) = refl
  one_message i (Failure id text) = refl

  gifts_with : (e : ℕ) (a b : Act) (m : Message) → b.at ≡ a.at → b.messages ≡ a.messages ++ m ∷ [] → gifts_of P e (b ∷ []) ≡ gifts_of P e (a ∷ []) ++ filter (λ g. same_text g.given.source (full_id P e)) (gifts_by (owner P e) a.at m)
  gifts_with e a b m at ms = append_nil _ ∙ (λ i. map (gift_at (at i)) (filter mine (sets i))) ∙ ap (map (gift_at a.at)) (filter_append mine (set_values P (owner P e) a) (sets_of P (owner P e) m))
      ∙ map_append (gift_at a.at) (filter mine (set_values P (owner P e) a)) (filter mine (sets_of P (owner P e) m))
      ∙ (λ i. sym (append_nil (map (gift_at a.at) (filter mine (set_values P (owner P e) a)))) i ++ sym (filter_map_gifts P mine a (sets_of P (owner P e) m)) i)
    where
      mine : SetValue → Bool
      mine w = same_text w.source (full_id P e)

      sets : set_values P (owner P e) b ≡ set_values P (owner P e) a ++ sets_of P (owner P e) m
      sets = ap (λ (l : List Message). flat_map (sets_of P (owner P e)) (filter is_ask l)) ms ∙ ap (flat_map (sets_of P (owner P e))) (filter_append is_ask a.messages (m ∷ []))
          ∙ flat_map_append (sets_of P (owner P e)) (filter is_ask a.messages) (filter is_ask (m ∷ [])) ∙ ap (λ (l : List SetValue). set_values P (owner P e) a ++ l) (one_message (owner P e) m)

  module _ (V : View) where
    -- ---- a Step and an owed item give nothing

    pub given_step : (s : ℕ) (x : Tier) (ins : List Input) (advance : ℤ) (all : List Gift) → V.open_at s ≡ None → AreGiven P (given_so_far P V) all → AreGiven P (given_so_far P (note_sent P V s (Step x ins advance))) all
    given_step s x ins advance all shut given = given_same (given_so_far P V) (given_so_far P (note_sent P V s (Step x ins advance))) all
        (λ e. opened_case (λ o. gifts_of P e (V.acts (owner P e) ++ cut_turns o) ≡ gifts_of P e (V.acts (owner P e) ++ cut_turns (V.open_at (owner P e)))) V s (Some (begun P V s x (Step x ins advance))) (owner P e)
        (λ is. flat_map_append _ (V.acts (owner P e)) (cut_turn (begun P V s x (Step x ins advance)) ∷ []) ∙ sym (flat_map_append _ (V.acts (owner P e)) []) ∙ ap (λ (o : Option OpenTurn). gifts_of P e (V.acts (owner P e) ++ cut_turns o)) (sym (ap V.open_at is ∙ shut)))
        (λ n. refl)) given

    pub told_gifts : (e : ℕ) (item : Item) (acts : List Act) (o : Option OpenTurn) → gifts_of P e (acts ++ cut_turns (option_map (told_more item) o)) ≡ gifts_of P e (acts ++ cut_turns o)
    told_gifts e item acts None = refl
    told_gifts e item acts (Some T) = flat_map_append _ acts (cut_turn (told_more item T) ∷ []) ∙ sym (flat_map_append _ acts (cut_turn T ∷ []))

    pub given_told : (s : ℕ) (item : Item) (all : List Gift) → is_step item ≡ false → AreGiven P (given_so_far P V) all → AreGiven P (given_so_far P (note_sent P V s item)) all
    given_told s item all late given = given_same (given_so_far P V) (given_so_far P (note_sent P V s item)) all
        (λ e. opened_case (λ o. gifts_of P e (V.acts (owner P e) ++ cut_turns o) ≡ gifts_of P e (V.acts (owner P e) ++ cut_turns (V.open_at (owner P e)))) V s (open_after P V s item) (owner P e)
        (λ is. ap (λ (o : Option OpenTurn). gifts_of P e (V.acts (owner P e) ++ cut_turns o)) (open_after_is P V s item late ∙ ap (λ (i : ℕ). option_map (told_more item) (V.open_at i)) (sym is)) ∙ told_gifts e item (V.acts (owner P e)) (V.open_at (owner P e)))
        (λ n. refl)) given

    -- ---- a right message gives what it sets, whether or not the turn ends

    module _ (apart : (d e : ℕ) → d < length P.entities → e < length P.entities → full_id P d ≡ full_id P e → owner P d ≡ owner P e) (s : ℕ) (m : Message) (T : OpenTurn) (is : V.open_at s ≡ Some T) (all : List Gift) (given : AreGiven P (given_so_far P V) all) where
      under : (g : Gift) → IsIn g (gifts_by s T.at m) → IsUnder P s g.given
      under g k = let t = in_map (gift_at T.at) g (sets_of P s m) k in subst (λ (h : Gift). IsUnder P s h.given) (sym t.2) (message_under P s m t.0 t.1)

      -- with the open turn's acts, and one more message in it
      grows : (e : ℕ) → owner P e ≡ s → (b : Act) → b.at ≡ T.at → b.messages ≡ T.messages ++ m ∷ [] → gifts_of P e (V.acts (owner P e) ++ b ∷ []) ≡ (given_so_far P V).gifts e ++ filter (λ g. same_text g.given.source (full_id P e)) (gifts_by s T.at m)
      grows e own b at ms = flat_map_append _ (V.acts (owner P e)) (b ∷ []) ∙ ap (λ (l : List Gift). gifts_of P e (V.acts (owner P e)) ++ l) (gifts_with e (cut_turn T) b m at ms)
          ∙ sym (append_assoc (gifts_of P e (V.acts (owner P e))) (gifts_of P e (cut_turn T ∷ [])) (filter (from_entity e) (gifts_by (owner P e) T.at m)))
          ∙ ap (λ (l : List Gift). l ++ filter (from_entity e) (gifts_by (owner P e) T.at m)) (sym (flat_map_append _ (V.acts (owner P e)) (cut_turn T ∷ [])))
          ∙ (λ i. gifts_of P e (V.acts (owner P e) ++ cut_turns (sym (ap V.open_at own ∙ is) i)) ++ filter (from_entity e) (gifts_by (own i) T.at m))

      pub given_went : (q : Place) → AreGiven P (given_so_far P (note_right P V s m T (Some q))) (all ++ gifts_by s T.at m)
      given_went q = given_more apart (given_so_far P V) (given_so_far P (note_right P V s m T (Some q))) s (gifts_by s T.at m) all
          (λ e own. opened_case (λ o. gifts_of P e (V.acts (owner P e) ++ cut_turns o) ≡ (given_so_far P V).gifts e ++ filter (λ g. same_text g.given.source (full_id P e)) (gifts_by s T.at m)) V s _ (owner P e) (λ _. grows e own _ refl refl) (λ n. absurd (n own)))
          (λ e n. opened_case (λ o. gifts_of P e (V.acts (owner P e) ++ cut_turns o) ≡ (given_so_far P V).gifts e) V s _ (owner P e) (λ own. absurd (n own)) (λ _. refl))
          under given

      pub given_ended : AreGiven P (given_so_far P (note_right P V s m T None)) (all ++ gifts_by s T.at m)
      given_ended = given_more apart (given_so_far P V) (given_so_far P (note_right P V s m T None)) s (gifts_by s T.at m) all
          (λ e own. opened_case (λ o. gifts_of P e ((note_right P V s m T None).acts (owner P e) ++ cut_turns o) ≡ (given_so_far P V).gifts e ++ filter (λ g. same_text g.given.source (full_id P e)) (gifts_by s T.at m)) V s None (owner P e)
          (λ _. grown_case (λ l. gifts_of P e (l ++ []) ≡ (given_so_far P V).gifts e ++ filter (λ g. same_text g.given.source (full_id P e)) (gifts_by s T.at m)) V.acts s (ended_turn T m) (owner P e)
          (λ _. ap (gifts_of P e) (append_nil (V.acts (owner P e) ++ ended_turn T m ∷ [])) ∙ grows e own (ended_turn T m) refl refl) (λ n. absurd (n own)))
          (λ n. absurd (n own)))
          (λ e n. opened_case (λ o. gifts_of P e ((note_right P V s m T None).acts (owner P e) ++ cut_turns o) ≡ (given_so_far P V).gifts e) V s None (owner P e) (λ own. absurd (n own))
          (λ _. grown_case (λ l. gifts_of P e (l ++ cut_turns (V.open_at (owner P e))) ≡ (given_so_far P V).gifts e) V.acts s (ended_turn T m) (owner P e) (λ own. absurd (n own)) (λ _. refl)))
          under given

    -- ---- the inputs of a step that may be asked for are those over what was given so far

    pub inputs_given : (s : ℕ) (x : Tier) (p : Option Tier) (all : List Gift) → IsReady P V s x → AreGiven P (given_so_far P V) all
        → inputs P (supply P V.acts) s p x ≡ assemble P s (λ c. pick P (supply P V.acts) c p x) (map (λ (g : Gift). g.given) (filter (is_for P s p x) all))
    inputs_given s x p all ready given = sym (inputs_opened P V s x p ready) ∙ assemble_given P (given_so_far P V) all given s p x (λ c. pick P (given_so_far P V) c p x)
        ∙ ap (λ (f : Conn → Option Timed). assemble P s f (map (λ (g : Gift). g.given) (filter (is_for P s p x) all))) (λ i c. same_pick c i)
      where
        same_pick : (c : Conn) → pick P (given_so_far P V) c p x ≡ pick P (supply P V.acts) c p x
        same_pick c = ap (λ (l : List Timed). latest (filter (λ d. up_to d.at x && (c.persistent || is_since p d.at)) (initial_of c ++ filter (λ d. int_lt d.at.time P.until) (map (λ o. record { at = delayed o.at c.via; value = o.value }) l))))
            (outputs_opened P V c.from c.from_attr)
