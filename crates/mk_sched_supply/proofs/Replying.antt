-- What a request is answered, and the stock after its values are given.
use Rattle.std.proofs.Common.{◌≡◌, ℕ, ◌<◌, Bool, true, false, cond, not, List, [], ◌∷◌, ◌++◌, length, filter, Option, Some, None, option_map, unwrap_or, slice_get, pos, refl, sym, ap, ◌∙◌, subst, true≢false, ◌==◌, append_assoc, Result, Ok, Err}
use Rattle.std.specs.Prelude.{IfOk}
use Rattle.mk_base.specs.declared.SimNo.{SimNo}
use Rattle.mk_base.specs.declared.json.Json.{Json}
use Rattle.mk_base.specs.declared.tier.Tier.{Tier}
use Rattle.mk_base.specs.Lists.{same_text}
use Rattle.mk_base.specs.Tiers.{delayed, moment, up_to}
use Rattle.mk_base.specs.declared.tier.Via.TheVariants.{Shift}
use Rattle.mk_base.proofs.Lists.{append_nil, filter_append, map_append, none_some, some_same}
use Rattle.mk_plan.specs.declared.Entry.{Entry}
use Rattle.mk_plan.specs.declared.Entry.TheVariants.{Got}
use Rattle.mk_plan.specs.declared.Item.{Item}
use Rattle.mk_plan.specs.declared.Item.TheVariants.{Answer, Refuse}
use Rattle.mk_plan.specs.declared.Message.{Message}
use Rattle.mk_plan.specs.declared.Message.TheVariants.{Ask}
use Rattle.mk_plan.specs.declared.Place.{Place}
use Rattle.mk_plan.specs.declared.Plan.{Plan}
use Rattle.mk_plan.specs.declared.SetValue.{SetValue}
use Rattle.mk_plan.specs.Plans.{IsValidPlan, full_id}
use Rattle.mk_plan.specs.Asks.{AskAnswer, Answered, Refused, Lookup, Request, answer, answer_request, answered_sets, content_text, is_function, item_of, knows, no_pair, permits, request_of, sets_in, sets_of, unknown_function, unknown_name}
use Rattle.mk_plan.specs.Deliveries.{Gift, Supply, Timed, supply}
use Rattle.mk_plan.specs.Inputs.{latest, value_at}
use Rattle.mk_plan.specs.Journals.{OpenTurn, View, note_right, note_sent, view}
use Rattle.mk_plan.specs.Report.{is_step}
use Rattle.mk_plan.specs.Sequential.{response}
use Rattle.mk_plan.proofs.FullIds.{same_full}
use Rattle.mk_order.proofs.EntityNames.{same_owner}
use Rattle.mk_order.proofs.GivenEntries.{given_went, gifts_by}
use Rattle.mk_order.specs.Supplies.{given_so_far, SameSupply}
use Rattle.mk_order.proofs.GivenValues.{AreGiven}
use Rattle.mk_order.specs.Pending.{IsMarkOf}
use Rattle.mk_order.proofs.Opened.{outputs_opened}
use Rattle.mk_order.proofs.Supplies.{response_by}
use Rattle.mk_plan_names.specs.Names.{AreNamesOf}
use Rattle.mk_async.specs.Asked.{IsGivenBy, asked_in, refusal_in}
use Rattle.mk_async.specs.declared.request.Asked.{Asked}
use Rattle.mk_buffers.specs.declared.buffers.Buffers.{Buffers}
use Rattle.mk_buffers.specs.Held.{with_gift}
use Rattle.mk_buffers.specs.Standing.{IsSourced, StandFor, mark_of}
use Rattle.mk_sched_open.specs.Turns.{IsRight}
use Rattle.mk_sched_supply.specs.declared.stock.Stock.{Stock}
use Rattle.mk_sched_supply.specs.inner.Gifts.{HasGifts, HasGivenAll, HasGivenOf, IsAnswerBy, gifts_in}
use Rattle.mk_sched_supply.specs.inner.Making.{HasSameRest}
use Rattle.mk_sched_supply.specs.Stock.{IsStockOf, MayComeNext}
use Rattle.mk_sched_supply.proofs.Keeping.{mark_going}
use Rattle.mk_sched_supply.proofs.Supplying.{supply_through, told_supplies}
use Rattle.mk_base.proofs.Counts.{equal_same, same_equal}
use Rattle.mk_sched_open.proofs.Every.{answer_late}
use Rattle.mk_base.proofs.Guessing.{text_is}
use Rattle.mk_base.proofs.Items.{same_text_self}

-- ---- the item

refused_is : (id n : ℕ) (a : AskAnswer) → Some n ≡ refusal_in a → Refuse id n ≡ item_of id a
refused_is id n (Answered content sets) h = absurd (none_some (sym h))
refused_is id n (Refused k) h = ap (Refuse id) (some_same h)

last_two : (k p : Bool) (content : List ℕ) (sets : List SetValue) → None ≡ refusal_in (cond (not k) (Refused unknown_name) (cond (not p) (Refused no_pair) (Answered content sets)))
    → cond (not k) (Refused unknown_name) (cond (not p) (Refused no_pair) (Answered content sets)) ≡ Answered content sets
last_two true true content sets h = refl
last_two true false content sets h = absurd (none_some h)
last_two false p content sets h = absurd (none_some h)

module _ (P : Plan) (look : Lookup) (s : ℕ) (r : Request) where
  answered_from : (b : Bool) (o : Option Request) → o ≡ Some r → None ≡ refusal_in (cond (not b) (Refused unknown_function) (answer_request P look s o)) → cond (not b) (Refused unknown_function) (answer_request P look s o) ≡ Answered (content_text P look r) (sets_in P r)
  answered_from false o e h = absurd (none_some h)
  answered_from true None e h = absurd (none_some e)
  answered_from true (Some q) e h = last_two (knows P s q) (permits P s q) (content_text P look q) (sets_in P q) h ∙ ap (λ (q : Request). Answered (content_text P look q) (sets_in P q)) (some_same e)

  answered_is : (name : List ℕ) (args : List Json) (named : Json) → request_of name args named ≡ Some r → None ≡ refusal_in (answer P look s name args named) → answer P look s name args named ≡ Answered (content_text P look r) (sets_in P r)
  answered_is name args named e h = answered_from (is_function name) (request_of name args named) e h

module _ (P : Plan) (V : View) (s : ℕ) (x : Tier) (o : Place) (id : ℕ) (name : List ℕ) (args : List Json) (named : Json) where
  pub refused_item : (n : ℕ) → Some n ≡ refusal_in (answer P (value_at (supply P V.acts) x) s name args named) → Refuse id n ≡ response P (supply P V.acts) s x o (Ask id name args named)
  refused_item n h = refused_is id n (answer P (value_at (supply P V.acts) x) s name args named) h

  -- open turns have no outputs
  opened_response : response P (given_so_far P V) s x o (Ask id name args named) ≡ response P (supply P V.acts) s x o (Ask id name args named)
  opened_response = ap (λ (f : Lookup). item_of id (answer P f s name args named))
      (λ i e attr. option_map (λ (t : Timed). t.value) (latest (filter (λ t. up_to t.at x) (outputs_opened P V e attr i))))

  pub answered_item : (asked : Asked) (S : Supply) (item : Item) → SameSupply P S (given_so_far P V) → None ≡ refusal_in (answer P (value_at S x) s name args named) → asked_in asked ≡ request_of name args named
      → IsAnswerBy P (value_at S x) asked id item → item ≡ response P (supply P V.acts) s x o (Ask id name args named)
  answered_item asked S item same accepted read by = go (asked_in asked) refl by.content
    where
      go : (a : Option Request) → asked_in asked ≡ a → option_map (content_text P (value_at S x)) a ≡ Some by.text → item ≡ response P (supply P V.acts) s x o (Ask id name args named)
      go None is h = absurd (none_some h)
      go (Some r) is h = by.is ∙ ap (Answer id) (sym (some_same h)) ∙ sym (ap (item_of id) (answered_is P (value_at S x) s r name args named (sym read ∙ is) accepted))
          ∙ response_by P S (given_so_far P V) same s x o (Ask id name args named) ∙ opened_response

-- the values that are set
pub refused_sets : (P : Plan) (s id : ℕ) (name : List ℕ) (args : List Json) (named : Json) (n : ℕ) → Some n ≡ refusal_in (answer P (λ e attr. None) s name args named) → [] ≡ sets_of P s (Ask id name args named)
refused_sets P s id name args named n h = by (answer P (λ e attr. None) s name args named) h
  where
    by : (a : AskAnswer) → Some n ≡ refusal_in a → [] ≡ answered_sets a
    by (Answered content sets) h = absurd (none_some (sym h))
    by (Refused k) h = refl

pub asked_sets : (P : Plan) (s id : ℕ) (name : List ℕ) (args : List Json) (named : Json) (asked : Asked) (ws : List SetValue) → None ≡ refusal_in (answer P (λ e attr. None) s name args named) → asked_in asked ≡ request_of name args named
    → option_map (sets_in P) (asked_in asked) ≡ Some ws → ws ≡ sets_of P s (Ask id name args named)
asked_sets P s id name args named asked ws accepted read h = go (asked_in asked) refl h
  where
    go : (a : Option Request) → asked_in asked ≡ a → option_map (sets_in P) a ≡ Some ws → ws ≡ sets_of P s (Ask id name args named)
    go None is h = absurd (none_some h)
    go (Some r) is h = sym (some_same h) ∙ sym (ap answered_sets (answered_is P (λ e attr. None) s r name args named (sym read ∙ is) accepted))

-- ---- gifts, one at a time

module _ (P : Plan) (valid : IsValidPlan P) where
  from_one : (e : ℕ) → e < length P.entities → (g : Gift) → g.given.source ≡ full_id P e → (f : ℕ) → f < length P.entities → (b : Bool) → (f == e) ≡ b → filter (λ h. same_text h.given.source (full_id P f)) (g ∷ []) ≡ cond b (g ∷ []) []
  from_one e below g src f low true is = ap (λ (c : Bool). cond c (g ∷ []) []) (ap (λ (u : List ℕ). same_text u (full_id P f)) (src ∙ ap (full_id P) (sym (same_equal f e is))) ∙ same_text_self (full_id P f))
  from_one e below g src f low false is = go (same_text g.given.source (full_id P f)) refl
    where
      go : (c : Bool) → same_text g.given.source (full_id P f) ≡ c → cond c (g ∷ []) [] ≡ []
      go true h = absurd (true≢false (sym (equal_same f e (same_full P valid.well_formed.names valid.well_formed.references f e low below (sym (text_is g.given.source (full_id P f) h) ∙ src))) ∙ is))
      go false h = refl

  pub gift_more : (S T : Supply) (gs : List Gift) (e : ℕ) → e < length P.entities → (g : Gift) → g.given.source ≡ full_id P e → HasGifts P gs S T → HasGifts P (gs ++ g ∷ []) S (with_gift T e g)
  gift_more S T gs e below g src has = record {
    outputs = has.outputs;
    behind = λ f low. go f low (f == e) refl ∙ ap (λ (l : List Gift). S.gifts f ++ l) (sym (filter_append (λ (h : Gift). same_text h.given.source (full_id P f)) gs (g ∷ [])));
  }
    where
      go : (f : ℕ) → f < length P.entities → (b : Bool) → (f == e) ≡ b → (with_gift T e g).gifts f ≡ S.gifts f ++ (filter (λ h. same_text h.given.source (full_id P f)) gs ++ filter (λ h. same_text h.given.source (full_id P f)) (g ∷ []))
      go f low b is = ap (λ (c : Bool). cond c (T.gifts f ++ g ∷ []) (T.gifts f)) is ∙ either b ∙ ap (λ l. S.gifts f ++ (filter (λ h. same_text h.given.source (full_id P f)) gs ++ l)) (sym (from_one e below g src f low b is))
        where
          either : (b : Bool) → cond b (T.gifts f ++ g ∷ []) (T.gifts f) ≡ S.gifts f ++ (filter (λ h. same_text h.given.source (full_id P f)) gs ++ cond b (g ∷ []) [])
          either true = ap (λ l. l ++ g ∷ []) (has.behind f low) ∙ append_assoc (S.gifts f) (filter (λ h. same_text h.given.source (full_id P f)) gs) (g ∷ [])
          either false = has.behind f low ∙ ap (λ l. S.gifts f ++ l) (sym (append_nil (filter (λ h. same_text h.given.source (full_id P f)) gs)))

-- ---- the stock after a request

module _ (P : Plan) (J : List Entry) (s : SimNo) (T : OpenTurn) (q : Place) (id : ℕ) (name : List ℕ) (args : List Json) (named : Json) (k n : Stock) where
  -- what comes
  abbrev ask : Message
  ask = Ask id name args named

  -- gifts of the open turn's request are those behind the others
  went : (S : Supply) → IsValidPlan P → (view P J).open_at s.0 ≡ Some T → StandFor P k.buffers S → SameSupply P S (given_so_far P (view P J)) → (e : ℕ) → e < length P.entities
      → (given_so_far P (view P J)).gifts e ++ filter (λ g. same_text g.given.source (full_id P e)) (gifts_by P s.0 T.at ask) ≡ (given_so_far P (note_right P (view P J) s.0 ask T (Some q))).gifts e
  went S valid opened stands same e low =
      let all = stands.gifts.0 in
      let given : AreGiven P (given_so_far P (view P J)) all = record { by_source = λ f below. stands.gifts.1.by_source f below ∙ same.gifts f below; sourced = stands.gifts.1.sourced } in
      let more = given_went P (view P J) (same_owner P valid) s.0 ask T opened all given q in
      ap (λ (l : List Gift). l ++ filter (λ g. same_text g.given.source (full_id P e)) (gifts_by P s.0 T.at ask)) (sym (given.by_source e low))
      ∙ sym (filter_append (λ (g : Gift). same_text g.given.source (full_id P e)) all (gifts_by P s.0 T.at ask)) ∙ more.by_source e low

  pub stock_answered : MayComeNext P J (Got s ask) → IsRight P (view P J) s.0 ask T (Some q) → (stock : IsStockOf P (view P J) k) → HasSameRest k n → (ws : List SetValue) → ws ≡ sets_of P s.0 ask
      → HasGivenAll P (gifts_in T.at ws) stock.supplied.0 n.buffers → (item : Item) → item ≡ response P (supply P (view P J).acts) s.0 T.at T.place ask
      → IsStockOf P (note_sent P (note_right P (view P J) s.0 ask T (Some q)) s.0 item) n
  stock_answered may right stock rest ws sets taken item is = record {
    plan = record {
      names = subst (AreNamesOf P) (sym rest.names) stock.plan.names;
      count = ap (λ fs. length fs.items) rest.feeds ∙ stock.plan.count;
      feeds = λ i f at. stock.plan.feeds i f (ap (λ fs. slice_get fs.items i) (sym rest.feeds) ∙ at);
    };
    supplied = (taken.supply, taken.stands, supply_through P taken.supply (given_so_far P after) (given_so_far P (note_sent P after s.0 item)) through (told_supplies P after s.0 item no));
    marks = λ i low. subst (IsMarkOf P (note_sent P after s.0 item) i) (ap (λ m. unwrap_or (slice_get m.marks i) (moment (pos 0))) (sym rest.marks))
        (mark_going P may.valid J may.orderly s ask T may.allowed q item right is i (mark_of k.buffers i) (stock.marks i low));
  }
    where
      after : View
      after = note_right P (view P J) s.0 ask T (Some q)

      no : is_step item ≡ false
      no = ap is_step is ∙ answer_late id (answer P (value_at (supply P (view P J).acts) T.at) s.0 name args named)

      through : SameSupply P taken.supply (given_so_far P after)
      through = record {
        outputs = λ e attr gives. ap (λ o. o e attr) taken.more.outputs ∙ stock.supplied.2.outputs e attr gives ∙ outputs_opened P (view P J) e attr ∙ sym (outputs_opened P after e attr);
        gifts = λ e low. taken.more.behind e low ∙ (λ i. stock.supplied.2.gifts e low i ++ filter (λ g. same_text g.given.source (full_id P e)) (gifts_in T.at (sets i)))
            ∙ went stock.supplied.0 may.valid right.opened stock.supplied.1 stock.supplied.2 e low;
      }

  -- after the answer to what was asked at x
  pub stock_asked : (x : Tier) → T.at ≡ x → (asked : Asked) → ((look : Lookup) → None ≡ refusal_in (answer P look s.0 name args named)) → asked_in asked ≡ request_of name args named
      → MayComeNext P J (Got s ask) → IsRight P (view P J) s.0 ask T (Some q) → (stock : IsStockOf P (view P J) k) → HasSameRest k n → (item : Item)
      → IsAnswerBy P (value_at stock.supplied.0 x) asked id item → HasGivenOf P x asked stock.supplied.0 n.buffers → IsStockOf P (note_sent P (note_right P (view P J) s.0 ask T (Some q)) s.0 item) n
  stock_asked x at asked accepted read may right stock rest item by given = stock_answered may right stock rest given.values
      (asked_sets P s.0 id name args named asked given.values (accepted (λ e attr. None)) read given.set)
      (subst (λ (y : Tier). HasGivenAll P (gifts_in y given.values) stock.supplied.0 n.buffers) (sym at) given.given) item
      (subst (λ (y : Tier). item ≡ response P (supply P (view P J).acts) s.0 y T.place ask) (sym at)
      (answered_item P (view P J) s.0 x T.place id name args named asked stock.supplied.0 item stock.supplied.2 (accepted (value_at stock.supplied.0 x)) read by))

-- after a refusal
pub stock_refused : (P : Plan) (J : List Entry) (s : SimNo) (T : OpenTurn) (q : Place) (id : ℕ) (name : List ℕ) (args : List Json) (named : Json) (k : Stock) (n : ℕ) → ((look : Lookup) → Some n ≡ refusal_in (answer P look s.0 name args named))
    → MayComeNext P J (Got s (Ask id name args named)) → IsRight P (view P J) s.0 (Ask id name args named) T (Some q) → IsStockOf P (view P J) k
    → IsStockOf P (note_sent P (note_right P (view P J) s.0 (Ask id name args named) T (Some q)) s.0 (Refuse id n)) k
stock_refused P J s T q id name args named k n refused may right stock = stock_answered P J s T q id name args named k k may right stock (record { names = refl; feeds = refl; marks = refl })
    [] (refused_sets P s.0 id name args named n (refused (λ e attr. None)))
    (record { supply = stock.supplied.0; stands = stock.supplied.1; more = record { outputs = refl; behind = λ e low. sym (append_nil (stock.supplied.0.gifts e)) } })
    (Refuse id n) (refused_item P (view P J) s.0 T.at T.place id name args named n (refused (value_at (supply P (view P J).acts) T.at)))

pub with_both : {X E : Type 0} {Q U R : X → Type 0} (r : Result X E) → ((x : X) → Q x → U x → R x) → IfOk r Q → IfOk r U → IfOk r R
with_both (Ok x) f h g = f x h g
with_both (Err e) f h g = tt

-- one value more is given
pub given_more : (P : Plan) (s : ℕ) (S : Supply) (x : Tier) (done : List SetValue) (w : SetValue) (old new : Buffers) → HasGivenAll P (gifts_in x done) S old → IsGivenBy P s w
    → ((U : Supply) (e : ℕ) → StandFor P old U → IsSourced P e w → StandFor P new (with_gift U e (record { at = delayed x (Shift 1); given = w }))) → HasGivenAll P (gifts_in x (done ++ w ∷ [])) S new
given_more P s S x done w old new has by gives =
    let g : Gift = record { at = delayed x (Shift 1); given = w } in
    record {
      supply = with_gift has.supply by.entity g;
      stands = gives has.supply by.entity has.stands by.sourced;
      more = subst (λ gs. HasGifts P gs S (with_gift has.supply by.entity g)) (sym (map_append (λ (w : SetValue). let h : Gift = record { at = delayed x (Shift 1); given = w } in h) done (w ∷ [])))
          (gift_more P has.stands.of_plan.valid S has.supply (gifts_in x done) by.entity by.sourced.below g by.sourced.source has.more);
    }
