-- The view of an orderly journal is one that the theory reaches.
use Rattle.std.proofs.Common.{◌≡◌, ℕ, Bool, false, List, [], ◌∷◌, ◌++◌, fold, Option, Some, None, is_some, option_map, refl, sym, ap, ◌∙◌, subst, ◌⊎◌, inl, inr, true≢false, ◌==◌, if◌then◌else◌, pos, ℤ}
use Rattle.mk_plan.specs.declared.Input.{Input}
use Rattle.mk_order_any.specs.Parts.{Parts, Turn, Moves, Reached}
use Rattle.mk_order_any.specs.Parts as theory
use Rattle.mk_base.specs.declared.tier.Tier.{Tier}
use Rattle.mk_plan.specs.declared.Plan.{Plan}
use Rattle.mk_plan.specs.declared.Item.{Item}
use Rattle.mk_plan.specs.declared.Item.TheVariants.{Step, GetData, Answer, Refuse}
use Rattle.mk_plan.specs.declared.Message.{Message}
use Rattle.mk_plan.specs.declared.Message.TheVariants.{Ask, Success, Failure}
use Rattle.mk_plan.specs.declared.Entry.{Entry}
use Rattle.mk_plan.specs.declared.Entry.TheVariants.{Sent, Got}
use Rattle.mk_plan.specs.Walks.{Reach, from_start, along}
use Rattle.mk_plan.specs.declared.Place.{Place}
use Rattle.mk_plan.specs.declared.Cause.{Cause}
use Rattle.mk_plan.specs.Turns.{wrong, is_wrong, next_place}
use Rattle.mk_plan.specs.Acts.{Said, Told, Heard}
use Rattle.mk_plan.specs.Asks.{AskAnswer, Answered, Refused, item_of, answer}
use Rattle.mk_plan.specs.Deliveries.{supply}
use Rattle.mk_plan.specs.Inputs.{inputs, value_at}
use Rattle.mk_plan.specs.Sequential.{opening, response, last_time}
use Rattle.mk_plan.specs.Journals.{OpenTurn, Owed, View, empty_view, with_open, place_at, open_after, note_sent, told_more, ended_turn, note_right, note_got, note, view}
use Rattle.mk_plan.specs.Ready.{pending, start, step_at, IsReady}
use Rattle.mk_plan.specs.Orderly.{IsNext, IsAllowed, IsOrderlyFrom, IsOrderlySoFar}
use Rattle.mk_plan.specs.Report.{is_step}
use Rattle.mk_order.proofs.Theory.{parts}
use Rattle.mk_base.proofs.Counts.{not_same, same_self}

-- ---- the view, as the theory has it

abbrev pub owed_at : Option Owed → ℕ → List Said
owed_at None i = []
owed_at (Some o) i = if o.sim == i then Told o.item ∷ [] else []

abbrev pub turn_of : (P : Plan) → Option Owed → ℕ → OpenTurn → Turn (parts P)
turn_of P o i T = record { when = T.at; messages = T.messages; place = T.place; lines = T.talk; owed = owed_at o i }

abbrev pub seen : (P : Plan) → View → theory.View (parts P)
seen P V = record { acts = V.acts; open_at = λ i. option_map (turn_of P V.owed i) (V.open_at i) }

-- what is owed is owed in an open turn, and is no Step
pub record IsSound (V : View) : Type 0 where
  pub turn : (o : Owed) → V.owed ≡ Some o → (T : OpenTurn) × (V.open_at o.sim ≡ Some T)
  pub later : (o : Owed) → V.owed ≡ Some o → is_step o.item ≡ false

abbrev pub Follows : Plan → View → View → Type 0
Follows P V W = (Moves (parts P) (seen P V) (seen P W) ⊎ (seen P W ≡ seen P V)) × IsSound W

-- ---- ready

pub start_seen : (P : Plan) (V : View) (i : ℕ) → theory.start (parts P) (seen P V) i ≡ start P V i
start_seen P V i = elim (V.open_at i) as (λ o. theory.case_of (option_map (turn_of P V.owed i) o) (pending P V.acts i) (λ T. Some T.when) ≡ step_at o (pending P V.acts i)) [ None ↦ refl | Some T ↦ refl ]

pub reach_seen : (P : Plan) (V : View) (Z : ℕ → Type 0) (i : ℕ) (y : Tier) → theory.Reach (parts P) (seen P V) Z i y → Reach P (start P V) Z i y
reach_seen P V Z i y (theory.Reach.from_start _ _ out is) = from_start i y out (sym (start_seen P V i) ∙ is)
reach_seen P V Z i z (theory.Reach.along j v _ y _ walk edge out is) = along j v i y z (reach_seen P V Z j y walk) edge out is

pub reach_back : (P : Plan) (V : View) (Z : ℕ → Type 0) (i : ℕ) (y : Tier) → Reach P (start P V) Z i y → theory.Reach (parts P) (seen P V) Z i y
reach_back P V Z i y (from_start _ _ out is) = theory.Reach.from_start i y out (start_seen P V i ∙ is)
reach_back P V Z i z (along j v _ y _ walk edge out is) = theory.Reach.along j v i y z (reach_back P V Z j y walk) edge out is

pub ready_seen : (P : Plan) (V : View) (s : ℕ) (x : Tier) → IsReady P V s x → theory.Ready (parts P) (seen P V) s x
ready_seen P V s x r = record {
  closed = ap (option_map (turn_of P V.owed s)) r.closed;
  at_pending = r.at_pending;
  clear = λ j v y l w. r.clear j v y l (reach_seen P V (theory.nobody (parts P)) j y w);
}

-- ---- one entry

module _ (P : Plan) (V : View) where
  at_other : (W : View) (i : ℕ) (o : Option OpenTurn) → ((j : ℕ) → W.open_at j ≡ with_open V i o j) → ((j : ℕ) → (j ≡ i → ⊥) → owed_at W.owed j ≡ owed_at V.owed j)
      → (j : ℕ) → (j ≡ i → ⊥) → (seen P W).open_at j ≡ (seen P V).open_at j
  at_other W i o is owes j n =
      let opened : W.open_at j ≡ V.open_at j = is j ∙ ap (λ (b : Bool). if b then o else V.open_at j) (not_same j i n) in
      (λ k. option_map (λ (T : OpenTurn). let t : Turn (parts P) = record { when = T.at; messages = T.messages; place = T.place; lines = T.talk; owed = owes j n k } in t) (opened k))

  not_owed : (i : ℕ) (item : Item) (j : ℕ) → (j ≡ i → ⊥) → owed_at (Some (record { sim = i; item = item })) j ≡ []
  not_owed i item j n = ap (λ (b : Bool). if b then Told item ∷ [] else []) (not_same i j (λ e. n (sym e)))

  pub none_some : {X : Type 0} (x : X) → None ≡ Some x → ⊥
  none_some x e = cc

  some_same : {X : Type 0} (x y : X) → Some x ≡ Some y → x ≡ y
  some_same x y e = cc

  sound_without : (W : View) → W.owed ≡ None → IsSound W
  sound_without W none = record { turn = λ o e. absurd (none_some o (sym none ∙ e)); later = λ o e. absurd (none_some o (sym none ∙ e)) }

  pub at_self : (i : ℕ) (o : Option OpenTurn) → with_open V i o i ≡ o
  at_self i o = ap (λ (b : Bool). if b then o else V.open_at i) (same_self i)

  pub open_after_is : (s : ℕ) (item : Item) → is_step item ≡ false → open_after P V s item ≡ option_map (told_more item) (V.open_at s)
  open_after_is s (Step x ins advance) h = absurd (true≢false h)
  open_after_is s (GetData wants) h = refl
  open_after_is s (Answer id content) h = refl
  open_after_is s (Refuse id reason) h = refl

  -- what is owed is sent
  sent_owed : (o : Owed) (T : OpenTurn) → V.owed ≡ Some o → V.open_at o.sim ≡ Some T → is_step o.item ≡ false → Follows P V (note_sent P V o.sim o.item)
  sent_owed o T owes is late =
      let W : View = note_sent P V o.sim o.item in
      let owing : owed_at V.owed o.sim ≡ Told o.item ∷ [] = ap (λ (q : Option Owed). owed_at q o.sim) owes ∙ ap (λ (b : Bool). if b then Told o.item ∷ [] else []) (same_self o.sim) in
      let now : (seen P W).open_at o.sim ≡ Some (turn_of P None o.sim (told_more o.item T)) =
      ap (option_map (turn_of P None o.sim)) (at_self o.sim (open_after P V o.sim o.item) ∙ open_after_is o.sim o.item late ∙ ap (option_map (told_more o.item)) is) in
      let lines : Some (turn_of P None o.sim (told_more o.item T)) ≡ Some (record (turn_of P None o.sim T) { lines = T.talk ++ owed_at V.owed o.sim }) =
      ap (λ (l : List Said). Some (record (turn_of P None o.sim T) { lines = T.talk ++ l })) (sym owing) in (
        inl (theory.Moves.answered o.sim (turn_of P V.owed o.sim T) (ap (option_map (turn_of P V.owed o.sim)) is) refl (now ∙ lines)
            (at_other W o.sim (open_after P V o.sim o.item) (λ j. refl) (λ j n. sym (ap (λ (q : Option Owed). owed_at q j) owes ∙ not_owed o.sim o.item j n)))),
        sound_without W refl,
      )

  no_step : (i : ℕ) (x : Tier) (o : Place) (m : Message) → is_step (response P (supply P V.acts) i x o m) ≡ false
  no_step i x o (Ask id name args named) = of_answer (answer P (value_at (supply P V.acts) x) i name args named)
    where
      of_answer : (a : AskAnswer) → is_step (item_of id a) ≡ false
      of_answer (Answered content sets) = refl
      of_answer (Refused n) = refl
  no_step i x o (Success id content) = refl
  no_step i x o (Failure id text) = refl

  -- a right message comes where nothing is owed
  got_right : (i : ℕ) (m : Message) (T : OpenTurn) (q : Option Place) → V.owed ≡ None → V.open_at i ≡ Some T → is_wrong P i T.place m ≡ false → next_place P i T.place m ≡ q → Follows P V (note_right P V i m T q)
  got_right i m T (Some q) owes is right goes =
      let item : Item = response P (supply P V.acts) i T.at T.place m in
      let owing : Owed = record { sim = i; item = item } in
      let more : OpenTurn = record { at = T.at; messages = T.messages ++ m ∷ []; place = q; talk = T.talk ++ Heard m ∷ [] } in
      let W : View = note_right P V i m T (Some q) in
      let now : (seen P W).open_at i ≡ Some (turn_of P (Some owing) i more) = ap (option_map (turn_of P (Some owing) i)) (at_self i (Some more)) in
      let owed : Some (turn_of P (Some owing) i more) ≡ Some (record (turn_of P (Some owing) i more) { owed = Told item ∷ [] }) =
      ap (λ (b : Bool). Some (record (turn_of P (Some owing) i more) { owed = if b then Told item ∷ [] else [] })) (same_self i) in (
        inl (theory.Moves.went_on i m (turn_of P V.owed i T) q (ap (option_map (turn_of P V.owed i)) is) (ap (λ (o : Option Owed). owed_at o i) owes) right goes refl (now ∙ owed)
            (at_other W i (Some more) (λ j. refl) (λ j n. not_owed i item j n ∙ sym (ap (λ (o : Option Owed). owed_at o j) owes)))),
        record {
          turn = λ o e. (more, subst (λ (p : Owed). with_open V i (Some more) p.sim ≡ Some more) (some_same owing o e) (at_self i (Some more)));
          later = λ o e. subst (λ (p : Owed). is_step p.item ≡ false) (some_same owing o e) (no_step i T.at T.place m);
        },
      )
  got_right i m T None owes is right goes =
      let W : View = note_right P V i m T None in (
        inl (theory.Moves.finished i m (turn_of P V.owed i T) (ap (option_map (turn_of P V.owed i)) is) (ap (λ (o : Option Owed). owed_at o i) owes) right goes
            (ap (λ (b : Bool). if b then V.acts i ++ ended_turn T m ∷ [] else V.acts i) (same_self i)) (ap (option_map (turn_of P V.owed i)) (at_self i None))
            (λ j n. ap (λ (b : Bool). if b then V.acts j ++ ended_turn T m ∷ [] else V.acts j) (not_same j i n))
            (at_other W i None (λ j. refl) (λ j n. refl))),
        sound_without W owes,
      )

  -- a message comes where nothing is owed
  got_message : (i : ℕ) (m : Message) (o : Option OpenTurn) (c : Option Cause) → V.owed ≡ None → V.open_at i ≡ o → wrong P i (place_at o) m ≡ c → Follows P V (note_got P V i m o c)
  got_message i m o (Some c) owes is w = (inr refl, sound_without (note_got P V i m o (Some c)) owes)
  got_message i m None None owes is w = (inr refl, sound_without V owes)
  got_message i m (Some T) None owes is w = got_right i m T (next_place P i T.place m) owes is (ap is_some w) refl

  -- a Step is sent
  sent_step : (s : ℕ) (x : Tier) (ins : List Input) (advance : ℤ) → V.owed ≡ None → IsReady P V s x → ins ≡ inputs P (supply P V.acts) s (last_time (V.acts s)) x → Follows P V (note_sent P V s (Step x ins advance))
  sent_step s x ins advance owes ready is =
      let W : View = note_sent P V s (Step x ins advance) in
      let begun : List Input → Turn (parts P) = λ l. record { when = x; messages = []; place = opening P s x (V.acts s); lines = Told (Step x l (pos 0)) ∷ []; owed = [] } in (
        inl (theory.Moves.asked s x (ready_seen P V s x ready) refl (ap (option_map (turn_of P None s)) (at_self s (open_after P V s (Step x ins advance))) ∙ ap (λ l. Some (begun l)) is)
            (at_other W s (open_after P V s (Step x ins advance)) (λ j. refl) (λ j n. sym (ap (λ (o : Option Owed). owed_at o j) owes)))),
        sound_without W refl,
      )

module _ (Ready : Plan → View → ℕ → Tier → Type 0) (Advance : Plan → View → ℕ → Tier → ℤ → Type 0) (P : Plan) (truly : (V : View) (s : ℕ) (x : Tier) → Ready P V s x → IsReady P V s x) where
  pub follows : (V : View) (e : Entry) → IsSound V → IsAllowed Ready Advance P V e → Follows P V (note P V e)
  follows V e sound allowed = by_owed V.owed refl allowed.1
    where
      nothing_owed : (e : Entry) → V.owed ≡ None → IsNext Ready Advance P V None e → Follows P V (note P V e)
      nothing_owed (Got s m) owes next = got_message P V s.0 m (V.open_at s.0) (wrong P s.0 (place_at (V.open_at s.0)) m) owes refl refl
      nothing_owed (Sent s (Step x ins advance)) owes next = sent_step P V s.0 x ins advance owes (truly V s.0 x next.0.0) next.1
      nothing_owed (Sent s (GetData wants)) owes next = absurd next
      nothing_owed (Sent s (Answer id content)) owes next = absurd next
      nothing_owed (Sent s (Refuse id reason)) owes next = absurd next

      by_owed : (o : Option Owed) → V.owed ≡ o → IsNext Ready Advance P V o e → Follows P V (note P V e)
      by_owed None owes next = nothing_owed e owes next
      by_owed (Some o) owes next = let t = sound.turn o owes in subst (λ (f : Entry). Follows P V (note P V f)) (sym next) (sent_owed P V o t.0 owes t.1 (sound.later o owes))

  -- ---- journals

  pub reached_from : (V : View) (J : List Entry) → IsSound V → Reached (parts P) (seen P V) → IsOrderlyFrom Ready Advance P V J → Reached (parts P) (seen P (fold (note P) V J)) × IsSound (fold (note P) V J)
  reached_from V [] sound reached orderly = (reached, sound)
  reached_from V (e ∷ es) sound reached orderly =
      let f = follows V e sound orderly.0 in
      let next : Reached (parts P) (seen P (note P V e)) = elim f.0 [ inl moves ↦ Reached.then_moves (seen P V) (seen P (note P V e)) reached moves | inr still ↦ subst (Reached (parts P)) (sym still) reached ] in
      reached_from (note P V e) es f.1 next orderly.1

  pub reached : (J : List Entry) → IsOrderlySoFar Ready Advance P J → Reached (parts P) (seen P (view P J))
  reached J orderly = (reached_from empty_view J (record { turn = λ o e. cc; later = λ o e. cc }) (Reached.at_first (seen P empty_view) (λ i. refl) (λ i. refl)) orderly).0

  pub reached_sound : (J : List Entry) → IsOrderlySoFar Ready Advance P J → IsSound (view P J)
  reached_sound J orderly = (reached_from empty_view J (record { turn = λ o e. cc; later = λ o e. cc }) (Reached.at_first (seen P empty_view) (λ i. refl) (λ i. refl)) orderly).1
