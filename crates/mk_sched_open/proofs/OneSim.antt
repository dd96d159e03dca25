-- What is kept of one simulator, when a turn of it begins, goes on and ends.
use Rattle.std.proofs.Common.{◌≡◌, ℕ, ◌+◌, ◌<◌, ◌≤◌, ◌^◌, ℤ, Bool, true, false, List, [], ◌∷◌, ◌++◌, length, filter, filter_map, Option, Some, None, option_and_then, slice_get, refl, sym, ap, ◌∙◌, subst, arith, zero-add, length-append, if◌then◌else◌}
use Rattle.std.specs.Prelude.{sum_by}
use Rattle.std.specs.List.{cons_option}
use Rattle.std.proofs.lemmas.List.Sums.{sum_by-append}
use Rattle.mk_base.specs.declared.tier.Tier.{Tier}
use Rattle.mk_base.specs.declared.json.Json.{Json}
use Rattle.mk_base.specs.Trees.{whole_in}
use Rattle.mk_base.proofs.Lists.{filter_append, filter_map_append, flat_map_append, append_nil, none_some, some_same}
use Rattle.mk_plan.specs.declared.Plan.{Plan}
use Rattle.mk_plan.specs.declared.Input.{Input}
use Rattle.mk_plan.specs.declared.Item.{Item}
use Rattle.mk_plan.specs.declared.Item.TheVariants.{Step, GetData}
use Rattle.mk_plan.specs.declared.Message.{Message}
use Rattle.mk_plan.specs.declared.Message.TheVariants.{Ask, Success, Failure}
use Rattle.mk_plan.specs.declared.Place.{Place}
use Rattle.mk_plan.specs.declared.Place.TheVariants.{Idle, Stepping, Fetching}
use Rattle.mk_plan.specs.Plans.{first_id, has_outputs}
use Rattle.mk_plan.specs.Acts.{Said, Told, Heard, Act, content_of, contents, next_time, outputs_in}
use Rattle.mk_plan.specs.Asks.{AskAnswer, Answered, Refused, answer, item_of}
use Rattle.mk_plan.specs.Deliveries.{Supply}
use Rattle.mk_plan.specs.Inputs.{value_at}
use Rattle.mk_plan.specs.Turns.{next_place, wanted}
use Rattle.mk_plan.specs.Sequential.{ids_used, items, told, messages_in, opening, response}
use Rattle.mk_plan.specs.Journals.{OpenTurn, ended_turn, bare}
use Rattle.mk_sched_open.specs.declared.sims.Sim.{Sim}
use Rattle.mk_sched_open.specs.Turns.{IsInRun, IsOpenBy, IsStepping, IsFetching, ids_in, next_in}
use Rattle.mk_sched_open.specs.Sims.{IsSimOf, IsTurn, free_id}
use Rattle.mk_sched_open.specs.inner.Changes.{begun_sim, gone_on, open_id, ended_sim}

-- ---- the place that is kept is that of what is open

-- ---- bounds rise with the journal

pub turn_more : (free n m : ℕ) (s : Sim) (o : Option OpenTurn) → n ≤ m → IsTurn free n s o → IsTurn free m s o
turn_more free n m s None le t = record { place = t.place; id = t.id; few = let few : s.next_id ≤ 1000000 + n = t.few in omega arith }
turn_more free n m s (Some T) le t = record { place = t.place; open_at = at s.place t.open_at }
  where
    at : (p : Place) → IsOpenBy free n s.next p T → IsOpenBy free m s.next p T
    at Idle h = h
    at (Stepping x id asks) h = record { time = h.time; run = h.run; contents = h.contents; ids = h.ids; number = h.number; few = let few : id + 1 ≤ 1000000 + n = h.few in omega arith }
    at (Fetching x id) h = record { time = h.time; run = h.run; content = h.content; contents = h.contents; asked = h.asked; ids = h.ids; number = h.number; few = let few : id + 1 ≤ 1000000 + n = h.few in omega arith }

pub sim_more : (P : Plan) (acts : List Act) (o : Option OpenTurn) (n m i : ℕ) (s : Sim) → n ≤ m → IsSimOf P acts o n i s → IsSimOf P acts o m i s
sim_more P acts o n m i s le h = record { turn = turn_more (free_id P i acts) n m s o le h.turn; heard = h.heard; few = let few : s.heard ≤ n = h.few in omega arith }

-- ---- a turn begins

pub sim_begun : (P : Plan) (acts : List Act) (n i : ℕ) (s : Sim) (x : Tier) (ins : List Input) (advance : ℤ) → IsSimOf P acts None n i s → IsInRun x
    → IsSimOf P acts (Some (record { at = x; messages = []; place = opening P i x acts; talk = Told (bare (Step x ins advance)) ∷ [] })) (n + 1) i (begun_sim s x)
sim_begun P acts n i s x ins advance h run = record {
  turn = record {
    place = ap (λ (id : ℕ). Stepping x id 0) (sym h.turn.id);
    open_at = record { time = refl; run = run; contents = refl; ids = refl; number = h.turn.id; few = let few : s.next_id ≤ 1000000 + n = h.turn.few in omega arith };
  };
  heard = h.heard;
  few = let few : s.heard ≤ n = h.few in omega arith;
}

-- ---- ids

abbrev act_of : OpenTurn → List Said → Act
act_of T talk = record { at = T.at; messages = T.messages; ended = false; talk = talk }

one_talk : (own : Item → Bool) (a b c : Act) → c.talk ≡ a.talk ++ b.talk
    → sum_by (λ (d : Act). length (filter own (items d.talk))) (c ∷ []) ≡ sum_by (λ (d : Act). length (filter own (items d.talk))) (a ∷ []) + sum_by (λ (d : Act). length (filter own (items d.talk))) (b ∷ [])
one_talk own a b c is =
    let f : Act → ℕ = λ (d : Act). length (filter own (items d.talk)) in
    let e : f c ≡ f a + f b = ap (λ (t : List Said). length (filter own (items t))) is ∙ ap (λ (l : List Item). length (filter own l)) (filter_map_append told a.talk b.talk) ∙ ap length (filter_append own (items a.talk) (items b.talk)) ∙ length-append (filter own (items a.talk)) (filter own (items b.talk)) in
    zero-add (f c) ∙ e ∙ sym (λ i. zero-add (f a) i + zero-add (f b) i)

plus_zero : (k : ℕ) → k + 0 ≡ k
plus_zero k = omega arith

-- a message uses none
ids_heard : (T : OpenTurn) (m : Message) (a : Act) → a.talk ≡ T.talk ++ Heard m ∷ [] → ids_used (a ∷ []) ≡ ids_in T
ids_heard T m a is = one_talk _ (act_of T T.talk) (act_of T (Heard m ∷ [])) a is ∙ plus_zero (ids_in T)

-- the turn with one more message and one more item
abbrev pub went : OpenTurn → Message → Place → Item → OpenTurn
went T m q item = record { at = T.at; messages = T.messages ++ m ∷ []; place = q; talk = (T.talk ++ Heard m ∷ []) ++ Told item ∷ [] }

ids_went : (T : OpenTurn) (m : Message) (q : Place) (item : Item) (k : ℕ) → ids_used (act_of T (Told item ∷ []) ∷ []) ≡ k → ids_in (went T m q item) ≡ ids_in T + k
ids_went T m q item k is =
    one_talk _ (act_of T (T.talk ++ Heard m ∷ [])) (act_of T (Told item ∷ [])) (act_of T ((T.talk ++ Heard m ∷ []) ++ Told item ∷ [])) refl
    ∙ (λ j. ids_heard T m (act_of T (T.talk ++ Heard m ∷ [])) refl j + is j)

-- nor does the answer to a request
ids_answer : (T : OpenTurn) (m : Message) (q : Place) (id : ℕ) (a : AskAnswer) → ids_in (went T m q (item_of id a)) ≡ ids_in T
ids_answer T m q id (Answered content sets) = ids_went T m q (item_of id (Answered content sets)) 0 refl ∙ plus_zero (ids_in T)
ids_answer T m q id (Refused k) = ids_went T m q (item_of id (Refused k)) 0 refl ∙ plus_zero (ids_in T)

-- ---- a turn goes on

-- the contents with one more message
contents_more : (T : OpenTurn) (m : Message) (earlier : List Json) → filter_map content_of T.messages ≡ earlier → filter_map content_of (T.messages ++ m ∷ []) ≡ earlier ++ cons_option (content_of m) []
contents_more T m earlier had = filter_map_append content_of T.messages (m ∷ []) ∙ ap (λ (l : List Json). l ++ cons_option (content_of m) []) had

one_longer : (ms ks : List Message) (m : Message) → length (ms ++ ks) + 1 ≡ length (ms ++ (ks ++ m ∷ []))
one_longer ms ks m = grind (arith, length-append {A = Message})

module _ (P : Plan) (S : Supply) (i free n : ℕ) (T : OpenTurn) (y : Tier) (next : Option ℤ) where
  asked_on : (x : Tier) (id asks k : ℕ) (name : List ℕ) (args : List Json) (named : Json) → IsStepping free n x id T
      → IsStepping free (n + 2) x id (went T (Ask k name args named) (Stepping x id (asks + 1)) (item_of k (answer P (value_at S y) i name args named)))
  asked_on x id asks k name args named h = record {
    time = h.time;
    run = h.run;
    contents = contents_more T (Ask k name args named) [] h.contents;
    ids = ids_answer T (Ask k name args named) (Stepping x id (asks + 1)) k (answer P (value_at S y) i name args named) ∙ h.ids;
    number = h.number;
    few = let few : id + 1 ≤ 1000000 + n = h.few in omega arith;
  }

  replied_on : (x : Tier) (id k : ℕ) (content : Json) → IsStepping free n x id T
      → IsFetching free (n + 2) x (id + 1) (whole_in content) (went T (Success k content) (Fetching x (id + 1)) (GetData (wanted P i)))
  replied_on x id k content h = record {
    time = h.time;
    run = h.run;
    content = content;
    contents = contents_more T (Success k content) [] h.contents;
    asked = refl;
    ids = ids_went T (Success k content) (Fetching x (id + 1)) (GetData (wanted P i)) 1 refl ∙ ap (λ (k : ℕ). k + 1) h.ids;
    number = ap (λ (k : ℕ). k + 1) h.number;
    few = let few : id + 1 ≤ 1000000 + n = h.few in omega arith;
  }

  open_on : (p : Place) (m : Message) (q : Place) → IsOpenBy free n next p T → next_place P i p m ≡ Some q → IsOpenBy free (n + 2) (next_in m) q (went T m q (response P S i y p m))
  open_on Idle m q h goes = absurd h
  open_on (Stepping x id asks) (Ask k name args named) q h goes = subst (λ (r : Place). IsOpenBy free (n + 2) None r (went T (Ask k name args named) r (item_of k (answer P (value_at S y) i name args named)))) (some_same goes) (asked_on x id asks k name args named h)
  open_on (Stepping x id asks) (Success k content) q h goes = at (has_outputs P i) goes
    where
      at : (b : Bool) → (if b then Some (Fetching x (id + 1)) else None) ≡ Some q → IsOpenBy free (n + 2) (whole_in content) q (went T (Success k content) q (GetData (wanted P i)))
      at true e = subst (λ (r : Place). IsOpenBy free (n + 2) (whole_in content) r (went T (Success k content) r (GetData (wanted P i)))) (some_same e) (replied_on x id k content h)
      at false e = absurd (none_some e)
  open_on (Stepping x id asks) (Failure k text) q h goes = absurd (none_some goes)
  open_on (Fetching x id) m q h goes = absurd (none_some goes)

pub sim_on : (P : Plan) (S : Supply) (acts : List Act) (n i : ℕ) (s : Sim) (T : OpenTurn) (m : Message) (q : Place) → IsSimOf P acts (Some T) n i s → next_place P i T.place m ≡ Some q
    → IsSimOf P acts (Some (went T m q (response P S i T.at T.place m))) (n + 2) i (gone_on s q (next_in m))
sim_on P S acts n i s T m q h goes = record {
  turn = record {
    place = refl;
    open_at = open_on P S i (free_id P i acts) n T T.at s.next T.place m q (subst (λ (p : Place). IsOpenBy (free_id P i acts) n s.next p T) (sym h.turn.place) h.turn.open_at) goes;
  };
  heard = ap (λ (k : ℕ). k + 1) h.heard ∙ one_longer (messages_in acts) T.messages m;
  few = let few : s.heard ≤ n = h.few in omega arith;
}

-- ---- a turn ends

-- how many ids were used in it
ids_at : (free n : ℕ) (next : Option ℤ) (p : Place) (other : ℕ) (T : OpenTurn) → IsOpenBy free n next p T → (free + ids_in T ≡ open_id p other + 1) × (open_id p other + 1 ≤ 1000000 + n)
ids_at free n next Idle other T h = absurd h
ids_at free n next (Stepping x id asks) other T h = (let a : ids_in T ≡ 1 = h.ids in let b : id ≡ free = h.number in omega arith, h.few)
ids_at free n next (Fetching x id) other T h = (let a : ids_in T ≡ 2 = h.ids in let b : id ≡ free + 1 = h.number in omega arith, h.few)

-- what is counted stays low
pub open_low : (free n : ℕ) (s : Sim) (T : OpenTurn) → n ≤ 20000000 → IsTurn free n s (Some T) → open_id s.place s.next_id < 2 ^ 32
open_low free n s T most h = let t = ids_at free n s.next s.place s.next_id T h.open_at in let few : open_id s.place s.next_id + 1 ≤ 1000000 + n = t.1 in omega (arith, most)

pub sim_ended : (P : Plan) (acts : List Act) (n i : ℕ) (s : Sim) (T : OpenTurn) (m : Message) → IsSimOf P acts (Some T) n i s → IsSimOf P (acts ++ ended_turn T m ∷ []) None (n + 1) i (ended_sim s)
sim_ended P acts n i s T m h =
    let t = ids_at (free_id P i acts) n s.next s.place s.next_id T h.turn.open_at in
    record {
      turn = record {
        place = refl;
        id = sym (ap (λ (k : ℕ). first_id P i + k) (sum_by-append _ acts (ended_turn T m ∷ []) ∙ ap (λ (k : ℕ). ids_used acts + k) (ids_heard T m (ended_turn T m) refl)) ∙ regroup (first_id P i) (ids_used acts) (ids_in T) ∙ t.0);
        few = let few : open_id s.place s.next_id + 1 ≤ 1000000 + n = t.1 in omega arith;
      };
      heard = ap (λ (k : ℕ). k + 1) h.heard ∙ one_longer (messages_in acts) T.messages m
          ∙ ap length (sym (append_nil _ ∙ flat_map_append (λ (a : Act). a.messages) acts (ended_turn T m ∷ []) ∙ ap (λ (l : List Message). messages_in acts ++ l) (append_nil (T.messages ++ m ∷ []))));
      few = let few : s.heard ≤ n = h.few in omega arith;
    }
  where
    regroup : (a b c : ℕ) → a + (b + c) ≡ (a + b) + c
    regroup a b c = omega arith

-- ---- what the replies make of the turn

-- what is known of it, by its place
module _ (free n : ℕ) (s : Sim) (T : OpenTurn) (x : Tier) (id : ℕ) where
  pub is_stepping : (asks : ℕ) → IsTurn free n s (Some T) → T.place ≡ Stepping x id asks → IsStepping free n x id T
  is_stepping asks h at = subst (λ (p : Place). IsOpenBy free n s.next p T) (sym h.place ∙ at) h.open_at

  pub is_fetching : IsTurn free n s (Some T) → T.place ≡ Fetching x id → IsFetching free n x id s.next T
  is_fetching h at = subst (λ (p : Place). IsOpenBy free n s.next p T) (sym h.place ∙ at) h.open_at

  -- the next time of a turn whose GetData is open
  pub fetching_next : (m : Message) → IsTurn free n s (Some T) → T.place ≡ Fetching x id → s.next ≡ next_time (ended_turn T m)
  fetching_next m h at =
      let is = is_fetching h at in
      sym (ap (λ (l : List Json). option_and_then whole_in (slice_get l 0)) (contents_more T m (is.content ∷ []) is.contents) ∙ is.asked)

  pub fetched_outputs : (m : Message) (content : Json) → IsTurn free n s (Some T) → T.place ≡ Fetching x id → content_of m ≡ Some content → (outputs_in (ended_turn T m) ≡ Some content) × (T.at ≡ x)
  fetched_outputs m content h at has =
      let is = is_fetching h at in
      (ap (λ (l : List Json). slice_get l 1) (contents_more T m (is.content ∷ []) is.contents ∙ ap (λ (o : Option Json). is.content ∷ cons_option o []) has), is.time)

  pub stepped_contents : (asks : ℕ) (m : Message) (content : Json) → IsTurn free n s (Some T) → T.place ≡ Stepping x id asks → content_of m ≡ Some content → (contents (ended_turn T m) ≡ content ∷ []) × (T.at ≡ x)
  stepped_contents asks m content h at has =
      let is = is_stepping asks h at in
      (contents_more T m [] is.contents ∙ ap (λ (o : Option Json). cons_option o []) has, is.time)
