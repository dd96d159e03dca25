-- A stock stays that of the view where nothing is delivered, and its inputs are those over acts.
use Rattle.std.proofs.Common.{◌≡◌, ℕ, ℤ, Bool, true, false, List, ◌++◌, Option, Some, None, option_map, option_and_then, refl, sym, ap, ◌∙◌, true≢false, ◌==◌}
use Rattle.std.proofs.lemmas.Bool.{eqb-true, eq-eqb}
use Rattle.mk_base.specs.declared.SimNo.{SimNo}
use Rattle.mk_base.specs.declared.json.Json.{Json}
use Rattle.mk_base.specs.declared.tier.Tier.{Tier}
use Rattle.mk_base.specs.Texts.{text_of}
use Rattle.mk_base.specs.Trees.{member}
use Rattle.mk_base.proofs.Lists.{append_nil, none_some}
use Rattle.mk_plan.specs.declared.Plan.{Plan}
use Rattle.mk_plan.specs.declared.Entry.{Entry}
use Rattle.mk_plan.specs.declared.Entry.TheVariants.{Sent, Got}
use Rattle.mk_plan.specs.declared.Input.{Input}
use Rattle.mk_plan.specs.declared.Item.{Item}
use Rattle.mk_plan.specs.declared.Item.TheVariants.{Step}
use Rattle.mk_plan.specs.declared.Message.{Message}
use Rattle.mk_plan.specs.declared.Message.TheVariants.{Ask, Success, Failure}
use Rattle.mk_plan.specs.declared.Place.{Place}
use Rattle.mk_plan.specs.declared.Place.TheVariants.{Idle, Stepping, Fetching}
use Rattle.mk_plan.specs.Plans.{owner, eid_of}
use Rattle.mk_plan.specs.Turns.{wrong, next_place}
use Rattle.mk_plan.specs.Acts.{Act, Family, is_ask, output, outputs_in}
use Rattle.mk_plan.specs.Deliveries.{Timed, Supply, supply}
use Rattle.mk_plan.specs.Inputs.{inputs}
use Rattle.mk_plan.specs.Sequential.{grown, response}
use Rattle.mk_plan.specs.Journals.{OpenTurn, Owed, View, view, ended_turn, note_right, note_sent}
use Rattle.mk_plan.specs.Ready.{IsReady}
use Rattle.mk_plan.specs.Advance.{IsAdvance}
use Rattle.mk_plan.specs.Orderly.{IsNext}
use Rattle.mk_plan.specs.Report.{is_step}
use Rattle.mk_order.proofs.Entries.{outputs_after, outputs_apart, output_missing}
use Rattle.mk_order.specs.Supplies.{given_so_far, SameSupply}
use Rattle.mk_order.specs.Pending.{IsMarkOf}
use Rattle.mk_order.proofs.Opened.{inputs_opened, outputs_opened}
use Rattle.mk_order.proofs.Seen.{IsSound, reached_sound}
use Rattle.mk_order.proofs.Supplies.{inputs_by}
use Rattle.mk_sched_open.specs.Turns.{IsRight}
use Rattle.mk_buffers.specs.Standing.{mark_of}
use Rattle.mk_sched_supply.specs.declared.stock.Stock.{Stock}
use Rattle.mk_sched_supply.specs.Stock.{IsStockOf, MayComeNext}
use Rattle.mk_sched_supply.proofs.Keeping.{mark_after, mark_going, mark_right}
use Rattle.mk_sched_supply.proofs.Supplying.{ended_supplies, step_supplies, supply_through, told_supplies, went_supplies}

same_stock : (P : Plan) (V W : View) (k : Stock) → IsStockOf P V k → SameSupply P (given_so_far P V) (given_so_far P W) → ((s : ℕ) (m : Tier) → IsMarkOf P V s m → IsMarkOf P W s m) → IsStockOf P W k
same_stock P V W k h same keeps = record {
  plan = h.plan;
  supplied = (h.supplied.0, h.supplied.1, supply_through P h.supplied.0 (given_so_far P V) (given_so_far P W) h.supplied.2 same);
  marks = λ s low. keeps s (mark_of k.buffers s) (h.marks s low);
}

-- ---- a Step

abbrev is_step_entry : Entry → Bool
is_step_entry (Sent s item) = is_step item
is_step_entry (Got s m) = false

-- where a Step may come its simulator's turn is closed
closed_for : (P : Plan) (V : View) (s : SimNo) (x : Tier) (ins : List Input) (advance : ℤ) → IsSound V → (o : Option Owed) → V.owed ≡ o → IsNext IsReady IsAdvance P V o (Sent s (Step x ins advance)) → V.open_at s.0 ≡ None
closed_for P V s x ins advance sound None e next = next.0.0.closed
closed_for P V s x ins advance sound (Some o) e next = absurd (true≢false (ap is_step_entry next ∙ sound.later o e))

pub stays_step : (P : Plan) (J : List Entry) (k : Stock) (s : SimNo) (x : Tier) (ins : List Input) (advance : ℤ) → MayComeNext P J (Sent s (Step x ins advance)) → IsStockOf P (view P J) k → IsStockOf P (note_sent P (view P J) s.0 (Step x ins advance)) k
stays_step P J k s x ins advance may h =
    let sound = reached_sound IsReady IsAdvance P (λ V s x r. r) J may.orderly in
    same_stock P (view P J) (note_sent P (view P J) s.0 (Step x ins advance)) k h (step_supplies P (view P J) s.0 x ins advance (closed_for P (view P J) s x ins advance sound (view P J).owed refl may.allowed.1))
    (mark_after P may.valid J may.orderly (Sent s (Step x ins advance)) may.allowed)

-- ---- a reply after which the turn goes on, and what is owed

pub stays_fetching : (P : Plan) (J : List Entry) (k : Stock) (s : SimNo) (m : Message) (T : OpenTurn) (q : Place) (item : Item) → MayComeNext P J (Got s m) → IsRight P (view P J) s.0 m T (Some q) → is_ask m ≡ false → is_step item ≡ false
    → item ≡ response P (supply P (view P J).acts) s.0 T.at T.place m → IsStockOf P (view P J) k → IsStockOf P (note_sent P (note_right P (view P J) s.0 m T (Some q)) s.0 item) k
stays_fetching P J k s m T q item may right quiet late is h =
    let V : View = view P J in
    let W : View = note_right P V s.0 m T (Some q) in
    same_stock P V (note_sent P W s.0 item) k h
    (supply_through P (given_so_far P V) (given_so_far P W) (given_so_far P (note_sent P W s.0 item)) (went_supplies P V s.0 m T right.opened quiet q) (told_supplies P W s.0 item late))
    (mark_going P may.valid J may.orderly s m T may.allowed q item right is)

-- ---- a turn's end

-- the last message of a turn is no request
pub last_quiet : (P : Plan) (s : ℕ) (p : Place) (m : Message) → wrong P s p m ≡ None → next_place P s p m ≡ None → is_ask m ≡ false
last_quiet P s p (Success id content) right over = refl
last_quiet P s p (Failure id text) right over = refl
last_quiet P s Idle (Ask id name args named) right over = absurd (none_some (sym right))
last_quiet P s (Stepping at n asks) (Ask id name args named) right over = absurd (none_some (sym over))
last_quiet P s (Fetching at n) (Ask id name args named) right over = absurd (none_some (sym right))

-- an act without outputs supplies none
no_outputs : (P : Plan) (A : Family) (s : ℕ) (f : Act) → outputs_in f ≡ None → (e : ℕ) (attr : List ℕ) → (supply P A).outputs e attr ≡ (supply P (grown A s f)).outputs e attr
no_outputs P A s f none e attr = go (owner P e == s) refl
  where
    missing : output P f e attr ≡ None
    missing = ap (λ (o : Option Json). option_map text_of (option_and_then (member attr) (option_and_then (member (eid_of P e)) o))) none

    go : (b : Bool) → (owner P e == s) ≡ b → (supply P A).outputs e attr ≡ (supply P (grown A s f)).outputs e attr
    go true q = sym (append_nil ((supply P A).outputs e attr)) ∙ ap (λ (l : List Timed). (supply P A).outputs e attr ++ l) (sym (output_missing P s f e attr missing)) ∙ sym (outputs_after P s f A e attr (eqb-true (owner P e) s q))
    go false q = sym (outputs_apart P s f A e attr (λ own. true≢false (sym (eq-eqb (owner P e) s own) ∙ q)))

pub stays_ended : (P : Plan) (J : List Entry) (k : Stock) (s : SimNo) (m : Message) (T : OpenTurn) → MayComeNext P J (Got s m) → IsRight P (view P J) s.0 m T None → outputs_in (ended_turn T m) ≡ None
    → IsStockOf P (view P J) k → IsStockOf P (note_right P (view P J) s.0 m T None) k
stays_ended P J k s m T may right none h =
    let V : View = view P J in
    let same : SameSupply P (given_so_far P V) (given_so_far P (note_right P V s.0 m T None)) = ended_supplies P V s.0 m T right.opened (last_quiet P s.0 T.place m right.right right.goes) (given_so_far P V)
    (λ e attr given. outputs_opened P V e attr ∙ no_outputs P V.acts s.0 (ended_turn T m) none e attr) (λ e low. refl) in
    same_stock P V (note_right P V s.0 m T None) k h same (mark_right P may.valid J may.orderly s m T may.allowed None right)

-- ---- inputs

pub inputs_same : (P : Plan) (V : View) (S : Supply) → SameSupply P S (given_so_far P V) → (s : ℕ) (x : Tier) (p : Option Tier) → IsReady P V s x → inputs P S s p x ≡ inputs P (supply P V.acts) s p x
inputs_same P V S same s x p ready = inputs_by P S (given_so_far P V) same s p x ∙ inputs_opened P V s x p ready
