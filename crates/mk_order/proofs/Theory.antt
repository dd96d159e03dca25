-- A plan's parts meet the laws of the theory.
use Rattle.std.proofs.Common.{◌≡◌, ℕ, Bool, true, false, List, filter, map, flat_map, Some, None, option_map, option_and_then, slice_get, refl, sym, subst, if◌then◌else◌, arith, ◌<ℤ◌, ℤ}
use Rattle.std.proofs.lemmas.Int.{ints}
use Rattle.mk_order_any.specs.Parts as theory
use Rattle.mk_order_any.specs.Parts.{Parts}
use Rattle.mk_order_any.specs.Laws.{Laws}
use Rattle.mk_base.specs.declared.tier.Tier.{Tier}
use Rattle.mk_base.specs.declared.tier.Via.{Via}
use Rattle.mk_base.specs.Lists.{IsIn}
use Rattle.mk_base.specs.Tiers.{delayed, moment, up_to}
use Rattle.mk_base.specs.Trees.{member}
use Rattle.mk_base.specs.Texts.{text_of}
use Rattle.mk_base.proofs.TierOrder.{up_to_trans, up_to_total, up_to_antisym, delayed_keeps}
use Rattle.mk_plan.specs.declared.Plan.{Plan}
use Rattle.mk_plan.specs.declared.Conn.{Conn}
use Rattle.mk_plan.specs.declared.Item.{Item}
use Rattle.mk_plan.specs.declared.Message.{Message}
use Rattle.mk_plan.specs.Plans.{sim_count, rank_of, eid_of, IsValidPlan, Link, link_of, pair_links}
use Rattle.mk_plan.specs.Walks.{IsEdge, IsLink, link}
use Rattle.mk_plan.specs.declared.Place.{Place}
use Rattle.mk_plan.specs.Turns.{is_wrong, next_place}
use Rattle.mk_plan.specs.Acts.{Said, Told, Heard, Act, output, contents, made}
use Rattle.mk_plan.specs.Deliveries.{supply}
use Rattle.mk_plan.specs.Due.{is_due}
use Rattle.mk_plan.specs.Sequential.{Messages, opening, response, next_step, visits, sequential}
use Rattle.mk_plan.specs.Ready.{pending}
use Rattle.mk_base.proofs.Lists.{in_filter, in_map, map_in, in_front}
use Rattle.mk_order.proofs.VisitOrder.{visits_rise, link_rises}
use Rattle.mk_order.proofs.Reasons.{IsFirst, IsNextOf, Triggers, due_why, due_first, due_next, due_triggered, pending_due, pending_since, pending_least, due_below}
use Rattle.mk_order.proofs.RightActs.{IsRight, act_right, made_no_earlier, due_visited}
use Rattle.mk_order.proofs.LateActs.{step_same, response_same}

-- the parts of a plan, as the theory takes them
abbrev pub parts : Plan → Parts
parts P = record {
  Tier = Tier;
  Via = Via;
  Message = Message;
  Item = Item;
  Place = Place;
  Act = Act;
  Said = Said;
  leb = up_to;
  after = delayed;
  count = sim_count P;
  rank = rank_of P;
  visits = visits P;
  Edge = IsEdge P;
  Link = IsLink P;
  mk = λ x ms e talk. record { at = x; messages = ms; ended = e; talk = talk };
  at = λ a. a.at;
  msgs = λ a. a.messages;
  ended = λ a. a.ended;
  talk = λ a. a.talk;
  told = Told;
  heard = Heard;
  begin = opening P;
  wrong = is_wrong P;
  on = next_place P;
  step = λ A s x acts. next_step P (supply P A) s x acts;
  answer = λ A s x o m. response P (supply P A) s x o m;
  due = is_due P;
  pending = pending P;
}

pub edge_link : (P : Plan) (j : ℕ) (v : Via) (i : ℕ) → IsEdge P j v i → IsLink P j v i
edge_link P j v i m =
    let t = in_map (link_of P) (link j v i) (filter (λ c. c.triggering) P.conns) m in
    let u = in_filter (λ (c : Conn). c.triggering) t.0 P.conns t.1 in
    in_front (link j v i) (map (link_of P) P.conns) (flat_map pair_links P.asyncs) (subst (λ (l : Link). IsIn l (map (link_of P) P.conns)) (sym t.2) (map_in (link_of P) t.0 P.conns u.0))

pub next_after : (x : Tier) (n : ℤ) → x.time <ℤ n → up_to (moment n) x ≡ false
next_after x n h = grind (arith, ints)

pub output_ended : (P : Plan) (a : Act) (e : ℕ) (attr w : List ℕ) → output P a e attr ≡ Some w → a.ended ≡ true
output_ended P a e attr w h = go a.ended refl h
  where
    go : (b : Bool) → a.ended ≡ b → option_map text_of (option_and_then (member attr) (option_and_then (member (eid_of P e)) (if b then slice_get (contents a) 1 else None))) ≡ Some w → a.ended ≡ true
    go true e h = e
    go false e h = cc

-- the laws that the theory asks for hold of a valid plan
unfoldable pub laws : (P : Plan) → IsValidPlan P → Laws (parts P)
laws P valid = record {
  le_trans = up_to_trans;
  le_total = λ x y h. up_to_total x y h;
  le_antisym = up_to_antisym;
  after_mono = delayed_keeps;
  edge_link = edge_link P;
  link_rises = link_rises P valid.ranks valid.well_formed.limits.widths;
  visits_rise = visits_rise P valid.ranks;
  at_mk = λ x ms e l. refl;
  msgs_mk = λ x ms e l. refl;
  ended_mk = λ x ms e l. refl;
  talk_mk = λ x ms e l. refl;
  Right = IsRight;
  act_right = act_right P;
  Initial = IsFirst P;
  Again = IsNextOf P;
  Calls = Triggers P;
  due_why = due_why P;
  due_initial = due_first P;
  due_again = due_next P;
  due_called = λ A s x j v a e m t. due_triggered P A s x j v a m t;
  again_later = λ s a x r n. subst (λ (y : Tier). up_to y a.at ≡ false) (sym n.is) (next_after a.at n.time (r.next n.time n.next));
  calls_later = λ j v s a x e t. subst (λ (y : Tier). up_to (delayed a.at v) y ≡ true) (sym t.is) (delayed_keeps a.at (made a) v (made_no_earlier a));
  calls_ended = λ j v s a x t. output_ended P a t.by.from t.by.from_attr t.value t.given;
  due_visited = due_visited P valid;
  pending_due = pending_due P;
  pending_fresh = pending_since P;
  pending_least = pending_least P;
  due_below = due_below P;
  step_same = λ A U s x acts late. step_same P s x U late A acts;
  answer_same = λ A U s x o m late. response_same P s x U late A o m;
}

-- the theory's sequential execution is the plan's
pub seq_is : (P : Plan) (R : Messages) → theory.seq (parts P) R ≡ sequential P R
unfolding theory.seq
seq_is P R = refl
