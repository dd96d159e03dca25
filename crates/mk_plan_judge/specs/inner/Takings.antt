-- For proofs alone. What connections take, as it is sorted and put into a list for each simulator.
use Rattle.std.specs.Prelude.{◌≡◌, ◌≢◌, ℕ, List, [], filter, fold, length, Some, unwrap_or, slice_get, slice_set, ◌==◌}
use Rattle.std.specs.declared.cmp.Ordering.{Ordering}
use Rattle.std.specs.declared.cmp.Ordering.TheVariants.{Greater}
use Rattle.mk_base.specs.Lists.{IsIn, put}
use Rattle.mk_plan.specs.declared.Plan.{Plan}
use Rattle.mk_plan.specs.declared.Conn.{Conn}
use Rattle.mk_plan.specs.declared.Want.{Want}
use Rattle.mk_plan.specs.Plans.{owner, eid_of}
use Rattle.mk_plan.specs.Turns.{want_order}
use Rattle.mk_plan_judge.specs.declared.all_wants.Taking.{Taking}

-- what is taken
abbrev pub want_taken : Taking → Want
want_taken t = record { eid = t.eid.now; attr = t.attr.now }

-- by the entity's name, then the attribute's
abbrev pub taking_order : Taking → Taking → Ordering
taking_order t u = want_order (want_taken t) (want_taken u)

-- the connection takes it
pub record IsTakenBy (P : Plan) (c : Conn) (t : Taking) : Type 0 where
  pub sim : t.sim ≡ owner P c.from
  pub eid : t.eid.now ≡ eid_of P c.from
  pub attr : t.attr.now ≡ c.from_attr

-- what these connections take, in any order
pub record AreTakings (P : Plan) (cs : List Conn) (ts : List Taking) : Type 0 where
  pub each : (t : Taking) → IsIn t ts → (c : Conn) × IsIn c cs × IsTakenBy P c t
  pub all : (c : Conn) → IsIn c cs → (t : Taking) × IsIn t ts × IsTakenBy P c t

-- what is taken of simulator s, in order, each once
abbrev pub wants_of : ℕ → List Taking → List Want
wants_of s ts = fold (λ ws t. put want_order (want_taken t) ws) [] (filter (λ t. t.sim == s) ts)

-- the same of each of n simulators
pub record AreWantsOf (n : ℕ) (ts : List Taking) (lists : List (List Want)) : Type 0 where
  pub count : length lists ≡ n
  pub each : (s : ℕ) (ws : List Want) → slice_get lists s ≡ Some ws → ws ≡ wants_of s ts

-- the lists, with what is taken put into that of its simulator
abbrev pub with_want : Taking → List (List Want) → List (List Want)
with_want t lists = slice_set lists t.sim
    (put want_order (want_taken t) (unwrap_or (slice_get lists t.sim) []))

-- no item of these comes behind the want
abbrev pub NoneIsBehind : Want → List Want → Type 0
NoneIsBehind w ws = (v : Want) → IsIn v ws → want_order v w ≢ Greater
