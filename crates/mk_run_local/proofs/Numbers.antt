-- The numbers of a simulator's entities stay within 64 bits.
use Rattle.std.proofs.Common.{◌≡◌, ℕ, zero, suc, ◌+◌, ℤ, pos, negsuc, ◌+ℤ◌, ◌≤ℤ◌, int_lt, int_le, Bool, true, false, cond, ◌&&◌, List, [], ◌∷◌, ◌++◌, length, map, fold, replicate, Option, Some, None, Result, Ok, Err, option_and_then, unwrap_or, codes, refl, ◌∙◌, arith, if◌then◌else◌}
use Rattle.std.proofs.lemmas.Int.{ints}
use Rattle.std.specs.List.{enumerate_from}
use Rattle.mk_base.specs.declared.json.Json.{Json}
use Rattle.mk_base.specs.Lists.{Each}
use Rattle.mk_base.specs.Trees.{whole_in, member}
use Rattle.mk_base.specs.Numbers.{FitsIn64}
use Rattle.mk_plan.specs.declared.Call.{Call}
use Rattle.mk_plan.specs.declared.Call.TheVariants.{Init, Create, SetupDone, Stop}
use Rattle.mk_plan.specs.declared.Input.{Input}
use Rattle.mk_plan.specs.declared.Item.{Item}
use Rattle.mk_plan.specs.declared.Item.TheVariants.{Step, GetData, Answer, Refuse}
use Rattle.mk_local.specs.declared.turn.Turn.{Turn}
use Rattle.mk_local.specs.declared.turn.Turn.TheVariants.{Constant, Counter, Sum, Relay, Battery, Controller}
use Rattle.mk_local.specs.declared.turn.EntityStep.{EntityStep}
use Rattle.mk_local.specs.declared.turn.EntityTurn.{EntityTurn}
use Rattle.mk_local.specs.declared.entity.Entity.{Entity}
use Rattle.mk_local.specs.Kinds.{least_step, greatest_step, setting_of}
use Rattle.mk_local.specs.Rows.{row, clamped, charged, next_time, IsStepOf}
use Rattle.mk_local.specs.Simulators.{Simulator, new_simulator}
use Rattle.mk_local.specs.Steps.{turned, entity_step, after_step}
use Rattle.mk_local.specs.Calls.{whole_from_to, step_in, setting_in, new_entity, init_content, create_content, unless_refused, after_call, least_setting, greatest_setting}
use Rattle.mk_local.specs.Replies.{after_item}
use Rattle.mk_run_local.specs.inner.Standing.{IsShortIfThere, IsFitEntity, IsFit}
use Rattle.mk_base.proofs.Bools.{both_hold}
use Rattle.mk_base.proofs.Items.{each_append}

pub clamped_short : (n : ℤ) → FitsIn64 (clamped n)
clamped_short (pos n) = (omega (arith, ints), omega (arith, ints))
clamped_short (negsuc n) = (omega (arith, ints), omega (arith, ints))

charged_short : (s : EntityStep) → FitsIn64 s.state → FitsIn64 (charged s)
charged_short s h = elim s.seen as (λ b. FitsIn64 (cond b (cond (int_lt s.state s.sum) (clamped (s.state +ℤ pos 1)) (cond (int_lt s.sum s.state) (clamped (s.state +ℤ negsuc 0)) s.state)) s.state)) [
  | true ↦ elim (int_lt s.state s.sum) as (λ b. FitsIn64 (cond b (clamped (s.state +ℤ pos 1)) (cond (int_lt s.sum s.state) (clamped (s.state +ℤ negsuc 0)) s.state))) [
    | true ↦ clamped_short (s.state +ℤ pos 1)
    | false ↦ elim (int_lt s.sum s.state) as (λ b. FitsIn64 (cond b (clamped (s.state +ℤ negsuc 0)) s.state)) [ true ↦ clamped_short (s.state +ℤ negsuc 0) | false ↦ h ]
  ]
  | false ↦ h
]

if_there : (b : Bool) (n : ℤ) → FitsIn64 n → IsShortIfThere (if b then Some n else None)
if_there true n h = h
if_there false n h = tt

pub next_short : (T : Turn) (s : EntityStep) → IsShortIfThere (row T s).next
next_short Constant s = clamped_short (s.time +ℤ s.step)
next_short Counter s = clamped_short (s.time +ℤ s.step)
next_short Sum s = clamped_short (s.time +ℤ s.step)
next_short Relay s = tt
next_short Battery s = tt
next_short Controller s = tt

-- what a turn gives
pub record IsShortTurn (t : EntityTurn) : Type 0 where
  pub state : FitsIn64 t.state
  pub out : IsShortIfThere t.out
  pub at : IsShortIfThere t.at

turn_short : (T : Turn) (s : EntityStep) → FitsIn64 s.setting → FitsIn64 s.state → IsShortTurn (row T s)
turn_short Constant s g h = record { state = h; out = g; at = tt }
turn_short Counter s g h = record { state = h; out = clamped_short (s.setting +ℤ s.time); at = tt }
turn_short Sum s g h = record { state = h; out = clamped_short (s.setting +ℤ s.sum); at = tt }
turn_short Relay s g h = record { state = h; out = if_there s.seen (clamped (s.setting +ℤ s.sum)) (clamped_short (s.setting +ℤ s.sum)); at = if_there (int_lt (pos 0) s.step) (next_time s) (clamped_short (s.time +ℤ s.step)) }
turn_short Battery s g h = record { state = charged_short s h; out = charged_short s h; at = tt }
turn_short Controller s g h = record { state = h; out = if_there (s.seen && int_lt s.sum s.setting) s.setting g; at = tt }

after_turn : (e : Entity) (t : EntityTurn) → IsFitEntity e → IsShortTurn t → IsFitEntity (turned e t)
after_turn e t f g = record { setting = f.setting; state = g.state; out = g.out; at = g.at }

module _ (L : Simulator) (time : ℤ) (inputs : List Input) where
  abbrev entity_at : ℕ × Entity → Entity
  entity_at p = turned p.1 (row L.kind (entity_step L time inputs p.0 p.1))

  turned_fit : (k : ℕ) (es : List Entity) → Each IsFitEntity es → Each IsFitEntity (map entity_at (enumerate_from k es))
  turned_fit k [] all = tt
  turned_fit k (e ∷ es) all = (after_turn e (row L.kind (entity_step L time inputs k e)) all.0 (turn_short L.kind (entity_step L time inputs k e) all.0.setting all.0.state), turned_fit (k + 1) es all.1)

  pub step_fit : IsFit L → IsFit (after_step L time inputs)
  step_fit fit = turned_fit 0 L.entities fit

-- an item leaves a simulator's numbers short
pub item_fit : (L : Simulator) (item : Item) → IsFit L → IsFit (after_item L item)
item_fit L (Step at inputs advance) fit = step_fit L at.time inputs fit
item_fit L (GetData wanted) fit = fit
item_fit L (Answer asked content) fit = fit
item_fit L (Refuse asked reason) fit = fit

-- ---- requests before the run

-- a number that a parameter gives is within its bounds
abbrev IsWithin : ℤ → ℤ → ℤ → Type 0
IsWithin least most n = (least ≤ℤ n) × (n ≤ℤ most)

given_within : (least most : ℤ) (o : Option ℤ) (other : ℤ) → IsWithin least most other → IsWithin least most (unwrap_or (option_and_then (λ n. if int_le least n && int_le n most then Some n else None) o) other)
given_within least most None other h = h
given_within least most (Some n) other h = elim (int_le least n && int_le n most) as (λ b. (int_le least n && int_le n most) ≡ b → IsWithin least most (unwrap_or (cond b (Some n) None) other)) [
  | true ↦ λ e. let t = both_hold (int_le least n) (int_le n most) e in let low : int_le least n ≡ true = t.0 in let high : int_le n most ≡ true = t.1 in (grind (arith, ints), grind (arith, ints))
  | false ↦ λ e. h
] refl

value_within : (least most : ℤ) (value : Option Json) (other : ℤ) → IsWithin least most other → IsWithin least most (unwrap_or (option_and_then (whole_from_to least most) value) other)
value_within least most None other h = h
value_within least most (Some v) other h = given_within least most (whole_in v) other h

setting_short : (T : Turn) (params : Json) → FitsIn64 (setting_in T params)
setting_short T params = let t = value_within least_setting greatest_setting (member (setting_of T) params) (pos 0) (omega (arith, ints), omega (arith, ints)) in (omega (arith, ints, t.0), omega (arith, ints, t.1))

each_replicate : {X : Type 0} (Q : X → Type 0) (n : ℕ) (x : X) → Q x → Each Q (replicate n x)
each_replicate Q zero x h = tt
each_replicate Q (suc n) x h = (h, each_replicate Q n x h)

new_fit : (setting : ℤ) → FitsIn64 setting → IsFitEntity (new_entity setting)
new_fit setting h = record { setting = h; state = h; out = tt; at = tt }

refused_or : (Q : Simulator → Type 0) (r : Result Json (List ℕ)) (done same : Simulator) → Q done → Q same → Q (unless_refused r done same)
refused_or Q (Ok content) done same h k = h
refused_or Q (Err text) done same h k = k

-- so does a request
pub call_fit : (L : Simulator) (call : Call) → IsFit L → IsFit (after_call L call)
call_fit L (Init sim params) fit = refused_or IsFit (init_content L.kind params) (record { kind = L.kind; step = step_in L.kind params; entities = L.entities }) L fit fit
call_fit L (Create num model params) fit = refused_or IsFit (create_content L.kind (length L.entities) num model params) (record { kind = L.kind; step = L.step; entities = L.entities ++ replicate num (new_entity (setting_in L.kind params)) }) L
    (each_append IsFitEntity L.entities (replicate num (new_entity (setting_in L.kind params))) fit (each_replicate IsFitEntity num (new_entity (setting_in L.kind params)) (new_fit (setting_in L.kind params) (setting_short L.kind params)))) fit
call_fit L SetupDone fit = fit
call_fit L Stop fit = fit

-- ---- the kind stays, and the step is one of the kind's

abbrev pub IsStepping : Simulator → Type 0
IsStepping L = IsStepOf L.kind L.step

least_may : (T : Turn) → IsStepOf T (least_step T)
least_may Constant = (omega (arith, ints), omega (arith, ints))
least_may Counter = (omega (arith, ints), omega (arith, ints))
least_may Sum = (omega (arith, ints), omega (arith, ints))
least_may Relay = (omega (arith, ints), omega (arith, ints))
least_may Battery = (omega (arith, ints), omega (arith, ints))
least_may Controller = (omega (arith, ints), omega (arith, ints))

pub new_steps : (T : Turn) → IsStepping (new_simulator T)
new_steps T = least_may T

pub call_steps : (L : Simulator) (call : Call) → IsStepping L → IsStepping (after_call L call)
call_steps L (Init sim params) h = refused_or IsStepping (init_content L.kind params) (record { kind = L.kind; step = step_in L.kind params; entities = L.entities }) L
    (value_within (least_step L.kind) greatest_step (member (codes "step") params) (least_step L.kind) (least_may L.kind)) h
call_steps L (Create num model params) h = refused_or IsStepping (create_content L.kind (length L.entities) num model params) (record { kind = L.kind; step = L.step; entities = L.entities ++ replicate num (new_entity (setting_in L.kind params)) }) L h h
call_steps L SetupDone h = h
call_steps L Stop h = h

pub calls_step : (L : Simulator) (calls : List Call) → IsStepping L → IsStepping (fold after_call L calls)
calls_step L [] h = h
calls_step L (call ∷ calls) h = calls_step (after_call L call) calls (call_steps L call h)

abbrev IsKind : Turn → Simulator → Type 0
IsKind T L = L.kind ≡ T

pub call_kind : (L : Simulator) (call : Call) → (after_call L call).kind ≡ L.kind
call_kind L (Init sim params) = refused_or (IsKind L.kind) (init_content L.kind params) (record { kind = L.kind; step = step_in L.kind params; entities = L.entities }) L refl refl
call_kind L (Create num model params) = refused_or (IsKind L.kind) (create_content L.kind (length L.entities) num model params) (record { kind = L.kind; step = L.step; entities = L.entities ++ replicate num (new_entity (setting_in L.kind params)) }) L refl refl
call_kind L SetupDone = refl
call_kind L Stop = refl

pub calls_kind : (L : Simulator) (calls : List Call) → (fold after_call L calls).kind ≡ L.kind
calls_kind L [] = refl
calls_kind L (call ∷ calls) = calls_kind (after_call L call) calls ∙ call_kind L call

pub item_kind : (L : Simulator) (item : Item) → (after_item L item).kind ≡ L.kind
item_kind L (Step at inputs advance) = refl
item_kind L (GetData wanted) = refl
item_kind L (Answer asked content) = refl
item_kind L (Refuse asked reason) = refl
