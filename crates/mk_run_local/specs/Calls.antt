-- What a request and an item do to a simulator within the program, and to the replies that are
-- kept.
use Rattle.std.specs.Prelude.{◌≡◌, ℕ, true, [], ◌∷◌, ◌++◌, Some, slice_set}
use Rattle.mk_base.specs.declared.json.Json.{Json}
use Rattle.mk_base.specs.Trees.{is_in_range}
use Rattle.mk_plan.specs.declared.Call.{Call}
use Rattle.mk_plan.specs.declared.Item.{Item}
use Rattle.mk_plan.specs.declared.Message.{Message}
use Rattle.mk_plan.specs.declared.Message.TheVariants.{Success}
use Rattle.mk_local.specs.Calls.{call_reply, after_call}
use Rattle.mk_local.specs.Replies.{item_reply, after_item}
use Rattle.mk_local.specs.Simulators.{Simulator}
use Rattle.mk_run_local.specs.Seen.{WithinState, sim_at}

-- m is the reply of simulator i to a request before the run, which only changed that simulator
pub record IsCalled (old : WithinState) (i id : ℕ) (call : Call) (m : Message)
    (new : WithinState) : Type 0 where
  pub sim : Simulator
  pub there : sim_at old i ≡ Some sim
  pub reply : call_reply sim id call ≡ Some m
  pub moved : new ≡ record {
    sims = slice_set old.sims i (Some (after_call sim call));
    kept = old.kept;
  }

-- the reply of simulator i to an item was kept behind the others, and only that simulator changed
pub record IsAnswered (old : WithinState) (i id : ℕ) (item : Item)
    (new : WithinState) : Type 0 where
  pub sim : Simulator
  pub there : sim_at old i ≡ Some sim
  pub reply : Message
  pub replied : item_reply sim id item ≡ Some reply
  pub moved : new ≡ record {
    sims = slice_set old.sims i (Some (after_item sim item));
    kept = old.kept ++ record { sim = i; message = reply } ∷ [];
  }

-- m was the oldest reply that was kept, and only it is gone
pub record IsTakenOut (old : WithinState) (i : ℕ) (m : Message) (new : WithinState) : Type 0 where
  pub kept : old.kept ≡ record { sim = i; message = m } ∷ new.kept
  pub sims : new.sims ≡ old.sims

-- a success whose whole numbers are in the range of trees
pub record IsFitSuccess (m : Message) : Type 0 where
  pub id : ℕ
  pub content : Json
  pub is : m ≡ Success id content
  pub range : is_in_range content ≡ true
