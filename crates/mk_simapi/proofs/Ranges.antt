-- The whole numbers of each reply are in the range of trees.
use Rattle.std.proofs.Common.{◌≡◌, ℕ, zero, suc, ◌+◌, true, false, List, map, Option, Some, None, Err, codes, if◌then◌else◌, refl, sym, ◌∙◌, subst}
use Rattle.std.specs.List.{list_all, range_with_len}
use Rattle.mk_base.specs.declared.json.Json as tree
use Rattle.mk_base.specs.declared.json.Json.{Json}
use Rattle.mk_base.specs.Lists.{same_text}
use Rattle.mk_base.specs.Trees as trees
use Rattle.mk_base.proofs.Lists.{some_same, none_some}
use Rattle.mk_base.proofs.OnTrees.{trees_compute}
use Rattle.mk_plan.specs.declared.Call.{Call}
use Rattle.mk_plan.specs.declared.Call.TheVariants.{Init, Create, SetupDone, Stop}
use Rattle.mk_plan.specs.declared.Item.{Item}
use Rattle.mk_plan.specs.declared.Message.{Message}
use Rattle.mk_json.proofs.LevelTests.{range-List}
use Rattle.mk_local.specs.declared.turn.Turn.{Turn}
use Rattle.mk_local.specs.declared.turn.Turn.TheVariants.{Constant, Counter, Sum, Relay, Battery, Controller}
use Rattle.mk_local.specs.Kinds.{model_of}
use Rattle.mk_local.specs.Metadata.{metadata}
use Rattle.mk_local.specs.Calls.{call_reply, create_content, entity_tree, first_bad, is_create_param, is_init_param, message, unless_bad}
use Rattle.mk_local.specs.Replies.{item_reply}
use Rattle.mk_local.specs.Simulators.{Simulator}
use Rattle.mk_run_local.specs.Calls.{IsFitSuccess}
use Rattle.mk_run_local.specs.inner.Standing.{IsFit}
use Rattle.mk_run_local.proofs.Replying.{reply_fit}
use Rattle.mk_simapi.specs.Replies.{unknown}
use Rattle.mk_plan.specs.Messages.{is_message_in_range}

metadata_fits : (T : Turn) → trees.is_in_range (metadata T) ≡ true
unfolding trees_compute
metadata_fits Constant = refl
metadata_fits Counter = refl
metadata_fits Sum = refl
metadata_fits Relay = refl
metadata_fits Battery = refl
metadata_fits Controller = refl

null_fits : trees.is_in_range tree.Null ≡ true
unfolding trees_compute
null_fits = refl

entity_fits : (T : Turn) (k : ℕ) → trees.is_in_range (entity_tree T k) ≡ true
unfolding trees_compute
entity_fits T k = refl

entities_fit : (T : Turn) (k n : ℕ) → list_all trees.is_in_range (map (entity_tree T) (range_with_len k n)) ≡ true
entities_fit T k zero = refl
entities_fit T k (suc n) = let one : trees.is_in_range (entity_tree T k) ≡ true = entity_fits T k in rw one (entities_fit T (k + 1) n)

unless_fits : (id : ℕ) (bad : Option (List ℕ)) (content : Json) → trees.is_in_range content ≡ true → is_message_in_range (message id (unless_bad bad content)) ≡ true
unless_fits id None content h = h
unless_fits id (Some name) content h = refl

create_fits : (id : ℕ) (T : Turn) (count num : ℕ) (model : List ℕ) (params : Json) → is_message_in_range (message id (create_content T count num model params)) ≡ true
create_fits id T count num model params = elim (same_text model (model_of T)) as (λ b. is_message_in_range (message id (if b then unless_bad (first_bad (is_create_param T) params) (tree.List (map (entity_tree T) (range_with_len count num))) else Err (codes "unknown model"))) ≡ true) [
  | true ↦ unless_fits id (first_bad (is_create_param T) params) (tree.List (map (entity_tree T) (range_with_len count num))) (range-List (map (entity_tree T) (range_with_len count num)) ∙ entities_fit T count num)
  | false ↦ refl
]

same_reply : (m n : Message) → Some m ≡ Some n → is_message_in_range m ≡ true → is_message_in_range n ≡ true
same_reply m n e h = subst (λ (x : Message). is_message_in_range x ≡ true) (some_same e) h

pub call_fits : (L : Simulator) (id : ℕ) (call : Call) (m : Message) → call_reply L id call ≡ Some m → is_message_in_range m ≡ true
call_fits L id (Init sim params) m e = same_reply _ m e (unless_fits id (first_bad (is_init_param L.kind) params) (metadata L.kind) (metadata_fits L.kind))
call_fits L id (Create num model params) m e = same_reply _ m e (create_fits id L.kind _ num model params)
call_fits L id SetupDone m e = same_reply _ m e null_fits
call_fits L id Stop m e = absurd (none_some e)

pub item_fits : (L : Simulator) (id : ℕ) (item : Item) (m : Message) → IsFit L → item_reply L id item ≡ Some m → is_message_in_range m ≡ true
item_fits L id item m fit e = let f : IsFitSuccess m = reply_fit L id item m fit e in subst (λ (n : Message). is_message_in_range n ≡ true) (sym f.is) f.range

pub unknown_fits : (id : ℕ) (m : Message) → m ≡ unknown id → is_message_in_range m ≡ true
unknown_fits id m e = subst (λ (n : Message). is_message_in_range n ≡ true) (sym e) refl
