-- The replies to messages one after another.
use Rattle.std.proofs.Common.{◌≡◌, ℕ, Bool, true, false, List, [], ◌∷◌, ◌++◌, map, fold, Option, Some, None, option_to_list, refl, sym, ap, ◌∙◌, append_assoc, if◌then◌else◌}
use Rattle.mk_base.specs.Lists.{BeginsWith}
use Rattle.mk_base.proofs.Lists.{append_nil, map_append}
use Rattle.mk_plan.specs.declared.Message.{Message}
use Rattle.mk_frame.specs.Frames.{frames_of}
use Rattle.mk_message.specs.Written.{message_text}
use Rattle.mk_local.specs.Simulators.{Simulator}
use Rattle.mk_simapi.specs.Replies.{after_message, is_stop, payloads, replies, reply_to}
use Rattle.mk_simapi.specs.Serving.{NoStop}
use Rattle.mk_frame.proofs.OnFrames.{frames_of-append}

-- nothing after a stop
abbrev unless : Bool → List Message → List Message
unless b ms = if b then [] else ms

-- one more message that isn't a stop
pub replies_more : (L : Simulator) (ms : List Message) (m : Message) → NoStop ms → is_stop m ≡ false → replies L (ms ++ m ∷ []) ≡ replies L ms ++ option_to_list (reply_to (fold after_message L ms) m)
replies_more L [] m going e = ap (λ (b : Bool). unless b (option_to_list (reply_to L m) ++ [])) e ∙ append_nil (option_to_list (reply_to L m))
replies_more L (x ∷ ms) m (first, rest) e =
    let one = option_to_list (reply_to L x) in
    let N = after_message L x in
    ap (λ (b : Bool). unless b (one ++ replies N (ms ++ m ∷ []))) first
    ∙ ap (λ (r : List Message). one ++ r) (replies_more N ms m rest e)
    ∙ sym (append_assoc one (replies N ms) (option_to_list (reply_to (fold after_message N ms) m)))
    ∙ ap (λ (b : Bool). unless b (one ++ replies N ms) ++ option_to_list (reply_to (fold after_message N ms) m)) (sym first)

-- more messages, more replies
replies_begin : (L : Simulator) (ms later : List Message) → BeginsWith (replies L (ms ++ later)) (replies L ms)
replies_begin L [] later = (replies L later, refl)
replies_begin L (x ∷ ms) later =
    let one = option_to_list (reply_to L x) in
    let N = after_message L x in
    let r = replies_begin N ms later in
    elim (is_stop x) as (λ b. BeginsWith (unless b (one ++ replies N (ms ++ later))) (unless b (one ++ replies N ms))) [
      | true ↦ ([], refl)
      | false ↦ (r.0, ap (λ (q : List Message). one ++ q) r.1 ∙ sym (append_assoc one (replies N ms) r.0))
    ]

pub payloads_begin : (L : Simulator) (ms later : List Message) → BeginsWith (payloads L (ms ++ later)) (payloads L ms)
payloads_begin L ms later = let r = replies_begin L ms later in (map message_text r.0, ap (map message_text) r.1 ∙ map_append message_text (replies L ms) r.0)

-- what was said so far is a beginning of the frames of all
pub frames_begin : (L : Simulator) (ms later : List Message) (said unsent : List ℕ) → said ++ unsent ≡ frames_of (payloads L ms) → BeginsWith (frames_of (payloads L (ms ++ later))) said
frames_begin L ms later said unsent is = let r = payloads_begin L ms later in (
  unsent ++ frames_of r.0,
  ap frames_of r.1 ∙ frames_of-append (payloads L ms) r.0 ∙ ap (λ (b : List ℕ). b ++ frames_of r.0) (sym is) ∙ append_assoc said unsent (frames_of r.0),
)

-- ---- one more message

pub payloads_same : (L : Simulator) (ms : List Message) (m : Message) → NoStop ms → is_stop m ≡ false → reply_to (fold after_message L ms) m ≡ None → payloads L (ms ++ m ∷ []) ≡ payloads L ms
payloads_same L ms m going e none = ap (map message_text) (replies_more L ms m going e ∙ ap (λ (o : Option Message). replies L ms ++ option_to_list o) none ∙ append_nil (replies L ms))

pub payloads_more : (L : Simulator) (ms : List Message) (m r : Message) → NoStop ms → is_stop m ≡ false → reply_to (fold after_message L ms) m ≡ Some r → payloads L (ms ++ m ∷ []) ≡ payloads L ms ++ message_text r ∷ []
payloads_more L ms m r going e some = ap (map message_text) (replies_more L ms m going e ∙ ap (λ (o : Option Message). replies L ms ++ option_to_list o) some) ∙ map_append message_text (replies L ms) (r ∷ [])

-- the simulator after one more
pub after_more : (L : Simulator) (ms : List Message) (m : Message) → fold after_message L (ms ++ m ∷ []) ≡ after_message (fold after_message L ms) m
after_more L [] m = refl
after_more L (x ∷ ms) m = after_more (after_message L x) ms m
