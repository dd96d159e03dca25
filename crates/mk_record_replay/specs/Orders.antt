-- A replay in another order: which simulator's message is given next, by numbers that are drawn.
use Rattle.std.specs.Prelude.{◌≡◌, ℕ, ◌+◌, ◌*◌, ◌^◌, ◌/◌, ◌%◌, Bool, ◌&&◌, nat_lt, List, [], ◌∷◌, ◌++◌, length, filter, fold, Option, Some, None, is_some, slice_get}
use Rattle.std.specs.List.{range_with_len}
use Rattle.mk_base.specs.declared.SimNo.{SimNo}
use Rattle.mk_plan.specs.declared.Plan.{Plan}
use Rattle.mk_plan.specs.declared.Message.{Message}
use Rattle.mk_plan.specs.declared.Entry.{Entry}
use Rattle.mk_plan.specs.declared.Entry.TheVariants.{Sent, Got}
use Rattle.mk_plan.specs.Plans.{sim_count}
use Rattle.mk_plan.specs.Journals.{Arrival, view, got}
use Rattle.mk_record_read.specs.declared.saved.Asked.{Asked}
use Rattle.mk_record_replay.specs.declared.replaying.ReplayEnd.{ReplayEnd}
use Rattle.mk_record_replay.specs.Replays.{IsReplay, IsEndOf, EndsBy, messages_from}

-- the number that follows
abbrev pub next_number : ℕ → ℕ
next_number x = (x * 6364136223846793005 + 1442695040888963407) % 2 ^ 64

-- what is drawn with a number
abbrev pub drawn : ℕ → ℕ
drawn x = x / 2 ^ 33

-- the simulator has a message that hasn't come
abbrev pub has_left : List Arrival → List Entry → ℕ → Bool
has_left A J i = nat_lt (length (got J i)) (length (messages_from A i))

-- those with a message left whose request is open, in rising number
abbrev pub candidates : Plan → List Arrival → List Entry → List ℕ
candidates P A J = filter (λ i. is_some ((view P J).open_at i)
    && has_left A J i) (range_with_len 0 (sim_count P))

-- all those with a message left
abbrev pub all_left : Plan → List Arrival → List Entry → List ℕ
all_left P A J = filter (has_left A J) (range_with_len 0 (sim_count P))

-- the candidate at the place that is drawn; where there is none, the first simulator with a message
-- left
abbrev pub chosen : ℕ → List ℕ → List ℕ → Option ℕ
chosen number (c ∷ cs) left = slice_get (c ∷ cs) (drawn number % length (c ∷ cs))
chosen number [] left = slice_get left 0

-- the number after a message: the next one, if there were candidates
abbrev pub after_draw : List ℕ → ℕ → ℕ
after_draw [] x = x
after_draw (c ∷ cs) x = next_number x

-- the number, and the entries so far
pub record Drawing : Type 0 where
  pub number : ℕ
  pub journal : List Entry

abbrev pub draw_step : Plan → List Arrival → Drawing → Entry → Drawing
draw_step P A D (Sent s item) = record {
  number = D.number;
  journal = D.journal
      ++ Sent s item ∷ [];
}
draw_step P A D (Got s m) = record {
  number = after_draw (candidates P A D.journal) D.number;
  journal = D.journal ++ Got s m ∷ [];
}

-- the number after the entries, from N on
abbrev pub number_after : Plan → List Arrival → ℕ → List Entry → ℕ
number_after P A N J = (fold (draw_step P A) (record { number = N; journal = [] }) J).number

-- whose message comes next after these entries
abbrev pub next_sim : Plan → List Arrival → ℕ → List Entry → Option ℕ
next_sim P A N J = chosen (next_number (number_after P A N J)) (candidates P A J) (all_left P A J)

-- each message came from the simulator that is next after the entries before it
abbrev pub IsInOrder : Plan → List Arrival → ℕ → List Entry → Type 0
IsInOrder P A N J = (H : List Entry) (s : SimNo) (m : Message) (more : List Entry)
    → J ≡ H ++ Got s m ∷ more → next_sim P A N H ≡ Some s.0

-- B has the messages of each simulator of A, in the same order
abbrev pub SameMessages : List Arrival → List Arrival → Type 0
SameMessages A B = (i : ℕ) → messages_from B i ≡ messages_from A i

-- J is a replay, with this end, of the messages A in the order of N
pub record IsReplayInOrder (P : Plan) (A : List Arrival) (N : ℕ) (J : List Entry)
    (end : ReplayEnd) : Type 0 where
  pub order : List Arrival
  pub same : SameMessages A order
  pub replay : IsReplay P order J
  pub ends : EndsBy P order J end
  pub in_order : IsInOrder P A N J

-- what the replay of a record is: of its messages as they came, its steps then compared; or of its
-- messages in the order of a number
abbrev pub IsReplayBy : Plan → List Arrival → Option (List Asked) → Option ℕ → List Entry
    → ReplayEnd → Type 0
IsReplayBy P A steps None J end = IsReplay P A J × IsEndOf P A steps J end
IsReplayBy P A steps (Some N) J end = IsReplayInOrder P A N J end
