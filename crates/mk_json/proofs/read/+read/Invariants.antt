-- The invariants and measures of the loops of `read::+read`.
use Rattle.std.proofs.Common.{◌≡◌, ℕ, ◌+◌, ◌*◌, ◌≤◌, [], length}
use Rattle.json.specs.Json.{items, members, value, parse_map}
use Rattle.serde_json.specs.Data.{Items, Members, no_members}
use Rattle.serde_json.specs.Read.{of_items, of_members, converted}
use Rattle.mk_json.specs.Parsed.{items_of, members_of}
use Rattle.mk_json.specs.inner.Gathered.{put_all}
use Rattle.mk_json.proofs.Turns.{before}
use Rattle.mk_json.proofs.read.+read.Given as goal

abbrev pub decreases-read : goal.decreases-read
decreases-read l = 2 * l.depth

abbrev pub decreases-read_items : goal.decreases-read_items
decreases-read_items l = 2 * l.depth + 1

abbrev pub decreases-read_members : goal.decreases-read_members
decreases-read_members l = 2 * l.depth + 1

abbrev pub invariant-read_items-items : goal.invariant-read_items-items
invariant-read_items-items l =
    (n : ℕ) × (ds : Items) × (length l.reader ≤ n)
    × (converted of_items (items (value l.depth) (length l.initial.reader) l.initial.reader) ≡ parse_map (before ds) (converted of_items (items (value l.depth) n l.reader)))
    × (length l.reader ≤ length l.initial.reader)
    × (l.found ≡ items_of ds)

abbrev pub decreases-read_items-items : goal.decreases-read_items-items
decreases-read_items-items l = length l.reader

abbrev pub invariant-read_members-members : goal.invariant-read_members-members
invariant-read_members-members l =
    (n : ℕ) × (ms : Members) × (length l.reader ≤ n)
    × (converted (λ ns. of_members ns no_members) (members (value l.depth) (length l.initial.reader) l.initial.reader) ≡ converted (λ ns. of_members ns ms) (members (value l.depth) n l.reader))
    × (length l.reader ≤ length l.initial.reader)
    × (put_all [] l.found ≡ members_of ms)

abbrev pub decreases-read_members-members : goal.decreases-read_members-members
decreases-read_members-members l = length l.reader
