-- The limits of scenarios, plans and records: how large each number may be, and how many there may be of each part.
use Rattle.std.specs.Prelude.{ℕ, ℤ, pos}

-- the latest time at which a run may end; a step's time and an initial event are no later
abbrev pub latest_end : ℤ
latest_end = pos 1000000000

-- the greatest loop limit: tiers of steps go from 0 up to it
abbrev pub most_loops : ℕ
most_loops = 1000

-- the most entries that a journal may have
abbrev pub most_entries : ℕ
most_entries = 20000000

-- the most simulators
abbrev pub most_sims : ℕ
most_sims = 200

-- the greatest rank of a simulator, ranks going from 0 up without a gap
abbrev pub highest_rank : ℕ
highest_rank = 199

-- the most models of a simulator
abbrev pub most_models : ℕ
most_models = 10000

-- the most entities: those of a group, and those of all simulators together
abbrev pub most_entities : ℕ
most_entities = 10000

-- the most connections of entities
abbrev pub most_conns : ℕ
most_conns = 100000

-- the most requests of a handshake with one simulator, and so its greatest first id
abbrev pub most_requests : ℕ
most_requests = 1000000

-- the greatest width of a time shift
abbrev pub widest : ℕ
widest = 1000000

-- the greatest tier of an output
abbrev pub greatest_tier : ℕ
greatest_tier = 1000000

-- the greatest size of the demo scenario
abbrev pub largest_demo : ℕ
largest_demo = 100

-- the most milliseconds that a paced run may be given for a unit of time, or for how late it may be: a day
abbrev pub most_milliseconds : ℕ
most_milliseconds = 86400000
