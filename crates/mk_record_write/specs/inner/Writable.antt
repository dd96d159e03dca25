-- For proofs alone. Beside `Writable`, which has what a reader needs.
use Rattle.std.specs.Prelude.{ℕ, Bool, true, List, []}
use Rattle.mk_plan.specs.declared.Item.{Item}
use Rattle.mk_plan.specs.declared.Item.TheVariants.{Step, GetData, Answer, Refuse}
use Rattle.mk_plan.specs.declared.Entry.{Entry}
use Rattle.mk_plan.specs.declared.Entry.TheVariants.{Sent, Got}
use Rattle.mk_plan.specs.Report.{is_step}
use Rattle.mk_record_read.specs.Texts.{ask_line, got_line}

-- the entry has a line
abbrev pub is_line : Entry → Bool
is_line (Sent s item) = is_step item
is_line (Got s m) = true

-- the line of an item
abbrev pub item_line : ℕ → Item → List ℕ
item_line sim (Step at ins advance) = ask_line sim at advance
item_line sim (GetData wanted) = []
item_line sim (Answer id content) = []
item_line sim (Refuse id reason) = []

-- the line of an entry, if it has one
abbrev pub line_in : Entry → List ℕ
line_in (Sent s item) = item_line s.0 item
line_in (Got s m) = got_line (record { sim = s.0; message = m })
