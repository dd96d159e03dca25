-- For proofs alone. What tells connections and entities apart, and the order by which it is sorted.
-- Only proofs need it.
use Rattle.std.specs.Prelude.{ℕ, Bool, true, false, not, ◌&&◌, List, [], ◌∷◌}
use Rattle.std.specs.Ordering.{nat_cmp, is_lt}
use Rattle.std.specs.Cmp.Lexicographic.{slice_cmp}
use Rattle.std.specs.declared.cmp.Ordering.{Ordering}
use Rattle.mk_base.specs.Lists.{same_text}
use Rattle.mk_plan.specs.declared.Plan.{Plan}
use Rattle.mk_plan.specs.declared.Conn.{Conn}
use Rattle.mk_plan.specs.Plans.{owner, eid_of}
use Rattle.mk_plan_check.specs.declared.marks.Mark.{Mark}
use Rattle.mk_plan_check.specs.Tests.{implies, same_bool}

-- two numbers and a text in a row, and a flag
pub record Label : Type 0 where
  pub key : List ℕ
  pub flag : Bool

abbrev pub label_of : Mark → Label
label_of m = record { key = m.first ∷ m.second ∷ m.text.now; flag = m.flag }

abbrev pub way_label : Conn → Label
way_label c = record { key = c.from ∷ c.to ∷ c.to_attr; flag = false }

abbrev pub source_label : Conn → Label
source_label c = record { key = c.from ∷ 0 ∷ c.from_attr; flag = c.persistent }

abbrev pub target_label : Conn → Label
target_label c = record { key = c.to ∷ 0 ∷ c.to_attr; flag = c.triggering }

abbrev pub name_label : Plan → ℕ → Label
name_label P e = record { key = owner P e ∷ 0 ∷ eid_of P e; flag = false }

abbrev pub mark_order : Mark → Mark → Ordering
mark_order a b = slice_cmp nat_cmp (label_of a).key (label_of b).key

-- the order of marks with the same first number
abbrev pub second_order : Mark → Mark → Ordering
second_order a b = slice_cmp nat_cmp (a.second ∷ a.text.now) (b.second ∷ b.text.now)

abbrev pub comes_first : Mark → Mark → Bool
comes_first a b = is_lt (mark_order a b)

-- the labels' keys differ
abbrev pub differ : Label → Label → Bool
differ a b = not (same_text a.key b.key)

-- the flags are the same where the keys are
abbrev pub agree : Label → Label → Bool
agree a b = implies (same_text a.key b.key) (same_bool a.flag b.flag)

abbrev pub differ_by : Mark → Mark → Bool
differ_by a b = differ (label_of a) (label_of b)

abbrev pub agree_by : Mark → Mark → Bool
agree_by a b = agree (label_of a) (label_of b)

-- the test holds between this item and the first of those that follow, if there is one
abbrev pub fits_first : {X : Type 0} → (X → X → Bool) → X → List X → Bool
fits_first fits x [] = true
fits_first fits x (y ∷ ys) = fits x y

-- the test holds between each item and the next
abbrev pub all_next : {X : Type 0} → (X → X → Bool) → List X → Bool
all_next fits [] = true
all_next fits (x ∷ xs) = fits_first fits x xs && all_next fits xs
