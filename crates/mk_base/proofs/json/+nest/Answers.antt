-- Answers to the goals of `json::+nest` that the prover leaves.
use Rattle.std.proofs.Common.{◌≡◌, nat_le, nat_lt, false, sym, ap, ◌∙◌, arith}
use Rattle.mk_base.specs.Trees.{nesting}
use Rattle.mk_base.proofs.Levels.{zero_within, nesting_null, nesting_bool, nesting_number, nesting_odd, nesting_text, items_within, members_within, items_not_within, members_not_within}
use Rattle.mk_base.proofs.json.+nest.Goals as goal

pub nests_within-returns-in-Null : goal.nests_within-returns-in-Null
nests_within-returns-in-Null t c = sym (ap (λ n. nat_le n c.args.depth) (ap nesting c.in-Null.is ∙ nesting_null) ∙ zero_within c.args.depth)

pub nests_within-returns-in-Bool : goal.nests_within-returns-in-Bool
nests_within-returns-in-Bool t c = sym (ap (λ n. nat_le n c.args.depth) (ap nesting c.in-Bool.is ∙ nesting_bool _) ∙ zero_within c.args.depth)

pub nests_within-returns-in-Whole : goal.nests_within-returns-in-Whole
nests_within-returns-in-Whole t c = sym (ap (λ n. nat_le n c.args.depth) (ap nesting c.in-Whole.is ∙ nesting_number _) ∙ zero_within c.args.depth)

pub nests_within-returns-in-Odd : goal.nests_within-returns-in-Odd
nests_within-returns-in-Odd t c = sym (ap (λ n. nat_le n c.args.depth) (ap nesting c.in-Odd.is ∙ nesting_odd) ∙ zero_within c.args.depth)

pub nests_within-returns-in-Text : goal.nests_within-returns-in-Text
nests_within-returns-in-Text t c = sym (ap (λ n. nat_le n c.args.depth) (ap nesting c.in-Text.is ∙ nesting_text _) ∙ zero_within c.args.depth)

pub nests_within-returns-then-depth-gt0 : goal.nests_within-returns-then-depth-gt0
nests_within-returns-then-depth-gt0 t c = c.nest_within.ensures ∙ sym (ap (λ j. nat_le (nesting j) c.args.depth) c.in-List.is ∙ items_within _ c.args.depth (let h = c.if-depth-gt0.true in grind (arith, h)))

pub nests_within-returns-else-depth-gt0 : goal.nests_within-returns-else-depth-gt0
nests_within-returns-else-depth-gt0 t c = (let h : nat_lt 0 c.args.depth ≡ false = (let k = c.if-depth-gt0.false in grind (arith, k)) in h ∙ sym (ap (λ j. nat_le (nesting j) c.args.depth) c.in-List.is ∙ items_not_within _ c.args.depth h))

pub nests_within-returns-then-depth-gt0-2 : goal.nests_within-returns-then-depth-gt0-2
nests_within-returns-then-depth-gt0-2 t c = c.have_nested_within.ensures ∙ sym (ap (λ j. nat_le (nesting j) c.args.depth) c.in-Object.is ∙ members_within _ c.args.depth (let h = c.if-depth-gt0-2.true in grind (arith, h)))

pub nests_within-returns-else-depth-gt0-2 : goal.nests_within-returns-else-depth-gt0-2
nests_within-returns-else-depth-gt0-2 t c = (let h : nat_lt 0 c.args.depth ≡ false = (let k = c.if-depth-gt0-2.false in grind (arith, k)) in h ∙ sym (ap (λ j. nat_le (nesting j) c.args.depth) c.in-Object.is ∙ members_not_within _ c.args.depth h))
