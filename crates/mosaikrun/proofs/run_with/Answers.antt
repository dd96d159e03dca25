-- Each rule has a name of its own.
use Rattle.std.proofs.Common.{◌≡◌, ℕ, true, List, [], drop, length, map, ap, ◌∙◌, subst, sym, ◌∷◌}
use Rattle.std.specs.Prelude.{◌+◌}
use Rattle.std.proofs.lemmas.List.{length-append}
use Rattle.mk_watch_read.specs.declared.rule.Fold.TheVariants.{Sum}
use Rattle.mk_watch_read.specs.Folds.{name_of}
use Rattle.mk_watch_read.specs.Rules.{names_in}
use Rattle.mk_watch_read.specs.inner.Rules.{are_new}
use Rattle.mk_watch_read.proofs.Named.{next_new}
use Rattle.mosaikrun.proofs.run_with.Goals as goal

pub loop-fold-init : goal.loop-fold-init
loop-fold-init g c = record {
  new = subst (λ (l : List (List ℕ)). are_new l (map name_of c.args.folds.now) ≡ true) (sym c.new-rules.ensures.names) c.requires.names;
  few = ap length c.new-rules.ensures.names;
}

pub add-requires-clause-new_name : goal.add-requires-clause-new_name
add-requires-clause-new_name g c =
    let named = c.new-in-loop-fold.ensures.name ∙ c.in_ok-name.ensures ∙ c.name_of.ensures ∙ ap name_of (sym c.new-in-loop-fold.ensures.fold) in
    (next_new (names_in c.loop-fold.rules) c.args.folds.now c.loop-fold.fold-index Sum c.new-in-loop-fold.result.fold c.new-in-loop-fold.result.name c.loop-fold-test.true c.new-in-loop-fold.ensures.fold named c.loop-fold.invariant.new).0

pub loop-fold-preserved : goal.loop-fold-preserved
loop-fold-preserved g c =
    let named = c.new-in-loop-fold.ensures.name ∙ c.in_ok-name.ensures ∙ c.name_of.ensures ∙ ap name_of (sym c.new-in-loop-fold.ensures.fold) in
    let next = next_new (names_in c.loop-fold.rules) c.args.folds.now c.loop-fold.fold-index Sum c.new-in-loop-fold.result.fold c.new-in-loop-fold.result.name c.loop-fold-test.true c.new-in-loop-fold.ensures.fold named c.loop-fold.invariant.new in
    record {
      new = subst (λ (l : List (List ℕ)). are_new l (map name_of (drop (c.loop-fold.fold-index + 1) c.args.folds.now)) ≡ true) (sym c.in_ok-add.ensures.names) next.1;
      few = ap length c.in_ok-add.ensures.names ∙ length-append (names_in c.loop-fold.rules) (c.new-in-loop-fold.result.name ∷ []) ∙ ap (λ n. n + 1) c.loop-fold.invariant.few;
    }
