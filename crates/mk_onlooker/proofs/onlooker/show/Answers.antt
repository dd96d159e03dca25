-- Answers to the goals of `onlooker::show` that the prover leaves.
use Rattle.std.proofs.Common.{sym, ap, ◌∙◌, subst, List, drop}
use Rattle.std.proofs.lemmas.List.{take_rest}
use Rattle.mk_plan.specs.declared.Entry.{Entry}
use Rattle.mk_onlooker.specs.Showings.{AreInRange}
use Rattle.mk_onlooker.proofs.OnShowings.{in_range_from}
use Rattle.mk_onlooker.proofs.onlooker.show.Goals as goal

pub look-requires : goal.look-requires
look-requires g c = record {
  in_range = subst AreInRange (sym (take_rest c.as_slice-entries.result.now c.args.shown))
      (in_range_from c.args.shown c.as_slice-entries.result.now (subst AreInRange (sym c.as_slice-entries.ensures) c.requires.in_range));
}

pub returns : goal.returns
returns g c = record {
  looked = subst (λ (l : List Entry). g.O.Onlooker.looks c.args.onlooker.now c.args.plan.now l c.args.is_pause c.look.new.self)
      (take_rest c.as_slice-entries.result.now c.args.shown ∙ ap (drop c.args.shown) c.as_slice-entries.ensures) c.look.ensures.looked;
}
