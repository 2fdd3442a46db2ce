use Rattle.std.proofs.Common.{◌++◌, List, map, take, refl, ◌∙◌, subst}
use Rattle.std.proofs.lemmas.List.{take_all}
use Rattle.vs_ast.specs.declared.items.Assign.{Assign}
use Rattle.vs_ast.specs.Views as view
use Rattle.vs_elaborated.specs.Environments.{named}
use Rattle.vs_elaborated.specs.Pieces.{Own, all_said}
use Rattle.vs_elaborated.specs.Surveys.{assign_said}
use Rattle.vs_build.specs.Writable.{assign_process}
use Rattle.vs_items.specs.Counts.{IsCounted}
use Rattle.vs_items.proofs.CountSteps.{counted_nothing, counted_any}
use Rattle.vs_items.proofs.counts.count_assigns.Goals as goal

pub loop-a-init : goal.loop-a-init
loop-a-init c = record { most = refl; counted = λ env before ps h. counted_nothing c.args.count.now before ps h }

pub loop-a-preserved : goal.loop-a-preserved
loop-a-preserved c = record {
  most = c.add.ensures.most ∙ c.loop-a.invariant.most;
  counted = λ env before ps h.
      counted_any (assign_said env c.args.place) view.assign c.args.assigns.now c.loop-a._a-index c.add.new.self before ps c.loop-a-test.true
      (λ x. c.add.ensures.counted before (ps ++ (all_said (assign_said env c.args.place) (map view.assign (take c.loop-a._a-index c.args.assigns.now))).pieces) (Own (assign_process c.args.place (view.assign x) (named env)))
      (c.loop-a.invariant.counted env before ps h) refl refl);
}

pub returns-clause-most : goal.returns-clause-most
returns-clause-most c = c.loop-a.invariant.most

pub returns-clause-counted : goal.returns-clause-counted
returns-clause-counted c = λ env before ps h.
    subst (λ (xs : List Assign). IsCounted c.loop-a.count before (ps ++ (all_said (assign_said env c.args.place) (map view.assign xs)).pieces)) (take_all c.loop-a._a-index c.args.assigns.now c.loop-a-test.false)
    (c.loop-a.invariant.counted env before ps h)
