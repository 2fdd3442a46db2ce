use Rattle.std.proofs.Common.{◌++◌, List, map, take, refl, ◌∙◌, subst}
use Rattle.std.proofs.lemmas.List.{take_all}
use Rattle.vs_ast.specs.declared.items.Declarator.{Declarator}
use Rattle.vs_ast.specs.Views as view
use Rattle.vs_elaborated.specs.Pieces.{all_said}
use Rattle.vs_elaborated.specs.Surveys.{declarator_said}
use Rattle.vs_items.specs.Counts.{IsCounted}
use Rattle.vs_items.proofs.CountSteps.{counted_nothing, counted_list}
use Rattle.vs_items.proofs.counts.count_declarators.Goals as goal

pub loop-d-init : goal.loop-d-init
loop-d-init c = record { most = refl; counted = λ env before ps h. counted_nothing c.args.count.now before ps h }

pub loop-d-preserved : goal.loop-d-preserved
loop-d-preserved c = record {
  most = c.count_declarator.ensures.most ∙ c.loop-d.invariant.most;
  counted = λ env before ps h.
      counted_list (declarator_said env c.args.place (view.signal_kind c.args.kind)) view.declarator c.args.names.now c.loop-d.d-index c.d-item.result c.count_declarator.new.count before ps c.loop-d-test.true c.d-item.is
      (c.count_declarator.ensures.counted env before (ps ++ (all_said (declarator_said env c.args.place (view.signal_kind c.args.kind)) (map view.declarator (take c.loop-d.d-index c.args.names.now))).pieces) (c.loop-d.invariant.counted env before ps h));
}

pub returns-clause-most : goal.returns-clause-most
returns-clause-most c = c.loop-d.invariant.most

pub returns-clause-counted : goal.returns-clause-counted
returns-clause-counted c = λ env before ps h.
    subst (λ (xs : List Declarator). IsCounted c.loop-d.count before (ps ++ (all_said (declarator_said env c.args.place (view.signal_kind c.args.kind)) (map view.declarator xs)).pieces)) (take_all c.loop-d.d-index c.args.names.now c.loop-d-test.false)
    (c.loop-d.invariant.counted env before ps h)
