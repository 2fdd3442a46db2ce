use Rattle.std.proofs.Common.{◌++◌, List, map, take, refl, ◌∙◌, subst}
use Rattle.std.proofs.lemmas.List.{take_all}
use Rattle.vs_ast.specs.declared.items.Signals.{Signals}
use Rattle.vs_ast.specs.Views as view
use Rattle.vs_elaborated.specs.Pieces.{all_said}
use Rattle.vs_elaborated.specs.Surveys.{signals_said}
use Rattle.vs_items.specs.Counts.{IsCounted}
use Rattle.vs_items.proofs.CountSteps.{counted_nothing, counted_list}
use Rattle.vs_items.proofs.counts.count_ports.Goals as goal

pub loop-s-init : goal.loop-s-init
loop-s-init c = record { most = refl; counted = λ env before ps h. counted_nothing c.args.count.now before ps h }

pub loop-s-preserved : goal.loop-s-preserved
loop-s-preserved c = record {
  most = c.count_signals.ensures.most ∙ c.loop-s.invariant.most;
  counted = λ env before ps h.
      counted_list (signals_said env) view.signals c.args.ports.now c.loop-s.s-index c.s-item.result c.count_signals.new.count before ps c.loop-s-test.true c.s-item.is
      (c.count_signals.ensures.counted env before (ps ++ (all_said (signals_said env) (map view.signals (take c.loop-s.s-index c.args.ports.now))).pieces) (c.loop-s.invariant.counted env before ps h));
}

pub returns-clause-most : goal.returns-clause-most
returns-clause-most c = c.loop-s.invariant.most

pub returns-clause-counted : goal.returns-clause-counted
returns-clause-counted c = λ env before ps h.
    subst (λ (xs : List Signals). IsCounted c.loop-s.count before (ps ++ (all_said (signals_said env) (map view.signals xs)).pieces)) (take_all c.loop-s.s-index c.args.ports.now c.loop-s-test.false)
    (c.loop-s.invariant.counted env before ps h)
