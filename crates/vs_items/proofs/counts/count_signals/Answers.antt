use Rattle.std.proofs.Common.{◌++◌, List, map, subst}
use Rattle.vs_ast.specs.declared.items.Declarator.{Declarator}
use Rattle.vs_ast.specs.Views as view
use Rattle.vs_elaborated.specs.Pieces.{all_said}
use Rattle.vs_elaborated.specs.Surveys.{declarator_said}
use Rattle.vs_items.specs.Counts.{IsCounted}
use Rattle.vs_items.proofs.counts.count_signals.Goals as goal

pub returns-clause-counted : goal.returns-clause-counted
returns-clause-counted c = λ env before ps h.
    let t = view.signals c.args.s.now in
    subst (λ (xs : List Declarator). IsCounted c.count_declarators.new.count before (ps ++ (all_said (declarator_said env t.place t.kind) (map view.declarator xs)).pieces)) c.deref.ensures.value
    (c.count_declarators.ensures.counted env before ps h)
