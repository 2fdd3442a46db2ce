use Rattle.std.proofs.Common.{◌++◌, List, map, sym, ap, ◌∙◌, subst}
use Rattle.vs_grammar.specs.Trees as tree
use Rattle.vs_ast.specs.declared.items.Signals.{Signals}
use Rattle.vs_ast.specs.Views as view
use Rattle.vs_elaborated.specs.Surveys.{ports_said}
use Rattle.vs_items.specs.Counts.{IsCounted}
use Rattle.vs_items.proofs.CountSteps.{undeclared_counted}
use Rattle.vs_items.proofs.counts.count_values.Goals as goal

pub returns-in-Declared-clause-counted : goal.returns-in-Declared-clause-counted
returns-in-Declared-clause-counted c = λ env before ps h.
    subst (λ (x : tree.Header). IsCounted c.count_ports.new.count before (ps ++ (ports_said env x).pieces))
    (sym (ap view.header c.in-Declared.is ∙ ap (λ (xs : List Signals). tree.DeclaredPorts (map view.signals xs)) (sym c.deref.ensures.value))) (c.count_ports.ensures.counted env before ps h)

pub returns-in_default-clause-counted : goal.returns-in_default-clause-counted
returns-in_default-clause-counted c = λ env before ps h. undeclared_counted env c.args.header.now c.in_default.not-Declared c.args.count.now before ps h
