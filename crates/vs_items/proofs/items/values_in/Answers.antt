use Rattle.std.proofs.Common.{◌≡◌, List, Option, IfOk, map, sym, ap, ◌∙◌, subst}
use Rattle.vs_ast.specs.declared.items.Signals.{Signals}
use Rattle.vs_grammar.specs.Trees as tree
use Rattle.vs_grammar.specs.Shapes.{Each}
use Rattle.vs_ast.specs.Views as view
use Rattle.vs_const.specs.declared.faults.Fault.{Fault}
use Rattle.vs_const.specs.Faults.{least}
use Rattle.vs_elaborated.specs.Surveys.{ports_said}
use Rattle.vs_scope.specs.Frames.{view_env}
use Rattle.vs_items.specs.Stated.{IsStatedHeader}
use Rattle.vs_items.proofs.items.values_in.Goals as goal

pub ports_fault-requires : goal.ports_fault-requires
ports_fault-requires c =
    subst (λ (h : tree.Header). IsStatedHeader h) (ap view.header c.in-Declared.is ∙ ap (λ (xs : List Signals). tree.DeclaredPorts (map view.signals xs)) (sym c.deref.ensures.value)) c.requires

pub returns-in-Declared : goal.returns-in-Declared
returns-in-Declared c =
    subst (λ (h : tree.Header). IfOk c.ports_fault.result (λ (f : Option Fault). f ≡ least (ports_said (view_env c.args.here.now) h).faults))
    (sym (ap view.header c.in-Declared.is ∙ ap (λ (xs : List Signals). tree.DeclaredPorts (map view.signals xs)) (sym c.deref.ensures.value))) c.ports_fault.ensures
