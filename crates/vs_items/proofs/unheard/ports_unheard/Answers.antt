use Rattle.std.proofs.Common.{◌≡◌, List, Option, IfOk, flat_map, map, sym, ap, subst}
use Rattle.vs_ast.specs.declared.items.Signals.{Signals}
use Rattle.vs_ast.specs.declared.modules.Header.{Header}
use Rattle.vs_ast.specs.Views as view
use Rattle.vs_const.specs.declared.faults.Fault.{Fault}
use Rattle.vs_const.specs.Faults.{least}
use Rattle.vs_elaborated.specs.Environments.{named}
use Rattle.vs_elaborated.specs.Unheard as spec
use Rattle.vs_scope.specs.Frames.{view_env}
use Rattle.vs_items.proofs.OtherItems.{undeclared_heard}
use Rattle.vs_items.proofs.unheard.ports_unheard.Goals as goal

pub returns-in-Declared : goal.returns-in-Declared
returns-in-Declared c =
    let find = named (view_env c.args.here.now) in
    subst (λ (x : Header). IfOk c.declared_unheard.result (λ (f : Option Fault). f ≡ least (spec.ports_unheard find (view.header x)))) (sym c.in-Declared.is)
    (subst (λ (xs : List Signals). IfOk c.declared_unheard.result (λ (f : Option Fault). f ≡ least (flat_map (spec.signals_unheard find) (map view.signals xs)))) c.deref.ensures.value c.declared_unheard.ensures)

pub returns-in_default : goal.returns-in_default
returns-in_default c = sym (ap least (undeclared_heard (named (view_env c.args.here.now)) c.args.header.now c.in_default.not-Declared))
