use Rattle.std.proofs.Common.{◌≡◌, List, Option, IfOk, map, sym, ap, subst}
use Rattle.vs_grammar.specs.Trees.{AssignsItem}
use Rattle.vs_ast.specs.declared.items.Item.{Item}
use Rattle.vs_ast.specs.declared.items.Assign.{Assign}
use Rattle.vs_ast.specs.Views as view
use Rattle.vs_const.specs.declared.faults.Fault.{Fault}
use Rattle.vs_const.specs.Faults.{least}
use Rattle.vs_elaborated.specs.Environments.{named}
use Rattle.vs_elaborated.specs.Unheard as spec
use Rattle.vs_scope.specs.Frames.{view_env}
use Rattle.vs_items.proofs.OtherItems.{others_heard}
use Rattle.vs_items.proofs.unheard.item_unheard.Goals as goal

pub returns-in-Signals : goal.returns-in-Signals
returns-in-Signals c =
    let find = named (view_env c.args.here.now) in
    subst (λ (x : Item). IfOk c.signals_unheard.result (λ (f : Option Fault). f ≡ least (spec.item_unheard find (view.item x)))) (sym c.in-Signals.is) c.signals_unheard.ensures

pub returns-in-Assigns : goal.returns-in-Assigns
returns-in-Assigns c =
    let find = named (view_env c.args.here.now) in
    subst (λ (x : Item). IfOk c.assigns_unheard.result (λ (f : Option Fault). f ≡ least (spec.item_unheard find (view.item x)))) (sym c.in-Assigns.is)
    (subst (λ (xs : List Assign). IfOk c.assigns_unheard.result (λ (f : Option Fault). f ≡ least (spec.item_unheard find (AssignsItem c.in-Assigns.place (map view.assign xs))))) c.deref.ensures.value c.assigns_unheard.ensures)

pub returns-in-Always : goal.returns-in-Always
returns-in-Always c =
    let find = named (view_env c.args.here.now) in
    subst (λ (x : Item). IfOk c.block_unheard.result (λ (f : Option Fault). f ≡ least (spec.item_unheard find (view.item x)))) (sym c.in-Always.is) c.block_unheard.ensures

pub returns-in-Instances : goal.returns-in-Instances
returns-in-Instances c =
    let find = named (view_env c.args.here.now) in
    subst (λ (x : Item). IfOk c.instances_unheard.result (λ (f : Option Fault). f ≡ least (spec.item_unheard find (view.item x)))) (sym c.in-Instances.is) c.instances_unheard.ensures

pub returns-in_default : goal.returns-in_default
returns-in_default c = sym (ap least (others_heard (named (view_env c.args.here.now)) c.args.item.now c.in_default.not-Signals c.in_default.not-Assigns c.in_default.not-Always c.in_default.not-Instances))
