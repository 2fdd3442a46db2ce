use Rattle.std.proofs.Common.{◌≡◌, Bool, List, [], Option, IfOk, flat_map, map, if◌then◌else◌, sym, ap, ◌∙◌, subst}
use Rattle.vs_grammar.specs.Trees as tree
use Rattle.vs_ast.specs.declared.items.Declarator.{Declarator}
use Rattle.vs_ast.specs.Views as view
use Rattle.vs_const.specs.declared.faults.Fault.{Fault}
use Rattle.vs_const.specs.Faults.{least}
use Rattle.vs_elaborated.specs.Environments.{named}
use Rattle.vs_elaborated.specs.Unheard.{value_unheard}
use Rattle.vs_scope.specs.Frames.{view_env}
use Rattle.vs_items.proofs.unheard.signals_unheard.Goals as goal

pub returns-then-is_reg : goal.returns-then-is_reg
returns-then-is_reg c =
    let s = view.signals c.args.s.now in
    let values = flat_map (λ (d : tree.Declarator). value_unheard s.place (named (view_env c.args.here.now)) d.value) s.names in
    sym (ap (λ (b : Bool). least (if b then [] else values)) (sym c.is_reg.ensures ∙ c.if-is_reg.true))

pub returns : goal.returns
returns c =
    let s = view.signals c.args.s.now in
    let value = λ (d : tree.Declarator). value_unheard s.place (named (view_env c.args.here.now)) d.value in
    subst (λ (b : Bool). IfOk c.declarators_unheard.result (λ (f : Option Fault). f ≡ least (if b then [] else flat_map value s.names))) (sym (sym c.is_reg.ensures ∙ c.if-is_reg.false))
    (subst (λ (xs : List Declarator). IfOk c.declarators_unheard.result (λ (f : Option Fault). f ≡ least (flat_map value (map view.declarator xs)))) c.deref.ensures.value c.declarators_unheard.ensures)
