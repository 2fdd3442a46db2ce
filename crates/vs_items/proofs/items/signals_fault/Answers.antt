use Rattle.std.proofs.Common.{◌≡◌, List, Option, IfOk, map, sym, subst}
use Rattle.vs_grammar.specs.Shapes.{Each, IsDeclarator}
use Rattle.vs_ast.specs.declared.items.Declarator.{Declarator}
use Rattle.vs_ast.specs.Views as view
use Rattle.vs_const.specs.declared.faults.Fault.{Fault}
use Rattle.vs_const.specs.Faults.{least}
use Rattle.vs_elaborated.specs.Pieces.{all_said}
use Rattle.vs_elaborated.specs.Surveys.{declarator_said}
use Rattle.vs_scope.specs.Frames.{view_env}
use Rattle.vs_items.proofs.items.signals_fault.Goals as goal

pub declarators_fault-requires : goal.declarators_fault-requires
declarators_fault-requires c = subst (λ (xs : List Declarator). Each IsDeclarator (map view.declarator xs)) (sym c.deref.ensures.value) c.requires

pub returns : goal.returns
returns c =
    let t = view.signals c.args.s.now in
    subst (λ (xs : List Declarator). IfOk c.declarators_fault.result (λ (f : Option Fault). f ≡ least (all_said (declarator_said (view_env c.args.here.now) t.place t.kind) (map view.declarator xs)).faults)) c.deref.ensures.value
    (c.declarators_fault.ensures t.place)
