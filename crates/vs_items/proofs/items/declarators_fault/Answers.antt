use Rattle.std.proofs.Common.{List, map, flat_map, ap, sym, ◌∙◌}
use Rattle.std.proofs.lemmas.List.{take_all}
use Rattle.vs_grammar.specs.Shapes.{IsDeclarator}
use Rattle.vs_ast.specs.declared.items.Declarator.{Declarator}
use Rattle.vs_ast.specs.Views as view
use Rattle.vs_const.specs.Faults.{least}
use Rattle.vs_scope.specs.Frames.{view_env}
use Rattle.vs_elaborated.specs.Signals.{is_reg}
use Rattle.vs_items.specs.Items.{declarator_faults}
use Rattle.vs_items.proofs.FaultLists.{least_more, each_at}
use Rattle.vs_items.proofs.ItemFaults.{declarators_have}
use Rattle.vs_items.proofs.items.declarators_fault.Goals as goal

pub declarator_fault-requires : goal.declarator_fault-requires
declarator_fault-requires c = each_at IsDeclarator view.declarator c.args.names.now c.loop-d.d-index c.d-item.result c.loop-d-test.true c.d-item.is c.requires

pub loop-d-preserved : goal.loop-d-preserved
loop-d-preserved c =
    least_more view.declarator (declarator_faults (view_env c.args.here.now) (is_reg (view.signal_kind c.args.kind))) c.args.names.now c.loop-d.d-index c.d-item.result _ _ _ c.loop-d-test.true c.d-item.is
    c.first_of-fault.ensures c.loop-d.invariant c.in_ok-found.ensures

pub returns : goal.returns
returns c = λ place.
    let env = view_env c.args.here.now in
    c.loop-d.invariant
    ∙ ap (λ (xs : List Declarator). least (flat_map (declarator_faults env (is_reg (view.signal_kind c.args.kind))) (map view.declarator xs))) (take_all c.loop-d.d-index c.args.names.now c.loop-d-test.false)
    ∙ ap least (sym (declarators_have env place (view.signal_kind c.args.kind) (map view.declarator c.args.names.now)))
