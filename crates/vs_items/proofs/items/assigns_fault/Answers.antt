use Rattle.std.proofs.Common.{List, map, flat_map, ap, sym, ◌∙◌}
use Rattle.std.proofs.lemmas.List.{take_all}
use Rattle.vs_grammar.specs.Shapes.{IsAssign}
use Rattle.vs_ast.specs.declared.items.Assign.{Assign}
use Rattle.vs_ast.specs.Views as view
use Rattle.vs_const.specs.Faults.{least}
use Rattle.vs_scope.specs.Frames.{view_env}
use Rattle.vs_items.specs.Items.{assign_faults}
use Rattle.vs_items.proofs.FaultLists.{least_more, each_at}
use Rattle.vs_items.proofs.ItemFaults.{assigns_have}
use Rattle.vs_items.proofs.items.assigns_fault.Goals as goal

pub assign_fault-requires : goal.assign_fault-requires
assign_fault-requires c = each_at IsAssign view.assign c.args.assigns.now c.loop-a.a-index c.a-item.result c.loop-a-test.true c.a-item.is c.requires

pub loop-a-preserved : goal.loop-a-preserved
loop-a-preserved c =
    least_more view.assign (assign_faults (view_env c.args.here.now)) c.args.assigns.now c.loop-a.a-index c.a-item.result _ _ _ c.loop-a-test.true c.a-item.is
    c.first_of-fault.ensures c.loop-a.invariant c.in_ok-found.ensures

pub returns : goal.returns
returns c = λ place.
    let env = view_env c.args.here.now in
    c.loop-a.invariant
    ∙ ap (λ (xs : List Assign). least (flat_map (assign_faults env) (map view.assign xs))) (take_all c.loop-a.a-index c.args.assigns.now c.loop-a-test.false)
    ∙ ap least (sym (assigns_have env place (map view.assign c.args.assigns.now)))
