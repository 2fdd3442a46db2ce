use Rattle.std.proofs.Common.{List, map, flat_map, refl, ap, sym, ◌∙◌}
use Rattle.std.proofs.lemmas.List.{take_all}
use Rattle.vs_ast.specs.declared.items.Signals.{Signals}
use Rattle.vs_ast.specs.Views as view
use Rattle.vs_const.specs.Faults.{least}
use Rattle.vs_elaborated.specs.Surveys.{signals_said}
use Rattle.vs_scope.specs.Frames.{view_env}
use Rattle.vs_items.specs.Stated.{IsDeclared}
use Rattle.vs_items.proofs.FaultLists.{least_more, each_at}
use Rattle.vs_items.proofs.ItemFaults.{signals_faults, all_have}
use Rattle.vs_items.proofs.items.ports_fault.Goals as goal

pub signals_fault-requires : goal.signals_fault-requires
signals_fault-requires c = each_at IsDeclared view.signals c.args.ports.now c.loop-s.s-index c.s-item.result c.loop-s-test.true c.s-item.is c.requires

pub loop-s-preserved : goal.loop-s-preserved
loop-s-preserved c =
    least_more view.signals (signals_faults (view_env c.args.here.now)) c.args.ports.now c.loop-s.s-index c.s-item.result _ _ _ c.loop-s-test.true c.s-item.is
    c.first_of-fault.ensures c.loop-s.invariant c.in_ok-found.ensures

pub returns : goal.returns
returns c =
    let env = view_env c.args.here.now in
    c.loop-s.invariant
    ∙ ap (λ (xs : List Signals). least (flat_map (signals_faults env) (map view.signals xs))) (take_all c.loop-s.s-index c.args.ports.now c.loop-s-test.false)
    ∙ ap least (sym (all_have (signals_said env) (signals_faults env) (λ t. refl) (map view.signals c.args.ports.now)))
