use Rattle.std.proofs.Common.{List, Option, map, flat_map, sym, ap, ◌∙◌}
use Rattle.std.proofs.lemmas.List.{take_all}
use Rattle.vs_grammar.specs.Shapes.{IsConnection}
use Rattle.vs_ast.specs.declared.items.NamedConnection.{NamedConnection}
use Rattle.vs_ast.specs.Views as view
use Rattle.vs_const.specs.Faults.{least}
use Rattle.vs_elaborated.specs.Ports.{Port, find_port}
use Rattle.vs_elaborated.specs.Instances.{module_ports, connected}
use Rattle.vs_scope.specs.Frames.{view_env}
use Rattle.vs_items.proofs.FaultLists.{least_more, each_at}
use Rattle.vs_items.proofs.InstanceFaults.{port_faults, named_port_faults}
use Rattle.vs_items.proofs.instances.values_fault.Goals as goal

pub port_fault-requires : goal.port_fault-requires
port_fault-requires c = (each_at IsConnection view.named_connection c.args.parts.now c.loop-part.part-index c.part-item.result c.loop-part-test.true c.part-item.is c.requires).1

pub loop-part-preserved : goal.loop-part-preserved
loop-part-preserved c = λ m known.
    let env = view_env c.args.here.now in
    let ps = module_ports m in
    let e = (view.named_connection c.part-item.result).e in
    least_more view.named_connection (port_faults ps env) c.args.parts.now c.loop-part.part-index c.part-item.result _ _ _ c.loop-part-test.true c.part-item.is
    c.first_of-fault.ensures (c.loop-part.invariant m known)
    (c.in_ok-found.ensures ∙ ap (λ (p : Option Port). least (connected p e env).faults) (c.port_named-port.ensures m known ∙ ap (find_port ps) c.as_slice.ensures))

pub returns : goal.returns
returns c = λ m known.
    let env = view_env c.args.here.now in
    let ps = module_ports m in
    c.loop-part.invariant m known
    ∙ ap (λ (xs : List NamedConnection). least (flat_map (port_faults ps env) (map view.named_connection xs))) (take_all c.loop-part.part-index c.args.parts.now c.loop-part-test.false)
    ∙ ap least (sym (named_port_faults ps (map view.named_connection c.args.parts.now) env))
