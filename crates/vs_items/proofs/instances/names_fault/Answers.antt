use Rattle.std.proofs.Common.{[], map, sym, ap, ◌∙◌}
use Rattle.vs_ast.specs.Views as view
use Rattle.vs_const.specs.Faults.{least, better}
use Rattle.vs_const.proofs.Least.{least_append}
use Rattle.vs_elaborated.specs.Instances.{is_port, connected_names, connected_by_name, module_ports}
use Rattle.vs_scope.specs.Frames.{view_env}
use Rattle.vs_items.specs.Connected.{is_known}
use Rattle.vs_items.proofs.OverrideFaults.{names_alike}
use Rattle.vs_items.proofs.instances.names_fault.Goals as goal

pub returns : goal.returns
returns c = λ m known.
    let env = view_env c.args.here.now in
    let cs = map view.named_connection c.args.parts.now in
    let k = is_port m in
    c.first_of.ensures
    ∙ ap (λ a. better a c.in_ok-found.found) (c.in_ok-names.ensures.first ∙ ap least (names_alike (is_known c.port_names.result) k (c.port_names.ensures m known) [] cs))
    ∙ ap (better (least (connected_names k [] cs))) (c.in_ok-found.ensures m known)
    ∙ sym (least_append (connected_names k [] cs) (connected_by_name (module_ports m) cs env).faults)
