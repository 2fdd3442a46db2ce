use Rattle.std.proofs.Common.{length, map, sym, ap, ◌∙◌}
use Rattle.std.proofs.lemmas.List.{length-map}
use Rattle.vs_ast.specs.Views as view
use Rattle.vs_const.specs.Faults.{least, better, fault_if}
use Rattle.vs_const.specs.declared.rules.Rule.TheVariants.{PortCount}
use Rattle.vs_const.proofs.Least.{least_append}
use Rattle.vs_elaborated.specs.Instances.{module_ports, has_wrong_count, connected_by_order}
use Rattle.vs_scope.specs.Frames.{view_env}
use Rattle.vs_items.proofs.instances.order_fault.Goals as goal

pub returns : goal.returns
returns c = λ m known.
    let env = view_env c.args.here.now in
    let parts = map (view.option view.expr) c.args.parts.now in
    let place = c.args.name.now.place in
    let names = module_ports m in
    c.first_of.ensures
    ∙ ap (λ a. better a c.in_ok-found.found) (c.fault_if-wrong.ensures ∙ ap (λ b. least (fault_if b PortCount place)) (c.has_wrong_count.ensures m known ∙ ap (has_wrong_count m) (sym (length-map c.args.parts.now (view.option view.expr)))))
    ∙ ap (better (least (fault_if (has_wrong_count m (length parts)) PortCount place))) (c.in_ok-found.ensures m known)
    ∙ sym (least_append (fault_if (has_wrong_count m (length parts)) PortCount place) (connected_by_order names 0 parts env).faults)
