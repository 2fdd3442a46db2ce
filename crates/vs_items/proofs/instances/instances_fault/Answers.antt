use Rattle.std.proofs.Common.{Bool, List, map, flat_map, ap, subst, sym, ◌∙◌}
use Rattle.vs_grammar.specs.Shapes.{Each, IsInstance}
use Rattle.vs_ast.specs.declared.items.Instance.{Instance}
use Rattle.vs_ast.specs.Views as view
use Rattle.vs_const.specs.Faults.{least, fault_if}
use Rattle.vs_const.specs.declared.rules.Rule.TheVariants.{UnknownModule}
use Rattle.vs_elaborated.specs.Ports.{find_module}
use Rattle.vs_scope.specs.Frames.{view_env}
use Rattle.vs_items.specs.Instances.{instance_faults}
use Rattle.vs_items.proofs.OverrideFaults.{more_each}
use Rattle.vs_items.proofs.InstanceFaults.{item_has, none_is}
use Rattle.vs_items.proofs.instances.instances_fault.Goals as goal

pub overrides_fault-requires : goal.overrides_fault-requires
overrides_fault-requires c = c.requires.overrides

pub all_fault-requires : goal.all_fault-requires
all_fault-requires c =
    subst (λ (is : List Instance). Each IsInstance (map view.instance is)) (sym c.deref.ensures.value) (more_each IsInstance (view.instances c.args.t.now).instances c.requires.instances)

pub returns : goal.returns
returns c = λ source around known same.
    let t = view.instances c.args.t.now in
    let env = view_env c.args.here.now in
    let m = find_module source t.of.bytes in
    item_has source around t env c.args.known c.fault_if-missing.result c.in_ok-overrides.overrides c.in_ok-connections.connections c.first_of.result c.first_of-2.result known same
    (c.fault_if-missing.ensures ∙ ap (λ (b : Bool). least (fault_if b UnknownModule t.of.place)) (none_is c.args.known c.is_none.result c.is_none.ensures))
    (c.in_ok-overrides.ensures m known)
    (c.in_ok-connections.ensures m known ∙ ap (λ (is : List Instance). least (flat_map (instance_faults m env) (map view.instance is))) c.deref.ensures.value)
    c.first_of.ensures c.first_of-2.ensures
