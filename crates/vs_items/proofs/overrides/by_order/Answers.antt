use Rattle.std.proofs.Common.{length, map, sym, ap, ◌∙◌}
use Rattle.std.proofs.lemmas.List.{length-map}
use Rattle.vs_ast.specs.Views as view
use Rattle.vs_const.specs.Faults.{least, better, fault_if}
use Rattle.vs_const.specs.declared.rules.Rule.TheVariants.{PortCount}
use Rattle.vs_const.proofs.Least.{least_append}
use Rattle.vs_elaborated.specs.Instances.{module_overridable, has_too_many, overrides_by_order}
use Rattle.vs_scope.specs.Frames.{view_env}
use Rattle.vs_items.proofs.OverrideFaults.{ordered_faults}
use Rattle.vs_items.proofs.overrides.by_order.Goals as goal

pub returns : goal.returns
returns c = λ m known.
    let env = view_env c.args.here.now in
    let parts = map (view.option view.expr) c.args.parts.now in
    let place = c.args.of.now.place in
    let names = module_overridable m in
    c.first_of.ensures
    ∙ ap (λ a. better a c.in_ok-found.found) (c.fault_if-many.ensures ∙ ap (λ b. least (fault_if b PortCount place)) (c.has_too_many.ensures m known ∙ ap (has_too_many m) (sym (length-map c.args.parts.now (view.option view.expr)))))
    ∙ ap (better (least (fault_if (has_too_many m (length parts)) PortCount place))) (c.in_ok-found.ensures ∙ ap least (sym (ordered_faults names 0 parts env)))
    ∙ sym (least_append (fault_if (has_too_many m (length parts)) PortCount place) (overrides_by_order names 0 parts env).faults)
