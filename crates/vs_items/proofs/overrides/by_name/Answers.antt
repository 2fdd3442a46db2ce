use Rattle.std.proofs.Common.{[], map, sym, ap, ◌∙◌}
use Rattle.vs_ast.specs.Views as view
use Rattle.vs_const.specs.Faults.{least, better}
use Rattle.vs_const.proofs.Least.{least_append}
use Rattle.vs_elaborated.specs.Instances.{is_overridable, connected_names, overrides_by_name}
use Rattle.vs_scope.specs.Frames.{view_env}
use Rattle.vs_items.specs.Connected.{is_known}
use Rattle.vs_items.proofs.OverrideFaults.{names_alike, named_override_faults}
use Rattle.vs_items.proofs.overrides.by_name.Goals as goal

pub returns : goal.returns
returns c = λ m known.
    let env = view_env c.args.here.now in
    let cs = map view.named_connection c.args.parts.now in
    let k = is_overridable m in
    c.first_of.ensures
    ∙ ap (λ a. better a c.in_ok-found.found) (c.in_ok-names.ensures.first ∙ ap least (names_alike (is_known c.parameter_names.result) k (c.parameter_names.ensures m known) [] cs))
    ∙ ap (better (least (connected_names k [] cs))) (c.in_ok-found.ensures ∙ ap least (sym (named_override_faults cs env)))
    ∙ sym (least_append (connected_names k [] cs) (overrides_by_name cs env).faults)
