use Rattle.std.proofs.Common.{◌≡◌, ◌++◌, map, ap, ◌∙◌, subst}
use Rattle.std.specs.Prelude.{OnOk}
use Rattle.vs_items.specs.Ports.{name_bytes, setting_bytes}
use Rattle.vs_items.proofs.Overridable.{parameters_are}
use Rattle.vs_items.proofs.ports.push_parameters.Goals as goal

pub returns : goal.returns
returns c =
    subst (λ ps. OnOk c.push_settings.result (map name_bytes c.push_settings.new.names.items ≡ map name_bytes c.args.names.now.items ++ ps))
    (ap (map setting_bytes) c.deref.ensures.value ∙ parameters_are c.args.parameters.now c.if-parameters.false)
    c.push_settings.ensures
