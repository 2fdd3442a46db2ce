-- The parameters that can be overridden.
use Rattle.std.proofs.Common.{◌≡◌, false, List, [], ◌∷◌, ◌++◌, map, flat_map, if◌then◌else◌, refl, sym, ap, ◌∙◌}
use Rattle.std.proofs.lemmas.Grind.{flat_map-append}
use Rattle.vs_grammar.specs.Trees as tree
use Rattle.vs_ast.specs.declared.items.Setting.{Setting}
use Rattle.vs_ast.specs.declared.items.Parameters.{Parameters}
use Rattle.vs_ast.specs.Views as view
use Rattle.vs_elaborated.specs.Ports.{parameter_names, item_parameters}
use Rattle.vs_items.specs.Ports.{setting_bytes, body_parameters}

settings_are : (ss : List Setting) → map setting_bytes ss ≡ map (λ (s : tree.Setting). s.name.bytes) (map view.setting ss)
settings_are [] = refl
settings_are (s ∷ ss) = ap (λ r. setting_bytes s ∷ r) (settings_are ss)

pub parameters_are : (p : Parameters) → p.is_local ≡ false → map setting_bytes p.settings.items ≡ parameter_names (view.parameters p)
parameters_are p h = settings_are p.settings.items ∙ ap (λ b. if b then [] else map (λ (s : tree.Setting). s.name.bytes) (map view.setting p.settings.items)) (sym h)

pub bodies_are : (is : List tree.Item) → flat_map body_parameters is ≡ flat_map parameter_names (flat_map item_parameters is)
bodies_are [] = refl
bodies_are (i ∷ is) = ap (λ r. body_parameters i ++ r) (bodies_are is) ∙ sym (flat_map-append parameter_names (item_parameters i) (flat_map item_parameters is))
