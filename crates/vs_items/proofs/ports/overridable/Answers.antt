use Rattle.std.proofs.Common.{◌++◌, map, flat_map, sym, ap, ◌∙◌}
use Rattle.std.proofs.lemmas.Grind.{flat_map-append}
use Rattle.vs_ast.specs.Views as view
use Rattle.vs_elaborated.specs.Ports.{parameter_names, item_parameters}
use Rattle.vs_items.specs.Ports.{name_bytes, body_parameters}
use Rattle.vs_items.proofs.Overridable.{bodies_are}
use Rattle.vs_items.proofs.Repeats.{items_are}
use Rattle.vs_items.proofs.ports.overridable.Goals as goal

pub returns : goal.returns
returns c =
    let m = c.args.of.now in
    let body = flat_map item_parameters (map view.item m.items.items) in
    c.in_ok-push_body.ensures
    ∙ ap (λ r. r ++ flat_map body_parameters (map view.item c.deref-2.result.now)) (c.in_ok-push_header.ensures ∙ ap (λ x. map name_bytes x ++ flat_map parameter_names (map view.parameters c.deref.result.now)) c.new-names.ensures.items)
    ∙ ap (λ x. flat_map parameter_names (map view.parameters x) ++ flat_map body_parameters (map view.item c.deref-2.result.now)) c.deref.ensures.value
    ∙ ap (λ x. flat_map parameter_names (map view.parameters m.parameters.items) ++ flat_map body_parameters (map view.item x)) c.deref-2.ensures.value
    ∙ ap (λ r. flat_map parameter_names (map view.parameters m.parameters.items) ++ r) (bodies_are (map view.item m.items.items))
    ∙ sym (flat_map-append parameter_names (map view.parameters m.parameters.items) body)
    ∙ ap (λ is. flat_map parameter_names (map view.parameters m.parameters.items ++ flat_map item_parameters is)) (sym (items_are m.items.items))
