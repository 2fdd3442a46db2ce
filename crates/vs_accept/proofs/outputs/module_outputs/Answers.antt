use Rattle.std.proofs.Common.{◌++◌, ℕ, List, map, flat_map, sym, ap, ◌∙◌}
use Rattle.vs_ast.specs.Views as view
use Rattle.vs_accept.specs.Outputs.{item_outputs, header_outputs}
use Rattle.vs_accept.proofs.Naming.{items_are}
use Rattle.vs_accept.proofs.outputs.module_outputs.Goals as goal

pub returns : goal.returns
returns c =
    let m = c.args.of.now in
    let header = header_outputs (view.header m.header) in
    c.in_ok-push_body.ensures
    ∙ ap (λ is. c.push_header.new.names.items ++ flat_map item_outputs (map view.item is)) c.deref.ensures.value
    ∙ ap (λ (ns : List (List ℕ)). ns ++ flat_map item_outputs (map view.item m.items.items)) (c.in_ok-push_header.ensures ∙ ap (λ (ns : List (List ℕ)). ns ++ header) c.new-names.ensures.items)
    ∙ ap (λ is. header ++ flat_map item_outputs is) (sym (items_are m.items.items))
